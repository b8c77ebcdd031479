-- a node stands over the last trees
use Rattle.std.proofs.Common.{arith, ◌≡◌, ◌++◌, [], ◌∷◌, length, map, reverse, sym, ap, ◌∙◌, append_assoc, Ok, Err, Result}
use Rattle.std.proofs.lemmas.List.{append-nil}
use Rattle.std.specs.Result.{OnOk}
use Rattle.lrshown.specs.declared.trees.Node.TheVariants.{Inner}
use Rattle.lrshown.specs.DrawnTrees.{body, last_trees, trees_before, row_nodes, size}
use Rattle.lrshown.specs.StoredTrees.{ends, row_entered, with_first, IsLaid}
use Rattle.lrshown.proofs.Rows.{reduced-entered, row_entered-split, row_entered-length}
use Rattle.lrshown.proofs.trees.Tree.add_inner.Goals as goal

on_ok : {T E : Type 0} (r : Result T E) (P Q : Type 0) → (P → Q) → OnOk r P → OnOk r Q
on_ok (Ok x) P Q f h = f h
on_ok (Err e) P Q f h = tt

pub returns : goal.returns
returns c = λ ts h.
    let ss = reverse (body c.args.file.now c.args.production) in
    let front = trees_before ss ts in
    let last = last_trees ss ts in
    let start : IsLaid c.args.self.now ts [] = record { nodes_are = h.drawn.nodes_are ∙ sym (append-nil (row_nodes ts)); ends_are = h.ends_are } in
    let laid = rw c.body_of.ensures at c.take.ensures.laid ts [] start in
    let first = c.end-first.ensures front laid.ends_are in
    let added = c.in_ok-add.ensures in
    let nodes_are : c.add.new.self.nodes.items ≡ row_nodes front ++ (row_nodes last ++ Inner c.args.production ∷ []) =
    added.nodes ∙ (ap (λ l. l ++ Inner c.args.production ∷ []) laid.nodes_are ∙ simp (append-nil, append_assoc)) in
    let entered_are : map (λ v. v.items) c.add.new.self.entered.items ≡ row_entered 0 front ++ (row_entered (size front) last ++ [] ∷ []) =
    added.entered ∙ ap (λ e. map (λ v. v.items) e.items ++ [] ∷ []) c.take.ensures.entered
    ∙ ap (λ l. l ++ [] ∷ []) (h.drawn.entered_are ∙ row_entered-split ss ts)
    ∙ append_assoc (row_entered 0 front) (row_entered (size front) last) ([] ∷ []) in
    let number : c.len-number.result ≡ size ts = omega (arith, c.len-number.ensures, ap length h.drawn.nodes_are, c.args.self.now.nodes.ok.0) in
    on_ok c.enter.result _ _
    (λ e. record {
      drawn = record {
        nodes_are = ap (λ v. v.items) c.enter.ensures.nodes ∙ nodes_are;
        entered_are = e ∙ (ap (λ m. row_entered 0 front ++ with_first m (row_entered (size front) last ++ [] ∷ [])) number ∙ reduced-entered c.args.production ss ts);
      };
      ends_are = ap (λ v. v.items) c.enter.ensures.ends
          ∙ (added.ends
          ∙ (ap (λ l. l ++ length (c.take.new.self.nodes.items ++ Inner c.args.production ∷ []) ∷ []) laid.ends_are
          ∙ ap (λ l. ends front ++ length l ∷ []) (sym added.nodes ∙ nodes_are)));
    })
    (c.enter.ensures.entered (row_entered 0 front) (row_entered (size front) last ++ [] ∷ []) entered_are (row_entered-length 0 front ∙ sym first))

-- what stands and looks on a stack from which moves read a text, and what contends where it leads
use Rattle.std.proofs.Common.{◌≡◌, ◌≢◌, ℕ, zero, suc, ◌<◌, ◌≤◌, inl, inr, List, [], ◌∷◌, ◌++◌, length, take, refl, sym, ap, subst, ◌∙◌, append_assoc, length-append, arith, Some}
use Rattle.std.proofs.lemmas.List.{take_all}
use Rattle.lrspec.specs.grammars.Grammar.{Symbol, Rule, Token, Grammar, IsGrammar, body_of, rest, IsProductionOf}
use Rattle.lrspec.specs.grammars.Trees.{Forest, IsForest}
use Rattle.lrspec.specs.grammars.First.{none}
use Rattle.lrspec.specs.grammars.CanonicalItems as item
use Rattle.lrspec.specs.grammars.CanonicalItems.{Stands, Looks}
use Rattle.lrspec.specs.grammars.Candidates as candidate
use Rattle.lrspec.specs.grammars.Candidates.{Candidate, IsCandidate}
use Rattle.lrspec.specs.grammars.ItemSets.{HasItem, IsBefore}
use Rattle.lrspec.specs.merging.Cores as merging
use Rattle.lrspec.specs.merging.Graph as graph
use Rattle.lrspec.specs.merging.Graph.{Graph, Leads, core_of, edge, IsGraphOf}
use Rattle.lrspec.specs.tables.Machine.{next_token}
use Rattle.lrspec.specs.tables.Table as table
use Rattle.lrspec.specs.tables.Table.{IsContender}
use Rattle.lrspec.proofs.grammars.BodyFacts.{rest_next, take_next, drop_some, push_same, push_not_empty, rule_unique, start_rule, symbol_at_dot}
use Rattle.lrspec.proofs.grammars.CanonicalItemFacts.{stands_of_looks, stands_moved, stands_join, looks_join}
use Rattle.lrspec.proofs.merging.StatesHoldWhatStands.{value_of_some}
use Rattle.lrspec.proofs.tables.MachineStacks.{start_body}
use Rattle.lrspec.proofs.tables.NextTokens.{child_looks}
use Rattle.lrconflicts.specs.Moves.{Move, Shift, Reduce, candidate_of, forest_moves}
use Rattle.lrambiguity.specs.Finishing as way
use Rattle.lrambiguity.specs.Finishing.{Finishes}
use Rattle.lrkept.proofs.OpenStacks.{Opens, open_item, empty_or_last}

-- the open item stood before the last symbol of the stack, with the symbol behind its dot
pub record OpensBefore (g : Grammar) (v : List Symbol) (x : Symbol) (p d : ℕ) (front : List Symbol) (ts : Forest) : Type 0 where
  pub dot : ℕ
  pub others : List Symbol
  pub moved : d ≡ suc dot
  pub stack : v ≡ front ++ take dot (body_of g p)
  pub within : dot ≤ length (body_of g p)
  pub before : rest g p dot ≡ x ∷ others
  pub forest : IsForest g others ts

pub opens_before_last :
    {g : Grammar} {p : ℕ} {ms : List Move} {text : List ℕ} (v : List Symbol) (x : Symbol) (d : ℕ) → 0 < d → (o : Opens g (v ++ x ∷ []) p d ms text)
    → OpensBefore g v x p d o.front o.trees
opens_before_last v x zero l o = absurd (omega (arith, l))
opens_before_last {g} {p} v x (suc e) l o =
    let (s, y, at) = drop_some (body_of g p) e o.within in
    let next = ap (λ l. o.front ++ l) (take_next (body_of g p) e s y at) in
    let (front, last) = push_same v (o.front ++ take e (body_of g p)) x s
    (o.stack ∙ (next ∙ sym (append_assoc o.front (take e (body_of g p)) (s ∷ [])))) in
    record {
      dot = e;
      others = y;
      moved = refl;
      stack = front;
      within = omega (arith, o.within);
      before = at ∙ ap (λ z. z ∷ y) (sym last);
      forest = rw (rest_next (body_of g p) e s y at) at o.forest;
    }

-- the moves behind the reduction by the open item are fewer than all
pub opens_fewer : {g : Grammar} {v : List Symbol} {p d : ℕ} {ms : List Move} {text : List ℕ} → (o : Opens g v p d ms text) → length o.after < length ms
opens_fewer {p = p} o = omega (arith, ap length o.moves, length-append (forest_moves o.trees) (Reduce p ∷ o.after))

module _ {g : Grammar} (shape : IsGrammar g) where
  -- where the start rule is alone on the stack, its productions look at the end of the text
  looks_alone :
      (v : List Symbol) (r : ℕ) (text : List ℕ) (q : ℕ) → v ++ Rule r ∷ [] ≡ body_of g g.start_production → text ≡ [] → IsProductionOf g q r
      → Looks g v q 0 (next_token g text)
  looks_alone v r text q e none_left i =
      let (empty, rule) = push_same v [] (Rule r) (Rule shape.start.0) (e ∙ start_body shape) in
      rw (empty, none_left) (item.Looks.inherit item.Looks.begin (start_body shape ∙ ap (λ x. x ∷ []) (sym rule)) i none)

  -- where a rule ends the stack, its productions look at the next token at its place
  looks_by :
      (n : ℕ) (v : List Symbol) (r : ℕ) (ms : List Move) (text : List ℕ) → length ms < n → Finishes g (v ++ Rule r ∷ []) ms text → (q : ℕ) → IsProductionOf g q r
      → Looks g v q 0 (next_token g text)
  looks_by zero v r ms text l f q i = absurd (omega (arith, l))
  looks_by (suc n) v r ms text l f q i = elim (open_item shape f (push_not_empty v (Rule r))) [
    | inl k ↦ looks_alone v r text q k.0 k.2 i
    | inr k ↦
        let o = k.3 in
        let b = opens_before_last v (Rule r) k.1 k.2 o in
        let outer : Looks g o.front k.0 0 (next_token g o.behind) =
        looks_by n o.front o.rule o.after o.behind (omega (arith, l, opens_fewer o)) o.finishes k.0 o.of_rule in
        let there : Looks g v k.0 b.dot (next_token g o.behind) = subst (λ w. Looks g w k.0 b.dot (next_token g o.behind)) (sym b.stack) (looks_join b.dot outer b.within) in
        rw o.texts (child_looks o.behind there b.before i b.forest)
  ]

  pub rule_looks :
      (v : List Symbol) (r : ℕ) {ms : List Move} {text : List ℕ} → Finishes g (v ++ Rule r ∷ []) ms text → (q : ℕ) → IsProductionOf g q r
      → Looks g v q 0 (next_token g text)
  rule_looks v r {ms} {text} f q i = looks_by (suc (length ms)) v r ms text (omega arith) f q i

  -- an open item looks at what comes behind its body
  pub open_looks :
      {v : List Symbol} {p d : ℕ} {ms : List Move} {text : List ℕ} → (o : Opens g v p d ms text) → Looks g v p d (next_token g o.behind)
  open_looks {p = p} {d = d} o = rw o.stack (looks_join d (rule_looks o.front o.rule o.finishes p o.of_rule) o.within)

  -- and stands
  pub open_stands : {v : List Symbol} {p d : ℕ} {ms : List Move} {text : List ℕ} → Opens g v p d ms text → Stands g v p d
  open_stands o = stands_of_looks (open_looks o)

  -- the start item stands before the start rule
  pub start_stands_before :
      {v : List Symbol} {x : Symbol} → v ++ x ∷ [] ≡ body_of g g.start_production → Stands g v g.start_production 0 × IsBefore g g.start_production 0 x
  start_stands_before {v} {x} e =
      let (empty, rule) = push_same v [] x (Rule shape.start.0) (e ∙ start_body shape) in
      (rw empty item.Stands.begin, ([], start_body shape ∙ ap (λ y. y ∷ []) (sym rule)))

  -- before the last symbol of a stack an item stands with the symbol behind its dot
  pub stands_before_last :
      (v : List Symbol) (x : Symbol) {ms : List Move} {text : List ℕ} → Finishes g (v ++ x ∷ []) ms text
      → (p : ℕ) × (d : ℕ) × Stands g v p d × IsBefore g p d x
  stands_before_last v x f = elim (open_item shape f (push_not_empty v x)) [
    | inl k ↦ let start = start_stands_before k.0 in (g.start_production, 0, start.0, start.1)
    | inr k ↦
        let o = k.3 in
        let b = opens_before_last v x k.1 k.2 o in
        (k.0, b.dot, subst (λ w. Stands g w k.0 b.dot) (sym b.stack) (stands_join b.dot (stands_of_looks (rule_looks o.front o.rule o.finishes k.0 o.of_rule)) b.within), (b.others, b.before))
  ]

  -- rule 0 ends no stack
  pub no_caret : (v : List Symbol) {ms : List Move} {text : List ℕ} → ¬ (Finishes g (v ++ Rule 0 ∷ []) ms text)
  no_caret v f = let (p, d, s, b) = stands_before_last v (Rule 0) f in (symbol_at_dot shape p d (Rule 0) b).0 refl

  -- so the start production is never reduced
  not_start : (v : List Symbol) {ms : List Move} {text : List ℕ} (p r : ℕ) → IsProductionOf g p r → Finishes g (v ++ Rule r ∷ []) ms text → p ≢ g.start_production
  not_start v p r i f e = no_caret v (rw (rule_unique g p r 0 i (rw e (start_rule shape))) at f)

  -- the first move is a candidate on the next token
  pub first_move : {v : List Symbol} {m : Move} {ms : List Move} {text : List ℕ} → Finishes g v (m ∷ ms) text → IsCandidate g v (next_token g text) (candidate_of m)
  first_move {v} (way.Finishes.shift t f) = let (p, d, s, b) = stands_before_last v (Token t) f in candidate.IsCandidate.shift s b
  first_move {text = text} (way.Finishes.reduce v p r i f) =
      let all : take (length (body_of g p)) (body_of g p) ≡ body_of g p = take_all (length (body_of g p)) (body_of g p) (omega arith) in
      candidate.IsCandidate.reduce (not_start v p r i f) (rw all at (looks_join (length (body_of g p)) (rule_looks v r f p i) (omega arith)))

  -- where there is none, accepting is
  pub no_move : {v : List Symbol} {text : List ℕ} → Finishes g v [] text → IsCandidate g v (next_token g text) candidate.Candidate.Accept
  no_move way.Finishes.done =
      let n = length (body_of g g.start_production) in
      let all : take n (body_of g g.start_production) ≡ body_of g g.start_production = take_all n (body_of g g.start_production) (omega arith) in
      candidate.IsCandidate.accept (rw all at (looks_join {g = g} {p = g.start_production} n item.Looks.begin (omega arith)))

module _ {g : Grammar} {h : Graph} (shape : IsGrammar g) (k : IsGraphOf g h) where
  -- a stack from which moves read a text leads to a state
  pub leads_there : {v : List Symbol} {ms : List Move} {text : List ℕ} → Finishes g v ms text → (s : ℕ) × Leads h v s
  leads_there {v} f = elim (empty_or_last v) [
    | inl e ↦ (0, rw e graph.Leads.start)
    | inr s ↦
        let (p, d, stands, b) = stands_before_last shape s.0 s.1 (rw s.2 at f) in
        let there = k.hold.leads (s.0 ++ s.1 ∷ []) p (suc d) (stands_moved s.1 stands b) in
        (there.0, rw s.2 there.1)
  ]

  -- the open item is in the core of that state
  pub state_of_open :
      {v : List Symbol} {p d : ℕ} {ms : List Move} {text : List ℕ} (s : ℕ) → Leads h v s → Opens g v p d ms text → 0 < d
      → HasItem (core_of h s) p d
  state_of_open {d = zero} s leads o l = absurd (omega (arith, l))
  state_of_open {v} {p} {d = suc d} s leads o l = ((k.hold.cores v s leads).items p (suc d)).1 (merging.IsCoreItem.moved (open_stands shape o))

  -- so is the start item behind the start rule, where that is alone on the stack
  pub state_of_start :
      {v : List Symbol} (s : ℕ) → Leads h v s → v ≡ body_of g g.start_production → HasItem (core_of h s) g.start_production 1
  state_of_start {v} s leads e =
      let stands : Stands g (body_of g g.start_production) g.start_production 1 =
      rw (start_body shape) (item.Stands.advance item.Stands.begin (start_body shape)) in
      ((k.hold.cores v s leads).items g.start_production 1).1 (merging.IsCoreItem.moved (rw e stands))

  -- a candidate on a token contends for it in the state
  pub contends : {v : List Symbol} {s t : ℕ} {x : Candidate} → Leads h v s → IsCandidate g v t x → IsContender g h s t x
  contends {v} {s} {t} leads (candidate.IsCandidate.shift {p = p} {d = d} stands b) =
      let is = (k.gotos.edges s (Token t)).1 (p, d, (k.hold.closed v s p d leads).1 stands, b) in
      table.IsContender.shift (value_of_some (edge h s (Token t)) is).1
  contends {v} {s} {t} leads (candidate.IsCandidate.reduce {p = p} differ l) =
      table.IsContender.reduce differ (k.hold.looks v s p (length (body_of g p)) t leads l)
  contends {v} {s} {t} leads (candidate.IsCandidate.accept l) =
      table.IsContender.accept (k.hold.looks v s g.start_production (length (body_of g g.start_production)) t leads l)

  -- so does the first move of a way on
  pub first_contends :
      {v : List Symbol} {s : ℕ} {m : Move} {ms : List Move} {text : List ℕ} → Leads h v s → Finishes g v (m ∷ ms) text
      → IsContender g h s (next_token g text) (candidate_of m)
  first_contends leads f = contends leads (first_move shape f)

  -- where the next token is shifted, the state has an edge on it
  pub shift_leads :
      {v : List Symbol} {s t : ℕ} {ms : List Move} {text : List ℕ} → Leads h v s → Finishes g v (Shift ∷ ms) (t ∷ text)
      → (u : ℕ) × (edge h s (Token t) ≡ Some u)
  shift_leads {s = s} {t = t} leads f = edge_of_shift (first_contends leads f)
    where
      edge_of_shift : IsContender g h s t candidate.Candidate.Shift → (u : ℕ) × (edge h s (Token t) ≡ Some u)
      edge_of_shift (table.IsContender.shift {u = u} e) = (u, e)

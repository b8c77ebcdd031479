-- what holds of the machine at each step: a forest over its stack
use Rattle.std.proofs.Common.{◌≡◌, ◌≢◌, ℕ, ◌+◌, ◌<◌, ◌⊎◌, inl, inr, List, [], ◌∷◌, ◌++◌, length, drop, take, refl, sym, ap, ◌∙◌, append_assoc, append-nil, length-append, arith, Some}
use Rattle.std.proofs.lemmas.List.{take_all}
use Rattle.std.proofs.lemmas.List.Elements.{All-head, All-tail}
use Rattle.lrspec.specs.grammars.Grammar.{Symbol, Rule, Token, Grammar, IsGrammar, end_token, token_count, body_of, IsProductionOf, rule_of}
use Rattle.lrspec.specs.grammars.Trees.{Forest, Leaf, Node, Bare, And, leaves, forest_leaves, forest_order, joined, size, IsForest, token, production, bare, and, IsSentence}
use Rattle.lrspec.specs.grammars.ItemSets.{HasItem, LooksIn}
use Rattle.lrspec.specs.merging.Graph.{Graph, edge, closed_of, IsGraphOf}
use Rattle.lrspec.specs.tables.Table as table
use Rattle.lrspec.specs.tables.Table.{Table, IsTableOf, action_of, goto_of, cell_of}
use Rattle.lrspec.specs.tables.Machine.{top, next_token}
use Rattle.lrspec.specs.tables.Recognition.{AreNamed}
use Rattle.lrspec.proofs.grammars.BodyFacts.{symbol_at_dot}
use Rattle.lrspec.proofs.grammars.CanonicalItemFacts.{stands_split, stands_origin, start_stands_after}
use Rattle.lrspec.proofs.grammars.Closures.{has_of_looks}
use Rattle.lrspec.proofs.tables.CellFacts.{edge_from_shift, looks_from_reduce, looks_from_accept}
use Rattle.lrspec.proofs.grammars.TreeFacts.{leaves_pushed, order_pushed, forest_joined, forest_size, forest_split, forest_parts, node_leaves, node_order, forest_alone}
use Rattle.lrspec.proofs.tables.MachineStacks as stack
use Rattle.lrspec.proofs.tables.MachineStacks.{IsStack, stack_leads, stack_length, stack_drop, stack_below, stack_edge, goto_is, start_body, accepts_at_end}

-- after `n` steps on the text: the symbols of the stack are the roots of the forest, whose leaves are the tokens shifted,
-- and whose productions in order are the reductions
pub record Holds (g : Grammar) (h : Graph) (text : List ℕ) (n : ℕ) (ss left rs : List ℕ) (ts : Forest) : Type 0 where
  pub symbols : List Symbol
  pub is_stack : IsStack h symbols ss
  pub roots : IsForest g symbols ts
  pub used : forest_leaves ts ++ left ≡ text
  pub made : forest_order ts ≡ rs
  pub count : n ≡ length (forest_leaves ts) + length rs

-- a shift puts a leaf behind the forest
shift_keeps :
    {g : Grammar} {h : Graph} {text : List ℕ} {n : ℕ} {ss rs : List ℕ} {ts : Forest} (t u : ℕ) (left : List ℕ)
    → Holds g h text n ss (t ∷ left) rs ts → edge h (top ss) (Token t) ≡ Some u
    → Holds g h text (n + 1) (u ∷ ss) left rs (joined ts (And (Leaf t) Bare))
shift_keeps {ts = ts} t u left a e =
    let l : forest_leaves (joined ts (And (Leaf t) Bare)) ≡ forest_leaves ts ++ t ∷ [] = leaves_pushed ts (Leaf t) in
    record {
      symbols = a.symbols ++ Token t ∷ [];
      is_stack = stack.IsStack.push (Token t) a.is_stack e;
      roots = forest_joined a.roots (and token bare);
      used = rw (l, append_assoc (forest_leaves ts) (t ∷ []) left) a.used;
      made = order_pushed ts (Leaf t) ∙ (append-nil (forest_order ts) ∙ a.made);
      count = omega (arith, a.count, ap length l, length-append (forest_leaves ts) (t ∷ []));
    }

-- a reduction puts the last trees of the forest, one for each symbol of the body, under its production
reduce_keeps :
    {g : Grammar} {h : Graph} {text : List ℕ} {n : ℕ} {ss left rs : List ℕ} {ts : Forest} (p r v : ℕ) (w : List Symbol) (us zs : Forest)
    → (a : Holds g h text n ss left rs ts) → a.symbols ≡ w ++ body_of g p → IsProductionOf g p r → ts ≡ joined us zs
    → size zs ≡ length (body_of g p) → IsStack h w (drop (length (body_of g p)) ss)
    → edge h (top (drop (length (body_of g p)) ss)) (Rule r) ≡ Some v
    → Holds g h text (n + 1) (v ∷ drop (length (body_of g p)) ss) left (rs ++ p ∷ []) (joined us (And (Node p zs) Bare))
reduce_keeps {g} {rs = rs} {ts} p r v w us zs a e i f n st ed =
    let parts = forest_parts w (body_of g p) a.symbols us zs ts a.roots e f n in
    let l : forest_leaves (joined us (And (Node p zs) Bare)) ≡ forest_leaves ts = node_leaves p us zs ∙ ap forest_leaves (sym f) in
    record {
      symbols = w ++ Rule r ∷ [];
      is_stack = stack.IsStack.push (Rule r) st ed;
      roots = forest_joined parts.0 (and (production i parts.1) bare);
      used = rw l a.used;
      made = node_order p us zs ∙ ap (λ o. o ++ p ∷ []) (ap forest_order (sym f) ∙ a.made);
      count = omega (arith, a.count, ap length l, length-append rs (p ∷ []));
    }

-- how a reduction by the production goes on: the stack is deep enough, the goto is there, and the last trees of the forest,
-- one for each symbol of the body, go under the production
pub record Reduces (g : Grammar) (h : Graph) (b : Table) (text : List ℕ) (n : ℕ) (ss left rs : List ℕ) (ts : Forest) (p : ℕ) : Type 0 where
  pub target : ℕ
  pub deep : length (body_of g p) < length ss
  pub goto : goto_of b (top (drop (length (body_of g p)) ss)) (rule_of g p) ≡ Some target
  pub cut : (us : Forest) × (zs : Forest) × (ts ≡ joined us zs) × (size zs ≡ length (body_of g p))
  pub holds : (us zs : Forest) → ts ≡ joined us zs → size zs ≡ length (body_of g p)
      → Holds g h text (n + 1) (target ∷ drop (length (body_of g p)) ss) left (rs ++ p ∷ []) (joined us (And (Node p zs) Bare))

-- behind what was used, the next token is a named one, or the text is used up
named_behind : (g : Grammar) (used left : List ℕ) → AreNamed g (used ++ left) → (next_token g left < end_token g) ⊎ (left ≡ [])
named_behind g [] [] k = inr refl
named_behind g [] (t ∷ ts) k = inl (All-head (λ t. t < end_token g) t ts k)
named_behind g (a ∷ used) left k = named_behind g used left (All-tail (λ t. t < end_token g) a (used ++ left) k)

-- either way it is a token
token_behind : (g : Grammar) (left : List ℕ) → (next_token g left < end_token g) ⊎ (left ≡ []) → next_token g left < token_count g
token_behind g left (inl l) = omega arith
token_behind g left (inr e) = rw e (omega arith)

module _ (g : Grammar) (h : Graph) (b : Table) (m : IsGrammar g) (k : IsGraphOf g h) (o : IsTableOf g h b) (text : List ℕ) (named : AreNamed g text) where
  -- the next token is a named one, or the text is used up
  named_next : {n : ℕ} {ss left rs : List ℕ} {ts : Forest} → Holds g h text n ss left rs ts → (next_token g left < end_token g) ⊎ (left ≡ [])
  named_next {left = left} {ts} a = named_behind g (forest_leaves ts) left (rw a.used named)

  -- the table has the cell of the top state and the next token
  cell_is :
      {n : ℕ} {ss left rs : List ℕ} {ts : Forest} → Holds g h text n ss left rs ts
      → action_of b (top ss) (next_token g left) ≡ cell_of g h (top ss) (next_token g left)
  cell_is {ss = ss} {left} a = o.cells (top ss) (next_token g left) (stack_below m k a.is_stack) (token_behind g left (named_next a))

  -- no edge is on the end token, so a cell that shifts is met before the end of the text
  shift_at :
      {n : ℕ} {ss rs : List ℕ} {ts : Forest} (u : ℕ) (left : List ℕ) → Holds g h text n ss left rs ts
      → edge h (top ss) (Token (next_token g left)) ≡ Some u
      → Holds g h text (n + 1) (u ∷ ss) (drop 1 left) rs (joined ts (And (Leaf (next_token g left)) Bare))
  shift_at {ss = ss} u [] a e =
      let before = (k.gotos.edges (top ss) (Token (end_token g))).0 (rw e refl) in
      absurd (omega (arith, symbol_at_dot m before.0 before.1 (Token (end_token g)) before.3))
  shift_at u (t ∷ left) a e = shift_keeps t u left a e

  -- where the cell shifts, the token goes behind the forest as a leaf
  pub shift_holds :
      {n : ℕ} {ss left rs : List ℕ} {ts : Forest} (u : ℕ) → Holds g h text n ss left rs ts
      → action_of b (top ss) (next_token g left) ≡ table.Action.Shift u
      → Holds g h text (n + 1) (u ∷ ss) (drop 1 left) rs (joined ts (And (Leaf (next_token g left)) Bare))
  shift_holds {ss = ss} {left} u a e = shift_at u left a (edge_from_shift g h (top ss) (next_token g left) u (sym (cell_is a) ∙ e))

  -- a complete production other than the start production can be reduced
  reduce_at :
      {n : ℕ} {ss left rs : List ℕ} {ts : Forest} (p : ℕ) → Holds g h text n ss left rs ts → p ≢ g.start_production
      → HasItem (closed_of h (top ss)) p (length (body_of g p)) → Reduces g h b text n ss left rs ts p
  reduce_at {ss = ss} {left} {ts = ts} p a differ has =
      let stands = (k.hold.closed a.symbols (top ss) p (length (body_of g p)) (stack_leads a.is_stack)).0 has in
      let split = stands_split (length (body_of g p)) stands in
      let e : a.symbols ≡ split.0 ++ body_of g p = split.1 ∙ ap (λ l. split.0 ++ l) (take_all (length (body_of g p)) (body_of g p) (omega arith)) in
      let st : IsStack h split.0 (drop (length (body_of g p)) ss) = stack_drop split.0 (body_of g p) (rw e at a.is_stack) in
      let f = forest_split split.0 (body_of g p) a.symbols a.roots e in
      elim (stands_origin split.2 refl) [
        | inl i ↦ absurd (differ i)
        | inr i ↦
            let ed = stack_edge (Rule i.2) k st i.3 i.4 in
            record {
              target = ed.0;
              deep = omega (arith, stack_length a.is_stack, ap length e, length-append split.0 (body_of g p));
              goto = goto_is m o (top (drop (length (body_of g p)) ss)) p i.2 (stack_below m k st) i.5 ∙ ed.1;
              cut = (f.0, f.1, f.4, forest_size f.3);
              holds = λ us zs c n. reduce_keeps p i.2 ed.0 split.0 us zs a e i.5 c n st ed.1;
            }
      ]

  -- where the cell reduces, the reduction goes on
  pub reduce_holds :
      {n : ℕ} {ss left rs : List ℕ} {ts : Forest} (p : ℕ) → Holds g h text n ss left rs ts
      → action_of b (top ss) (next_token g left) ≡ table.Action.Reduce p → Reduces g h b text n ss left rs ts p
  reduce_holds {ss = ss} {left} p a e =
      let i = looks_from_reduce g h (top ss) (next_token g left) p (sym (cell_is a) ∙ e) in
      reduce_at p a i.0 (has_of_looks (closed_of h (top ss)) p (length (body_of g p)) (next_token g left) i.1)

  -- where the complete start production looks at the next token, that is the end token, and the start rule is the one root
  accept_at :
      {n : ℕ} {ss left rs : List ℕ} {ts : Forest} → Holds g h text n ss left rs ts
      → LooksIn (closed_of h (top ss)) g.start_production (length (body_of g g.start_production)) (next_token g left)
      → (s : IsSentence g text) × (ts ≡ And s.tree Bare)
  accept_at {ss = ss} {left} {ts = ts} a i =
      let size : ℕ = length (body_of g g.start_production) in
      let last = accepts_at_end m k (top ss) (next_token g left) (stack_below m k a.is_stack) i in
      let empty : left ≡ [] = elim (named_next a) [ inl l ↦ absurd (omega (arith, l, last)) | inr e ↦ e ] in
      let has = has_of_looks (closed_of h (top ss)) g.start_production size (next_token g left) i in
      let stands = (k.hold.closed a.symbols (top ss) g.start_production size (stack_leads a.is_stack)).0 has in
      let whole : take size (body_of g g.start_production) ≡ body_of g g.start_production = take_all _ _ (omega arith) in
      let root = forest_alone (Rule m.start.0) a.roots (start_stands_after m size stands ∙ (whole ∙ start_body m)) in
      let l : leaves root.0 ++ [] ≡ forest_leaves ts = ap forest_leaves (sym root.2) in
      let all : forest_leaves ts ++ [] ≡ text = ap (λ r. forest_leaves ts ++ r) (sym empty) ∙ a.used in (
        record {
          rule = m.start.0;
          tree = root.0;
          start = start_body m;
          is_tree = root.1;
          leaves_are = sym (append-nil (leaves root.0)) ∙ (l ∙ (sym (append-nil (forest_leaves ts)) ∙ all));
        },
        root.2,
      )

  -- where the cell accepts, the text is a sentence, and the forest is one tree of it
  pub accept_holds :
      {n : ℕ} {ss left rs : List ℕ} {ts : Forest} → Holds g h text n ss left rs ts
      → action_of b (top ss) (next_token g left) ≡ table.Action.Accept → (s : IsSentence g text) × (ts ≡ And s.tree Bare)
  accept_holds {ss = ss} {left} a e = accept_at a (looks_from_accept g h (top ss) (next_token g left) (sym (cell_is a) ∙ e))

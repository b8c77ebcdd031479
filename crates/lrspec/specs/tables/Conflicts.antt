-- what a listed conflict says of the canonical items, and graphs without conflicts
use Rattle.std.specs.Prelude.{◌≡◌, ◌≢◌, ℕ, ◌<◌, ◌≤◌, List, [], ◌∷◌, Contains, length, ◌↔◌}
use Rattle.lrspec.specs.grammars.Grammar.{Symbol, Rule, Grammar, end_token, token_count, body_of}
use Rattle.lrspec.specs.grammars.CanonicalItems.{Looks}
use Rattle.lrspec.specs.grammars.Candidates.{Shift, Reduce, IsCandidate}
use Rattle.lrspec.specs.merging.Cores.{HasCoreAfter}
use Rattle.lrspec.specs.merging.Graph.{Graph, core_of}
use Rattle.lrspec.specs.tables.Table.{Lists, reduce_reduce_of, shift_reduce_of, AcceptsAndReduces}

-- each entry names a token and productions of the grammar
pub record AreEntriesOf (g : Grammar) (c : Lists) : Type 0 where
  pub pairs :
      (t p q s : ℕ) → Contains c.reduce_reduce (t, p, q, s)
      → (t < token_count g) × (p < length g.productions) × (q < length g.productions)
  pub mixes :
      (t p s : ℕ) → Contains c.shift_reduce (t, p, s)
      → (t < token_count g) × (p < length g.productions)

-- both productions of each entry of the list of reduce/reduce conflicts are candidates of one
-- token, perhaps another, after a list with the core of that state
abbrev pub AreReductionsContested : Grammar → Graph → Type 0
AreReductionsContested g h =
    (t p q s : ℕ) → Contains (reduce_reduce_of g h) (t, p, q, s)
    → (w : List Symbol) × (u : ℕ) × (p ≢ q) × HasCoreAfter g w (core_of h s)
    × IsCandidate g w u (Reduce p) × IsCandidate g w u (Reduce q)

-- the token of each entry of the list of shift/reduce conflicts has shift and that production as
-- candidates after a list with the core of that state
abbrev pub AreShiftsContested : Grammar → Graph → Type 0
AreShiftsContested g h =
    (t p s : ℕ) → Contains (shift_reduce_of g h) (t, p, s)
    → (w : List Symbol) × HasCoreAfter g w (core_of h s)
    × IsCandidate g w t Shift × IsCandidate g w t (Reduce p)

-- the complete start production and the complete `p`, which is another, both look at the end token
-- after the list of the start rule alone
pub record IsAcceptContested (g : Grammar) (p : ℕ) : Type 0 where
  pub start_rule : ℕ
  pub body : body_of g g.start_production ≡ Rule start_rule ∷ []
  pub differ : p ≢ g.start_production
  pub accepts :
      Looks g (Rule start_rule ∷ []) g.start_production
      (length (body_of g g.start_production)) (end_token g)
  pub reduces : Looks g (Rule start_rule ∷ []) p (length (body_of g p)) (end_token g)

-- the least production with which accepting is contested
pub record IsLeastAcceptContested (g : Grammar) (p : ℕ) : Type 0 where
  pub contested : IsAcceptContested g p
  pub least : (q : ℕ) → IsAcceptContested g q → p ≤ q

-- the least production by which a state reduces at the end of the text where it accepts too
pub record IsLeastAcceptReduce (g : Grammar) (h : Graph) (p : ℕ) : Type 0 where
  pub some : (s : ℕ) × AcceptsAndReduces g h s p
  pub least : (s q : ℕ) → AcceptsAndReduces g h s q → p ≤ q

-- a state accepts and reduces by a production exactly where that is canonical
abbrev pub AcceptsWhereContested : Grammar → Graph → Type 0
AcceptsWhereContested g h = (p : ℕ) → ((s : ℕ) × AcceptsAndReduces g h s p) ↔ IsAcceptContested g p

-- both lists of conflicts are empty, and no state accepts and reduces at the end of the text
pub record HasNoConflicts (g : Grammar) (h : Graph) : Type 0 where
  pub reduce_reduce : reduce_reduce_of g h ≡ []
  pub shift_reduce : shift_reduce_of g h ≡ []
  pub no_contest : (s p : ℕ) → AcceptsAndReduces g h s p → ⊥

-- a table has nothing outside of its grids: there it errs, and no rule leads anywhere
use Rattle.std.proofs.Common.{◌≡◌, ◌≢◌, ℕ, ◌<◌, ◌≤◌, List, [], None, length, refl, ◌⊎◌, inl, inr, arith}
use Rattle.std.specs.Prelude.{slice_index_or}
use Rattle.std.proofs.lemmas.Bool.{cases_lt}
use Rattle.std.proofs.lemmas.List.{get_or_past}
use Rattle.lrspec.specs.grammars.Grammar.{Grammar, token_count}
use Rattle.lrspec.specs.merging.Graph.{Graph}
use Rattle.lrspec.specs.tables.Table.{Error, Table, action_of, goto_of, IsGrid, IsTableOf}

module _ {X : Type 0} {n m : ℕ} (grid : List (List X)) (is : IsGrid n m grid) (s c : ℕ) (d : X) where
  -- outside of a grid stands nothing
  pub outside_grid : (n ≤ s) ⊎ (m ≤ c) → slice_index_or (slice_index_or grid s []) c d ≡ d
  outside_grid (inl l) = rw (get_or_past grid s [] (omega (arith, is.rows))) refl
  outside_grid (inr l) = elim (cases_lt s (length grid)) [
    | inl k ↦ get_or_past (slice_index_or grid s []) c d (omega (arith, is.places s [] k))
    | inr k ↦ rw (get_or_past grid s [] k) refl
  ]

  -- where something stands, the grid has that row and that place
  pub inside_grid : slice_index_or (slice_index_or grid s []) c d ≢ d → (s < n) × (c < m)
  inside_grid other = both (cases_lt s n) (cases_lt c m)
    where
      both : (s < n) ⊎ (n ≤ s) → (c < m) ⊎ (m ≤ c) → (s < n) × (c < m)
      both (inl l) (inl k) = (l, k)
      both (inl l) (inr k) = absurd (other (outside_grid (inr k)))
      both (inr l) k = absurd (other (outside_grid (inl l)))

module _ {g : Grammar} {h : Graph} {b : Table} (k : IsTableOf g h b) (s : ℕ) where
  -- on a state or a token that is not there the table errs
  pub errs_outside : (t : ℕ) → (length h ≤ s) ⊎ (token_count g ≤ t) → action_of b s t ≡ Error
  errs_outside t o = outside_grid b.actions k.action_grid s t Error o

  -- from a state that is not there no rule leads anywhere, nor does one that is not there
  pub nowhere_outside : (r : ℕ) → (length h ≤ s) ⊎ (length g.rule_names ≤ r) → goto_of b s r ≡ None
  nowhere_outside r o = outside_grid b.gotos k.goto_grid s r None o

  -- where the table does not err, there are that state and that token
  pub acts_inside : (t : ℕ) → action_of b s t ≢ Error → (s < length h) × (t < token_count g)
  acts_inside t acts = inside_grid b.actions k.action_grid s t Error acts

-- what the rows of a table that is kept in matrices say
use Rattle.std.proofs.Common.{◌≡◌, ◌≢◌, ℕ, ◌*◌, ◌<◌, ◌≤◌, Bool, true, false, List, [], length, ◌↔◌, Option, None, Some, Bor, refl, sym, ap, ◌∙◌, arith}
use Rattle.std.specs.Prelude.{Contains, IsTrue, MatchOption, slice_index_or}
use Rattle.std.specs.List.{HoldsAt}
use Rattle.std.specs.Option.{option_copied, unwrap_or}
use Rattle.std.specs.declared.vec.Vec.{Vec}
use Rattle.std.specs.declared.alloc.Global.{Global}
use Rattle.lrgrammar.specs.declared.idx.PIdx.{PIdx}
use Rattle.lrspec.specs.tables.Table.{Action, Shift, Reduce, Accept, Error, Table, Lists, action_of}
use Rattle.lrspec.specs.tables.Rows.{AreActingTokens, AreShiftedTokens, AreReducedBy, ReducesOnly}
use Rattle.lrsparse.specs.Matrix.{Matrix, value_at}
use Rattle.lrgrammar.specs.StoredGrammar.{numbers_of}
use Rattle.lrrows.specs.StoredActions.{action_numbered}
use Rattle.lrcells.specs.StoredTable.{table_of, AreKeptOfRows}
use Rattle.lrcells.specs.TakenTokens.{takes, takes_cell, tokens_taken}
use Rattle.lrcells.proofs.StoredTables.{cell_read, cell_none, cell_past_row}
use Rattle.lrcells.proofs.TokensTaken.{tokens_upwards, tokens_members}

-- where not only shifts are taken, all but errors are
taken_acts : (a : Action) → (takes false a ≡ true) ↔ (a ≢ Error)
taken_acts (Shift u) = (λ _ e. cc, λ _. refl)
taken_acts (Reduce p) = (λ _ e. cc, λ _. refl)
taken_acts Accept = (λ _ e. cc, λ _. refl)
taken_acts Error = (λ e _. cc, λ h. absurd (h refl))

taken_shifts : (a : Action) → (takes true a ≡ true) ↔ ((u : ℕ) × (a ≡ Shift u))
taken_shifts (Shift u) = (λ _. (u, refl), λ _. refl)
taken_shifts (Reduce p) = (λ e. absurd cc, λ h. let e = h.1 in absurd cc)
taken_shifts Accept = (λ e. absurd cc, λ h. let e = h.1 in absurd cc)
taken_shifts Error = (λ e. absurd cc, λ h. let e = h.1 in absurd cc)

module _ (n : ℕ) (actions gotos : Matrix) (conflicts : Option Lists) (s : ℕ) where
  taken_by : (only : Bool) (t : ℕ) (o : Option ℕ) → length actions.cells ≡ n * actions.cols → value_at actions s t ≡ o → takes only (action_of (table_of n actions gotos conflicts) s t) ≡ takes_cell only o
  taken_by only t (Some c) e h = ap (takes only) (cell_read action_numbered Error n actions s t c e h)
  taken_by only t None e h = ap (takes only) (cell_none action_numbered Error n actions s t e h)

  taken_members :
      (only : Bool) (t : ℕ) → length actions.cells ≡ n * actions.cols
      → Contains (tokens_taken actions s only 0 actions.cols) t ↔ (takes only (action_of (table_of n actions gotos conflicts) s t) ≡ true)
  taken_members only t e =
      rw (taken_by only t (value_at actions s t) e refl) (tokens_members actions s only t)

  -- the tokens taken are those on which the state acts
  pub acting_tokens : length actions.cells ≡ n * actions.cols → AreActingTokens (table_of n actions gotos conflicts) s (tokens_taken actions s false 0 actions.cols)
  acting_tokens e = record {
    upwards = tokens_upwards actions s false actions.cols;
    members = λ t.
        let taken = taken_members false t e in
        let acts = taken_acts (action_of (table_of n actions gotos conflicts) s t) in
        (λ h. acts.0 (taken.0 h), λ h. taken.1 (acts.1 h));
  }

  -- the shifts taken are those that the state shifts
  pub shifted_tokens : length actions.cells ≡ n * actions.cols → AreShiftedTokens (table_of n actions gotos conflicts) s (tokens_taken actions s true 0 actions.cols)
  shifted_tokens e = record {
    upwards = tokens_upwards actions s true actions.cols;
    members = λ t.
        let taken = taken_members true t e in
        let shifts = taken_shifts (action_of (table_of n actions gotos conflicts) s t) in
        (λ h. shifts.0 (taken.0 h), λ h. taken.1 (shifts.1 h));
  }

  -- a state beyond the last one reduces by nothing
  pub reduces_past : n ≤ s → AreReducedBy (table_of n actions gotos conflicts) s []
  reduces_past l = record {
    upwards = λ k h. absurd (omega arith);
    members = λ p. (
      λ h. absurd (omega (arith, h.1)),
      λ h. let e = sym (cell_past_row action_numbered Error n actions s h.0 l) ∙ h.1 in absurd cc,
    );
  }

  pub reduces_only_past : n ≤ s → ReducesOnly (table_of n actions gotos conflicts) s → ⊥
  reduces_only_past l h =
      let e = sym (cell_past_row action_numbered Error n actions s h.1.0 l) ∙ h.1.1 in
      cc

-- what is read of the rows that are kept
module _
    {T : Type 0} (number : T → ℕ) (b : Table) (prods : List (Vec (PIdx T) Global)) (alone : List Bool) (kept : AreKeptOfRows number b prods alone) (s j : ℕ)
    (place : j ≡ s)
  where
    -- the productions by which a state reduces
    pub reduces_read :
        (there : List (Vec (PIdx T) Global)) (v : Vec (PIdx T) Global) (ns : List ℕ) → there ≡ prods → j < length there → v ≡ slice_index_or there j v
        → ns ≡ numbers_of number v.items → AreReducedBy b s ns
    reduces_read there v ns e l read is =
        let here = kept.reduces s v (rw (← e, ← place) l) in
        let at : slice_index_or prods s v ≡ v = rw (← e, ← place) (sym read) in
        rw is (rw at at here)

    -- whether it does nothing else
    pub only_read :
        (there : List Bool) (a : Bool) → there ≡ alone → j < length there → a ≡ slice_index_or there j a → IsTrue a ↔ ReducesOnly b s
    only_read there a e l read =
        let here = kept.only s a (rw (← kept.count, ← e, ← place) l) in
        let at : slice_index_or alone s a ≡ a = rw (← e, ← place) (sym read) in
        rw at at here

    -- the same where a state beyond the last one is answered by false
    pub only_got :
        (there : List Bool) (r : Option (Bor Bool)) (a : Bool) → there ≡ alone → (length prods ≤ s → ReducesOnly b s → ⊥)
        → MatchOption r (length there ≤ j) (λ x. (j < length there) × HoldsAt (λ y. x.now ≡ y) there j) → a ≡ unwrap_or (option_copied r) false
        → IsTrue a ↔ ReducesOnly b s
    only_got there None a e past h is = rw is (λ t. absurd cc, λ only. absurd (past (rw (← kept.count, ← e, ← place) h) only))
    only_got there (Some x) a e past h is = rw is (only_read there x.now e h.0 (h.1 x.now))

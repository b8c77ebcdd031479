-- the actions of a row against those of its entries
use Rattle.std.proofs.Common.{◌≡◌, ℕ, suc, ◌<◌, List, [], ◌∷◌, length, map, get_or, refl, sym, ap, ◌∙◌, ◌↔◌, ◌⊎◌, inl, inr, arith, Contains, eq-eqb}
use Rattle.std.specs.List.{All}
use Rattle.std.proofs.lemmas.Bool.{cases_eq, ne_eqb}
use Rattle.std.proofs.lemmas.List.{length-map, get_or-map}
use Rattle.std.proofs.lemmas.List.Elements.{All-contains, All-map}
use Rattle.std.proofs.lemmas.List.FromFn.{length-map-range_with_len, get_or-map-range_with_len}
use Rattle.std.proofs.lemmas.List.Kept.{AllPairs-from_increasing}
use Rattle.lrsparse.specs.Entries.{columns_in, number_in, row_with, AreEntries}
use Rattle.lrsparse.proofs.EntriesOfRow.{number_of_entry}
use Rattle.lrspec.specs.tables.Table.{Action, Reduce, Error}
use Rattle.lrspec.specs.tables.Rows.{AreAllWith}
use Rattle.lrrows.specs.ReducingRows.{ReducesByOne}
use Rattle.lrrows.specs.StoredActions.{action_numbered, actions_in}
use Rattle.lrrows.proofs.RowsByOne.{All-unmap}

-- a number of a row is that of an entry, or 0
entry_or_zero : (es : List (ℕ × ℕ)) (c : ℕ) → (number_in 0 es c ≡ 0) ⊎ ((k : ℕ) × (k < length es) × ((get_or es k (0, 0)).1 ≡ number_in 0 es c))
entry_or_zero [] c = inl refl
entry_or_zero (e ∷ es) c = elim (cases_eq e.0 c) [
  | inl same ↦ inr (0, omega arith, sym (rw (eq-eqb e.0 c same) refl))
  | inr apart ↦ elim (entry_or_zero es c) [
    | inl none ↦ inl (rw (ne_eqb e.0 c apart) none)
    | inr (k, l, at) ↦ inr (suc k, omega arith, at ∙ sym (rw (ne_eqb e.0 c apart) refl))
  ]
]

module _ (n : ℕ) (es : List (ℕ × ℕ)) (are : AreEntries 0 n es) where
  abbrev row : List ℕ
  row = row_with 0 n es

  row_len : length row ≡ n
  row_len = length-map-range_with_len (number_in 0 es) 0 n

  number_at : (c d : ℕ) → c < n → get_or row c d ≡ number_in 0 es c
  number_at c d l = get_or-map-range_with_len (number_in 0 es) 0 n c c d l (omega arith)

  -- the number of an entry stands in the row
  number_there : (k : ℕ) (d : ℕ × ℕ) → k < length es → Contains row (get_or es k d).1
  number_there k d l =
      let column = (get_or es k d).0 in
      let within : column < n = are.within k d l in (
        column,
        omega (arith, row_len),
        number_at column (get_or es k d).1 within
            ∙ number_of_entry 0 es (AllPairs-from_increasing (columns_in es) are.upwards) k d l,
      )

  -- what holds of each number of the row holds of that of each entry
  pub each_entry : (P : ℕ → Type 0) → All P row → All (λ e. P e.1) es
  each_entry P each k d l = All-contains P row (get_or es k d).1 each (number_there k d l)

  -- the actions of the row, and those of its entries
  abbrev actions : List Action
  actions = map action_numbered row

  action_there : (x : Action) → Contains (actions_in es) x → Contains actions x
  action_there x (k, l, e) =
      let m : k < length es = rw length-map at l in
      let (c, h, at) = number_there k (0, 0) m in
      let there = get_or-map action_numbered row c (get_or es k (0, 0)).1 x h in
      let entry = get_or-map (λ e. action_numbered e.1) es k (0, 0) x m in
      (c, rw length-map h, there ∙ (ap action_numbered at ∙ (sym entry ∙ e)))

  -- an action of the row is that of an entry, or an error
  action_here : (c : ℕ) → c < n → (action_numbered (number_in 0 es c) ≡ Error) ⊎ Contains (actions_in es) (action_numbered (number_in 0 es c))
  action_here c h = elim (entry_or_zero es c) [
    | inl none ↦ inl (ap action_numbered none)
    | inr (k, l, at) ↦ inr (
      k,
      rw length-map l,
      get_or-map (λ e. action_numbered e.1) es k (0, 0) (action_numbered (number_in 0 es c)) l ∙ ap action_numbered at,
    )
  ]

  action_at : (c : ℕ) (d : Action) → c < n → get_or actions c d ≡ action_numbered (number_in 0 es c)
  action_at c d l = get_or-map action_numbered row c 0 d (omega (arith, row_len)) ∙ ap action_numbered (number_at c 0 l)

  -- the row reduces by the productions by which its entries do
  pub reduces_there : (p : ℕ) → Contains (actions_in es) (Reduce p) ↔ Contains actions (Reduce p)
  reduces_there p = (
    action_there (Reduce p),
    λ (c, l, e).
        let m : c < n = omega (arith, rw length-map at l, row_len) in
        let is : action_numbered (number_in 0 es c) ≡ Reduce p = sym (action_at c (Reduce p) m) ∙ e in
        elim (action_here c m) [
          | inl none ↦ absurd (let no : Error ≡ Reduce p = sym none ∙ is in cc)
          | inr some ↦ rw is at some
        ],
  )

  pub all_there : (ps : List ℕ) → AreAllWith (λ p. Contains (actions_in es) (Reduce p)) ps → AreAllWith (λ p. Contains actions (Reduce p)) ps
  all_there ps all = record {
    upwards = all.upwards;
    members = λ p. (λ i. (reduces_there p).0 ((all.members p).0 i), λ i. (all.members p).1 ((reduces_there p).1 i));
  }

  -- the row reduces by one production exactly if its entries do
  pub by_one_there : ReducesByOne (actions_in es) ↔ ReducesByOne actions
  by_one_there = (
    λ (p, c, a). (
      p,
      (reduces_there p).0 c,
      λ k d l.
          let m : k < n = omega (arith, rw length-map at l, row_len) in
          rw (action_at k d m)
          (elim (action_here k m) [
            | inl none ↦ inl none
            | inr some ↦ All-contains (λ x. (x ≡ Error) ⊎ (x ≡ Reduce p)) (actions_in es) (action_numbered (number_in 0 es k)) a some
          ]),
    ),
    λ (p, c, a). (
      p,
      (reduces_there p).1 c,
      All-map (λ x. (x ≡ Error) ⊎ (x ≡ Reduce p)) (λ e. action_numbered e.1) es
          (each_entry (λ x. (action_numbered x ≡ Error) ⊎ (action_numbered x ≡ Reduce p)) (All-unmap (λ x. (x ≡ Error) ⊎ (x ≡ Reduce p)) action_numbered row a)),
    ),
  )

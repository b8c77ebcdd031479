-- the rows that reduce by one production, by the productions by which they reduce
use Rattle.std.proofs.Common.{◌≡◌, ◌≢◌, ℕ, ◌<◌, List, [], ◌∷◌, length, map, get_or, Bool, IsTrue, eqb, refl, ap, ◌↔◌, ◌⊎◌, inl, inr, arith, Contains}
use Rattle.std.specs.List.{All}
use Rattle.std.proofs.lemmas.Bool.{eqb-true}
use Rattle.std.proofs.lemmas.List.{length-map, get_or-map}
use Rattle.std.proofs.lemmas.List.Elements.{Contains-get_or, All-contains, All-map}
use Rattle.lrspec.specs.tables.Table.{Action, Shift, Reduce, Accept, Error}
use Rattle.lrspec.specs.tables.Rows.{AreAllWith}
use Rattle.lrspec.proofs.grammars.ListMembers.{contains_one, only_one}
use Rattle.lrrows.specs.StoredActions.{action_numbered, actions_in, NeitherShiftsNorAccepts}
use Rattle.lrrows.specs.ReducingRows.{ReducesByOne}

-- what holds of what each element gives
pub All-unmap : {X Y : Type 0} (P : Y → Type 0) (f : X → Y) (xs : List X) → All P (map f xs) → All (λ x. P (f x)) xs
All-unmap P f xs a k d l = let e = get_or-map f xs k d (f d) l in rw e at (a k (f d) (rw length-map l))

either : (p : ℕ) (x : Action) → ((q : ℕ) → x ≡ Reduce q → q ≡ p) → NeitherShiftsNorAccepts x → (x ≡ Error) ⊎ (x ≡ Reduce p)
either p (Shift u) f h = absurd h
either p (Reduce q) f h = inr (ap Reduce (f q refl))
either p Accept f h = absurd h
either p Error f h = inl refl

neither : (p : ℕ) (x : Action) → (x ≡ Error) ⊎ (x ≡ Reduce p) → NeitherShiftsNorAccepts x
neither p (Shift u) (inl e) = cc
neither p (Shift u) (inr e) = cc
neither p (Reduce q) h = tt
neither p Accept (inl e) = cc
neither p Accept (inr e) = cc
neither p Error h = tt

same_reduction : (p q : ℕ) → (Reduce q ≡ Error) ⊎ (Reduce q ≡ Reduce p) → q ≡ p
same_reduction p q (inl e) = cc
same_reduction p q (inr e) = cc

module _ (xs : List Action) where
  abbrev Reduced : List ℕ → Type 0
  Reduced ps = AreAllWith (λ p. Contains xs (Reduce p)) ps

  -- one production, and the row neither shifts nor accepts
  by_one : (ps : List ℕ) → Reduced ps → length ps ≡ 1 → All NeitherShiftsNorAccepts xs → ReducesByOne xs
  by_one [] w e a = absurd (omega arith)
  by_one (p ∷ q ∷ ps) w e a = absurd (omega arith)
  by_one (p ∷ []) w e a = (
    p,
    (w.members p).0 (contains_one p),
    λ k d l.
        either p (get_or xs k d)
        (λ q i. only_one p q ((w.members q).1 (let c : Contains xs (get_or xs k d) = Contains-get_or xs k d l in rw i at c))) (a k d l),
  )

  -- a row that reduces by one production has no other
  one_only : (ps : List ℕ) → Reduced ps → (r : ReducesByOne xs) → (q : ℕ) → Contains ps q → q ≡ r.0
  one_only ps w (p, c, a) q i =
      same_reduction p q (All-contains (λ x. (x ≡ Error) ⊎ (x ≡ Reduce p)) xs (Reduce q) a ((w.members q).0 i))

  one_production : (ps : List ℕ) → Reduced ps → ReducesByOne xs → length ps ≡ 1
  one_production [] w (p, c, a) = let (k, l, e) = (w.members p).1 c in absurd (omega (arith, l))
  one_production (q ∷ []) w r = refl
  one_production (q ∷ s ∷ ps) w r =
      let first : q ≡ r.0 = one_only (q ∷ s ∷ ps) w r q (0, omega arith, refl) in
      let second : s ≡ r.0 = one_only (q ∷ s ∷ ps) w r s (1, omega arith, refl) in
      let below : q < s = w.upwards 0 (omega arith) in
      absurd (omega arith)

  none_shifts : ReducesByOne xs → All NeitherShiftsNorAccepts xs
  none_shifts (p, c, a) = λ k d l. neither p (get_or xs k d) (a k d l)

module _ (es : List (ℕ × ℕ)) (ps : List ℕ) (reduced : AreAllWith (λ p. Contains (actions_in es) (Reduce p)) ps) where
  -- with one production it is left that the row neither shifts nor accepts
  pub row_by_one :
      (n : ℕ) (b : Bool) → length ps ≡ n → n ≡ 1 → IsTrue b ↔ All (λ e. NeitherShiftsNorAccepts (action_numbered e.1)) es
      → IsTrue b ↔ ReducesByOne (actions_in es)
  row_by_one n b l e alone = (
    λ h. by_one (actions_in es) ps reduced (omega arith) (All-map NeitherShiftsNorAccepts (λ e. action_numbered e.1) es (alone.0 h)),
    λ r. alone.1 (All-unmap NeitherShiftsNorAccepts (λ e. action_numbered e.1) es (none_shifts (actions_in es) r)),
  )

  -- with another number of productions it does not reduce by one
  pub row_by_others : (n : ℕ) → length ps ≡ n → n ≢ 1 → IsTrue (eqb n 1) ↔ ReducesByOne (actions_in es)
  row_by_others n l e =
      (λ h. absurd (e (eqb-true n 1 h)), λ r. let one = one_production (actions_in es) ps reduced r in absurd (omega arith))

-- the productions by which a row reduces, found one number after the other
use Rattle.std.proofs.Common.{◌≡◌, ℕ, ◌+◌, ◌<◌, List, [], ◌∷◌, ◌++◌, length, map, get_or, refl, sym, ap, ◌∙◌, ◌↔◌, ◌⊎◌, inl, inr, arith, Ordering, Less, Contains}
use Rattle.std.specs.declared.cmp.Ordering.TheVariants.{Equal, Greater}
use Rattle.std.specs.List.Sorted.{IsStrictlySortedBy, IsStrictlyIncreasing}
use Rattle.std.specs.Ordering.{nat_cmp, match_ordering}
use Rattle.std.specs.BTreeSet.{insert_key}
use Rattle.std.proofs.lemmas.Bool.Decides.{nat_tests}
use Rattle.std.proofs.lemmas.List.{length-map, get_or-map}
use Rattle.std.proofs.lemmas.Map.Keys.{Less-from_sorted}
use Rattle.std.proofs.lemmas.Map.Lookups.{exact_unsigned}
use Rattle.lrspec.specs.tables.Table.{Action, Reduce}
use Rattle.lrgrammar.specs.declared.idx.PIdx.{PIdx}
use Rattle.lrgrammar.specs.declared.idx.StIdx.{StIdx}
use Rattle.lrrows.specs.declared.action.Action as stored
use Rattle.lrrows.specs.declared.action.Action.TheVariants as code
use Rattle.lrrows.specs.StoredActions.{stored_action, NeitherShiftsNorAccepts}
use Rattle.lrspec.proofs.grammars.ListMembers.{Among, among_from_contains, contains_from_among, among_front, among_back, among_append}

-- the productions are those by which the actions reduce
abbrev pub AreFound : List ℕ → List Action → Type 0
AreFound ps xs = (p : ℕ) → Among p ps ↔ Among (Reduce p) xs

-- an action that reduces by none but them
pub found_again : (ps : List ℕ) (xs : List Action) (x : Action) → ((p : ℕ) → x ≡ Reduce p → Among p ps) → AreFound ps xs → AreFound ps (xs ++ x ∷ [])
found_again ps xs x again f p =
    (λ h. among_front (Reduce p) xs (x ∷ []) ((f p).0 h), λ h. go (among_append (Reduce p) xs (x ∷ []) h))
  where
    go : Among (Reduce p) xs ⊎ Among (Reduce p) (x ∷ []) → Among p ps
    go (inl i) = (f p).1 i
    go (inr (inl e)) = again p (sym e)
    go (inr (inr e)) = absurd e

-- an action that reduces, whose production is put among those that are found
pub found_more :
    (ps qs : List ℕ) (xs : List Action) (x : Action) (q : ℕ) → x ≡ Reduce q
    → ((p : ℕ) → Among p qs ↔ ((p ≡ q) ⊎ Among p ps)) → AreFound ps xs → AreFound qs (xs ++ x ∷ [])
found_more ps qs xs x q e put f p =
    (λ h. there ((put p).0 h), λ h. (put p).1 (here (among_append (Reduce p) xs (x ∷ []) h)))
  where
    there : (p ≡ q) ⊎ Among p ps → Among (Reduce p) (xs ++ x ∷ [])
    there (inl i) = among_back (Reduce p) xs (x ∷ []) (inl (ap Reduce i ∙ sym e))
    there (inr i) = among_front (Reduce p) xs (x ∷ []) ((f p).0 i)

    here : Among (Reduce p) xs ⊎ Among (Reduce p) (x ∷ []) → (p ≡ q) ⊎ Among p ps
    here (inl i) = inr ((f p).1 i)
    here (inr (inl i)) = inl (cc)
    here (inr (inr i)) = absurd i

-- the same by places
pub found_contains : (ps : List ℕ) (xs : List Action) → AreFound ps xs → (p : ℕ) → Contains ps p ↔ Contains xs (Reduce p)
found_contains ps xs f p = (
  λ h. contains_from_among (Reduce p) xs ((f p).0 (among_from_contains p ps h)),
  λ h. contains_from_among p ps ((f p).1 (among_from_contains (Reduce p) xs h)),
)

module _ {K : Type 0} (number : K → ℕ) (cmp : K → K → Ordering) (ordered : (a b : K) → cmp a b ≡ nat_cmp (number a) (number b)) where
  placed :
      (k x : K) (xs ys : List K) (p : ℕ) (o : Ordering) → (o ≡ Equal → number k ≡ number x)
      → (Among p (map number ys) ↔ ((p ≡ number k) ⊎ Among p (map number xs)))
      → Among p (map number (match_ordering o (k ∷ x ∷ xs) (x ∷ xs) (x ∷ ys))) ↔ ((p ≡ number k) ⊎ Among p (map number (x ∷ xs)))
  placed k x xs ys p Less e i = (λ h. h, λ h. h)
  placed k x xs ys p Equal e i = (λ h. inr h, back)
    where
      back : (p ≡ number k) ⊎ Among p (map number (x ∷ xs)) → Among p (map number (x ∷ xs))
      back (inl a) = inl (a ∙ e refl)
      back (inr b) = b
  placed k x xs ys p Greater e i = (there, back)
    where
      swap : (p ≡ number k) ⊎ Among p (map number xs) → (p ≡ number k) ⊎ Among p (map number (x ∷ xs))
      swap (inl a) = inl a
      swap (inr b) = inr (inr b)

      there : Among p (map number (x ∷ ys)) → (p ≡ number k) ⊎ Among p (map number (x ∷ xs))
      there (inl a) = inr (inl a)
      there (inr b) = swap (i.0 b)

      back : (p ≡ number k) ⊎ Among p (map number (x ∷ xs)) → Among p (map number (x ∷ ys))
      back (inl a) = inr (i.1 (inl a))
      back (inr (inl a)) = inl a
      back (inr (inr b)) = inr (i.1 (inr b))

  -- a key put at its place is the only new one
  pub put_key :
      (ks : List K) (k : K) (p : ℕ)
      → Among p (map number (insert_key cmp ks k)) ↔ ((p ≡ number k) ⊎ Among p (map number ks))
  put_key [] k p = (λ h. h, λ h. h)
  put_key (x ∷ xs) k p =
      placed k x xs (insert_key cmp xs k) p (cmp k x) (λ e. exact_unsigned (number k) (number x) (sym (ordered k x) ∙ e)) (put_key xs k p)

  less_numbers : (a b : ℕ) → nat_cmp a b ≡ Less → a < b
  less_numbers a b h = grind (arith, nat_tests)

  -- keys in order have numbers upwards
  pub numbers_upwards : (ks : List K) → IsStrictlySortedBy cmp ks → IsStrictlyIncreasing (map number ks)
  numbers_upwards [] s i l = absurd (omega arith)
  numbers_upwards (x ∷ xs) s i l =
      let n : i + 1 < length (x ∷ xs) = rw length-map at l in
      let m : i < length (x ∷ xs) = omega (arith, n) in
      let less = Less-from_sorted cmp (x ∷ xs) i (i + 1) x s (omega arith) n in
      rw (get_or-map number (x ∷ xs) i x 0 m, get_or-map number (x ∷ xs) (i + 1) x 0 n)
      (less_numbers (number (get_or (x ∷ xs) i x)) (number (get_or (x ∷ xs) (i + 1) x)) (sym (ordered (get_or (x ∷ xs) i x) (get_or (x ∷ xs) (i + 1) x)) ∙ less))

module _ {T : Type 0} (number : T → ℕ) where
  -- an action of the code that is no reduction says none
  pub no_reduction : (a : stored.Action T) → ((x : PIdx T) → a ≡ code.Reduce x → ⊥) → (p : ℕ) → stored_action number a ≡ Reduce p → ⊥
  no_reduction (code.Shift s) n p e = cc
  no_reduction (code.Reduce x) n p e = n x refl
  no_reduction code.Accept n p e = cc
  no_reduction code.Error n p e = cc

  -- an action of the code that is neither a shift nor accepting says neither
  pub no_shift :
      (a : stored.Action T) → ((x : StIdx T) → a ≡ code.Shift x → ⊥) → (a ≡ code.Accept → ⊥)
      → NeitherShiftsNorAccepts (stored_action number a)
  no_shift (code.Shift s) n m = n s refl
  no_shift (code.Reduce x) n m = tt
  no_shift code.Accept n m = m refl
  no_shift code.Error n m = tt

-- A map of names to places, as it grows over the names, and what it finds at the end.
use Rattle.std.proofs.Common.{◌≡◌, ◌⊎◌, ℕ, ◌+◌, ◌<◌, ◌≤◌, Bool, true, false, cond, List, [], length, get_or, Option, None, Some, refl, ap, sym, ◌∙◌, subst, inl, inr, ⊎_elim, arith}
use Rattle.std.specs.Prelude.{IsSome, is_some, Contains, slice_get}
use Rattle.std.specs.Str.{bytes_eq}
use Rattle.std.specs.Map.{update}
use Rattle.std.proofs.lemmas.Bool.{false≢true, cases_lt}
use Rattle.std.proofs.lemmas.List.{get_or_default}
use Rattle.std.proofs.lemmas.Option.{slice_get-get_or}
use Rattle.std.proofs.lemmas.Slice.Eq.{bytes_eq-Decides}
use Rattle.lrspec.specs.texts.Parts.{HasDouble}
use Rattle.lrparts.specs.LookUps.{FindsNames}

-- what a look-up finds after an update
found_in : (b : Bool) (n : ℕ) (o : Option ℕ) (k : ℕ) → cond b (Some n) o ≡ Some k → ((b ≡ true) × (k ≡ n)) ⊎ (o ≡ Some k)
found_in true n o k e = inl (refl, cc)
found_in false n o k e = inr e

kept_in : (b : Bool) (n : ℕ) (o : Option ℕ) → (b ≡ true) ⊎ IsSome o → IsSome (cond b (Some n) o)
kept_in true n o h = refl
kept_in false n o (inl e) = absurd (false≢true e)
kept_in false n o (inr s) = s

is_some_none : (o : Option ℕ) → IsSome o → o ≡ None → ⊥
is_some_none None s e = absurd (false≢true s)
is_some_none (Some k) s e = cc

module _ (look next : List ℕ → Option ℕ) (names : List (List ℕ)) (n : ℕ) (seen : FindsNames look names n) (within : n < length names) (new : look (get_or names n []) ≡ None) (after : (q : List ℕ) → next q ≡ update bytes_eq look (get_or names n []) (Some n) q) where
  found_next : (q : List ℕ) (k : ℕ) → next q ≡ Some k → (k < n + 1) × (get_or names k [] ≡ q)
  found_next q k e =
      ⊎_elim
      (λ (h : (bytes_eq (get_or names n []) q ≡ true) × (k ≡ n)). (omega (arith, h.1), ap (λ j. get_or names j []) h.1 ∙ (bytes_eq-Decides (get_or names n []) q).0 h.0))
      (λ (h : look q ≡ Some k). (omega (arith, (seen.found q k h).0), (seen.found q k h).1))
      (found_in (bytes_eq (get_or names n []) q) n (look q) k (sym (after q) ∙ e))

  kept_next : (k : ℕ) → k < n + 1 → IsSome (next (get_or names k []))
  kept_next k l =
      subst IsSome (sym (after (get_or names k [])))
      (kept_in (bytes_eq (get_or names n []) (get_or names k [])) n (look (get_or names k []))
      (⊎_elim (λ (b : k < n). inr (seen.kept k b)) (λ (b : n ≤ k). let e : n ≡ k = omega arith in inl ((bytes_eq-Decides (get_or names n []) (get_or names k [])).1 (ap (λ j. get_or names j []) e))) (cases_lt k n)))

  apart_next : (j k : ℕ) → j < k → k < n + 1 → get_or names j [] ≡ get_or names k [] → ⊥
  apart_next j k l m e =
      ⊎_elim (λ (b : k < n). seen.apart j k l b e)
      (λ (b : n ≤ k). let i : k ≡ n = omega arith in is_some_none (look (get_or names j [])) (seen.kept j (omega arith)) (ap look (e ∙ ap (λ j. get_or names j []) i) ∙ new))
      (cases_lt k n)

  -- one name more that was not seen before
  pub seen_more : FindsNames next names (n + 1)
  seen_more = record { found = found_next; kept = kept_next; apart = apart_next }

none_from_false : (o : Option ℕ) → is_some o ≡ false → o ≡ None
none_from_false None e = refl
none_from_false (Some k) e = absurd (false≢true (sym e))

-- a turn of a loop that puts the name `w` in, where nothing stood at it before
pub finds_after : (look next : List ℕ → Option ℕ) (names : List (List ℕ)) (n : ℕ) (w : List ℕ) (old : Option ℕ) → FindsNames look names n → n < length names → get_or names n [] ≡ w → old ≡ look w → is_some old ≡ false → ((q : List ℕ) → next q ≡ update bytes_eq look w (Some n) q) → FindsNames next names (n + 1)
finds_after look next names n w old seen within is was none after =
    let new : look (get_or names n []) ≡ None = ap look is ∙ (sym was ∙ none_from_false old none) in
    seen_more look next names n seen within new (rw is after)

-- where something stood at it, the name is there twice
pub double_after : (look : List ℕ → Option ℕ) (names : List (List ℕ)) (n : ℕ) (w : List ℕ) (old : Option ℕ) → FindsNames look names n → n < length names → get_or names n [] ≡ w → old ≡ look w → is_some old ≡ true → HasDouble names
double_after look names n w None seen within is was some = absurd (false≢true some)
double_after look names n w (Some k) seen within is was some =
    (k, n, (seen.found w k (sym was)).0, within, (seen.found w k (sym was)).1 ∙ sym is)

-- a turn of a loop over names that are all different
pub finds_apart : (look next : List ℕ → Option ℕ) (names : List (List ℕ)) (n : ℕ) (w : List ℕ) → FindsNames look names n → n < length names → get_or names n [] ≡ w → (HasDouble names → ⊥) → ((q : List ℕ) → next q ≡ update bytes_eq look w (Some n) q) → FindsNames next names (n + 1)
finds_apart look next names n w seen within is apart after =
    finds_after look next names n w (look w) seen within is refl (unseen (look w) refl) after
  where
    unseen : (o : Option ℕ) → o ≡ look w → is_some o ≡ false
    unseen None e = refl
    unseen (Some k) e = absurd (apart (double_after look names n w (Some k) seen within is e refl))

-- what a look-up over all names finds is the place of the name
pub place_found : (look : List ℕ → Option ℕ) (names : List (List ℕ)) (n k : ℕ) (w : List ℕ) → FindsNames look names n → n ≡ length names → look w ≡ Some k → slice_get names k ≡ Some w
place_found look names n k w seen all e =
    let (below, is) = seen.found w k e in slice_get-get_or names k [] (omega arith) ∙ ap Some is

pub place_within : (look : List ℕ → Option ℕ) (names : List (List ℕ)) (n k : ℕ) (w : List ℕ) → FindsNames look names n → n ≡ length names → look w ≡ Some k → k < length names
place_within look names n k w seen all e = let (below, is) = seen.found w k e in omega arith

-- a name that it does not find is not there
pub place_missing : (look : List ℕ → Option ℕ) (names : List (List ℕ)) (n : ℕ) (w : List ℕ) → FindsNames look names n → n ≡ length names → look w ≡ None → Contains names w → ⊥
place_missing look names n w seen all none (k, l, e) =
    is_some_none (look (get_or names k [])) (seen.kept k (omega arith)) (ap look (get_or_default names k [] w l ∙ e) ∙ none)

-- where it found all names, none is there twice
pub no_double : (look : List ℕ → Option ℕ) (names : List (List ℕ)) (n : ℕ) → FindsNames look names n → length names ≤ n → HasDouble names → ⊥
no_double look names n seen over (j, k, l, m, e) = seen.apart j k l (omega arith) e

-- the longest run of bytes that pass a test, and the bytes before the first `*/`, as functions
use Rattle.std.proofs.Common.{◌≡◌, ℕ, Bool, true, false, if◌then◌else◌, ◌==◌, ◌&&◌, List, [], ◌∷◌, ◌++◌, Option, None, Some, option_map, refl, ap, ◌∙◌}
use Rattle.std.specs.List.{list_all}
use Rattle.std.proofs.lemmas.Bool.{and_parts, and_from, and_right, eqb-true, or_parts, or_from, cond-true, cond-false, cond_both}
use Rattle.lrspec.specs.texts.Lexemes.{goes_on, has_close}

-- the byte, in front of the first of the two lists
abbrev pub onto : ℕ → List ℕ × List ℕ → List ℕ × List ℕ
onto b (w, rest) = (b ∷ w, rest)

-- the bytes that pass, as far as they go, and the rest
abbrev pub split_while : (ℕ → Bool) → List ℕ → List ℕ × List ℕ
split_while p [] = ([], [])
split_while p (b ∷ bs) = if p b then onto b (split_while p bs) else ([], b ∷ bs)

-- the bytes before the first `*/`, and those behind it
abbrev pub until_close : List ℕ → Option (List ℕ × List ℕ)
until_close [] = None
until_close (b ∷ []) = None
until_close (b ∷ c ∷ bs) = if b == 42 && c == 47 then Some ([], bs) else option_map (onto b) (until_close (c ∷ bs))

-- ---- what the functions answer

split_at_stop : (p : ℕ → Bool) (rest : List ℕ) → goes_on p rest ≡ false → split_while p rest ≡ ([], rest)
split_at_stop p [] h = refl
split_at_stop p (b ∷ bs) h = cond-false (p b) _ _ h

-- a run of bytes that pass is split off before a byte that doesn't
pub split_while_is : (p : ℕ → Bool) (w rest : List ℕ) → list_all p w ≡ true → goes_on p rest ≡ false → split_while p (w ++ rest) ≡ (w, rest)
split_while_is p [] rest all stop = split_at_stop p rest stop
split_while_is p (b ∷ w) rest all stop =
    cond-true (p b) _ _ (and_parts (p b) (list_all p w) all).0 ∙ ap (onto b) (split_while_is p w rest (and_parts (p b) (list_all p w) all).1 stop)

-- a list and its longest beginning of bytes that pass
pub record IsSplit (p : ℕ → Bool) (bs : List ℕ) (s : List ℕ × List ℕ) : Type 0 where
  pub whole : bs ≡ s.0 ++ s.1
  pub all : list_all p s.0 ≡ true
  pub stops : goes_on p s.1 ≡ false

split_onto : (p : ℕ → Bool) (b : ℕ) (bs : List ℕ) (s : List ℕ × List ℕ) → p b ≡ true → IsSplit p bs s → IsSplit p (b ∷ bs) (onto b s)
split_onto p b bs (w, rest) h s = record { whole = ap (λ l. b ∷ l) s.whole; all = and_from (p b) (list_all p w) h s.all; stops = s.stops }

-- `split_while` splits so
pub split_while_splits : (p : ℕ → Bool) (bs : List ℕ) → IsSplit p bs (split_while p bs)
split_while_splits p [] = record { whole = refl; all = refl; stops = refl }
split_while_splits p (b ∷ bs) = cond_both (p b) (onto b (split_while p bs)) ([], b ∷ bs) (IsSplit p (b ∷ bs))
    (λ h. split_onto p b bs (split_while p bs) h (split_while_splits p bs))
    (λ h. record { whole = refl; all = refl; stops = h })

-- a comment ends at its first `*/`
pub until_close_is : (c rest : List ℕ) → has_close (c ++ 42 ∷ []) ≡ false → until_close (c ++ 42 ∷ 47 ∷ rest) ≡ Some (c, rest)
until_close_is [] rest h = refl
until_close_is (b ∷ []) rest h = cond-false _ _ _ (or_parts (b == 42 && false) false h).0
until_close_is (b ∷ d ∷ c) rest h = cond-false (b == 42 && d == 47) _ _ (or_parts (b == 42 && d == 47) _ h).0 ∙ ap (option_map (onto b)) (until_close_is (d ∷ c) rest (or_parts (b == 42 && d == 47) _ h).1)

-- what `until_close` answers: the part of the text before its first `*/` and the part behind it
abbrev pub IsCutAtClose : List ℕ → Option (List ℕ × List ℕ) → Type 0
IsCutAtClose bs None = Unit {0}
IsCutAtClose bs (Some s) = (bs ≡ s.0 ++ 42 ∷ 47 ∷ s.1) × (has_close (s.0 ++ 42 ∷ []) ≡ false)

closed_onto : (b c : ℕ) (bs : List ℕ) (o : Option (List ℕ × List ℕ)) → (b == 42 && c == 47) ≡ false → IsCutAtClose (c ∷ bs) o → IsCutAtClose (b ∷ c ∷ bs) (option_map (onto b) o)
closed_onto b c bs None h k = tt
closed_onto b c bs (Some ([], rest)) h (e, k) = (ap (λ l. b ∷ l) e, or_from (b == 42 && false) false (and_right (b == 42) false refl) refl)
closed_onto b c bs (Some (d ∷ w, rest)) h (e, k) =
    (ap (λ l. b ∷ l) e, or_from (b == 42 && d == 47) _ (let same : c ≡ d = cc in rw (← same) h) k)

-- `until_close` finds the first `*/`
pub until_close_closes : (bs : List ℕ) → IsCutAtClose bs (until_close bs)
until_close_closes [] = tt
until_close_closes (b ∷ []) = tt
until_close_closes (b ∷ c ∷ bs) = cond_both (b == 42 && c == 47) (Some ([], bs)) (option_map (onto b) (until_close (c ∷ bs))) (IsCutAtClose (b ∷ c ∷ bs))
    (λ h. (λ i. eqb-true b 42 (and_parts (b == 42) (c == 47) h).0 i ∷ (eqb-true c 47 (and_parts (b == 42) (c == 47) h).1 i ∷ bs), refl))
    (λ h. closed_onto b c bs (until_close (c ∷ bs)) h (until_close_closes (c ∷ bs)))

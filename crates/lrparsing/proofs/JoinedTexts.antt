-- names with a text between them, and the words of trees
use Rattle.std.proofs.Common.{◌≡◌, ℕ, ◌+◌, ◌-◌, ◌≤◌, Bool, true, false, List, [], ◌∷◌, ◌++◌, length, map, take, codes, refl, ap, sym, ◌∙◌, arith, append_assoc, append-nil, length-append}
use Rattle.std.proofs.lemmas.Grind.{flat_map-append}
use Rattle.std.proofs.lemmas.List.{map-append, take-map, take_at, take_all, take_more, length-map}
use Rattle.std.proofs.Common.{◌≢◌, ◌<◌, nat_eq, ⊎_elim, get_or, add-one}
use Rattle.std.proofs.lemmas.Bool.{cases_lt}
use Rattle.std.proofs.lemmas.Bool.Decides.{nat_tests}
use Rattle.lrdiagnostics.specs.ShownTexts.{shown_text}
use Rattle.lrshown.specs.BracketTexts.{Word, with_dot}
use Rattle.lrparsing.specs.AnswerTexts.{shown_names}

-- one name more
pub joined_more : (between x : List ℕ) (ns : List (List ℕ)) (n : List ℕ)
    → shown_names between (x ∷ (ns ++ n ∷ [])) ≡ shown_names between (x ∷ ns) ++ (between ++ shown_text n)
joined_more between x ns n = simp (map-append, flat_map-append, append-nil, append_assoc)

-- names one after the other, of which the first is known
module _ {A : Type 0} (f : A → List ℕ) (between : List ℕ) (ns : List A) (x : A) (others : List A) (are : ns ≡ x ∷ others) where
  taken : (i : ℕ) → take (i + 1) ns ≡ x ∷ take i others
  taken i = ap (take (i + 1)) are ∙ ap (λ k. take k (x ∷ others)) (add-one i)

  -- that one alone
  pub begun : shown_text (f x) ≡ shown_names between (map f (take (0 + 1) ns))
  begun = sym (ap (λ l. shown_names between (map f l)) (taken 0) ∙ append-nil (shown_text (f x)))

  -- one more
  pub more_names : (i : ℕ) (d : A) → i < length others
      → shown_names between (map f (take (i + 1) ns)) ++ (between ++ shown_text (f (get_or others i d)))
      ≡ shown_names between (map f (take (i + 1 + 1) ns))
  more_names i d inside =
      let y = get_or others i d in
      let those : take (i + 1 + 1) ns ≡ x ∷ (take i others ++ y ∷ []) =
      taken (i + 1) ∙ ap (λ l. x ∷ l) (take_more others i d inside) in
      ap (λ l. shown_names between (map f l) ++ (between ++ shown_text (f y))) (taken i)
      ∙ sym (joined_more between (f x) (map f (take i others)) (f y))
      ∙ ap (λ l. shown_names between (f x ∷ l)) (sym (map-append f (take i others) (y ∷ [])))
      ∙ ap (λ l. shown_names between (map f l)) (sym those)

  -- all of them
  pub all_names : (i : ℕ) → length others ≤ i → shown_names between (map f (take (i + 1) ns)) ≡ shown_names between (map f ns)
  all_names i past = ap (λ l. shown_names between (map f l)) (taken i ∙ ap (λ l. x ∷ l) (take_all i others past) ∙ sym are)

-- without the last of some texts
pub without_last : {A : Type 0} (f : A → List ℕ) (xs : List A) (ts : List (List ℕ)) (t : List ℕ)
    → map f xs ≡ ts ++ t ∷ [] → map f (take (length xs - 1) xs) ≡ ts
without_last f xs ts t e =
    let n = length xs - 1 in
    let size : length xs ≡ length ts + 1 = sym (length-map xs f) ∙ ap length e ∙ length-append ts (t ∷ []) in
    sym (take-map f n xs) ∙ ap (take n) e ∙ take_at ts (t ∷ []) n (omega (arith, size))

-- a dot that comes behind a word with a leaf, or one without
dot_later : (w : Word) (ws : List Word) (n : ℕ) → w.has_leaf ≡ true → n ≢ 0 → with_dot n (w ∷ ws) ≡ w.bytes ∷ with_dot (n - 1) ws
dot_later w ws n h k =
    let other : nat_eq n 0 ≡ false = grind (arith, nat_tests) in
    rw (h, other) refl

no_leaf : (w : Word) (ws : List Word) (n : ℕ) → w.has_leaf ≡ false → with_dot n (w ∷ ws) ≡ w.bytes ∷ with_dot n ws
no_leaf w ws n h = rw h refl

-- the dot stands behind all words where there are no more of them than leaves before it
module _ (w : Word) (ws : List Word) (n : ℕ) (within : length (w ∷ ws) ≤ n)
    (rest : (m : ℕ) → length ws ≤ m → with_dot m ws ≡ map (λ v. v.bytes) ws ++ codes "." ∷ []) where
  behind_word : (b : Bool) → w.has_leaf ≡ b → with_dot n (w ∷ ws) ≡ w.bytes ∷ (map (λ v. v.bytes) ws ++ codes "." ∷ [])
  behind_word true h = dot_later w ws n h (λ e. absurd (omega (arith, e, within))) ∙ ap (λ l. w.bytes ∷ l) (rest (n - 1) (omega (arith, within)))
  behind_word false h = no_leaf w ws n h ∙ ap (λ l. w.bytes ∷ l) (rest n (omega (arith, within)))

pub dot_last : (n : ℕ) (ws : List Word) → length ws ≤ n → with_dot n ws ≡ map (λ w. w.bytes) ws ++ codes "." ∷ []
dot_last n [] within = refl
dot_last n (w ∷ ws) within = behind_word w ws n within (λ m h. dot_last m ws h) w.has_leaf refl

-- there are as many words with the dot at the least
module _ (w : Word) (ws : List Word) (n : ℕ) (rest : (m : ℕ) → length ws ≤ length (with_dot m ws)) where
  as_many_behind : (b : Bool) → w.has_leaf ≡ b → length (w ∷ ws) ≤ length (with_dot n (w ∷ ws))
  as_many_behind true h =
      ⊎_elim
      (λ (l : n < 1).
      let zero_is : n ≡ 0 = omega (arith, l) in
      rw (h, zero_is) (omega (arith, length-map (w ∷ ws) (λ (v : Word). v.bytes))))
      (λ (l : 1 ≤ n). rw (dot_later w ws n h (λ e. absurd (omega (arith, e, l)))) (omega (arith, rest (n - 1))))
      (cases_lt n 1)
  as_many_behind false h = rw (no_leaf w ws n h) (omega (arith, rest n))

pub as_many : (n : ℕ) (ws : List Word) → length ws ≤ length (with_dot n ws)
as_many n [] = omega arith
as_many n (w ∷ ws) = as_many_behind w ws n (λ m. as_many m ws) w.has_leaf refl

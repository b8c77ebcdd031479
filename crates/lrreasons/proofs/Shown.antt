-- at most 24 words on either side of a dot
use Rattle.std.proofs.Common.{◌≡◌, ℕ, ◌-◌, ◌<◌, ◌≤◌, min, true, false, List, [], ◌∷◌, ◌++◌, length, map, take, drop, append_assoc, refl, sym, ap, ◌∙◌, arith}
use Rattle.std.specs.Prelude.{codes, nat_lt}
use Rattle.std.proofs.lemmas.List.{length-map, take-map, drop-map, take_min, drop_min}
use Rattle.std.proofs.lemmas.Bool.Decides.{nat_tests}
use Rattle.lrspec.specs.grammars.Grammar.{Symbol, Grammar}
use Rattle.lrspec.specs.texts.PrintedTexts.{symbol_text}
use Rattle.lrreasons.specs.Words.{words_of, last_words, first_words, with_dot}

-- few and many words
few_last : (ws : List (List ℕ)) → length ws ≤ 24 → last_words ws ≡ ws
unfolding last_words
few_last ws l = let few : nat_lt 24 (length ws) ≡ false = grind (arith, nat_tests) in rw few refl

many_last : (ws : List (List ℕ)) → 24 < length ws → last_words ws ≡ codes "..." ∷ drop (length ws - 24) ws
unfolding last_words
many_last ws l = let many : nat_lt 24 (length ws) ≡ true = grind (arith, nat_tests) in rw many refl

few_first : (ws : List (List ℕ)) → length ws ≤ 24 → first_words ws ≡ ws
unfolding first_words
few_first ws l = let few : nat_lt 24 (length ws) ≡ false = grind (arith, nat_tests) in rw few refl

many_first : (ws : List (List ℕ)) → 24 < length ws → first_words ws ≡ take 24 ws ++ codes "..." ∷ []
unfolding first_words
many_first ws l = let many : nat_lt 24 (length ws) ≡ true = grind (arith, nat_tests) in rw many refl

module _ {X : Type 0} (g : Grammar) (f : X → Symbol) (xs : List X) where
  -- there are as many words as symbols
  count : length (words_of g (map f xs)) ≡ length xs
  count = length-map (map f xs) (symbol_text g) ∙ length-map xs f

  -- the words of a part
  words_taken : (n : ℕ) → words_of g (map f (take n xs)) ≡ take n (words_of g (map f xs))
  words_taken n = sym (take-map (symbol_text g) n (map f xs) ∙ ap (words_of g) (take-map f n xs))

  words_dropped : (n : ℕ) → words_of g (map f (drop n xs)) ≡ drop n (words_of g (map f xs))
  words_dropped n = sym (drop-map (symbol_text g) n (map f xs) ∙ ap (words_of g) (drop-map f n xs))

  -- few symbols are shown all
  pub all_last : length xs ≤ 24 → last_words (words_of g (map f xs)) ≡ words_of g (map f xs)
  all_last l = few_last (words_of g (map f xs)) (rw count l)

  pub all_first : length xs ≤ 24 → first_words (words_of g (map f xs)) ≡ words_of g (map f xs)
  all_first l = few_first (words_of g (map f xs)) (rw count l)

  -- of many a part
  pub some_last : (shown : List X) (n : ℕ) → 24 < length xs → n ≡ length xs - 24 → shown ≡ drop n xs → last_words (words_of g (map f xs)) ≡ codes "..." ∷ words_of g (map f shown)
  some_last shown n l m e =
      rw (many_last (words_of g (map f xs)) (rw count l), count, e, words_dropped n, m) refl

  pub some_first : (shown : List X) → 24 < length xs → shown ≡ take 24 xs → first_words (words_of g (map f xs)) ≡ words_of g (map f shown) ++ codes "..." ∷ []
  some_first shown l e = rw (many_first (words_of g (map f xs)) (rw count l), e, words_taken 24) refl

  -- both sides of a dot
  pub dotted :
      (before behind : List X) (d n : ℕ) (words : List (List ℕ)) → n ≡ min d (length xs) → before ≡ take n xs → behind ≡ drop n xs
      → words ≡ (last_words (words_of g (map f before)) ++ codes "." ∷ []) ++ first_words (words_of g (map f behind))
      → words ≡ with_dot d (words_of g (map f xs))
  unfolding with_dot
  dotted before behind d n words m b e w =
      let front : words_of g (map f before) ≡ take d (words_of g (map f xs)) = rw (b, m, take_min d xs) (words_taken d) in
      let back : words_of g (map f behind) ≡ drop d (words_of g (map f xs)) = rw (e, m, drop_min d xs) (words_dropped d) in
      w ∙ rw (front, back) (append_assoc (last_words (take d (words_of g (map f xs)))) (codes "." ∷ []) (first_words (drop d (words_of g (map f xs)))))

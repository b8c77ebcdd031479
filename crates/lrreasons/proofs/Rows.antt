-- trees in a row, and brackets around them
use Rattle.std.proofs.Common.{◌≡◌, ◌≢◌, ℕ, ◌==◌, ◌+◌, ◌-◌, ◌<◌, ◌≤◌, true, false, List, [], ◌∷◌, ◌++◌, length, map, get_or, set, take, drop, append_assoc, append-nil, refl, sym, ap, ◌∙◌, arith}
use Rattle.std.specs.Prelude.{codes, fold, nat_le, if◌then◌else◌}
use Rattle.std.proofs.lemmas.Bool.Decides.{nat_tests}
use Rattle.std.proofs.lemmas.List.{map-append, length-take, length_push, take_more, drop_more, drop_all, drop-map, same_from_push}
use Rattle.std.proofs.lemmas.List.Sums.{fold_push, fold-append}
use Rattle.lrspec.specs.grammars.Grammar.{Grammar}
use Rattle.lrconflicts.specs.Moves.{Move}
use Rattle.lrreasons.specs.Brackets.{Row, no_row, next_row, joined, opened, closed, bracketed_words}
use Rattle.lrreasons.proofs.Pieces.{one_more}

-- a closing bracket comes behind the last word
closed_push : (ws : List (List ℕ)) (w : List ℕ) → closed (ws ++ w ∷ []) ≡ ws ++ (w ++ codes ")") ∷ []
closed_push [] w = refl
closed_push (v ∷ []) w = refl
closed_push (v ∷ u ∷ ws) w = ap (λ r. v ∷ r) (closed_push (u ∷ ws) w)

module _ {X : Type 0} (f : X → List ℕ) where
  pub closed_last :
      (old left new : List X) (last now : X) → old ≡ left ++ last ∷ [] → f now ≡ f last ++ codes ")" → new ≡ left ++ now ∷ [] → map f new ≡ closed (map f old)
  closed_last old left new last now e w n =
      rw (n, e, map-append f left (now ∷ []), map-append f left (last ∷ []), w) (sym (closed_push (map f left) (f last)))

  pub closed_none : (old left : List X) → old ≡ left ++ [] → old ≡ [] → map f left ≡ closed (map f old)
  closed_none old left e n = rw (sym (append-nil left) ∙ sym e ∙ n, n) refl

  -- an opening bracket comes before the first word
  pub opened_first :
      (old new : List X) (first word : X) (name : List ℕ) → 0 < length old → first ≡ get_or old 0 first → f word ≡ name ++ (codes "(" ++ f first) → new ≡ set old 0 word
      → map f new ≡ opened name (map f old)
  opened_first [] new first word name l at w n = absurd (omega arith)
  opened_first (x ∷ xs) new first word name l at w n = rw (n, w, at) (ap (λ v. v ∷ map f xs) (sym (append_assoc name (codes "(") (f x))))

  pub opened_none : (old new : List X) (word : X) (name : List ℕ) → length old ≤ 0 → f word ≡ name ++ codes "(" → new ≡ old ++ word ∷ [] → map f new ≡ opened name (map f old)
  opened_none [] new word name l w n = rw (n, w) refl
  opened_none (x ∷ xs) new word name l w n = absurd (omega arith)

-- the last of what is taken
taken_push :
    {X : Type 0} (ts left : List X) (t : X) (k : ℕ) → k < length ts → take (k + 1) ts ≡ left ++ t ∷ []
    → (take k ts ≡ left) × (drop k ts ≡ t ∷ drop (k + 1) ts)
taken_push ts left t k l e =
    let both = same_from_push (take k ts) left (get_or ts k t) t (sym (take_more ts k t l) ∙ e) in
    (both.0, drop_more ts k t l ∙ ap (λ y. y ∷ drop (k + 1) ts) both.1)

module _ {X : Type 0} (f : X → List (List ℕ)) (n i : ℕ) (ts : List (List (List ℕ))) (trees left : List X) (words : List (List ℕ)) where
  -- one tree more is taken off the others
  pub one_taken :
      (t : X) → n ≡ length ts → trees ≡ left ++ t ∷ [] → map f trees ≡ take (n - i) ts → words ≡ joined (drop (n - i) ts)
      → (map f left ≡ take (n - (i + 1)) ts) × (f t ++ words ≡ joined (drop (n - (i + 1)) ts))
  one_taken t l e h w =
      let k : ℕ = n - (i + 1) in
      let same : take (n - i) ts ≡ map f left ++ f t ∷ [] = sym h ∙ ap (map f) e ∙ map-append f left (t ∷ []) in
      let long : length (take (n - i) ts) ≡ length (map f left) + 1 = ap length same ∙ length_push (map f left) (f t) in
      let more : n - i ≡ k + 1 = omega (arith, long, length-take (n - i) ts) in
      let within : k < length ts = omega arith in
      let both = taken_push ts (map f left) (f t) k within (rw more at same) in
      (sym both.0, ap (λ ws. f t ++ ws) (rw more at w) ∙ ap joined (sym both.1))

  -- none is left
  pub none_taken :
      trees ≡ left ++ [] → trees ≡ [] → map f trees ≡ take (n - i) ts → n ≡ length ts → words ≡ joined (drop (n - i) ts)
      → (map f left ≡ take (n - (i + 1)) ts) × (words ≡ joined (drop (n - (i + 1)) ts))
  none_taken e none h l w =
      let empty : take (n - i) ts ≡ [] = sym h ∙ ap (map f) none in
      let nothing : n - i ≡ 0 = omega (arith, ap length empty, length-take (n - i) ts) in
      let same : n - (i + 1) ≡ n - i = omega arith in
      let kept : left ≡ trees = sym (append-nil left) ∙ sym e in
      (rw (same, kept) h, rw same w)

module _ {X Y : Type 0} (f : X → Y) (h : Y → List ℕ) (xs : List X) (i : ℕ) where
  -- the word of a leaf that there is, and of none
  pub word_there : (x : X) → i < length xs → x ≡ get_or xs i x → take 1 (drop i (map h (map f xs))) ≡ h (f x) ∷ []
  word_there x l at = rw (drop-map h i (map f xs), drop-map f i xs, drop_more xs i x l, ← at) refl

  pub no_word : length xs ≤ i → take 1 (drop i (map h (map f xs))) ≡ []
  no_word l = rw (drop-map h i (map f xs), drop-map f i xs, drop_all i xs l) refl

-- the dot stands at a place, or not
pub dot_here : (i d : ℕ) → i ≡ d → if i == d then codes "." ∷ [] else [] ≡ codes "." ∷ []
dot_here i d e = let same : (i == d) ≡ true = grind (arith, nat_tests) in rw same refl

pub no_dot : (i d : ℕ) → i ≢ d → if i == d then codes "." ∷ [] else [] ≡ []
no_dot i d e = let same : (i == d) ≡ false = grind (arith, nat_tests) in rw same refl

-- one move more
pub made_more :
    {X : Type 0} (f : X → Move) (step : Row → Move → Row) (start old new : Row) (ms : List X) (i : ℕ) (m : X) → i < length ms → m ≡ get_or ms i m
    → old ≡ fold step start (map f (take i ms)) → new ≡ step old (f m) → new ≡ fold step start (map f (take (i + 1) ms))
made_more f step start old new ms i m l at o n =
    rw (one_more f ms i m l at, fold_push step start (map f (take i ms)) (f m), ← o) n

module _ (g : Grammar) (d : ℕ) (ws : List (List ℕ)) (ms ns : List Move) (mid : Row) (words : List (List ℕ)) where
  -- the words of the trees that moves before the dot and those behind it make
  made_words :
      mid ≡ fold (next_row g d ws) no_row ms → words ≡ joined (fold (next_row g d ws) mid ns).trees
      → words ≡ joined (fold (next_row g d ws) no_row (ms ++ ns)).trees
  made_words m w = rw (fold-append (next_row g d ws) no_row ms ns, ← m) w

  -- a dot at the end, or none
  pub dot_at_end :
      mid ≡ fold (next_row g d ws) no_row ms → words ≡ joined (fold (next_row g d ws) mid ns).trees → length ws ≤ d
      → words ++ codes "." ∷ [] ≡ bracketed_words g d ws (ms ++ ns)
  unfolding bracketed_words
  dot_at_end m w l = let ends : nat_le (length ws) d ≡ true = grind (arith, nat_tests) in rw (ends, ← made_words m w) refl

  pub dot_within :
      mid ≡ fold (next_row g d ws) no_row ms → words ≡ joined (fold (next_row g d ws) mid ns).trees → d < length ws
      → words ≡ bracketed_words g d ws (ms ++ ns)
  unfolding bracketed_words
  dot_within m w l = let ends : nat_le (length ws) d ≡ false = grind (arith, nat_tests) in rw (ends, ← made_words m w) (sym (append-nil words))

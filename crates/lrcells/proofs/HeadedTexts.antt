-- lines one after another under a headline, and entries of a list by their places
use Rattle.std.proofs.Common.{◌≡◌, ℕ, ◌+◌, ◌<◌, ◌≤◌, List, [], ◌∷◌, ◌++◌, length, map, get_or, take, refl, sym, ap, ◌∙◌, take_all, append_assoc, Result, Ok, Err}
use Rattle.std.specs.Prelude.{Contains, IfOk, codes}
use Rattle.std.specs.Fmt.{decimal}
use Rattle.std.specs.List.{flat_map}
use Rattle.std.proofs.lemmas.List.{flat_map_more, get_or-map, length-map, map-append, take_more}
use Rattle.lrspec.specs.grammars.Grammar.{Grammar}
use Rattle.lrspec.specs.texts.PrintedTexts.{token_name, production_text, shift_reduce_line, reduce_reduce_line, headed}

-- the image of an entry is among the images
pub image_listed : {X Y : Type 0} (f : X → Y) (xs : List X) (ys : List Y) (i : ℕ) (x : X) → map f xs ≡ ys → i < length xs → x ≡ get_or xs i x → Contains ys (f x)
image_listed f xs ys i x e l at =
    let there : get_or (map f xs) i (f x) ≡ f x = get_or-map f xs i x (f x) l ∙ ap f (sym at) in
    rw (← e) (i, rw length-map l, there)

-- the text is a headline and the lines of the first `i` entries; what the entries are as plain data
pub record AreFirstLines {X Y : Type 0} (f : X → Y) (headline : List ℕ) (line : Y → List ℕ) (xs : List X) (ys : List Y) (i : ℕ) (text : List ℕ) : Type 0 where
  pub entries : map f xs ≡ ys
  pub lines : text ≡ headline ++ flat_map line (map f (take i xs))

module _ {X Y : Type 0} {f : X → Y} {headline : List ℕ} {line : Y → List ℕ} {xs : List X} {ys : List Y} {i : ℕ} {text : List ℕ} (are : AreFirstLines f headline line xs ys i text) where
  -- an entry is listed
  pub entry_listed : {x : X} → i < length xs → x ≡ get_or xs i x → Contains ys (f x)
  entry_listed {x} l at = image_listed f xs ys i x are.entries l at

  -- the line of one entry more
  pub line_more :
      {x : X} {added new : List ℕ} → i < length xs → x ≡ get_or xs i x → added ≡ line (f x) → new ≡ text ++ added
      → AreFirstLines f headline line xs ys (i + 1) new
  line_more {x} l at a n =
      let more : take (i + 1) xs ≡ take i xs ++ x ∷ [] = take_more xs i x l ∙ ap (λ y. take i xs ++ y ∷ []) (sym at) in
      record {
        entries = are.entries;
        lines = rw (n, are.lines, a, more, map-append f (take i xs) (x ∷ [])) (flat_map_more line headline (map f (take i xs)) (f x));
      }

  -- the lines of all entries
  pub all_lines : ¬ (xs ≡ []) → length xs ≤ i → text ≡ headed headline line ys
  all_lines some l = rw (← are.entries) (headed_some xs some (are.lines ∙ ap (λ zs. headline ++ flat_map line (map f zs)) (take_all i xs l)))
    where
      headed_some : (zs : List X) → ¬ (zs ≡ []) → text ≡ headline ++ flat_map line (map f zs) → text ≡ headed headline line (map f zs)
      headed_some [] n t = absurd (n refl)
      headed_some (z ∷ zs) n t = t

-- pieces of a line from the left, or from the right
seven_pieces : (a b c d e f k : List ℕ) → a ++ (b ++ (c ++ (d ++ (e ++ (f ++ k))))) ≡ a ++ b ++ c ++ d ++ e ++ f ++ k
seven_pieces a b c d e f k = simp append_assoc

nine_pieces : (a b c d e f k m n : List ℕ) → a ++ (b ++ (c ++ (d ++ (e ++ (f ++ (k ++ (m ++ n))))))) ≡ a ++ b ++ c ++ d ++ e ++ f ++ k ++ m ++ n
nine_pieces a b c d e f k m n = simp append_assoc

-- the pieces of a line of a shift/reduce conflict
pub shift_pieces :
    {X E : Type 0} (bytes : X → List ℕ) (r : Result X E) (g : Grammar) (e : ℕ × ℕ × ℕ) (state : ℕ) (token reduced : List ℕ)
    → state ≡ e.2 → token ≡ token_name g e.0 → reduced ≡ production_text g e.1
    → IfOk r (λ x. bytes x ≡ codes "   State " ++ (decimal state ++ (codes ": Shift(\"" ++ (token ++ (codes "\") / Reduce(" ++ (reduced ++ codes ")\n"))))))
    → IfOk r (λ x. bytes x ≡ shift_reduce_line g e)
shift_pieces bytes (Ok x) g e state token reduced s t p text =
    text ∙ seven_pieces (codes "   State ") (decimal state) (codes ": Shift(\"") token (codes "\") / Reduce(") reduced (codes ")\n") ∙ rw (s, t, p) refl
shift_pieces bytes (Err x) g e state token reduced s t p text = tt

-- and of a reduce/reduce conflict
pub reduce_pieces :
    {X E : Type 0} (bytes : X → List ℕ) (r : Result X E) (g : Grammar) (e : ℕ × ℕ × ℕ × ℕ) (state : ℕ) (token taken other : List ℕ)
    → state ≡ e.3 → token ≡ token_name g e.0 → taken ≡ production_text g e.1 → other ≡ production_text g e.2
    → IfOk r (λ x. bytes x
    ≡ codes "   State " ++ (decimal state ++ (codes " (lookahead " ++ (token ++ (codes "): Reduce(" ++ (taken ++ (codes ") / Reduce(" ++ (other ++ codes ")\n"))))))))
    → IfOk r (λ x. bytes x ≡ reduce_reduce_line g e)
reduce_pieces bytes (Ok x) g e state token taken other s t p q text =
    text
    ∙ nine_pieces (codes "   State ") (decimal state) (codes " (lookahead ") token (codes "): Reduce(") taken (codes ") / Reduce(") other (codes ")\n")
    ∙ rw (s, t, p, q) refl
reduce_pieces bytes (Err x) g e state token taken other s t p q text = tt

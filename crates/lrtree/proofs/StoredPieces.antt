-- pieces, as the code stores them
use Rattle.std.proofs.Common.{◌≡◌, ℕ, zero, suc, ◌+◌, ◌-◌, ◌<◌, List, [], ◌∷◌, ◌++◌, length, map, reverse, take, drop, get_or, Vec, sym, ap, ◌∙◌, arith, add-one}
use Rattle.std.specs.List.{range_with_len}
use Rattle.std.proofs.Math.Seq.{drop-cons, take-append_seam, drop-append_seam}
use Rattle.std.proofs.lemmas.List.{reverse-reverse, length-map, map_push}
use Rattle.std.proofs.lemmas.List.FromFn.{length-map-range_with_len, get_or-map-range_with_len, map-range_with_len_more}
use Rattle.lrspec.specs.grammars.Grammar.{Grammar, Symbol, AreBodySymbols, IsBodySymbol}
use Rattle.lrtree.specs.Pieces.{Draft, with_gap, with_symbol, draft_of, pieces_of}
use Rattle.lrtree.specs.StoredPieces.{texts_of, pieces_stored, pieces_at, ArePieces}

-- the bytes behind the place where a text begins that was written turned round, turned again
pub turned_again : (old text new : List ℕ) (n : ℕ) (out : List ℕ) → n ≡ length old → out ≡ old ++ reverse text → new ≡ take n out ++ reverse (drop n out) → new ≡ old ++ text
turned_again old text new n out at written turned =
    let whole : take n out ++ reverse (drop n out) ≡ take (length old) (old ++ reverse text) ++ reverse (drop (length old) (old ++ reverse text)) =
    ap (λ k. take k out ++ reverse (drop k out)) at ∙ ap (λ l. take (length old) l ++ reverse (drop (length old) l)) written in
    turned ∙ whole
    ∙ (ap (λ l. l ++ reverse (drop (length old) (old ++ reverse text))) (take-append_seam old (reverse text))
    ∙ ap (λ l. old ++ l) (ap reverse (drop-append_seam old (reverse text)) ∙ reverse-reverse text))

-- no space before no symbols
pub no_gap : (n : ℕ) (d : Draft) → n ≡ 0 → with_gap n d ≡ d
no_gap n d e = ap (λ k. with_gap k d) e

-- the symbol at a place may stand in a body
pub symbol_behind : (g : Grammar) (xs : List Symbol) (k : ℕ) (d : Symbol) → AreBodySymbols g xs → k < length xs → IsBodySymbol g (get_or xs k d)
symbol_behind g [] k d are l = absurd (omega (arith, l))
symbol_behind g (x ∷ xs) zero d are l = are.0
symbol_behind g (x ∷ xs) (suc k) d are l = symbol_behind g xs k d are.1 (omega (arith, l))

-- a symbol more is written
pub symbol_written :
    (g : Grammar) (xs : List Symbol) (k n : ℕ) (x : Symbol) (old gap new : Draft) → k < length xs → x ≡ get_or xs k x → n ≡ length xs - (k + 1)
    → old ≡ draft_of g (drop (k + 1) xs) → gap ≡ with_gap n old → new ≡ with_symbol g x gap → new ≡ draft_of g (drop k xs)
symbol_written g xs k n x old gap new l is count before spaced written =
    let behind = drop (suc k) xs in
    let more : length behind ≡ n = length_behind xs k l ∙ sym count in
    written ∙ ap (with_symbol g x) (spaced ∙ ap (with_gap n) (before ∙ ap (λ i. draft_of g (drop i xs)) (add-one k)) ∙ ap (λ i. with_gap i (draft_of g behind)) (sym more))
    ∙ ap (λ y. with_symbol g y (with_gap (length behind) (draft_of g behind))) is ∙ ap (draft_of g) (sym (drop-cons xs k x l))
  where
    length_behind : (ys : List Symbol) (i : ℕ) → i < length ys → length (drop (suc i) ys) ≡ length ys - (i + 1)
    length_behind [] i l = absurd (omega (arith, l))
    length_behind (y ∷ ys) zero l = omega arith
    length_behind (y ∷ ys) (suc i) l = length_behind ys i (omega (arith, l)) ∙ omega arith

module _ {Y Z : Type 0} (g : Grammar) where
  -- the pieces of a production more are stored
  pub one_more :
      (i p : ℕ) (v : Vec (Vec ℕ Y) Z) (old new : List (Vec (Vec ℕ Y) Z)) → pieces_stored old ≡ map (pieces_of g) (range_with_len 0 i) → new ≡ old ++ v ∷ []
      → texts_of v.items ≡ pieces_of g p → p ≡ i → pieces_stored new ≡ map (pieces_of g) (range_with_len 0 (i + 1))
  one_more i p v old new before pushed made at =
      ap pieces_stored pushed ∙ map_push (λ (v : Vec (Vec ℕ Y) Z). texts_of v.items) old v ∙ ap (λ ts. ts ++ texts_of v.items ∷ []) before
      ∙ ap (λ t. map (pieces_of g) (range_with_len 0 i) ++ t ∷ []) (made ∙ ap (pieces_of g) at)
      ∙ sym (map-range_with_len_more (pieces_of g) 0 i i (omega arith))

  module _ (nodes : List (Vec (Vec ℕ Y) Z)) (are : ArePieces g nodes) where
    -- there are those of each production
    pub pieces_count : length nodes ≡ length g.productions
    pieces_count =
        sym (length-map nodes (λ v. texts_of v.items)) ∙ ap length are ∙ length-map-range_with_len (pieces_of g) 0 (length g.productions)

    -- at the place of a production are its pieces
    pub at_place : (p : ℕ) → p < length g.productions → pieces_at nodes p ≡ pieces_of g p
    at_place p l =
        ap (λ ts. get_or ts p []) are ∙ get_or-map-range_with_len (pieces_of g) 0 (length g.productions) p p [] l (omega arith)

-- the labels of productions, made once for all lines
use Rattle.std.proofs.Common.{◌≡◌, ℕ, ◌+◌, ◌<◌, List, [], ◌∷◌, ◌++◌, length, map, get_or, ap, sym, refl, ◌∙◌, arith}
use Rattle.std.specs.Prelude.{All, String, codes}
use Rattle.std.specs.List.{range_with_len}
use Rattle.std.specs.String.{string_bytes}
use Rattle.std.proofs.lemmas.List.{length-map, get_or-map, map_push}
use Rattle.std.proofs.lemmas.List.Elements.{All-head, All-tail}
use Rattle.std.proofs.lemmas.List.FromFn.{length-map-range_with_len, get_or-map-range_with_len, map-range_with_len_more}
use Rattle.lrspec.specs.grammars.Grammar.{Grammar}
use Rattle.lrspec.specs.texts.MachineLines.{production_label, reductions_text}
use Rattle.lrtable.specs.Labels.{AreLabels, labels_text}

-- a label more is made
pub one_more :
    {Z : Type 0} (g : Grammar) (i p : ℕ) (s : String Z) (old new : List (String Z)) → map string_bytes old ≡ map (production_label g) (range_with_len 0 i)
    → new ≡ old ++ s ∷ [] → string_bytes s ≡ production_label g p → p ≡ i → map string_bytes new ≡ map (production_label g) (range_with_len 0 (i + 1))
one_more g i p s old new before pushed made at =
    ap (map string_bytes) pushed ∙ map_push string_bytes old s ∙ ap (λ ts. ts ++ string_bytes s ∷ []) before
    ∙ ap (λ t. map (production_label g) (range_with_len 0 i) ++ t ∷ []) (made ∙ ap (production_label g) at)
    ∙ sym (map-range_with_len_more (production_label g) 0 i i (omega arith))

-- a label in hand is the text at its place
pub label_of :
    {Z : Type 0} (labels : List (String Z)) (n p : ℕ) (s : String Z) (text : List ℕ) → p < length labels → n ≡ p → s ≡ get_or labels n s
    → text ≡ string_bytes s → text ≡ get_or (map string_bytes labels) p []
label_of labels n p s text l at e t =
    t ∙ ap string_bytes (e ∙ ap (λ k. get_or labels k s) at) ∙ sym (get_or-map string_bytes labels p s [] l)

module _ {Z : Type 0} (g : Grammar) (labels : List (String Z)) (are : AreLabels g labels) where
  -- there are as many labels as productions
  pub labels_count : length labels ≡ length g.productions
  labels_count =
      sym (length-map labels string_bytes) ∙ ap length are ∙ length-map-range_with_len (production_label g) 0 (length g.productions)

  -- the text at the place of a production is its label
  pub text_at : (p : ℕ) → p < length g.productions → get_or (map string_bytes labels) p [] ≡ production_label g p
  text_at p l =
      ap (λ ts. get_or ts p []) are ∙ get_or-map-range_with_len (production_label g) 0 (length g.productions) p p [] l (omega arith)

  -- the labels of productions make the text of reductions
  pub labels_are : (ps : List ℕ) → All (λ p. p < length g.productions) ps → labels_text labels ps ≡ reductions_text g ps
  labels_are [] k = refl
  labels_are (p ∷ ps) k =
      let there : ℕ → Type 0 = λ p. p < length g.productions in
      ap (λ t. (codes " " ++ t) ++ labels_text labels ps) (text_at p (All-head there p ps k))
      ∙ ap (λ t. (codes " " ++ production_label g p) ++ t) (labels_are ps (All-tail there p ps k))

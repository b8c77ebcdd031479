-- the levels of names, as a loop goes along the precedence lines, and by the numbers of the names
use Rattle.std.proofs.Common.{◌≡◌, ℕ, ◌+◌, ◌<◌, ◌≤◌, true, false, List, [], ◌∷◌, ◌++◌, length, get_or, take, drop, suc, map, Some, None, sym, ap, ◌∙◌, arith}
use Rattle.std.specs.Prelude.{IsTrue, flat_map}
use Rattle.std.specs.List.{slice_get, enumerate_from}
use Rattle.std.specs.Option.{option_map}
use Rattle.std.proofs.lemmas.Option.{slice_get-map, slice_get-get_or, slice_get_past}
use Rattle.std.proofs.lemmas.Simd.{map-map}
use Rattle.std.proofs.lemmas.List.{take_all}
use Rattle.lrtext.specs.declared.meaning.precedences.Leveled.{Leveled}
use Rattle.lrtext.specs.StoredParts.{precedence_of}
use Rattle.lrtext.specs.StoredLevels.{leveled_of, leveled_names}
use Rattle.lrtext.proofs.ListSteps.{mapped_more, mapped_length, mapped_around}
use Rattle.lrspec.specs.grammars.Grammar.{Kind, Precedence}
use Rattle.lrspec.specs.texts.Names.{has_name, has_no_repeats, place_of}
use Rattle.lrtext.specs.NumberedNames.{with_name}
use Rattle.lrspec.specs.texts.Meaning.{names_at_level, precedence_in, IsFirstRepeat}
use Rattle.lrtext.proofs.NumberedNames.{no_repeats_push}
use Rattle.lrtext.proofs.MeaningFacts.{precedences_push, precedence_at_place}

-- one more line gives its names the next level
pub one_more_line : {X : Type 0} (f : X → Kind × List (List ℕ)) (xs : List X) (i : ℕ) (x : X) (old new : List (List ℕ × Precedence)) → i < length xs → x ≡ get_or xs i x → old ≡ flat_map names_at_level (enumerate_from 0 (map f (take i xs))) → new ≡ old ++ names_at_level (i, f x) → new ≡ flat_map names_at_level (enumerate_from 0 (map f (take (i + 1) xs)))
one_more_line f xs i x old new h here before more =
    more
    ∙ ap (λ ps. ps ++ names_at_level (i, f x)) before
    ∙ ap (λ n. flat_map names_at_level (enumerate_from 0 (map f (take i xs))) ++ names_at_level (n, f x)) (sym (mapped_length f xs i (omega arith)))
    ∙ sym (precedences_push (map f (take i xs)) (f x))
    ∙ ap (λ ls. flat_map names_at_level (enumerate_from 0 ls)) (ap (λ y. map f (take i xs) ++ f y ∷ []) here ∙ sym (mapped_more f xs i x h))

-- all lines were gone along
pub all_lines : {X : Type 0} (f : X → Kind × List (List ℕ)) (xs ys : List X) (i : ℕ) (all : List (List ℕ × Precedence)) → length xs ≤ i → xs ≡ ys → all ≡ flat_map names_at_level (enumerate_from 0 (map f (take i xs))) → all ≡ flat_map names_at_level (enumerate_from 0 (map f ys))
all_lines f xs ys i all over same before = before ∙ ap (λ ls. flat_map names_at_level (enumerate_from 0 (map f ls))) (take_all i xs over ∙ same)

-- one more name that is new
pub one_more_name : {X : Type 0} (f : X → List ℕ) (xs : List X) (i : ℕ) (d : X) (old new : List (List ℕ)) → i < length xs → old ≡ map f (take i xs) → IsTrue (has_no_repeats (map f (take i xs))) → has_name old (f (get_or xs i d)) ≡ false → new ≡ with_name old (f (get_or xs i d)) → (new ≡ map f (take (i + 1) xs)) × IsTrue (has_no_repeats (map f (take (i + 1) xs)))
one_more_name f xs i d old new h before once absent more =
    let all = mapped_more f xs i d h in
    (more ∙ rw absent (ap (λ ws. ws ++ f (get_or xs i d) ∷ []) before ∙ sym all), rw all (no_repeats_push (map f (take i xs)) (f (get_or xs i d)) once (rw before at absent)))

-- the first name that comes again
pub repeated_here : {X : Type 0} (f : X → List ℕ) (xs : List X) (i : ℕ) (d : X) (old : List (List ℕ)) (w : List ℕ) → i < length xs → old ≡ map f (take i xs) → IsTrue (has_no_repeats (map f (take i xs))) → has_name old (f (get_or xs i d)) ≡ true → w ≡ f (get_or xs i d) → IsFirstRepeat (map f xs) w
repeated_here f xs i d old w h before once again is =
    record {
      before = map f (take i xs);
      after = map f (drop (suc i) xs);
      splits = mapped_around f xs i d h ∙ ap (λ v. map f (take i xs) ++ v ∷ map f (drop (suc i) xs)) (sym is);
      second = ap (λ ws. has_name ws w) (sym before) ∙ ap (λ v. has_name old v) is ∙ again;
      first = once;
    }

-- the precedence of a name by its place
at_place : (ls : List Leveled) (ws : List (List ℕ)) (w : List ℕ) (k : ℕ) → ws ≡ leveled_names ls → k ≡ place_of ws w → precedence_in (map leveled_of ls) w ≡ option_map (λ p. p.1) (option_map leveled_of (slice_get ls k))
at_place ls ws w k same place =
    precedence_at_place (map leveled_of ls) w
    ∙ ap (λ vs. option_map (λ (p : List ℕ × Precedence). p.1) (slice_get (map leveled_of ls) (place_of vs w))) (map-map (λ (p : List ℕ × Precedence). p.0) leveled_of ls ∙ sym same)
    ∙ ap (λ n. option_map (λ (p : List ℕ × Precedence). p.1) (slice_get (map leveled_of ls) n)) (sym place)
    ∙ ap (option_map (λ (p : List ℕ × Precedence). p.1)) (slice_get-map leveled_of ls k)

-- the precedence of a name at its place
pub precedence_found : (ls : List Leveled) (ws : List (List ℕ)) (w : List ℕ) (k : ℕ) (d : Leveled) → ws ≡ leveled_names ls → k ≡ place_of ws w → k < length ls → Some (precedence_of (get_or ls k d).precedence) ≡ precedence_in (map leveled_of ls) w
precedence_found ls ws w k d same place h = sym (at_place ls ws w k same place ∙ ap (λ o. option_map (λ (p : List ℕ × Precedence). p.1) (option_map leveled_of o)) (slice_get-get_or ls k d h))

-- no precedence
pub precedence_missing : (ls : List Leveled) (ws : List (List ℕ)) (w : List ℕ) (k : ℕ) → ws ≡ leveled_names ls → k ≡ place_of ws w → length ls ≤ k → None ≡ precedence_in (map leveled_of ls) w
precedence_missing ls ws w k same place h = sym (at_place ls ws w k same place ∙ ap (λ o. option_map (λ (p : List ℕ × Precedence). p.1) (option_map leveled_of o)) (slice_get_past ls k h))

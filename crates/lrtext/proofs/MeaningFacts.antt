-- the precedences that are said, name by name, and unknown names by the numbers of the known ones
use Rattle.std.proofs.Common.{◌≡◌, ℕ, suc, ◌+◌, Bool, true, false, List, [], ◌∷◌, ◌++◌, map, length, refl, ap, ◌∙◌, append-nil, arith}
use Rattle.std.proofs.lemmas.Grind.{flat_map-append}
use Rattle.std.specs.Prelude.{filter_map, flat_map, slice_get, bytes_eq}
use Rattle.std.specs.List.{enumerate_from}
use Rattle.std.specs.Option.{option_map}
use Rattle.std.proofs.Math.Path.{fun_ext}
use Rattle.std.proofs.lemmas.List.{map-append}
use Rattle.lrspec.specs.grammars.Grammar.{Kind, Precedence}
use Rattle.lrspec.specs.texts.Names.{has_name, first_appearances, place_of}
use Rattle.lrspec.specs.texts.Documents.{NameText, Plain, InQuotes}
use Rattle.lrspec.specs.texts.Meaning.{names_at_level, precedence_in, unknown_in_body}
use Rattle.lrtext.proofs.NumberedNames.{has_first_appearances}

-- ---- precedences

abbrev name_given : List ℕ × Precedence → List ℕ
name_given p = p.0

-- a line's names
only_names : (p : Precedence) (ws : List (List ℕ)) → map name_given (map (λ w. (w, p)) ws) ≡ ws
only_names p [] = refl
only_names p (w ∷ ws) = ap (λ vs. w ∷ vs) (only_names p ws)

-- the names that precedence lines give a level, whatever the first level
pub precedences_named : (n : ℕ) (ls : List (Kind × List (List ℕ))) → map (λ p. p.0) (flat_map names_at_level (enumerate_from n ls)) ≡ flat_map (λ l. l.1) ls
precedences_named n [] = refl
precedences_named n (l ∷ ls) =
    map-append name_given (names_at_level (n, l)) (flat_map names_at_level (enumerate_from (n + 1) ls))
    ∙ ap (λ ws. ws ++ map name_given (flat_map names_at_level (enumerate_from (n + 1) ls))) (only_names (record { level = n; kind = l.0 }) l.1)
    ∙ ap (λ ws. l.1 ++ ws) (precedences_named (n + 1) ls)

-- the precedence of a name at the first place or behind it
first_or_other : (p : List ℕ × Precedence) (ps : List (List ℕ × Precedence)) (w : List ℕ) (b : Bool) → bytes_eq w p.0 ≡ b → precedence_in ps w ≡ option_map (λ q. q.1) (slice_get ps (place_of (map name_given ps) w)) → precedence_in (p ∷ ps) w ≡ option_map (λ q. q.1) (slice_get (p ∷ ps) (place_of (map name_given (p ∷ ps)) w))
first_or_other p ps w true e other = rw e refl
first_or_other p ps w false e other =
    let n = place_of (map name_given ps) w in
    let next : suc n ≡ 1 + n = omega arith in
    rw e (other ∙ ap (λ k. option_map (λ (q : List ℕ × Precedence). q.1) (slice_get (p ∷ ps) k)) next)

-- a further line has the next number
numbered_push : (n : ℕ) (ls : List (Kind × List (List ℕ))) (l : Kind × List (List ℕ)) → enumerate_from n (ls ++ l ∷ []) ≡ enumerate_from n ls ++ (n + length ls, l) ∷ []
numbered_push n [] l = let same : n ≡ n + 0 = omega arith in ap (λ k. (k, l) ∷ []) same
numbered_push n (k ∷ ls) l =
    let same : (n + 1) + length ls ≡ n + suc (length ls) = omega arith in
    ap (λ ms. (n, k) ∷ ms) (numbered_push (n + 1) ls l ∙ ap (λ m. enumerate_from (n + 1) ls ++ (m, l) ∷ []) same)

-- a further precedence line has the next level
pub precedences_push : (ls : List (Kind × List (List ℕ))) (l : Kind × List (List ℕ)) → flat_map names_at_level (enumerate_from 0 (ls ++ l ∷ [])) ≡ flat_map names_at_level (enumerate_from 0 ls) ++ names_at_level (length ls, l)
precedences_push ls l =
    let first : 0 + length ls ≡ length ls = omega arith in
    ap (flat_map names_at_level) (numbered_push 0 ls l)
    ∙ flat_map-append names_at_level (enumerate_from 0 ls) ((0 + length ls, l) ∷ [])
    ∙ ap (λ ps. flat_map names_at_level (enumerate_from 0 ls) ++ ps) (append-nil _ ∙ ap (λ n. names_at_level (n, l)) first)

-- the precedence of a name stands at its place
pub precedence_at_place : (ps : List (List ℕ × Precedence)) (w : List ℕ) → precedence_in ps w ≡ option_map (λ p. p.1) (slice_get ps (place_of (map (λ p. p.0) ps) w))
precedence_at_place [] w = refl
precedence_at_place (p ∷ ps) w = first_or_other p ps w (bytes_eq w p.0) refl (precedence_at_place ps w)

-- ---- names that nothing defines

-- lists of the same names tell the same names unknown
known_alike : (rules ds es : List (List ℕ)) → ((w : List ℕ) → has_name ds w ≡ has_name es w) → (n : NameText) → unknown_in_body rules ds n ≡ unknown_in_body rules es n
known_alike rules ds es same (Plain w) = rw (same w) refl
known_alike rules ds es same (InQuotes w) = refl

-- which names are unknown stays where each declared name is kept once
pub unknown_by_numbers : (rules ds : List (List ℕ)) (ns : List NameText) → filter_map (unknown_in_body rules (first_appearances ds)) ns ≡ filter_map (unknown_in_body rules ds) ns
unknown_by_numbers rules ds ns = ap (λ f. filter_map f ns) (fun_ext (known_alike rules (first_appearances ds) ds (has_first_appearances ds)))

-- what is shown of a text with a character more
use Rattle.std.proofs.Common.{◌≡◌, ℕ, List, [], ◌∷◌, ◌++◌, map, ap, sym, ◌∙◌, append-nil, encode_utf8}
use lib.Utf8.{encodes}
use Rattle.std.proofs.lemmas.Str.{encodes-append}
use Rattle.std.proofs.lemmas.List.{map-append}
use Rattle.std.specs.Prelude.{encode_utf8_all}
use Rattle.lrdiagnostics.specs.ShownTexts.{shown_character}

pub shown_more :
    (cs : List ℕ) (c : ℕ)
    → encode_utf8_all (map shown_character cs) ++ encode_utf8 (shown_character c) ≡ encode_utf8_all (map shown_character (cs ++ c ∷ []))
shown_more cs c =
    let more : encodes (map shown_character cs ++ shown_character c ∷ []) ≡ encodes (map shown_character cs) ++ encode_utf8 (shown_character c) =
    encodes-append (map shown_character cs) (shown_character c ∷ []) ∙ ap (λ x. encodes (map shown_character cs) ++ x) (append-nil (encode_utf8 (shown_character c))) in
    sym more ∙ ap encodes (sym (map-append shown_character cs (c ∷ [])))

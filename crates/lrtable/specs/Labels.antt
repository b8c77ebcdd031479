-- the labels of productions, made once for all lines
use Rattle.std.specs.Prelude.{◌≡◌, ℕ, List, [], ◌++◌, String, map, length, codes, slice_index_or}
use Rattle.std.specs.List.{flat_map, range_with_len}
use Rattle.std.specs.String.{string_bytes}
use Rattle.lrspec.specs.grammars.Grammar.{Grammar}
use Rattle.lrspec.specs.texts.MachineLines.{production_label}

-- these are the labels of all productions of the grammar, in order
abbrev pub AreLabels : {Z : Type 0} → Grammar → List (String Z) → Type 0
AreLabels g labels =
    map string_bytes labels ≡ map (production_label g) (range_with_len 0 (length g.productions))

-- the labels at these places, a space before each
abbrev pub labels_text : {Z : Type 0} → List (String Z) → List ℕ → List ℕ
labels_text labels ps =
    flat_map (λ p. codes " " ++ slice_index_or (map string_bytes labels) p []) ps

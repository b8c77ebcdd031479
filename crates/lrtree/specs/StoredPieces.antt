-- pieces, as the code stores them
use Rattle.std.specs.Prelude.{◌≡◌, ℕ, List, [], map, length, slice_index_or}
use Rattle.std.specs.declared.vec.Vec.{Vec}
use Rattle.std.specs.List.{range_with_len}
use Rattle.lrspec.specs.grammars.Grammar.{Grammar}
use Rattle.lrtree.specs.declared.pieces.Draft as stored
use Rattle.lrtree.specs.Pieces.{Draft, pieces_of}

-- texts in a row
abbrev pub texts_of : {Y : Type 0} → List (Vec ℕ Y) → List (List ℕ)
texts_of vs = map (λ v. v.items) vs

-- those of each production in order
abbrev pub pieces_stored : {Y Z : Type 0} → List (Vec (Vec ℕ Y) Z) → List (List (List ℕ))
pieces_stored nodes = map (λ v. texts_of v.items) nodes

-- those of the production `p`
abbrev pub pieces_at : {Y Z : Type 0} → List (Vec (Vec ℕ Y) Z) → ℕ → List (List ℕ)
pieces_at nodes p = slice_index_or (pieces_stored nodes) p []

-- these are the pieces of all productions of the grammar, in order
abbrev pub ArePieces : {Y Z : Type 0} → Grammar → List (Vec (Vec ℕ Y) Z) → Type 0
ArePieces g nodes =
    pieces_stored nodes ≡ map (pieces_of g) (range_with_len 0 (length g.productions))

-- pieces in the making
abbrev pub stored_draft : stored.Draft → Draft
stored_draft d = record { pieces = texts_of d.pieces.items; text = d.text.items }

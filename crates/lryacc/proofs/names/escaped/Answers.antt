use Rattle.std.proofs.Common.{◌≡◌, ◌∙◌, ◌+◌, ◌++◌, ◌∷◌, [], ◌<◌, ℕ, List, ap, get_or, length, string_bytes, sym, take}
use Rattle.std.proofs.lemmas.Grind.{flat_map-append}
use Rattle.std.proofs.lemmas.List.{append-nil, take_more}
use Rattle.std.specs.List.{flat_map}
use Rattle.lryacc.specs.NamedSymbols.{escaped_byte}
use Rattle.lryacc.proofs.names.escaped.Goals as goal

-- one byte more is written
one-more : (old name : List ℕ) (i d : ℕ) → i < length name → old ≡ flat_map escaped_byte (take i name) → old ++ escaped_byte (get_or name i d) ≡ flat_map escaped_byte (take (i + 1) name)
one-more old name i d below so_far =
    let before = flat_map escaped_byte (take i name) in
    let last = escaped_byte (get_or name i d) in
    ap (λ (bytes : List ℕ). bytes ++ last) so_far
    ∙ sym (ap (flat_map escaped_byte) (take_more name i d below) ∙ flat_map-append escaped_byte (take i name) (get_or name i d ∷ []) ∙ ap (λ (bytes : List ℕ). before ++ bytes) (append-nil last))

pub loop-byte-preserved : goal.loop-byte-preserved
loop-byte-preserved c =
    c.in_ok-add_escaped.ensures ∙ one-more (string_bytes c.loop-byte.text) c.args.name.now c.loop-byte.byte-index _ c.loop-byte-test.true c.loop-byte.invariant

use Rattle.std.proofs.Common.{◌≡◌, map, take}
use Rattle.lrspec.specs.texts.Meaning.{symbol_in}
use Rattle.lrtext.specs.StoredParts.{part_symbol_of}
use Rattle.lrtext.specs.StoredContents.{name_text_of}
use Rattle.lrtext.proofs.meaning.symbols.Given as goal

abbrev pub invariant-loop-name : goal.invariant-loop-name
invariant-loop-name l = map part_symbol_of l.symbols.items ≡ map (symbol_in l.rules l.tokens) (map name_text_of (take l.name-index l.body))

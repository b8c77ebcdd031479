use Rattle.std.proofs.Common.{map, sym, subst}
use Rattle.lrspec.specs.tables.LrTables.{HasNoPrecedences}
use Rattle.lrspec.specs.texts.Parts.{grammar_of_parts}
use Rattle.lrtext.specs.StoredParts.{parts_of, token_of}
use Rattle.lrreasons.proofs.PlainTokens.{plain_parts, none_left}
use Rattle.lrreasons.proofs.precedences.drop_precedences.Goals as goal

pub returns-clause-parts : goal.returns-clause-parts
returns-clause-parts c =
    plain_parts (parts_of c.args.parts.now) (map token_of c.in_ok-parts.field-0.items) (rw c.deref.ensures.value at c.in_ok-parts.ensures)

pub returns-clause-none : goal.returns-clause-none
returns-clause-none c =
    subst (λ ps. HasNoPrecedences (grammar_of_parts ps)) (sym (returns-clause-parts c)) (none_left (parts_of c.args.parts.now))

use Rattle.std.proofs.Common.{◌≡◌, ◌+◌, ◌⊎◌}
use Rattle.lryacc.specs.declared.lexemes.LexemeKind.TheVariants.{QuotedName, QuotedText}
use Rattle.lryacc.specs.QuotesRead.{ArePartsUpTo, has_quote}
use Rattle.lryacc.proofs.grmtools_lexemes.quoted.Given as goal

abbrev pub invariant-loop-at : goal.invariant-loop-at
invariant-loop-at l = ((l.kind ≡ QuotedName) ⊎ (l.kind ≡ QuotedText))
    × ArePartsUpTo l.quote l.text (l.from + 1) (has_quote l.kind) l.at l.before

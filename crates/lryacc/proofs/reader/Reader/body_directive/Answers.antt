use Rattle.std.proofs.Common.{refl}
use Rattle.lryacc.specs.declared.lexemes.LexemeKind.TheVariants as kind
use Rattle.lryacc.proofs.BodiesRead.{ReadsBehind-skips, ReadsBehind-stays, ReadsBehind-takes}
use Rattle.lryacc.proofs.NamesOfOne.{ok-then}
use Rattle.lryacc.proofs.reader.Reader.body_directive.Goals as goal

pub returns-in_ok-only-in-Empty-clause-read : goal.returns-in_ok-only-in-Empty-clause-read
returns-in_ok-only-in-Empty-clause-read c = ReadsBehind-stays c.only.ensures.stays

pub returns-in_ok-only-in-BodyTag-clause-read : goal.returns-in_ok-only-in-BodyTag-clause-read
returns-in_ok-only-in-BodyTag-clause-read c =
    ReadsBehind-takes kind.Tag c.in_ok-tag-in-BodyTag.ensures.taken c.only-in-BodyTag.ensures.stays refl

pub returns-in_ok-only-in-BodyNumber-clause-read : goal.returns-in_ok-only-in-BodyNumber-clause-read
returns-in_ok-only-in-BodyNumber-clause-read c =
    ReadsBehind-takes kind.Number c.in_ok-number-in-BodyNumber.ensures.taken c.only-in-BodyNumber.ensures.stays refl

pub returns-in_default-clause-read : goal.returns-in_default-clause-read
returns-in_default-clause-read c = ok-then c.pass_wanted.result (λ skips. ReadsBehind-skips kind.Number skips refl) c.pass_wanted.ensures.taken

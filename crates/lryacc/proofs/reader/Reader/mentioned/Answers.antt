use Rattle.std.proofs.Common.{◌∙◌, refl}
use Rattle.lryacc.specs.declared.contents.Statement.TheVariants as says
use Rattle.lryacc.specs.declared.lexemes.LexemeKind.TheVariants as kind
use Rattle.lryacc.proofs.DeclarationsRead.{listed-again, nothing-skips, nothing-symbol, states-other, stays-listed}
use Rattle.lryacc.proofs.reader.Reader.mentioned.Goals as goal
use Rattle.lryacc.proofs.reader.Reader.mentioned.Goals.{then-skip-via-then-skip, then-skip-via-else-skip+then-skip-2}

pub returns-then-skip-clause-listed : goal.returns-then-skip-clause-listed
returns-then-skip-clause-listed c =
    let one = nothing-skips kind.Tag refl c.requires c.skip.result c.skip.ensures.skipped c.skip.ensures.statements in
    elim c.then-skip.branch [
      | then-skip-via-then-skip w ↦ rw w.self-is one
      | then-skip-via-else-skip+then-skip-2 w ↦
          let other = w.skip-else-skip in
          rw w.self-is (listed-again one (nothing-skips kind.AnyTag refl (one.form ∙ c.requires) other.result other.ensures.skipped other.ensures.statements))
    ]

pub returns-in_default-clause-listed : goal.returns-in_default-clause-listed
returns-in_default-clause-listed c =
    let one = nothing-skips kind.Tag refl c.requires c.skip.result c.skip.ensures.skipped c.skip.ensures.statements in
    let other = c.skip-else-skip in
    let both = listed-again one (nothing-skips kind.AnyTag refl (one.form ∙ c.requires) other.result other.ensures.skipped other.ensures.statements) in
    listed-again both (stays-listed c.in_default.ensures.taken c.in_default.ensures.statements)

pub returns-clause-listed : goal.returns-clause-listed
returns-clause-listed c =
    let one = nothing-skips kind.Tag refl c.requires c.skip.result c.skip.ensures.skipped c.skip.ensures.statements in
    let other = c.skip-else-skip in
    let both = listed-again one (nothing-skips kind.AnyTag refl (one.form ∙ c.requires) other.result other.ensures.skipped other.ensures.statements) in
    listed-again (listed-again both (nothing-symbol (both.form ∙ c.requires) c.in-Some.ensures.taken c.take_symbol.ensures.statements))
    (states-other (says.Mention c.in-Some.symbol) refl c.state.ensures.stays c.in_ok-state.ensures.stated)

use Rattle.std.proofs.Common.{◌∙◌, refl}
use Rattle.lryacc.specs.declared.lexemes.LexemeKind.TheVariants as kind
use Rattle.lryacc.proofs.BodiesRead.{over_again}
use Rattle.lryacc.proofs.DeclarationsRead.{form-kind, listed-again, listed-none, over-none, silent-skipped, skips-taken}
use Rattle.lryacc.proofs.reader.Reader.code_for_symbols.Goals.{else-loop-test, then-loop-test+in_ok-mentioned+then-not-branch}
use Rattle.lryacc.proofs.reader.Reader.code_for_symbols.Goals as goal

pub loop-init : goal.loop-init
loop-init c = record { over = over-none c.pass_wanted.new.self; listed = listed-none c.pass_wanted.new.self }

pub mentioned-requires : goal.mentioned-requires
mentioned-requires c = c.loop.invariant.listed.form ∙ form-kind kind.Action (skips-taken kind.Action c.in_ok-pass_wanted.ensures.taken).1

pub loop-preserved : goal.loop-preserved
loop-preserved c = record {
  over = over_again c.loop.invariant.over c.mentioned.ensures.over;
  listed = listed-again c.loop.invariant.listed c.in_ok-mentioned.ensures.listed;
}

pub returns-clause-said : goal.returns-clause-said
returns-clause-said c =
    let code = silent-skipped kind.Action refl c.in_ok-pass_wanted.ensures.taken c.pass_wanted.ensures.statements in
    elim c.loop-test.branch [
      | else-loop-test w ↦ rw w.self-is (c.loop.invariant.listed.declared ∙ code)
      | then-loop-test+in_ok-mentioned+then-not-branch w ↦ rw w.self-is (w.in_ok-mentioned.ensures.listed.declared ∙ (c.loop.invariant.listed.declared ∙ code))
    ]

use Rattle.std.proofs.Common.{◌∙◌, refl}
use Rattle.lryacc.specs.declared.contents.Statement.TheVariants as says
use Rattle.lryacc.specs.declared.lexemes.LexemeKind.TheVariants as kind
use Rattle.lryacc.specs.Bodies.{SkipsKind}
use Rattle.lryacc.specs.DeclarationsRead.{StatesDeclared}
use Rattle.lryacc.proofs.AllBodiesRead.{on_ok_map}
use Rattle.lryacc.proofs.DeclarationsRead.{listed-again, nothing-skips, nothing-symbol, silent-skipped, states-other}
use Rattle.lryacc.proofs.reader.Reader.shown_text.Goals as goal

pub returns-then-skip-clause-said : goal.returns-then-skip-clause-said
returns-then-skip-clause-said c =
    let one = listed-again (nothing-symbol c.requires c.in_ok-token.ensures.taken c.want_symbol.ensures.statements)
    (states-other (says.Mention c.in_ok-token.token) refl c.state.ensures.stays c.in_ok-state.ensures.stated) in
    (listed-again one (nothing-skips kind.QuotedName refl (one.form ∙ c.requires) c.skip.result c.skip.ensures.skipped c.skip.ensures.statements)).declared

pub returns-clause-said : goal.returns-clause-said
returns-clause-said c =
    let one = listed-again (nothing-symbol c.requires c.in_ok-token.ensures.taken c.want_symbol.ensures.statements)
    (states-other (says.Mention c.in_ok-token.token) refl c.state.ensures.stays c.in_ok-state.ensures.stated) in
    let two = listed-again one (nothing-skips kind.QuotedName refl (one.form ∙ c.requires) c.skip.result c.skip.ensures.skipped c.skip.ensures.statements) in
    on_ok_map c.pass_wanted.result (SkipsKind c.skip.new.self c.pass_wanted.new.self kind.QuotedText) (StatesDeclared c.args.self.now c.pass_wanted.new.self)
    (λ skips. silent-skipped kind.QuotedText refl skips c.pass_wanted.ensures.statements ∙ two.declared)
    c.pass_wanted.ensures.taken

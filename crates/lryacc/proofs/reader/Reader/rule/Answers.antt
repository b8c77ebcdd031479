use Rattle.std.proofs.Common.{◌∙◌, refl}
use Rattle.lryacc.proofs.AllBodiesRead.{on_ok_map, reads_rule}
use Rattle.lryacc.proofs.BodiesRead.{begins_taken, over_again, over_skips, over_stays, rule_kept, rule_taken}
use Rattle.lryacc.specs.AllBodies.{ReadsAlternatives, ReadsBodies}
use Rattle.lryacc.specs.declared.lexemes.LexemeKind.TheVariants as kind
use Rattle.lryacc.specs.declared.contents.Statement.TheVariants as says
use Rattle.lryacc.proofs.DeclarationsRead.{silent-skips, silent-taken, states-other, tail-declared}
use Rattle.lryacc.proofs.reader.Reader.rule.Goals as goal

pub returns-clause-read : goal.returns-clause-read
returns-clause-read c =
    let passed = over_again (over_stays c.state.ensures.stays) (over_skips kind.BracketName refl c.skip.result c.skip.ensures.skipped) in
    on_ok_map c.alternatives.result
    (ReadsAlternatives c.want-2.new.self c.alternatives.new.self)
    (ReadsBodies 1 c.args.self.now c.alternatives.new.self)
    (reads_rule c.args.self.now c.want.new.self c.skip.new.self c.want-2.new.self c.alternatives.new.self c.in_ok-name.name c.in_ok-colon.colon
    c.in_ok-name.ensures.taken passed c.in_ok-colon.ensures.taken)
    c.alternatives.ensures.read

pub alternatives-requires : goal.alternatives-requires
alternatives-requires c =
    let named = rule_kept _ (over_stays c.state.ensures.stays) (rule_taken c.in_ok-name.ensures.taken) in
    begins_taken _ kind.Colon c.in_ok-colon.ensures.taken refl refl
    (rule_kept _ (over_skips kind.BracketName refl c.skip.result c.skip.ensures.skipped) named)

pub returns-clause-said : goal.returns-clause-said
returns-clause-said c =
    tail-declared c.args.self.now c.want-2.new.self c.alternatives.new.self c.alternatives.result
    (silent-taken kind.Colon refl c.in_ok-colon.ensures.taken c.want-2.ensures.statements
    ∙ (silent-skips c.state.new.self c.skip.new.self kind.BracketName refl c.skip.result c.skip.ensures.skipped c.skip.ensures.statements
    ∙ ((states-other (says.LeftSide c.in_ok-name.name) refl c.state.ensures.stays c.in_ok-state.ensures.stated).declared
    ∙ silent-taken kind.RuleName refl c.in_ok-name.ensures.taken c.want.ensures.statements)))
    c.alternatives.ensures.said

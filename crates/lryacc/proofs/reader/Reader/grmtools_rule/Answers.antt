use Rattle.std.proofs.Common.{◌∙◌, refl}
use Rattle.lryacc.specs.AllBodies.{ReadsBodies}
use Rattle.lryacc.proofs.AllBodiesRead.{alternatives_still, bodies_over, on_ok, reads_rule}
use Rattle.lryacc.proofs.BodiesRead.{begins_still, begins_taken, over_skips, rule_kept, rule_taken}
use Rattle.lryacc.specs.declared.lexemes.LexemeKind.TheVariants as kind
use Rattle.lryacc.specs.declared.contents.Statement.TheVariants as says
use Rattle.lryacc.proofs.DeclarationsRead.{silent-skips, silent-taken, states-other, tail-declared}
use Rattle.lryacc.proofs.reader.Reader.grmtools_rule.Goals as goal

pub alternatives-requires : goal.alternatives-requires
alternatives-requires c =
    begins_still _ c.state.ensures.stays
    (begins_taken _ kind.Colon c.in_ok-colon.ensures.taken refl refl
    (rule_kept _ (over_skips kind.RuleType refl c.skip.result c.skip.ensures.skipped) (rule_taken c.in_ok-name.ensures.taken)))

pub returns-clause-read : goal.returns-clause-read
returns-clause-read c =
    let passed = over_skips kind.RuleType refl c.skip.result c.skip.ensures.skipped in
    let alternatives =
    alternatives_still c.want-2.new.self c.state.new.self c.alternatives.new.self c.state.ensures.stays c.in_ok-alternatives.ensures.read in
    on_ok c.want_unless_broken.result (ReadsBodies 1 c.args.self.now c.want_unless_broken.new.self)
    (bodies_over 1 c.args.self.now c.alternatives.new.self c.want_unless_broken.new.self
    (reads_rule c.args.self.now c.want.new.self c.skip.new.self c.want-2.new.self c.alternatives.new.self c.in_ok-name.name c.in_ok-colon.colon
    c.in_ok-name.ensures.taken passed c.in_ok-colon.ensures.taken alternatives)
    c.want_unless_broken.ensures.over)

pub returns-clause-said : goal.returns-clause-said
returns-clause-said c =
    tail-declared c.args.self.now c.alternatives.new.self c.want_unless_broken.new.self c.want_unless_broken.result
    (c.in_ok-alternatives.ensures.said
    ∙ ((states-other (says.LeftSide c.in_ok-name.name) refl c.state.ensures.stays c.in_ok-state.ensures.stated).declared
    ∙ (silent-taken kind.Colon refl c.in_ok-colon.ensures.taken c.want-2.ensures.statements
    ∙ (silent-skips c.want.new.self c.skip.new.self kind.RuleType refl c.skip.result c.skip.ensures.skipped c.skip.ensures.statements
    ∙ silent-taken kind.RuleName refl c.in_ok-name.ensures.taken c.want.ensures.statements))))
    c.want_unless_broken.ensures.said

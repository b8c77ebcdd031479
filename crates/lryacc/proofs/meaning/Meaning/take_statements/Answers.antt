use Rattle.std.proofs.Common.{◌<◌, List, length, refl, subst}
use Rattle.std.proofs.lemmas.List.{take_all, take_more}
use Rattle.std.proofs.lemmas.List.Elements.{Contains-get_or}
use Rattle.lryacc.specs.declared.contents.Statement.{Statement}
use Rattle.lryacc.specs.Aliases.{TakesAliases}
use Rattle.lryacc.specs.EndTokens.{TakesEnd}
use Rattle.lryacc.specs.LinesTaken.{TakesLines}
use Rattle.lryacc.specs.SaidTaken.{TakesSaid}
use Rattle.lryacc.proofs.AliasesTaken.{takes_more_aliases, takes_no_aliases}
use Rattle.lryacc.proofs.EndsTaken.{takes_more_end, takes_none}
use Rattle.lryacc.proofs.LinesHeld.{takes_more_lines, takes_no_lines}
use Rattle.lryacc.proofs.NamesOfOne.{takes_more}
use Rattle.lryacc.proofs.SaidHeld.{takes_more_said, takes_none_said}
use Rattle.lryacc.proofs.meaning.Meaning.take_statements.Goals as goal

pub loop-statement-init : goal.loop-statement-init
loop-statement-init c = record {
  taken = record {
    names = record { text = refl; dialect = refl; words = refl; characters = refl };
    partnered = λ h. h;
  };
  end = takes_none c.args.self.now;
  aliases = takes_no_aliases c.args.self.now;
  lines = takes_no_lines c.args.self.now;
  said = takes_none_said c.args.self.now;
}

pub loop-statement-preserved : goal.loop-statement-preserved
loop-statement-preserved c =
    let all = c.args.statements.now in
    let index = c.loop-statement.statement-index in
    let below : index < length all = c.loop-statement-test.true in
    let one = c.in_ok-take_statement.ensures in
    let so_far = c.loop-statement.invariant in
    record {
      taken = takes_more all _ (Contains-get_or all index _ below) so_far.taken one.taken;
      end = takes_more_end _ _ _ _ _ _ (take_more all index _ below) so_far.end one.taken.names one.end;
      aliases = takes_more_aliases _ _ _ (take_more all index _ below) so_far.aliases one.aliases;
      lines = takes_more_lines _ _ _ (take_more all index _ below) so_far.lines one.lines;
      said = takes_more_said _ _ _ (take_more all index _ below) so_far.taken.names so_far.said one.said;
    }

pub returns-clause-end : goal.returns-clause-end
returns-clause-end c =
    subst (λ (xs : List Statement). TakesEnd xs c.args.self.now c.loop-statement.self) (take_all _ _ c.loop-statement-test.false) c.loop-statement.invariant.end

pub returns-clause-lines : goal.returns-clause-lines
returns-clause-lines c =
    subst (λ (xs : List Statement). TakesLines xs c.args.self.now c.loop-statement.self) (take_all _ _ c.loop-statement-test.false) c.loop-statement.invariant.lines

pub returns-clause-said : goal.returns-clause-said
returns-clause-said c =
    subst (λ (xs : List Statement). TakesSaid xs c.args.self.now c.loop-statement.self) (take_all _ _ c.loop-statement-test.false) c.loop-statement.invariant.said

pub returns-clause-aliases : goal.returns-clause-aliases
returns-clause-aliases c =
    subst (λ (xs : List Statement). TakesAliases xs c.args.self.now c.loop-statement.self) (take_all _ _ c.loop-statement-test.false) c.loop-statement.invariant.aliases

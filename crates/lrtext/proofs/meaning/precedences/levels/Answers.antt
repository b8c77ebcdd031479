use Rattle.std.proofs.Common.{map}
use Rattle.lrtext.specs.StoredContents.{kind_line_of}
use Rattle.lrtext.specs.StoredLevels.{leveled_of}
use Rattle.lrtext.proofs.LevelFacts.{one_more_line, all_lines}
use Rattle.lrtext.proofs.meaning.precedences.levels.Goals as goal

-- one more line
pub loop-level-preserved : goal.loop-level-preserved
loop-level-preserved c =
    one_more_line kind_line_of c.deref-line-items.result.now c.loop-level.level c.line-item.result (map leveled_of c.loop-level.leveled.items) (map leveled_of c.push_line.new.leveled.items) c.loop-level-test.true c.line-item.is c.loop-level.invariant c.in_ok-push_line.ensures

-- all lines were gone along
pub returns : goal.returns
returns c = all_lines kind_line_of c.deref-line-items.result.now c.args.contents.now.kind_lines.items c.loop-level.level (map leveled_of c.loop-level.leveled.items) c.loop-level-test.false c.deref-line-items.ensures.value c.loop-level.invariant

use Rattle.std.proofs.Common.{◌∙◌}
use Rattle.lryacc.proofs.BodiesRead.{over_again}
use Rattle.lryacc.proofs.DeclarationsRead.{listed-again, listed-none, over-none, said-still}
use Rattle.lryacc.proofs.reader.Reader.listing.Goals.{else-loop-test, then-loop-test+in_ok-listed_part+then-not-branch}
use Rattle.lryacc.proofs.reader.Reader.listing.Goals as goal

pub loop-init : goal.loop-init
loop-init c = record { over = over-none c.args.self.now; listed = listed-none c.args.self.now }

pub listed_part-requires : goal.listed_part-requires
listed_part-requires c = said-still c.args.said c.loop.invariant.listed.form c.requires

pub loop-preserved : goal.loop-preserved
loop-preserved c = record {
  over = over_again c.loop.invariant.over c.listed_part.ensures.over;
  listed = listed-again c.loop.invariant.listed c.in_ok-listed_part.ensures.listed;
}

pub returns-clause-said : goal.returns-clause-said
returns-clause-said c =
    elim c.loop-test.branch [
      | else-loop-test w ↦ rw w.self-is (c.loop.invariant.listed.declared)
      | then-loop-test+in_ok-listed_part+then-not-branch w ↦ rw w.self-is (w.in_ok-listed_part.ensures.listed.declared ∙ c.loop.invariant.listed.declared)
    ]

pub returns-clause-over : goal.returns-clause-over
returns-clause-over c =
    elim c.loop-test.branch [
      | else-loop-test w ↦ rw w.self-is (c.loop.invariant.over)
      | then-loop-test+in_ok-listed_part+then-not-branch w ↦ rw w.self-is (over_again c.loop.invariant.over w.listed_part.ensures.over)
    ]

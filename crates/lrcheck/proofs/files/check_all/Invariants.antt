-- those so far
use Rattle.std.proofs.Common.{is_some, map, take}
use Rattle.lrcheck.specs.Checked.{AreChecked}
use Rattle.lrcheck.proofs.files.check_all.Given as goal

abbrev pub invariant-loop-k : goal.invariant-loop-k
invariant-loop-k g l =
    AreChecked l.options (g.F.Files.contents l.files) (is_some l.page) (g.W.Write.contents l.initial.output) (take l.k (map (λ name. name.now) l.names)) (g.W.Write.contents l.output) l.status

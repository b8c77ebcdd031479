use Rattle.std.proofs.Common.{drop, sym, arith}
use Rattle.std.proofs.lemmas.List.{take-append-drop, drop_all, length-map}
use Rattle.lrtable.specs.RunAnswers.{text_of}
use Rattle.lrambiguity.proofs.DeadEnds.{nothing_shifted}
use Rattle.lrambiguity.proofs.StoredLeaves.{leaf_of_token}
use Rattle.lrambiguity.proofs.ReplaySteps.{shift_made}
use Rattle.lrambiguity.proofs.replays.Replay.shift.Goals as goal

pub returns-clause-made : goal.returns-clause-made
returns-clause-made g c = λ _ m ms.
    let number = g.T.IndexStorage.number in
    let found = c.in-Some.ensures.lookup in
    let old = c.args.self.now in
    let now = c.push.new.self in
    let is = c.in_ok-push.ensures in
    shift_made number m ms old.roots.items old.trees.items c.args.text.now old.used now.used c.in-Some.tidx.now _ now.roots.items now.trees.items found.3.0 found.1
    is.used (leaf_of_token number c.in-Some.tidx.now) is.trees is.roots

pub returns-in_default-clause-nowhere : goal.returns-in_default-clause-nowhere
returns-in_default-clause-nowhere g c = λ _ m shape ms rest made t.
    let number = g.T.IndexStorage.number in
    let used = c.args.self.now.used in
    let text = text_of number c.args.text.now in
    nothing_shifted shape made text (drop used text) (sym (take-append-drop used text)) rest t (drop_all used text (omega (arith, length-map c.args.text.now (λ x. number x.0), c.in_default.ensures.lookup.3)))

use Rattle.std.proofs.lemmas.List.Elements.{All-push, All-set}
use Rattle.lrsparse.specs.declared.sparsevec.starts.Start.{Start}
use Rattle.lrsparse.specs.Starts.{FitNowhereBelow}
use Rattle.lrsparse.proofs.sparsevec.starts.Starts.note.Goals as goal

pub returns-then-place-len : goal.returns-then-place-len
returns-then-place-len c = λ words are none.
    All-set (λ (s : Start). FitNowhereBelow words s.columns s.displacement) c.args.self.now.all.items c.place-place.result
    (record { columns = c.args.columns; displacement = c.args.displacement }) none are

pub returns : goal.returns
returns c = λ words are none.
    rw c.in_ok-push.ensures.items
    (All-push (λ (s : Start). FitNowhereBelow words s.columns s.displacement) c.args.self.now.all.items
    (record { columns = c.args.columns; displacement = c.args.displacement }) are none)

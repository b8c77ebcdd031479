use Rattle.std.specs.Prelude.{IsSome}
use Rattle.lrreport.proofs.OneCause.{of_each}
use Rattle.lrreport.proofs.causes.Cause.has_sentences.Goals as goal

pub returns : goal.returns
returns c = λ told. of_each (λ e. IsSome e.ambiguity) (λ m. m.now) c.args.self.now.meetings.items (rw c.as_slice.ensures.value at (c.have_all_sentences.ensures told))

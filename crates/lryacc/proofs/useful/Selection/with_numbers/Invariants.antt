use Rattle.std.proofs.Common.{◌≡◌, ◌++◌, length}
use Rattle.std.specs.Iterator.Adapters.{zip_first, zip_second}
use Rattle.std.specs.Slice.Iter.{iter_rest}
use Rattle.std.specs.Vec.Iter.{into_iter_items, into_iter_len}
use Rattle.lryacc.specs.KeptProductions.{with_numbers}
use Rattle.lryacc.proofs.useful.Selection.with_numbers.Given as goal

abbrev pub invariant-loop-number : goal.invariant-loop-number
invariant-loop-number g l =
    let items = zip_second l.number-iterator in
    record {
      left :
          l.kept.items ++ with_numbers (iter_rest (zip_first l.number-iterator)) (into_iter_items items)
          ≡ with_numbers l.self.numbers.items l.fn.list.items;
      counted : into_iter_len items ≡ length (into_iter_items items);
    }

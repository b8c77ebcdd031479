use Rattle.std.proofs.Common.{◌≡◌, ◌-◌, length, Some, slice_get, refl, sym}
use Rattle.std.proofs.lemmas.Option.{get_or_from_slice_get}
use Rattle.lrtable.proofs.StackLists.{stack_top}
use Rattle.lrgrammar.specs.Symbols.{number_of}
use Rattle.lrcharts.proofs.machine.Machine.top.Goals as goal

pub returns-in-Some : goal.returns-in-Some
returns-in-Some c = λ deep.
    let xs = c.args.self.now.stack.items in
    let top = c.in-Some.state.now in
    let last : slice_get xs (length xs - 1) ≡ Some top = rw (← c.deref.ensures.value, ← c.last.ensures.value, c.in-Some.is) refl in
    sym (stack_top (λ s. number_of s.0) xs top deep (sym (get_or_from_slice_get xs (length xs - 1) top top last)))

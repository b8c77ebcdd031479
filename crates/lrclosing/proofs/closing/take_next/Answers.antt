use Rattle.std.proofs.Common.{◌≡◌, ◌∙◌, sym, arith}
use Rattle.lrclosing.proofs.MarkedProductions.{below_of_bit}
use Rattle.lrclosing.proofs.closing.take_next.Goals as goal

pub set-requires : goal.set-requires
set-requires g c = below_of_bit _ _ c.in_ok-place.ensures.is_set

pub next_set-requires-clause-order : goal.next_set-requires-clause-order
next_set-requires-clause-order g c = omega (arith, c.requires.place, c.requires.productions, c.from.ensures, c.prods_len.ensures.value)

pub next_set-requires-clause-end : goal.next_set-requires-clause-end
next_set-requires-clause-end g c = c.from.ensures ∙ c.prods_len.ensures.value ∙ sym c.requires.productions

pub returns-clause-was : goal.returns-clause-was
returns-clause-was g c =
    let e : g.T.IndexStorage.number c.unwrap.result ≡ c.in_ok-place.place = (rw c.unwrap.ensures at c.from_usize.ensures).1 in
    rw e c.in_ok-place.ensures.is_set

pub returns-clause-taken : goal.returns-clause-taken
returns-clause-taken g c =
    let e : g.T.IndexStorage.number c.unwrap.result ≡ c.in_ok-place.place = (rw c.unwrap.ensures at c.from_usize.ensures).1 in
    rw e c.set.ensures.after

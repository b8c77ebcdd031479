use Rattle.std.proofs.Common.{◌≡◌, true, sym, ◌∙◌, rules}
use Rattle.std.specs.Prelude.{option_map}
use Rattle.lrspec.specs.tables.Table.{bit_or_none, accepts_at}
use Rattle.lritems.specs.ItemsOf.{set_of}
use Rattle.lrrows.proofs.LeastReductions.{first_is}
use Rattle.lrrows.proofs.accept_reduce.accept_reduce_at.Goals as goal

pub accepted-requires : goal.accepted-requires
accepted-requires g c = c.requires.fits

pub completes-requires : goal.completes-requires
completes-requires g c = c.requires.fits

pub returns : goal.returns
returns g c =
    let a = set_of g.T.IndexStorage.number c.args.closed.now in
    let end = c.from-end.ensures ∙ c.eof_token_idx.ensures in
    let accepted : c.is_some_and.result ≡ bit_or_none (option_map (λ ctx. ctx.now) c.accepted.result) c.from-end.result = search rules in
    let accepts : accepts_at c.args.grm.now a c.from-end.result ≡ true =
    sym (c.accepted.ensures.accepts c.from-end.result) ∙ (sym accepted ∙ c.if-not-is_some_and.false) in
    let first = first_is c.args.grm.now a c.from-end.result c.requires.upwards c.requires.fits in
    rw (rw end at accepts) (rw end at (rw (c.as_slice.ensures.value, c.in_ok-completes.ensures.items) at c.least_at.ensures ∙ first))

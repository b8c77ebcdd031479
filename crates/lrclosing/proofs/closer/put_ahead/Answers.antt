use Rattle.std.proofs.Common.{◌≡◌, ◌∙◌, true, false, sym, Some}
use Rattle.lrspec.specs.grammars.Grammar.{rest}
use Rattle.lrclosing.proofs.PassedOn.{with_own, without_own}
use Rattle.lrclosing.proofs.PutLeads.{as_row}
use Rattle.lrclosing.proofs.closer.put_ahead.Goals as goal

pub returns-then-begun-clause-passed : goal.returns-then-begun-clause-passed
returns-then-begun-clause-passed g c =
    let grm = c.args.grm.now in
    let y = rest grm (g.T.IndexStorage.number c.args.pidx.0) c.args.from in
    let put = c.put_firsts-begun.ensures in
    rw c.or.ensures.after
    (as_row grm y (Some c.args.ctx.now) c.args.row.now _ c.requires.row
    (with_own grm y c.args.ctx.now (Some c.args.row.now.ctx) _ c.requires.bits (put.nullable.0 c.if-begun.true) put.put))

pub returns-else-begun-clause-passed : goal.returns-else-begun-clause-passed
returns-else-begun-clause-passed g c =
    let grm = c.args.grm.now in
    let y = rest grm (g.T.IndexStorage.number c.args.pidx.0) c.args.from in
    let put = c.put_firsts-begun.ensures in
    as_row grm y (Some c.args.ctx.now) c.args.row.now _ c.requires.row
    (without_own grm y (Some c.args.ctx.now) (Some c.args.row.now.ctx) _
    (λ t m h. let e : true ≡ false = sym (put.nullable.1 m) ∙ c.if-begun.false in cc) put.put)

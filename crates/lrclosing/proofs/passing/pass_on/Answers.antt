use Rattle.std.proofs.Common.{◌≡◌, ◌∙◌, Bool, true, false, refl, sym, Some}
use Rattle.std.specs.Prelude.{not}
use Rattle.std.specs.Option.{option_copied}
use Rattle.lrspec.specs.grammars.Grammar as math
use Rattle.lrclosing.proofs.PassedOn.{with_own, without_own, grown_union, grown_before}
use Rattle.lrclosing.proofs.passing.pass_on.Goals as goal

was_set : (b : Bool) → not b ≡ false → b ≡ true
was_set true e = refl
was_set false e = absurd cc

pub or-requires : goal.or-requires
or-requires g c = (rw c.in-Some.is at c.requires.ctx_len) ∙ sym c.put_firsts-begun.ensures.put.len

pub returns-then-not-begun-clause-passed : goal.returns-then-not-begun-clause-passed
returns-then-not-begun-clause-passed g c =
    let y = math.rest c.args.grm.now (g.T.IndexStorage.number c.args.pidx.0) c.args.from in
    without_own c.args.grm.now y (option_copied c.args.ctx) (Some c.args.row.now) _
    (λ t n h. let e : false ≡ true = rw (c.put_firsts-begun.ensures.nullable.1 n) at c.if-not-begun.true in cc)
    c.put_firsts-begun.ensures.put

pub returns-then-not-begun-clause-changed : goal.returns-then-not-begun-clause-changed
returns-then-not-begun-clause-changed g c = c.put_firsts-begun.ensures.changed

pub returns-in-Some-clause-passed : goal.returns-in-Some-clause-passed
returns-in-Some-clause-passed g c =
    let y = math.rest c.args.grm.now (g.T.IndexStorage.number c.args.pidx.0) c.args.from in
    rw (c.in-Some.is, c.or.ensures.after)
    (with_own c.args.grm.now y c.in-Some.own.now (Some c.args.row.now) _ (rw c.in-Some.is at c.requires.ctx_len)
    (c.put_firsts-begun.ensures.nullable.0 (was_set c.put_firsts-begun.result.is_nullable c.if-not-begun.false)) c.put_firsts-begun.ensures.put)

pub returns-in-Some-clause-changed : goal.returns-in-Some-clause-changed
returns-in-Some-clause-changed g c =
    let k = math.token_count c.args.grm.now in
    grown_before k c.put_firsts-begun.result.changed c.or.result (Some c.args.row.now) c.put_firsts-begun.new.row c.or.new.self c.put_firsts-begun.ensures.changed
    (grown_union k c.or.result c.put_firsts-begun.new.row c.in-Some.own.now c.or.new.self c.or.ensures.after c.or.ensures.changed)

pub returns-in-None-clause-passed : goal.returns-in-None-clause-passed
returns-in-None-clause-passed g c =
    let y = math.rest c.args.grm.now (g.T.IndexStorage.number c.args.pidx.0) c.args.from in
    rw c.in-None.is c.put_firsts-begun.ensures.put

pub returns-in-None-clause-changed : goal.returns-in-None-clause-changed
returns-in-None-clause-changed g c = c.put_firsts-begun.ensures.changed

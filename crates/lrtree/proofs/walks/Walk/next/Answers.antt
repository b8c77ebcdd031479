use Rattle.std.proofs.Common.{◌≡◌, ℕ, suc, ◌-◌, ◌++◌, [], length, refl, ap, ◌∙◌, arith}
use Rattle.std.specs.Option.{option_to_list}
use Rattle.lrspec.specs.grammars.Grammar.{body_of}
use Rattle.lrtree.specs.StoredWalks.{node_of, left_of}
use Rattle.lrtree.proofs.StoredSteps.{next_symbol, node_falls, some_open, stored_end, stored_begin, stored_token, place_below, some_left, entered_below, stored_entered}
use Rattle.lrtree.proofs.walks.Walk.next.Goals as goal

pub returns-then-last-eq0-clause-visit : goal.returns-then-last-eq0-clause-visit
returns-then-last-eq0-clause-visit g c = λ es k.
    let w = c.args.self.now in
    let number = g.T.IndexStorage.number in
    stored_end number c.args.grm.now w.«open».items c.len-last.result (omega (arith, c.len-last.ensures, w.«open».ok.0)) c.index.result.now c.index.ensures (left_of number w) es k c.if-missing-eq0.true c.if-last-eq0.true

pub returns-then-missing-eq0-clause-visit : goal.returns-then-missing-eq0-clause-visit
returns-then-missing-eq0-clause-visit g c = λ es k.
    let w = c.args.self.now in
    let number = g.T.IndexStorage.number in
    stored_begin number c.args.grm.now w.«open».items c.len-last.result (omega (arith, c.len-last.ensures, w.«open».ok.0)) c.index.result.now c.index.ensures (left_of number w) es k c.truncate.new.self.items c.truncate.ensures.items c.if-missing-eq0.true c.if-last-eq0.false

pub returns-in-Token-clause-visit : goal.returns-in-Token-clause-visit
returns-in-Token-clause-visit g c = λ es k.
    let w = c.args.self.now in
    let number = g.T.IndexStorage.number in
    let o = c.index.result.now in
    let m : ℕ = o.missing - 1 in
    let before : o.missing ≡ suc m = omega (arith, c.if-missing-eq0.false) in
    let count : c.len-last.result ≡ length w.«open».items = omega (arith, c.len-last.ensures, w.«open».ok.0) in
    let below = place_below number c.args.grm.now w.«open».items c.len-last.result count o c.index.ensures (left_of number w) es k m before (record { pidx = o.pidx; missing = m }) refl in
    stored_token number c.args.grm.now w.«open».items c.len-last.result count o c.index.ensures (left_of number w) es k m before (record { pidx = o.pidx; missing = m }) refl (number c.in-Token.tidx.0)
    (next_symbol number c.prod.result.now (body_of c.args.grm.now (number o.pidx.0)) m _ _ c.prod.ensures.body below c.in-Token.is)

pub unwrap-pidx-requires : goal.unwrap-pidx-requires
unwrap-pidx-requires g c =
    let w = c.args.self.now in
    let number = g.T.IndexStorage.number in
    let (es, k) = c.requires in
    let o = c.index.result.now in
    let m : ℕ = o.missing - 1 in
    let before : o.missing ≡ suc m = omega (arith, c.if-missing-eq0.false) in
    let count : c.len-last.result ≡ length w.«open».items = omega (arith, c.len-last.ensures, w.«open».ok.0) in
    let below = place_below number c.args.grm.now w.«open».items c.len-last.result count o c.index.ensures (left_of number w) es k m before (record { pidx = o.pidx; missing = m }) refl in
    let some = some_left number c.args.grm.now w.«open».items c.len-last.result count o c.index.ensures (left_of number w) es k m before (record { pidx = o.pidx; missing = m }) refl (number c.in-Rule.field-0.0)
    (next_symbol number c.prod.result.now (body_of c.args.grm.now (number o.pidx.0)) m _ _ c.prod.ensures.body below c.in-Rule.is) w.left.items [] refl in
    c.pop.ensures.variant.1 (omega (arith, some, w.left.ok.0))

pub prod_len-requires : goal.prod_len-requires
prod_len-requires g c =
    let w = c.args.self.now in
    let number = g.T.IndexStorage.number in
    let (es, k) = c.requires in
    let o = c.index.result.now in
    let m : ℕ = o.missing - 1 in
    let before : o.missing ≡ suc m = omega (arith, c.if-missing-eq0.false) in
    let count : c.len-last.result ≡ length w.«open».items = omega (arith, c.len-last.ensures, w.«open».ok.0) in
    let below = place_below number c.args.grm.now w.«open».items c.len-last.result count o c.index.ensures (left_of number w) es k m before (record { pidx = o.pidx; missing = m }) refl in
    entered_below number c.args.grm.now w.«open».items c.len-last.result count o c.index.ensures (left_of number w) es k m before (record { pidx = o.pidx; missing = m }) refl (number c.in-Rule.field-0.0)
    (next_symbol number c.prod.result.now (body_of c.args.grm.now (number o.pidx.0)) m _ _ c.prod.ensures.body below c.in-Rule.is) w.left.items c.pop.new.self.items refl c.unwrap-pidx.result
    (c.pop.ensures.items ∙ ap (λ o. c.pop.new.self.items ++ option_to_list o) c.unwrap-pidx.ensures)

pub returns-in_ok-push-in-Rule-clause-visit : goal.returns-in_ok-push-in-Rule-clause-visit
returns-in_ok-push-in-Rule-clause-visit g c = λ es k.
    let w = c.args.self.now in
    let number = g.T.IndexStorage.number in
    let o = c.index.result.now in
    let m : ℕ = o.missing - 1 in
    let before : o.missing ≡ suc m = omega (arith, c.if-missing-eq0.false) in
    let count : c.len-last.result ≡ length w.«open».items = omega (arith, c.len-last.ensures, w.«open».ok.0) in
    let below = place_below number c.args.grm.now w.«open».items c.len-last.result count o c.index.ensures (left_of number w) es k m before (record { pidx = o.pidx; missing = m }) refl in
    stored_entered number c.args.grm.now w.«open».items c.len-last.result count o c.index.ensures (left_of number w) es k m before (record { pidx = o.pidx; missing = m }) refl (number c.in-Rule.field-0.0)
    (next_symbol number c.prod.result.now (body_of c.args.grm.now (number o.pidx.0)) m _ _ c.prod.ensures.body below c.in-Rule.is) w.left.items c.pop.new.self.items refl c.unwrap-pidx.result
    (c.pop.ensures.items ∙ ap (λ o. c.pop.new.self.items ++ option_to_list o) c.unwrap-pidx.ensures)
    (record { pidx = c.unwrap-pidx.result; missing = c.from-missing.result }) c.push.new.self.items c.in_ok-push-in-Rule.ensures.items
    (ap (λ i. node_of number (record { pidx = c.unwrap-pidx.result; missing = i })) (c.from-missing.ensures ∙ c.prod_len.ensures))

pub returns-in_ok-push-in-Rule-clause-falls : goal.returns-in_ok-push-in-Rule-clause-falls
returns-in_ok-push-in-Rule-clause-falls g c = λ some.
    let w = c.args.self.now in
    let number = g.T.IndexStorage.number in
    let (es, k) = c.requires in
    let o = c.index.result.now in
    let there = some_open c.args.grm.now (node_of number) w.«open».items (left_of number w) es k in
    let m : ℕ = o.missing - 1 in
    node_falls g.T.IndexStorage.MAX w.«open».items c.push.new.self.items (c.len-last.result - 1) o (record { pidx = o.pidx; missing = m }) (record { pidx = c.unwrap-pidx.result; missing = c.from-missing.result }) w.left.items c.pop.new.self.items c.unwrap-pidx.result
    (omega (arith, c.len-last.ensures, w.«open».ok.0)) c.index.ensures (omega (arith, c.if-missing-eq0.false)) c.in_ok-push-in-Rule.ensures.items
    (omega (arith, c.from-missing.ensures, c.prod_len.ensures, c.prod.ensures.sizes.bodies (number c.unwrap-pidx.result.0)))
    (c.pop.ensures.items ∙ ap (λ o. c.pop.new.self.items ++ option_to_list o) c.unwrap-pidx.ensures)

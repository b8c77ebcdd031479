-- a turn for each state
use Rattle.std.proofs.Common.{ℕ, ◌<◌, length, subst, sym, arith}
use Rattle.std.specs.Prelude.{Contains}
use Rattle.lrgrammar.proofs.Turns.{has_index, index_number}
use Rattle.lrsearches.proofs.FingerprintsInTurn.{of_cores}
use Rattle.lrgrammar.specs.Symbols.{number_of}
use Rattle.lrdecided.specs.StoredNodes.{states_of}
use Rattle.lrdecided.proofs.CollectedInTurn.{push_keeps, push_has}
use Rattle.lrdecided.proofs.FoundStarts.{next_cores}
use Rattle.lrdecided.proofs.starts.states_with_core.Goals as goal

pub unwrap-requires : goal.unwrap-requires
unwrap-requires c =
    has_index _ _ c.loop-number.number c.from_usize.result c.from_usize.ensures
    (omega (arith, c.loop-number-test.true, c.to_usize-number-end.ensures.number, c.to_usize-number-end.ensures.within))

pub loop-number-init : goal.loop-number-init
loop-number-init c = λ q l same. absurd (omega (arith, l))

pub loop-number-preserved-then-other-fingerprint : goal.loop-number-preserved-then-other-fingerprint
loop-number-preserved-then-other-fingerprint c =
    let n = c.loop-number.number in
    let states = states_of c.loop-number.states.items in
    let within : n < length c.args.graph.now = omega (arith, c.loop-number-test.true, c.to_usize-number-end.ensures.number, c.all_states_len.ensures) in
    next_cores c.args.graph.now c.args.state.0 n states states c.loop-number.invariant (λ q h. h)
    (λ same.
    let e = of_cores c.args.graph.now c.args.fingerprints.now n c.args.state.0 0 0 c.requires.fingerprints within c.requires.state same in
    absurd (c.if-other-fingerprint.true (sym (rw (← c.from-place.ensures) at e))))

pub loop-number-preserved : goal.loop-number-preserved
loop-number-preserved c =
    let n = c.loop-number.number in
    let is = index_number number_of _ n c.from_usize.result c.unwrap.result c.unwrap.ensures c.from_usize.ensures in
    let old = c.loop-number.states.items in
    let new = c.push.new.self.items in
    next_cores c.args.graph.now c.args.state.0 n (states_of old) (states_of new) c.loop-number.invariant
    (push_keeps old new _ c.in_ok-push.ensures.items)
    (λ same. subst (λ (k : ℕ). Contains (states_of new) k) is (push_has old new _ c.in_ok-push.ensures.items))

pub returns : goal.returns
returns c = λ q l same.
    c.loop-number.invariant q (omega (arith, l, c.loop-number-test.false, c.to_usize-number-end.ensures.number, c.all_states_len.ensures)) same

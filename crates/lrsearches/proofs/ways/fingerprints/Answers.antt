-- a turn for each state
use Rattle.std.proofs.Common.{◌≡◌, length, arith}
use Rattle.lrgrammar.proofs.Turns.{has_index, index_number}
use Rattle.lrsearches.proofs.FingerprintsInTurn.{next_fingerprints, end_fingerprints}
use Rattle.lrsearches.proofs.ways.fingerprints.Goals as goal

pub unwrap-requires : goal.unwrap-requires
unwrap-requires g c =
    has_index _ g.T.IndexStorage.MAX c.loop-number.number c.from_usize.result c.from_usize.ensures
    (omega (arith, c.loop-number-test.true, c.to_usize-number-end.ensures.number, c.to_usize-number-end.ensures.within))

pub loop-number-preserved : goal.loop-number-preserved
loop-number-preserved g c =
    let number = g.T.IndexStorage.number in
    let n = c.loop-number.number in
    let is = index_number number g.T.IndexStorage.MAX n c.from_usize.result c.unwrap.result c.unwrap.ensures c.from_usize.ensures in
    let made = rw (c.core_state.ensures.items, is) at c.itemset_fingerprint.ensures in
    next_fingerprints c.args.graph.now n c.loop-number.fingerprints.items c.push.new.self.items c.itemset_fingerprint.result c.in_ok-push.ensures.items made
    (rw is at c.core_state.ensures.upwards) c.loop-number.invariant

pub returns : goal.returns
returns g c =
    let all : c.loop-number.number ≡ length c.args.graph.now = omega (arith, c.loop-number-test.false, c.loop-number.auto.number-end, c.to_usize-number-end.ensures.number, c.all_states_len.ensures) in
    end_fingerprints c.args.graph.now c.loop-number.number c.loop-number.fingerprints.items all c.loop-number.invariant

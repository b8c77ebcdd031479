use Rattle.std.proofs.Common.{◌≡◌, ◌<◌, ◌-◌, ◌∙◌, length, rules, arith}
use Rattle.std.specs.Fmt.{decimal}
use Rattle.std.proofs.lemmas.List.{append-nil}
use Rattle.lritems.specs.ItemsOf.{set_of}
use Rattle.lrgraphs.proofs.GraphFacts.{states_stored}
use Rattle.lrgraphs.proofs.PrintedStates.{shown_items, shown_fits, shown_read, state_turn}
use Rattle.lrgraphs.proofs.stategraph.StateGraph.pp.Goals as goal

pub push_state-requires-clause-parting : goal.push_state-requires-clause-parting
push_state-requires-clause-parting g c = c.as_str.ensures.value ∙ c.in_ok-parting.ensures

pub push_state-requires-clause-items : goal.push_state-requires-clause-items
push_state-requires-clause-items g c =
    let number = g.T.IndexStorage.number in
    let h = c.args.self.now in
    let s = c.loop-number.number in
    let ss = c.self.inside.states.items in
    let end : c.len-number-end.result ≡ length ss = omega (arith, c.len-number-end.ensures, c.self.inside.states.ok.0) in
    let l : s < length h = rw (states_stored number h ss c.self.view_is, ← end) c.loop-number-test.true in
    let shown : set_of number c.shown-items.result.now ≡ shown_items c.args.core_states h s =
    shown_read number c.args.core_states h ss s c.index.result.now c.shown-items.result.now c.self.view_is l c.index.ensures c.shown-items.ensures in
    rw shown (shown_fits c.args.grm.now c.args.core_states h s c.requires l)

pub loop-number-preserved : goal.loop-number-preserved
loop-number-preserved g c =
    let number = g.T.IndexStorage.number in
    let h = c.args.self.now in
    let s = c.loop-number.number in
    let ss = c.self.inside.states.items in
    let end : c.len-number-end.result ≡ length ss = omega (arith, c.len-number-end.ensures, c.self.inside.states.ok.0) in
    let l : s < length h = rw (states_stored number h ss c.self.view_is, ← end) c.loop-number-test.true in
    let shown : set_of number c.shown-items.result.now ≡ shown_items c.args.core_states h s =
    shown_read number c.args.core_states h ss s c.index.result.now c.shown-items.result.now c.self.view_is l c.index.ensures c.shown-items.ensures in (
      search rules,
      state_turn c.args.grm.now c.args.core_states h c.in_ok-width.width s (set_of number c.shown-items.result.now) _ _ _ _ l shown c.loop-number.invariant.1
          (rw (← c.in_ok-push_str.ensures.bytes) c.in_ok-push_state.ensures),
    )

pub returns-clause-text : goal.returns-clause-text
returns-clause-text g c =
    let h = c.args.self.now in
    let ss = c.self.inside.states.items in
    let count = states_stored g.T.IndexStorage.number h ss c.self.view_is in
    let first : c.len.result ≡ length ss = omega (arith, c.len.ensures, c.self.inside.states.ok.0) in
    let end : c.len-number-end.result ≡ length ss = omega (arith, c.len-number-end.ensures, c.self.inside.states.ok.0) in
    let none : length h - c.loop-number.number ≡ 0 = omega (arith, count, end, c.loop-number-test.false) in
    let width : c.in_ok-width.width ≡ length (decimal (length h)) = rw (count, ← first) c.in_ok-width.ensures in
    rw (← width) (rw (none, append-nil) at c.loop-number.invariant.1)

pub returns-in_err-width-clause-order : goal.returns-in_err-width-clause-order
returns-in_err-width-clause-order g c = rw (← c.self.view_is) c.self.invariant.order

pub returns-in_err-parting-clause-order : goal.returns-in_err-parting-clause-order
returns-in_err-parting-clause-order g c = rw (← c.self.view_is) c.self.invariant.order

pub returns-in_err-push_str-clause-order : goal.returns-in_err-push_str-clause-order
returns-in_err-push_str-clause-order g c = rw (← c.self.view_is) c.self.invariant.order

pub returns-in_err-push_state-clause-order : goal.returns-in_err-push_state-clause-order
returns-in_err-push_state-clause-order g c = rw (← c.self.view_is) c.self.invariant.order

pub returns-clause-order : goal.returns-clause-order
returns-clause-order g c = rw (← c.self.view_is) c.self.invariant.order

-- a list for a conflict between reductions
use Rattle.std.proofs.Common.{ℕ, ◌<◌, List, length, map, inr, refl, arith}
use Rattle.std.specs.Prelude.{Contains}
use Rattle.lrspec.specs.grammars.Grammar.{Symbol, token_count}
use Rattle.lrspec.specs.tables.Table.{reduce_reduce_of}
use Rattle.lrspec.specs.tables.Conflicts.{AreReductionsContested}
use Rattle.lrgrammar.specs.Symbols.{symbol_of}
use Rattle.lrgrammar.proofs.Turns.{has_index, index_number}
use Rattle.lrsearches.specs.Searches.{Place}
use Rattle.lrsearches.specs.StoredPlaces.{need_of}
use Rattle.lrcontests.specs.Contests.{IsReason, IsReductionContest, HasNoReductionContest}
use Rattle.lrcontests.proofs.ReasonsOfPlaces.{pair_below, pair_contest, pair_none, pair_some, none_below}
use Rattle.lrcontests.proofs.contests.Contests.of_reductions.Given as given
use Rattle.lrcontests.proofs.contests.Contests.of_reductions.Goals as goal
use Rattle.lrcontests.proofs.contests.Contests.of_reductions.Goals.{After-self, After-complete-2}

-- what the conflict names is there
named :
    (g : given.Over) (c : After-self g)
    → (g.T.IndexStorage.number c.args.stidx.0 < length c.self.inside.graph.now)
    × (g.T.IndexStorage.number c.args.pidx.0 < length c.self.inside.grm.now.productions)
    × (g.T.IndexStorage.number c.args.other.0 < length c.self.inside.grm.now.productions)
    × (g.T.IndexStorage.number c.args.token.0 < token_count c.self.inside.grm.now)
named g c =
    let number = g.T.IndexStorage.number in
    pair_below c.self.inside.grm.now c.self.inside.graph.now c.self.invariant.0 (number c.args.token.0) (number c.args.pidx.0) (number c.args.other.0)
    (number c.args.stidx.0) (rw (← c.self.view_is) at c.requires.listed)

module _ (g : given.Over) (c : After-complete-2 g) where
  -- the place of the conflict
  abbrev place : Place
  place = record {
    state = g.T.IndexStorage.number c.args.stidx.0;
    first = need_of g.T.IndexStorage.number c.complete.result;
    second = need_of g.T.IndexStorage.number c.complete-2.result;
  }

  -- it is listed
  listed :
      Contains (reduce_reduce_of c.self.inside.grm.now c.self.inside.graph.now)
      (g.T.IndexStorage.number c.args.token.0, g.T.IndexStorage.number c.args.pidx.0, g.T.IndexStorage.number c.args.other.0, g.T.IndexStorage.number c.args.stidx.0)
  listed = rw (← c.self.view_is) at c.requires.listed

  -- a reason at some token is a contest there
  contest :
      (u : ℕ) (w : List Symbol) → IsReason c.self.inside.grm.now c.self.inside.graph.now u place w
      → IsReductionContest c.self.inside.grm.now c.self.inside.graph.now u
      (g.T.IndexStorage.number c.args.pidx.0) (g.T.IndexStorage.number c.args.other.0) (g.T.IndexStorage.number c.args.stidx.0) w
  contest = pair_contest _ _ c.self.invariant.0 _ _ _ _ listed place refl c.complete.ensures c.complete-2.ensures

  -- without a reason there is no contest
  no_contest :
      (u : ℕ) → ((w : List Symbol) → IsReason c.self.inside.grm.now c.self.inside.graph.now u place w → ⊥)
      → HasNoReductionContest c.self.inside.grm.now c.self.inside.graph.now u
      (g.T.IndexStorage.number c.args.pidx.0) (g.T.IndexStorage.number c.args.other.0) (g.T.IndexStorage.number c.args.stidx.0)
  no_contest = pair_none _ _ c.self.invariant.0 _ _ _ _ listed place refl c.complete.ensures c.complete-2.ensures

pub complete-requires : goal.complete-requires
complete-requires g c = (named g (goal.at.complete-requires g c).After-self).1

pub complete-requires-2 : goal.complete-requires-2
complete-requires-2 g c = (named g (goal.at.complete-requires-2 g c).After-self).2

pub shortest_reason-requires-clause-state : goal.shortest_reason-requires-clause-state
shortest_reason-requires-clause-state g c = (named g (goal.at.shortest_reason-requires-clause-state g c).After-self).0

pub shortest_reason-requires-clause-token : goal.shortest_reason-requires-clause-token
shortest_reason-requires-clause-token g c = (named g (goal.at.shortest_reason-requires-clause-token g c).After-self).3

pub shortest_reason-requires-in-loop-number-clause-state : goal.shortest_reason-requires-in-loop-number-clause-state
shortest_reason-requires-in-loop-number-clause-state g c = (named g (goal.at.shortest_reason-requires-in-loop-number-clause-state g c).After-self).0

pub returns-in-Some-clause-contest : goal.returns-in-Some-clause-contest
returns-in-Some-clause-contest g c =
    let number = g.T.IndexStorage.number in
    rw (← c.self.view_is)
    (contest g (goal.at.returns-in-Some-clause-contest g c).After-complete-2 (number c.args.token.0) (map (symbol_of number) c.in-Some.list.items)
    (rw c.in-Some.is at c.in_ok-list.ensures))

pub returns-in-Some-2-clause-contest : goal.returns-in-Some-2-clause-contest
returns-in-Some-2-clause-contest g c =
    let number = g.T.IndexStorage.number in
    rw (← c.self.view_is)
    (contest g (goal.at.returns-in-Some-2-clause-contest g c).After-complete-2 (number c.unwrap.result) (map (symbol_of number) c.in-Some-2.list.items)
    (rw c.in-Some-2.is at c.in_ok-list-2.ensures))

pub returns-in-Some-2-clause-own : goal.returns-in-Some-2-clause-own
returns-in-Some-2-clause-own g c = inr c.loop-number.invariant.own

pub returns-in-Some-2-clause-least : goal.returns-in-Some-2-clause-least
returns-in-Some-2-clause-least g c =
    let number = g.T.IndexStorage.number in
    let is = index_number number g.T.IndexStorage.MAX c.loop-number.number c.from_usize.result c.unwrap.result c.unwrap.ensures c.from_usize.ensures in
    inr (λ u l. c.loop-number.invariant.below u (rw is at l))

pub loop-number-init : goal.loop-number-init
loop-number-init g c =
    let here = no_contest g (goal.at.loop-number-init g c).After-complete-2 in
    record {
      own = rw (← c.self.view_is) (here (g.T.IndexStorage.number c.args.token.0) (rw c.in_default.is at c.in_ok-list.ensures));
      below = λ k l. absurd (omega arith);
    }

pub loop-number-preserved : goal.loop-number-preserved
loop-number-preserved g c =
    let number = g.T.IndexStorage.number in
    let p = number c.args.pidx.0 in
    let q = number c.args.other.0 in
    let s = number c.args.stidx.0 in
    let is = index_number number g.T.IndexStorage.MAX c.loop-number.number c.from_usize.result c.unwrap.result c.unwrap.ensures c.from_usize.ensures in
    let here : HasNoReductionContest c.self.inside.grm.now c.self.inside.graph.now (number c.unwrap.result) p q s =
    no_contest g (goal.at.loop-number-preserved g c).After-complete-2 (number c.unwrap.result) (rw c.in_default-2.is at c.in_ok-list-2.ensures) in
    record {
      own = c.loop-number.invariant.own;
      below = none_below (λ k. HasNoReductionContest c.args.self.now.grammar c.args.self.now.graph k p q s) c.loop-number.number c.loop-number.invariant.below (rw (← is, ← c.self.view_is) here);
    }

pub unwrap-requires : goal.unwrap-requires
unwrap-requires g c =
    has_index _ g.T.IndexStorage.MAX c.loop-number.number c.from_usize.result c.from_usize.ensures
    (omega (arith, c.loop-number-test.true, c.from-number-end.ensures, c.tokens_len.ensures.value, c.tokens_len.ensures.sizes.tokens))

pub unreachable-requires : goal.unreachable-requires
unreachable-requires g c =
    let at = (goal.at.unreachable-requires g c).After-complete-2 in
    let contested : AreReductionsContested c.self.inside.grm.now c.self.inside.graph.now = rw (← c.self.view_is) at c.requires.contested in
    pair_some _ _ c.self.invariant.0 _ _ _ _ (listed g at) (place g at) refl c.complete.ensures c.complete-2.ensures c.tokens_len.ensures.shape contested
    (λ u l. let none = c.loop-number.invariant.below u (omega (arith, l, c.loop-number-test.false, c.from-number-end.ensures, c.tokens_len.ensures.value)) in
    rw (← c.self.view_is) at none)

-- behind the token
use Rattle.std.proofs.Common.{◌≡◌, true, false, [], ◌∷◌, ◌++◌, refl, sym, ◌∙◌}
use Rattle.std.specs.Prelude.{Contains}
use Rattle.lrspec.specs.grammars.Grammar as math
use Rattle.lrdecided.proofs.CollectedInTurn.{kept, added}
use Rattle.lrexchange.specs.Exchanges.{at}
use Rattle.lrexchange.specs.StoredPositions.{symbols_of, turn_of, ours_of, position_of, positions_of}
use Rattle.lrexchange.proofs.SamePositions.{same_position}
use Rattle.lrexchange.proofs.ToppedStacks.{shift_from, no_shift}
use Rattle.lrexchange.proofs.moving.ask_shift.Goals as goal

pub returns-in_default-clause-asked : goal.returns-in_default-clause-asked
returns-in_default-clause-asked c =
    no_shift c.args.graph.now (Contains (positions_of c.args.asked.now.items)) (position_of c.args.position.now) c.args.token.0
    (turn_of c.args.shifted) (rw c.as_slice.ensures.value at c.in_default.ensures)

pub returns-then-not-shifts-clause-asked : goal.returns-then-not-shifts-clause-asked
returns-then-not-shifts-clause-asked c =
    shift_from c.args.graph.now (Contains (positions_of c.args.asked.now.items)) (position_of c.args.position.now) c.args.token.0
    (turn_of c.args.shifted) c.in-Some.top.0 (rw c.as_slice.ensures.value at c.in-Some.ensures)
    (λ some. let no : false ≡ true = sym c.if-not-shifts.true ∙ c.shifts.ensures ∙ some in absurd cc)

pub returns-clause-kept : goal.returns-clause-kept
returns-clause-kept c = kept position_of _ _ _ c.in_ok-push.ensures.items

pub returns-clause-asked : goal.returns-clause-asked
returns-clause-asked c =
    let a = position_of c.args.position.now in
    let shifted = turn_of c.args.shifted in
    let xs = a.theirs ++ math.Token c.args.token.0 ∷ [] in
    shift_from c.args.graph.now (Contains (positions_of c.push.new.self.items)) a c.args.token.0 shifted c.in-Some.top.0
    (rw c.as_slice.ensures.value at c.in-Some.ensures)
    (λ some.
    added position_of _ _ _ c.in_ok-push.ensures.items (at shifted a.state xs a.ours)
    (same_position shifted shifted a.state a.state (symbols_of c.in_ok-theirs.theirs.items) xs (ours_of c.in_ok-ours.ours) a.ours refl refl
    (rw c.as_slice-2.ensures.value at c.in_ok-theirs.ensures) c.in_ok-ours.ensures))

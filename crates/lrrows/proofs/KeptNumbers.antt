-- the numbers by which cells keep actions and gotos say what they keep
use Rattle.std.proofs.Common.{◌≡◌, ℕ, Option, None, Some, refl, arith}
use Rattle.std.proofs.lemmas.Bool.Decides.{nat_tests}
use Rattle.lrspec.specs.tables.Table.{Action, Shift, Reduce, Accept, Error}
use Rattle.lrrows.specs.StoredActions.{action_number, action_numbered, goto_number, goto_numbered}

-- the number of an action says that action
pub numbered_action : (a : Action) → action_numbered (action_number a) ≡ a
numbered_action Error = refl
numbered_action Accept = refl
numbered_action (Shift s) = grind (arith, nat_tests)
numbered_action (Reduce p) = grind (arith, nat_tests)

-- the number of a goto says that goto
pub numbered_goto : (o : Option ℕ) → goto_numbered (goto_number o) ≡ o
numbered_goto None = refl
numbered_goto (Some s) = grind (arith, nat_tests)

use Rattle.std.proofs.Common.{◌≡◌, IsTrue, ◌∙◌, sym, subst, rules}
use Rattle.std.proofs.lemmas.Bool.{false≢true}
use Rattle.lrparsing.specs.Expected.{IsShiftedBehind}
use Rattle.lrparsing.specs.Machines.{numbers}
use Rattle.lrparsing.proofs.MoreTokens.{one_more, none_more}
use Rattle.lrparsing.proofs.expected.tokens_behind.Goals.{then-branch+in_ok-push, else-branch}
use Rattle.lrparsing.proofs.expected.tokens_behind.Goals as goal

pub loop-number-preserved : goal.loop-number-preserved
loop-number-preserved c =
    let m = c.args.machine.now in
    let text = numbers c.args.text.now in
    let k = c.loop-number.number in
    let ts = c.loop-number.tokens.items in
    let at : c.unwrap.result ≡ k = search rules in
    elim c.if-branch.branch [
      | then-branch+in_ok-push w ↦
          let yes : IsTrue c.in_ok-shifts_behind.field-0 = w.if-branch.true in
          let here : IsShiftedBehind m text k = subst (IsShiftedBehind m text) at (c.in_ok-shifts_behind.ensures.0 yes) in
          rw (w.tokens-is, w.in_ok-push.ensures.items) (one_more m text k ts c.loop-number.invariant here)
      | else-branch w ↦
          let no : IsShiftedBehind m text k → ⊥ =
          λ (s : IsShiftedBehind m text k).
          false≢true (sym w.if-branch.false ∙ c.in_ok-shifts_behind.ensures.1 (subst (IsShiftedBehind m text) (sym at) s)) in
          rw w.tokens-is (none_more m text k ts c.loop-number.invariant no)
    ]

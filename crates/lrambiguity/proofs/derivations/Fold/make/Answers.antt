use Rattle.std.proofs.lemmas.Result.{IfOk-weaker}
use Rattle.lrambiguity.proofs.derivations.Fold.make.Goals as goal

pub returns-in-Shift-clause-made : goal.returns-in-Shift-clause-made
returns-in-Shift-clause-made g c = rw c.in-Shift.is (IfOk-weaker c.shift.result _ _ (λ made all is. all is c.args.grm.now) c.shift.ensures.made)

pub returns-in-Shift-clause-stuck : goal.returns-in-Shift-clause-stuck
returns-in-Shift-clause-stuck g c = rw c.in-Shift.is (IfOk-weaker c.shift.result _ _ (λ made all is. all is c.args.grm.now) c.shift.ensures.stuck)

pub returns-in-Reduce-clause-made : goal.returns-in-Reduce-clause-made
returns-in-Reduce-clause-made g c = rw c.in-Reduce.is (IfOk-weaker c.reduce.result _ _ (λ made all is. all is c.args.symbols.now) c.reduce.ensures.made)

pub returns-in-Reduce-clause-stuck : goal.returns-in-Reduce-clause-stuck
returns-in-Reduce-clause-stuck g c = rw c.in-Reduce.is (IfOk-weaker c.reduce.result _ _ (λ made all is. all is c.args.symbols.now) c.reduce.ensures.stuck)

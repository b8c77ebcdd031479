use Rattle.std.proofs.Common.{◌+◌, refl}
use Rattle.lrambiguity.proofs.FoldSteps.{shift_folds, no_shift}
use Rattle.lrambiguity.proofs.derivations.Fold.shift.Goals as goal

pub returns-clause-made : goal.returns-clause-made
returns-clause-made g c = λ _ m.
    let found = c.in-Some.ensures.lookup in
    shift_folds g.T.IndexStorage.number m c.args.symbols.now c.args.self.now (record { stack = c.push.new.self; used = c.args.self.now.used + 1 }) c.in-Some.symbol.now found.3.0 found.1 refl c.in_ok-push.ensures.items

pub returns-in_default-clause-stuck : goal.returns-in_default-clause-stuck
returns-in_default-clause-stuck g c = λ _ m. no_shift g.T.IndexStorage.number m c.args.symbols.now c.args.self.now c.in_default.ensures.lookup.3

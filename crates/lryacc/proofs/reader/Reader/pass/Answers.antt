use Rattle.std.proofs.Common.{◌≡◌, ◌+◌, refl, arith}
use Rattle.lryacc.proofs.DelimitersPassed.{count-at}
use Rattle.lryacc.proofs.reader.Reader.pass.Goals as goal

pub returns-clause-passes : goal.returns-clause-passes
returns-clause-passes c = λ small.
    let next : c.saturating_add-self.result ≡ c.args.self.now.at + 1 = omega (arith, c.saturating_add-self.ensures) in
    record {
      file = record { text = refl; lexemes = refl; dialect = refl; bodies = refl; faults = omega arith };
      at = next;
      count = count-at c.args.self.now.lexemes.now c.args.self.now.at c.saturating_add-self.result next;
    }

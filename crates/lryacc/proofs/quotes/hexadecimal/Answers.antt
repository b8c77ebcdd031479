use Rattle.std.proofs.Common.{slice_range, refl}
use Rattle.std.specs.Str.Parse.{digits_value}
use Rattle.lryacc.proofs.quotes.hexadecimal.Goals as goal

pub returns-clause-is : goal.returns-clause-is
returns-clause-is c =
    let found = c.digits-number in
    record {
      exact = digits_value 16 (slice_range c.args.text.now c.args.from found.result.1);
      is = record { digits = found.ensures.digits; value = refl };
      capped = found.ensures.value;
    }

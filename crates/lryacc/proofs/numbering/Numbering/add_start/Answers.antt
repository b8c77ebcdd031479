use Rattle.std.proofs.Common.{None, refl}
use Rattle.lryacc.proofs.numbering.Numbering.add_start.Goals as goal

pub returns-clause-added : goal.returns-clause-added
returns-clause-added c = record {
  prod = record { rule = 0; symbols = c.in_ok-symbols.symbols; precedence = None };
  prods = c.in_ok-add.ensures.prods;
  is = record {
    rule = refl;
    symbol = c.in_ok-symbol.symbol;
    named = c.in_ok-symbol.ensures;
    symbols = c.in_ok-symbols.ensures;
    precedence = refl;
  };
}

use Rattle.std.proofs.Common.{◌≡◌, ◌∙◌, None, rules}
use Rattle.lryacc.proofs.BodiesRead.{IsSameFile-again}
use Rattle.std.proofs.Common.{refl}
use Rattle.lryacc.specs.declared.contents.Statement.TheVariants as says
use Rattle.lryacc.proofs.DeclarationsRead.{stated-other, stated-same}
use Rattle.lryacc.proofs.reader.Reader.body_precedence.Goals as goal

pub returns-clause-taken : goal.returns-clause-taken
returns-clause-taken c =
    let taken = c.in_ok-symbol.ensures.taken in
    let one = c.only.ensures.stays in
    let other = c.state.ensures.stays in
    let none : c.args.body.now.precedence ≡ None = search rules in
    record {
      lexeme = c.in_ok-symbol.symbol;
      taken = record {
        passes = record {
          file = IsSameFile-again (IsSameFile-again taken.passes.file one.file) other.file;
          at = other.at ∙ (one.at ∙ taken.passes.at);
          count = other.count ∙ (one.count ∙ taken.passes.count);
        };
        here = taken.here;
        is = taken.is;
        count = other.count ∙ (one.count ∙ taken.count);
      };
      none = none;
      is = c.reach.ensures.precedence;
      span = c.reach.ensures.span;
    }

pub returns-clause-kept : goal.returns-clause-kept
returns-clause-kept c =
    stated-other c.only.new.self c.state.new.self (says.NamedPrecedence c.in_ok-symbol.symbol) refl c.in_ok-state.ensures.stated
    ∙ stated-same c.args.self.now c.only.new.self (c.only.ensures.statements ∙ c.want_symbol.ensures.statements)

use Rattle.std.proofs.Common.{◌≡◌, ◌∙◌, Bool, MatchBool, MatchOption, None, Option, Some, ap, is_some}
use Rattle.std.specs.Option.{option_map}
use Rattle.lryacc.specs.declared.lexemes.Lexeme.{Lexeme}
use Rattle.lryacc.specs.declared.lexemes.LexemeKind.{LexemeKind}
use Rattle.lryacc.specs.declared.reader.Reader.{Reader}
use Rattle.lryacc.specs.Bodies.{SkipsKind, Stays, TakesKind}
use Rattle.lryacc.proofs.reader.Reader.skip.Goals as goal

-- what takes a lexeme goes over one
skipped : (old new : Reader) (kind : LexemeKind) (found : Option Lexeme) (is : Bool) → is ≡ is_some found → MatchOption found (Stays old new) (TakesKind old new kind) → MatchBool is (SkipsKind old new kind) (Stays old new)
skipped old new kind None is e stays = rw e stays
skipped old new kind (Some lexeme) is e takes =
    rw e
    (record {
      passes = takes.passes;
      here = ap (option_map (λ (l : Lexeme). l.kind)) takes.here ∙ ap Some takes.is;
      count = takes.count;
    })

pub returns-clause-skipped : goal.returns-clause-skipped
returns-clause-skipped c =
    skipped c.args.self.now c.take.new.self c.args.kind c.take.result c.is_some.result c.is_some.ensures c.take.ensures.taken

use Rattle.std.proofs.Common.{◌≡◌, ◌+◌, ◌-◌, ℕ, List, Result, Ok, Err, IfOk, codes, rules, subst, sym, arith}
use Rattle.lryacc.specs.declared.code.Ending.TheVariants.{Brace}
use Rattle.lryacc.specs.declared.faults.Fault.{Fault}
use Rattle.lryacc.specs.declared.lexemes.LexemeKind.{LexemeKind}
use Rattle.lryacc.specs.declared.lexemes.LexemeKind.TheVariants.{Predicate}
use Rattle.lryacc.specs.Code.{EndsCode}
use Rattle.lryacc.specs.Comments.{is_white}
use Rattle.lryacc.specs.Lexemes.{IsBisonLexeme}
use Rattle.lryacc.specs.Words.{Are, Begins, IsRun}
use Rattle.lryacc.proofs.lexemes.predicate.Goals as goal

-- `%?`, blanks, and code between braces
is_predicate : (text : List ℕ) (from brace mark : ℕ) (found : Result (LexemeKind × ℕ) Fault)
    → Are text from (from + 2) (codes "%?") → IsRun is_white text (from + 2) brace → Begins 123 text brace
    → from + mark ≡ brace + 1 → IfOk found (λ it. it.0 ≡ Predicate)
    → IfOk found (λ it. EndsCode Brace text (from + mark) it.1)
    → IfOk found (λ it. IsBisonLexeme it.0 text from it.1)
is_predicate text from brace mark (Err fault) first blanks opens behind kind ends = tt
is_predicate text from brace mark (Ok it) first blanks opens behind kind ends =
    let code : EndsCode Brace text (brace + 1) it.1 = subst (λ at. EndsCode Brace text at it.1) behind ends in
    subst (λ kind. IsBisonLexeme kind text from it.1) (sym kind) (first, (brace, blanks, opens, code))

pub returns-then-eq-clause-is : goal.returns-then-eq-clause-is
returns-then-eq-clause-is c =
    let text = c.args.text.now in
    let brace = c.end-brace.result in
    let behind : c.args.from + (brace + 1 - c.args.from) ≡ brace + 1 = omega (arith, c.end-brace.ensures.from) in
    let opens : Begins 123 text brace = search rules in
    is_predicate text c.args.from brace (brace + 1 - c.args.from) c.code.result c.requires.first
    c.end-brace.ensures.run opens behind c.code.ensures.kind c.code.ensures.code

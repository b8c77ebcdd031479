use Rattle.std.proofs.Common.{◌≡◌, ◌<◌, ◌++◌, ℕ, sym, subst, arith, rules}
use Rattle.std.proofs.lemmas.Grind.{common_steps}
use Rattle.std.proofs.lemmas.List.Elements.{All-append}
use Rattle.lrspec.specs.grammars.Grammar.{end_token}
use Rattle.lrspec.specs.tables.Recognition.{AreNamed}
use Rattle.lrparsing.specs.Answers.{text_of_line}
use Rattle.lrparsing.specs.Machines.{numbers}
use Rattle.lrparsing.proofs.parsers.Parser.text.Goals as goal

pub returns-clause-named : goal.returns-clause-named
returns-clause-named c =
    let p = c.args.self.now in
    let g = p.machine.grammar in
    let ts = numbers c.args.tokens.now in
    let same : numbers c.extend_from_slice-2.new.self.items ≡ text_of_line p ts = first_of (search rules, grind (arith, common_steps)) in
    let P : ℕ → Type 0 = λ t. t < end_token g in
    subst (AreNamed g) (sym same)
    (All-append P (numbers p.front.items ++ ts) (numbers p.behind.items)
    (All-append P (numbers p.front.items) ts p.named_front c.requires) p.named_behind)

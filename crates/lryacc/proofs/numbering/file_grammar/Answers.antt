use Rattle.std.proofs.Common.{◌≡◌, List, refl, Some, codes, slice_get, subst, sym, ◌∙◌}
use Rattle.lrgrammar.specs.declared.grammar.PartProd.{PartProd}
use Rattle.lryacc.specs.declared.contents.Alternative.{Alternative}
use Rattle.lryacc.specs.declared.contents.Contents.{Contents}
use Rattle.lryacc.specs.declared.lexemes.Lexeme.{Lexeme}
use Rattle.lryacc.specs.BodyProductions.{AreOfFile}
use Rattle.lryacc.specs.NamedSymbols.{AreDeclaredRules, HasEndToken, Names, names_in}
use Rattle.lryacc.specs.Numbered.{HaveRules, names_of, symbol_in}
use Rattle.lryacc.specs.ProductionPlaces.{start_rules_of}
use Rattle.lryacc.proofs.Numbered.{declared-rules, has-end_token, one-each}
use Rattle.lryacc.proofs.ProductionsAdded.{names-same}
use Rattle.lryacc.proofs.numbering.file_grammar.Goals as goal

pub productions-requires-clause-numbered : goal.productions-requires-clause-numbered
productions-requires-clause-numbered c = c.in_ok-marks.ensures.added.numbered c.in_ok-numbering.ensures.numbered

pub productions-requires-clause-levelled : goal.productions-requires-clause-levelled
productions-requires-clause-levelled c = c.in_ok-marks.ensures.added.levelled c.in_ok-numbering.ensures.levelled

pub returns-clause-productions : goal.returns-clause-productions
returns-clause-productions c =
    let now = c.add_symbols.new.self in
    let names = names_of now in
    let file = c.with_productions.result in
    let bodies = c.as_slice-alternatives.ensures.value in
    let starts = c.start_rules-starts.ensures in
    let kept = c.with_productions.ensures in
    let same : names ≡ names_in c.args.meaning.now c.args.contents.now (symbol_in now) file =
    names-same now.meaning.now c.args.meaning.now now.contents.now c.args.contents.now (symbol_in now) now.grammar file (sym (c.in_ok-marks.ensures.added.meaning ∙ c.in_ok-numbering.ensures.meaning)) (sym (c.in_ok-marks.ensures.added.contents ∙ c.in_ok-numbering.ensures.contents)) kept.rules kept.tokens kept.rule_places in
    let all : AreOfFile names c.start_rules-starts.result.now c.as_slice-alternatives.result.now file.parts.prods.items =
    subst (λ (ps : List PartProd). AreOfFile names c.start_rules-starts.result.now c.as_slice-alternatives.result.now ps) (sym kept.prods) c.in_ok-productions.ensures.productions in
    let prods = file.parts.prods.items in
    let named = c.args.meaning.now.starts.items in
    let of_starts = subst (λ (ls : List Lexeme). AreOfFile names ls c.as_slice-alternatives.result.now prods) starts all in
    let of_bodies = subst (λ (bs : List Alternative). AreOfFile names (start_rules_of named bs) bs prods) bodies of_starts in
    let declared : HaveRules now.contents.now.statements.items now = subst (λ (contents : Contents). HaveRules contents.statements.items now) (sym c.in_ok-marks.ensures.added.contents) c.in_ok-marks.ensures.have in
    let numbered = c.in_ok-marks.ensures.added.numbered c.in_ok-numbering.ensures.numbered in
    record {
      symbol = symbol_in now;
      one_each = one-each _ _ numbered.rules_apart numbered.tokens_apart;
      accept = subst (λ (n : Names). slice_get n.rules 0 ≡ Some (codes "$accept")) same numbered.accept;
      declared =
          subst AreDeclaredRules same
          (declared-rules now now.contents.now.statements.items declared);
      end = subst HasEndToken same (has-end_token names _ _ _ refl numbered (c.in_ok-marks.ensures.end c.in_ok-numbering.ensures.numbered));
      productions = subst (λ (n : Names). AreOfFile n (start_rules_of named c.args.contents.now.alternatives.items) c.args.contents.now.alternatives.items prods) same of_bodies;
    }

use Rattle.std.proofs.Common.{◌≡◌, ℕ, zero, suc, ◌<◌, List, [], ◌∷◌, Bool, length, vec_len, refl, ap, subst, arith}
use Rattle.lryacc.specs.NamedSymbols.{names_in}
use Rattle.lryacc.specs.Parsers.{IsParserBy}
use Rattle.lryacc.proofs.AliasesTaken.{all-heeded}
use Rattle.lryacc.proofs.EndsTaken.{has-end}
use Rattle.lryacc.proofs.LinesHeld.{has-line, in-line}
use Rattle.lryacc.proofs.NamesOfOne.{by-name, named-in}
use Rattle.lryacc.proofs.SaidHeld.{said-of}
use Rattle.lryacc.proofs.file.useful_read.Goals as goal

empty : {A : Type 0} (xs : List A) → length xs ≡ 0 → xs ≡ []
empty [] none = refl
empty (x ∷ xs) none = absurd (omega arith)

-- nothing was there, since there would be something else
nothing : (n m : ℕ) → (0 < n → 0 < m) → m ≡ 0 → n ≡ 0
nothing zero m some none = refl
nothing (suc n) m some none =
    let one : 0 < suc n = omega arith in
    let other : 0 < m = some one in
    absurd (omega arith)

pub returns-clause-bodies : goal.returns-clause-bodies
returns-clause-bodies c =
    let bodies = c.args.contents.now.alternatives in
    let useless = c.in_ok-grammar.useless in
    let warnings = c.in_ok-warnings.warnings in
    let told = c.as_slice-2.result.now in
    let said = said-of c.args.text.now c.args.dialect c.args.contents.now.statements.items c.args.meaning.now c.requires.text c.requires.dialect c.requires.said in (
      c.args.meaning.now.starts.items,
      record {
        some = omega (arith, c.requires.some, bodies.ok.0);
        whole = c.args.whole;
        places = c.requires.places;
        names = names_in c.args.meaning.now c.args.contents.now c.requires.productions.symbol c.args.whole;
        named = record {
          text_is = c.requires.text;
          dialect_is = c.requires.dialect;
          statements_are = refl;
          bodies_are = refl;
          accept = c.requires.productions.accept;
          rules = refl;
          tokens = refl;
          starts = refl;
          precedences = refl;
          end = has-end c.args.meaning.now c.args.contents.now c.requires.productions.symbol c.args.whole c.requires.faults c.requires.end;
          end_token = c.requires.productions.end;
          lines = c.requires.lines.levels;
          has_default = c.requires.lines.has_default;
          in_line = in-line c.args.contents.now.statements.items c.args.meaning.now c.requires.partnered c.requires.lines;
          has_line = has-line c.args.contents.now.statements.items c.args.meaning.now c.requires.partnered c.requires.lines;
          one = λ lexeme other number e d. named-in c.args.text.now c.args.dialect c.args.contents.now.statements.items c.args.meaning.now.symbols c.requires.text c.requires.dialect c.requires.apart c.requires.partnered lexeme other number e d;
          by_name = λ lexeme other e. by-name c.args.text.now c.args.dialect c.args.meaning.now.symbols c.requires.text c.requires.dialect lexeme other e;
          aliases = all-heeded c.args.meaning.now c.args.contents.now c.requires.productions.symbol c.args.whole c.requires.apart c.requires.partnered c.requires.faults c.requires.aliases;
          declared = c.requires.productions.declared;
          one_each = c.requires.productions.one_each;
        };
        productions = c.requires.productions.productions;
        useless = useless;
        without = c.in_ok-grammar.ensures.without;
        warned = λ is e.
            let no_warning : length warnings.items ≡ 0 = ap length e in
            let not_told : vec_len warnings ≡ 0 = omega (arith, warnings.ok.0) in
            let nothing_told : length told ≡ 0 = nothing (length told) (vec_len warnings) c.in_ok-warnings.ensures.some not_told in
            let none : vec_len c.tell_useless.new.self.warnings ≡ 0 = omega (arith, c.as_slice-2.ensures.len) in
            let no_rule : vec_len useless.rules ≡ 0 = c.in_ok-tell_useless.ensures.rules is none in
            empty useless.rules.items (omega (arith, useless.rules.ok.0));
        warned_productions = λ e.
            let no_warning : length warnings.items ≡ 0 = ap length e in
            let not_told : vec_len warnings ≡ 0 = omega (arith, warnings.ok.0) in
            let nothing_told : length told ≡ 0 = nothing (length told) (vec_len warnings) c.in_ok-warnings.ensures.some not_told in
            let none : vec_len c.tell_useless.new.self.warnings ≡ 0 = omega (arith, c.as_slice-2.ensures.len) in
            let no_production : vec_len useless.productions ≡ 0 = c.in_ok-tell_useless.ensures.productions none in
            empty useless.productions.items (omega (arith, useless.productions.ok.0));
      },
      said.0,
      said.1,
      record {
        lexemes = c.args.lexemes.now;
        of_text = c.requires.all;
        by = subst (λ (b : Bool). IsParserBy c.args.text.now c.args.lexemes.now b c.in_ok-parser.parser) c.requires.said.generalized c.in_ok-parser.ensures;
      },
    )

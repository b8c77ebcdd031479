use Rattle.std.proofs.Common.{◌≡◌, ◌∙◌, ◌+◌, true, inl, inr, ap, refl, slice_index, subst, sym, arith}
use Rattle.std.proofs.lemmas.Grind.{get_or_default_zero}
use Rattle.lryacc.specs.declared.code.Ending.TheVariants.{PrologueMark}
use Rattle.lryacc.specs.declared.lexemes.LexemeKind.TheVariants.{Prologue}
use Rattle.lryacc.specs.Code.{EndsCode}
use Rattle.lryacc.specs.Words.{IsRun, is_in_name, is_name_start, is_short}
use Rattle.lryacc.proofs.LexemesAt.{of-kind, two-bytes}
use Rattle.lryacc.proofs.lexemes.behind_percent.Goals as goal

pub returns-in-37-clause-is : goal.returns-in-37-clause-is
returns-in-37-clause-is c =
    let text = c.args.text.now in
    let byte = c.in-Some.byte.now in
    let place = c.in-Some.ensures.lookup in
    let next : slice_index text (c.args.from + 1) ≡ byte = sym (place.1 ∙ get_or_default_zero text (c.args.from + 1) byte place.3.0) in
    inl (two-bytes text c.args.from 37 37 place.3.0 c.requires.first (next ∙ c.in-37.is))

pub returns-in-123-clause-is : goal.returns-in-123-clause-is
returns-in-123-clause-is c =
    let text = c.args.text.now in
    let byte = c.in-Some.byte.now in
    let place = c.in-Some.ensures.lookup in
    let next : slice_index text (c.args.from + 1) ≡ byte = sym (place.1 ∙ get_or_default_zero text (c.args.from + 1) byte place.3.0) in
    let mark = two-bytes text c.args.from 37 123 place.3.0 c.requires.first (next ∙ c.in-123.is) in
    of-kind text c.args.from Prologue c.code.result (EndsCode PrologueMark text (c.args.from + 2)) c.code.ensures.kind c.code.ensures.code
    (λ end ends. (mark, ends))

pub returns-in-60-clause-is : goal.returns-in-60-clause-is
returns-in-60-clause-is c =
    let text = c.args.text.now in
    let byte = c.in-Some.byte.now in
    let place = c.in-Some.ensures.lookup in
    let next : slice_index text (c.args.from + 1) ≡ byte = sym (place.1 ∙ get_or_default_zero text (c.args.from + 1) byte place.3.0) in
    let short : is_short byte ≡ true = elim c.in-60.is [
      | inl a ↦ ap is_short a
      | inr rest ↦ elim rest [
        | inl b ↦ ap is_short b
        | inr last ↦ elim last [ inl d ↦ ap is_short d | inr e ↦ ap is_short e ]
      ]
    ] in
    inr record { mark = c.requires.first; short = ap is_short next ∙ short; ends = refl }

pub returns-in_default-byte-clause-is : goal.returns-in_default-byte-clause-is
returns-in_default-byte-clause-is c =
    let text = c.args.text.now in
    let byte = c.in-Some.byte.now in
    let place = c.in-Some.ensures.lookup in
    let next : slice_index text (c.args.from + 1) ≡ byte = sym (place.1 ∙ get_or_default_zero text (c.args.from + 1) byte place.3.0) in
    let behind : c.args.from + 2 ≡ c.args.from + 1 + 1 = omega arith in
    inl record {
      mark = inl c.requires.first;
      word = record {
        begins = ap is_name_start next ∙ (sym c.is_name_start.ensures ∙ c.if-is_name_start.true);
        rest = subst (λ at. IsRun is_in_name text at c.end.result) behind c.end.ensures.run;
      };
    }

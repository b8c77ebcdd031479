use Rattle.std.proofs.Common.{ap, sym, refl, ◌∙◌, arith, rules}
use Rattle.std.specs.List.{slice_get}
use Rattle.lrtext.proofs.RunFacts.{first_boundary}
use Rattle.lrspec.specs.texts.Lexemes as lexemes
use Rattle.lrtext.proofs.FrontFacts.{first_cut, front_here, name_in_front, blank_in_front, mark_in_front, nothing_in_front}
use Rattle.lrtext.proofs.lexemes.front_of.Goals as goal

-- the byte is ASCII, so the text may be cut behind it
pub split_at-requires : goal.split_at-requires
split_at-requires c = first_boundary c.args.text.now c.in-Some.first.now c.utf8.text (c.in-Some.ensures.value ∙ ap (λ l. slice_get l 0) c.as_bytes.ensures.value) (omega arith)

-- a blank
pub returns-then-is_blank : goal.returns-then-is_blank
returns-then-is_blank c = blank_in_front (first_cut c.in-Some.ensures.value c.as_bytes.ensures.value c.split_at.ensures.back) (sym c.if-is_blank.ensures)

-- a name
pub returns-then-is_name_start : goal.returns-then-is_name_start
returns-then-is_name_start c =
    let cut = first_cut c.in-Some.ensures.value c.as_bytes.ensures.value c.split_at.ensures.back in
    let s = c.split_run.ensures in
    name_in_front _ _ _ _ _ cut (sym c.if-is_name_start.ensures) s.whole s.all s.stops

-- the three marks
pub returns-in-58 : goal.returns-in-58
returns-in-58 c = mark_in_front (first_cut c.in-Some.ensures.value c.as_bytes.ensures.value c.split_at.ensures.back) c.in-58.is (λ rest. lexemes.Spells.colon)

pub returns-in-124 : goal.returns-in-124
returns-in-124 c = mark_in_front (first_cut c.in-Some.ensures.value c.as_bytes.ensures.value c.split_at.ensures.back) c.in-124.is (λ rest. lexemes.Spells.bar)

pub returns-in-59 : goal.returns-in-59
returns-in-59 c = mark_in_front (first_cut c.in-Some.ensures.value c.as_bytes.ensures.value c.split_at.ensures.back) c.in-59.is (λ rest. lexemes.Spells.semicolon)

-- no lexeme, blank or comment begins with the byte
pub returns-in_default-first : goal.returns-in_default-first
returns-in_default-first c = nothing_in_front (first_cut c.in-Some.ensures.value c.as_bytes.ensures.value c.split_at.ensures.back) (sym c.if-is_name_start.ensures) (search rules) (search rules) (search rules) (sym c.if-is_blank.ensures) (search rules) (search rules) (search rules)

-- a comment, a word and a quoted name
pub returns-in-47 : goal.returns-in-47
returns-in-47 c =
    front_here c.comment.result (first_cut c.in-Some.ensures.value c.as_bytes.ensures.value c.split_at.ensures.back) c.in-47.is c.comment.ensures

pub returns-in-37 : goal.returns-in-37
returns-in-37 c = front_here c.word.result (first_cut c.in-Some.ensures.value c.as_bytes.ensures.value c.split_at.ensures.back) c.in-37.is c.word.ensures

pub returns-in-39 : goal.returns-in-39
returns-in-39 c = front_here c.quoted.result (first_cut c.in-Some.ensures.value c.as_bytes.ensures.value c.split_at.ensures.back) refl c.quoted.ensures

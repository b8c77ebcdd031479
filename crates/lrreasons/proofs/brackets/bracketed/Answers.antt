use Rattle.std.proofs.Common.{◌≡◌, ◌-◌, ◌∙◌, length, map, arith}
use Rattle.std.specs.Prelude.{fold}
use Rattle.std.specs.String.{string_bytes}
use Rattle.std.proofs.lemmas.List.{length-map}
use Rattle.lrspec.specs.texts.PrintedTexts.{symbol_text}
use Rattle.lrgrammar.specs.Symbols.{symbol_of, number_of}
use Rattle.lrconflicts.specs.StoredMoves.{moves_stored}
use Rattle.lrreasons.specs.Brackets.{no_row, next_row, joined}
use Rattle.lrreasons.specs.StoredForms.{row_of, form_words, trees_of}
use Rattle.lrreasons.proofs.Rows.{dot_at_end, dot_within}
use Rattle.lrreasons.proofs.brackets.bracketed.Goals.{then-len-form+in_ok-push_word, else-len-form}
use Rattle.lrreasons.proofs.brackets.bracketed.Goals as goal

pub returns : goal.returns
returns c =
    let m = c.args.grm.now in
    let form = c.args.form.now in
    let d = form.dot in
    let ws = form_words m form in
    let ms = moves_stored number_of form.ways.before.items in
    let ns = moves_stored number_of c.args.moves.now in
    let row = c.make-2.new.self in
    let words = map string_bytes c.in_ok-words.words.items in
    let before : row_of c.make.new.self ≡ fold (next_row m d ws) no_row ms = rw (c.new.ensures.items, c.as_slice.ensures.value) at c.in_ok-make.ensures in
    let all : length row.trees.items - c.len-count.result ≡ 0 = omega (arith, c.len-count.ensures, row.trees.ok.0) in
    let taken : words ≡ joined (trees_of row.trees.items) = rw all at c.in_ok-words.ensures.words in
    let made : words ≡ joined (fold (next_row m d ws) (row_of c.make.new.self) ns).trees = rw (← c.in_ok-make-2.ensures) taken in
    let count : length ws ≡ length form.symbols.items = length-map (map (symbol_of number_of) form.symbols.items) (symbol_text m) ∙ length-map form.symbols.items (symbol_of number_of) in
    elim c.if-len-form.branch [
      | then-len-form+in_ok-push_word w ↦
          rw (w.words-is, w.in_ok-push_word.ensures) (dot_at_end m d ws ms ns (row_of c.make.new.self) words before made (omega (arith, count, w.if-len-form.true, c.len.ensures, form.symbols.ok.0)))
      | else-len-form w ↦
          rw w.words-is (dot_within m d ws ms ns (row_of c.make.new.self) words before made (omega (arith, count, w.if-len-form.false, c.len.ensures, form.symbols.ok.0)))
    ]

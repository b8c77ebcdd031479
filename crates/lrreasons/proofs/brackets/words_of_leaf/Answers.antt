use Rattle.std.proofs.Common.{◌≡◌, ◌==◌, [], ◌∷◌, map, refl}
use Rattle.std.specs.Prelude.{codes, if◌then◌else◌}
use Rattle.std.specs.String.{string_bytes}
use Rattle.lrspec.specs.texts.PrintedTexts.{symbol_text}
use Rattle.lrgrammar.specs.Symbols.{symbol_of, number_of}
use Rattle.lrreasons.proofs.Pieces.{mapped_push, no_piece}
use Rattle.lrreasons.proofs.Rows.{word_there, no_word, dot_here, no_dot}
use Rattle.lrreasons.proofs.brackets.words_of_leaf.Goals.{then-place-form+in_ok-push_word, else-place-form, in-Some+in_ok-symbol_word+in_ok-push, in_default}
use Rattle.lrreasons.proofs.brackets.words_of_leaf.Goals as goal

pub returns : goal.returns
returns c =
    let f = symbol_of number_of in
    let h = symbol_text c.args.grm.now in
    let xs = c.args.form.now.symbols.items in
    let i = c.args.place in
    let d = c.args.form.now.dot in
    let before : map string_bytes c.if-place-form.words.items ≡ (if i == d then codes "." ∷ [] else []) =
    elim c.if-place-form.branch [
      | then-place-form+in_ok-push_word w ↦ rw (w.words-is, w.in_ok-push_word.ensures, c.new-words.ensures.items, dot_here i d w.if-place-form.true) refl
      | else-place-form w ↦ rw (w.words-is, c.new-words.ensures.items, no_dot i d w.if-place-form.false) refl
    ] in
    elim c.match-get.branch [
      | in-Some+in_ok-symbol_word+in_ok-push w ↦
          let x = w.in-Some.symbol.now in
          let item = rw c.deref.ensures.value at w.in-Some.ensures.lookup in
          rw (w.words-is, word_there f h xs i x item.3.0 item.1, ← before)
          (mapped_push string_bytes c.if-place-form.words.items w.push.new.self.items w.in_ok-symbol_word.field-0 (h (f x)) w.in_ok-push.ensures.items w.in_ok-symbol_word.ensures)
      | in_default w ↦
          let item = rw c.deref.ensures.value at (rw w.in_default.is at c.get.ensures.lookup) in
          rw (w.words-is, no_word f h xs i item.3, ← before) (no_piece (map string_bytes c.if-place-form.words.items))
    ]

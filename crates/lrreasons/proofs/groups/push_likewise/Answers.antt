use Rattle.std.proofs.Common.{◌≡◌, [], map, length, sym, ap, ◌∙◌, vec_len, arith}
use Rattle.std.specs.Prelude.{filter}
use Rattle.std.specs.String.{string_bytes}
use Rattle.std.proofs.lemmas.List.{take_all, nil_from_length, length-map}
use Rattle.lrspec.specs.texts.PrintedTexts.{symbol_text}
use Rattle.lrreasons.specs.StoredTexts.{are_alike, conflict_token, conflict_tokens}
use Rattle.lrreasons.proofs.Pieces.{mapped_push}
use Rattle.lrreasons.proofs.ToldOnce.{kept_more, passed_over, is_zero, is_positive, no_others, some_others}
use Rattle.lrreasons.proofs.groups.push_likewise.Goals.{then-are_alike+in_ok-symbol_word+in_ok-push, else-are_alike}
use Rattle.lrreasons.proofs.groups.push_likewise.Goals as goal

pub loop-other-preserved : goal.loop-other-preserved
loop-other-preserved c =
    let test = are_alike c.args.reason.now in
    let token = conflict_token in
    let h = symbol_text c.args.grm.now in
    let rs = c.args.reasons.now in
    let i = c.loop-other.other-index in
    let r = c.other-item.result in
    let old = map string_bytes c.loop-other.words.items in
    elim c.if-are_alike.branch [
      | then-are_alike+in_ok-symbol_word+in_ok-push w ↦
          rw w.words-is
          (kept_more test token h rs i r old (map string_bytes w.push.new.self.items) c.loop-other-test.true c.other-item.is (sym c.are_alike.ensures ∙ w.if-are_alike.true) c.loop-other.invariant
          (mapped_push string_bytes c.loop-other.words.items w.push.new.self.items w.in_ok-symbol_word.field-0 (h (token r)) w.in_ok-push.ensures.items w.in_ok-symbol_word.ensures))
      | else-are_alike w ↦
          rw w.words-is (passed_over test token h rs i r old c.loop-other-test.true c.other-item.is (sym c.are_alike.ensures ∙ w.if-are_alike.false) c.loop-other.invariant)
    ]

pub returns-then-is_empty : goal.returns-then-is_empty
returns-then-is_empty c =
    let rs = c.args.reasons.now in
    let words = c.loop-other.words in
    let empty = is_zero (vec_len words) c.is_empty.result c.is_empty.ensures c.if-is_empty.true in
    let none : map string_bytes words.items ≡ [] = ap (map string_bytes) (nil_from_length words.items (omega (arith, empty, words.ok.0))) in
    let all = rw (take_all c.loop-other.other-index rs (omega arith)) at c.loop-other.invariant in
    no_others c.args.grm.now (string_bytes c.args.text.now) (map string_bytes words.items) (conflict_tokens (filter (are_alike c.args.reason.now) rs)) all none

pub returns : goal.returns
returns c =
    let rs = c.args.reasons.now in
    let words = c.loop-other.words in
    let some : ¬ (map string_bytes words.items ≡ []) = λ e.
    let empty : vec_len words ≡ 0 = omega (arith, sym (length-map words.items string_bytes) ∙ ap length e, words.ok.0) in
    is_positive (vec_len words) c.is_empty.result c.is_empty.ensures c.if-is_empty.false empty in
    let all = rw (take_all c.loop-other.other-index rs (omega arith)) at c.loop-other.invariant in
    rw (some_others c.args.grm.now (string_bytes c.args.text.now) (map string_bytes words.items) (conflict_tokens (filter (are_alike c.args.reason.now) rs)) all some, ← c.deref.ensures.value)
    c.push_line.ensures

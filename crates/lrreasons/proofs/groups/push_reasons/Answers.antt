use Rattle.std.proofs.Common.{◌≡◌, [], ◌++◌, take, sym, ◌∙◌, append-nil, arith}
use Rattle.std.specs.List.{list_any}
use Rattle.std.specs.String.{string_bytes}
use Rattle.std.proofs.lemmas.List.{drop_all}
use Rattle.lrreasons.specs.StoredTexts.{are_alike, reasons_text}
use Rattle.lrreasons.proofs.ToldOnce.{left_out, told_next}
use Rattle.lrreasons.proofs.groups.push_reasons.Goals.{then-not-is_told+in_ok-push_reason+in_ok-push_likewise, else-not-is_told}
use Rattle.lrreasons.proofs.groups.push_reasons.Goals as goal

pub loop-place-preserved : goal.loop-place-preserved
loop-place-preserved c =
    let m = c.args.grm.now in
    let rs = c.args.reasons.now in
    let i = c.loop-place.place in
    let r = c.index-reasons-place.result in
    let old = string_bytes c.loop-place.text in
    let whole = string_bytes c.args.text.now ++ reasons_text m [] rs in
    let told : list_any (are_alike r) (take i rs) ≡ c.is_told.result = rw (← c.split_at.ensures.front) (sym c.is_told.ensures) in
    elim c.if-not-is_told.branch [
      | then-not-is_told+in_ok-push_reason+in_ok-push_likewise w ↦
          rw w.text-is
          (told_next m rs i r old (string_bytes w.push_reason.new.text) (string_bytes w.push_likewise.new.text) whole c.loop-place-test.true c.index-reasons-place.is (told ∙ w.if-not-is_told.true) c.loop-place.invariant
          w.in_ok-push_reason.ensures (rw w.split_at-then-not-is_told.ensures.back at w.in_ok-push_likewise.ensures))
      | else-not-is_told w ↦
          rw w.text-is (left_out m rs i r old whole c.loop-place-test.true c.index-reasons-place.is (told ∙ w.if-not-is_told.false) c.loop-place.invariant)
    ]

pub returns : goal.returns
returns c =
    let rs = c.args.reasons.now in
    let none = drop_all c.loop-place.place rs (omega arith) in
    sym (append-nil (string_bytes c.loop-place.text)) ∙ rw none at c.loop-place.invariant

use Rattle.std.proofs.Common.{◌≡◌, ◌++◌}
use Rattle.std.specs.String.{string_bytes}
use Rattle.lrconflicts.specs.Entries.{entry_of}
use Rattle.lrreasons.specs.Texts.{conflict_line}
use Rattle.lrreasons.specs.StoredTexts.{ambiguity_or_none, example_text}
use Rattle.lrgrammar.specs.Symbols.{number_of}
use Rattle.lrreasons.proofs.Pieces.{two_pieces, last_of_two}
use Rattle.lrreasons.proofs.texts.push_reason.Goals.{in-Some+in_ok-push_ambiguity-in-Some, in-None+in_ok-push_line-in-None}
use Rattle.lrreasons.proofs.texts.push_reason.Goals as goal

pub returns-in-Some-example : goal.returns-in-Some-example
returns-in-Some-example c =
    let m = c.args.grm.now in
    let r = c.args.reason.now in
    let old = string_bytes c.args.text.now in
    let begun = string_bytes c.push_str.new.self in
    let mid = string_bytes c.match-reason.text in
    let head = conflict_line m (entry_of number_of r.conflict) in
    let line : begun ≡ old ++ head = rw (← c.in_ok-conflict_line.ensures, ← c.as_str.ensures.value) c.in_ok-push_str.ensures.bytes in
    let verdict : mid ≡ begun ++ ambiguity_or_none m r.conflict r.ambiguity =
    elim c.match-reason.branch [
      | in-Some+in_ok-push_ambiguity-in-Some w ↦ rw (w.text-is, w.in-Some.is) w.in_ok-push_ambiguity-in-Some.ensures
      | in-None+in_ok-push_line-in-None w ↦ rw (w.text-is, w.in-None.is) w.in_ok-push_line-in-None.ensures
    ] in
    rw c.in-Some-example.is
    (last_of_two c.push_example.result old mid (string_bytes c.push_example.new.text) (head ++ ambiguity_or_none m r.conflict r.ambiguity) (example_text m r.conflict c.in-Some-example.example)
    (two_pieces old begun mid head (ambiguity_or_none m r.conflict r.ambiguity) line verdict) c.push_example.ensures)

use Rattle.std.proofs.Common.{◌≡◌, ◌++◌, [], take, drop}
use Rattle.std.specs.String.{string_bytes}
use Rattle.lrreasons.specs.StoredTexts.{reasons_text}
use Rattle.lrreasons.proofs.groups.push_reasons.Given as goal

abbrev pub invariant-loop-place : goal.invariant-loop-place
invariant-loop-place l =
    string_bytes l.text ++ reasons_text l.grm (take l.place l.reasons) (drop l.place l.reasons)
    ≡ string_bytes l.fn.text ++ reasons_text l.grm [] l.reasons

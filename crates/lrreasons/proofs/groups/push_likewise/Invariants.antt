use Rattle.std.proofs.Common.{◌≡◌, map, take}
use Rattle.std.specs.Prelude.{filter}
use Rattle.std.specs.String.{string_bytes}
use Rattle.lrreasons.specs.StoredTexts.{are_alike, conflict_tokens}
use Rattle.lrreasons.specs.Words.{words_of}
use Rattle.lrreasons.proofs.groups.push_likewise.Given as goal

abbrev pub invariant-loop-other : goal.invariant-loop-other
invariant-loop-other l =
    map string_bytes l.words.items ≡ words_of l.grm (conflict_tokens (filter (are_alike l.reason) (take l.other-index l.reasons)))

-- those so far
use Rattle.std.proofs.Common.{◌≡◌, map, take}
use Rattle.lrtext.specs.StoredParts.{token_of}
use Rattle.lrreasons.specs.Precedences.{plain_token}
use Rattle.lrreasons.proofs.precedences.plain_tokens.Given as goal

abbrev pub invariant-loop-token : goal.invariant-loop-token
invariant-loop-token l = map token_of l.plain.items ≡ map plain_token (map token_of (take l.token-index l.tokens))

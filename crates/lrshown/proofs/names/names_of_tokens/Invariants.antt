-- the names of those so far
use Rattle.std.proofs.Common.{◌≡◌, map, take}
use Rattle.lrshown.specs.BracketTexts.{token_text}
use Rattle.lrshown.proofs.names.names_of_tokens.Given as goal

abbrev pub invariant-loop-token : goal.invariant-loop-token
invariant-loop-token l = map (λ n. n.now) l.names.items ≡ map (token_text l.file) (take l.token-index l.tokens)

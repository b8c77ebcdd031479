-- tokens that are added one after the other
use Rattle.std.proofs.Common.{◌++◌, List, append_assoc, ap, ◌∙◌}
use Rattle.json.specs.Token.{Token}
use Rattle.lrreport.specs.JsonTexts.{AddsTokens, HeldJson}

pub adds_both :
    {old between new : HeldJson} {front behind : List Token}
    → AddsTokens old between front → AddsTokens between new behind → AddsTokens old new (front ++ behind)
adds_both {old} {between} {new} {front} {behind} one other = record {
  whole = λ is. one.whole (other.whole is);
  tokens = λ is. other.tokens is ∙ ap (λ ts. ts ++ behind) (one.tokens (other.whole is)) ∙ append_assoc old.tokens front behind;
}

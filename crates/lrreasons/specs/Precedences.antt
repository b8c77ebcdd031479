-- grammars without their precedences
use Rattle.std.specs.Prelude.{map, None}
use Rattle.lrspec.specs.texts.Parts.{PartToken, Parts}

-- the token without its precedence
abbrev pub plain_token : PartToken → PartToken
plain_token t = record { name = t.name; precedence = None }

-- the same parts, but no token has a precedence
abbrev pub without_precedences : Parts → Parts
without_precedences ps =
    record {
      rules = ps.rules;
      tokens = map plain_token ps.tokens;
      prods = ps.prods;
      start = ps.start;
    }

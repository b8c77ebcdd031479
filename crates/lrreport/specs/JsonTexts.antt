-- what a text of JSON in the making holds, and what is added to it
use Rattle.std.specs.Prelude.{◌≡◌, Bool, List, ◌++◌, IsTrue}
use Rattle.json.specs.Token.{Token}

-- the tokens, and whether these are all that were added
pub record HeldJson : Type 0 where
  pub tokens : List Token
  pub is_whole : Bool

-- these tokens stand behind all that were there before; nothing is said of a text that is not whole, but that it was none before
pub record AddsTokens (old new : HeldJson) (more : List Token) : Type 0 where
  pub whole : IsTrue new.is_whole → IsTrue old.is_whole
  pub tokens : IsTrue new.is_whole → new.tokens ≡ old.tokens ++ more

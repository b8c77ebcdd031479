-- Which grammars the numbers of an index type can count.
use Rattle.std.specs.Prelude.{ℕ, ◌≤◌, length}
use Rattle.lrspec.specs.grammars.Grammar.{Grammar, token_count, body_of}

-- what the numbers up to `most` can count: the rules, the tokens, the productions, and the symbols of each body
pub record IsWithin (most : ℕ) (g : Grammar) : Type 0 where
  pub rules : length g.rule_names ≤ most
  pub tokens : token_count g ≤ most
  pub productions : length g.productions ≤ most
  pub bodies : (p : ℕ) → length (body_of g p) ≤ most

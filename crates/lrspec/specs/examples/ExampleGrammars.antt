-- small grammars for the examples
use Rattle.std.specs.Prelude.{ℕ, List, [], ◌∷◌, Option, None, Some, codes}
use Rattle.lrspec.specs.grammars.Grammar.{Symbol, Rule, Token, Kind, Left, Right, Nonassoc, Precedence, Production, Grammar}

-- a production of the rule `r` with this body, which names no token for its precedence
abbrev pub production : ℕ → List Symbol → Production
production r y = record { rule = r; body = y; precedence_token = None }

-- a precedence of this level and kind
abbrev pub at_level : ℕ → Kind → Option Precedence
at_level n k = Some (record { level = n; kind = k })

-- assignments, `S: L '=' R | R; L: '*' R | 'id'; R: L;`:
-- the rules S 1, L 2, R 3; the tokens '=' 0, '*' 1, 'id' 2, and 3 the end token
abbrev pub assignments : Grammar
assignments = record {
  rule_names = codes "^" ∷ codes "S" ∷ codes "L" ∷ codes "R" ∷ [];
  token_names = codes "=" ∷ codes "*" ∷ codes "id" ∷ [];
  token_precedences = None ∷ None ∷ None ∷ [];
  productions =
      production 1 (Rule 2 ∷ Token 0 ∷ Rule 3 ∷ [])
      ∷ production 1 (Rule 3 ∷ [])
      ∷ production 2 (Token 1 ∷ Rule 3 ∷ [])
      ∷ production 2 (Token 2 ∷ [])
      ∷ production 3 (Rule 2 ∷ [])
      ∷ production 0 (Rule 1 ∷ [])
      ∷ [];
  start_production = 5;
}

-- LR(1) and not LALR(1), `S: 'a' A 'd' | 'b' B 'd' | 'a' B 'e' | 'b' A 'e'; A: 'c'; B: 'c';`:
-- the rules S 1, A 2, B 3; the tokens 'a' 0, 'd' 1, 'b' 2, 'e' 3, 'c' 4, and 5 the end token
abbrev pub lr_not_lalr : Grammar
lr_not_lalr = record {
  rule_names = codes "^" ∷ codes "S" ∷ codes "A" ∷ codes "B" ∷ [];
  token_names = codes "a" ∷ codes "d" ∷ codes "b" ∷ codes "e" ∷ codes "c" ∷ [];
  token_precedences = None ∷ None ∷ None ∷ None ∷ None ∷ [];
  productions =
      production 1 (Token 0 ∷ Rule 2 ∷ Token 1 ∷ [])
      ∷ production 1 (Token 2 ∷ Rule 3 ∷ Token 1 ∷ [])
      ∷ production 1 (Token 0 ∷ Rule 3 ∷ Token 3 ∷ [])
      ∷ production 1 (Token 2 ∷ Rule 2 ∷ Token 3 ∷ [])
      ∷ production 2 (Token 4 ∷ [])
      ∷ production 3 (Token 4 ∷ [])
      ∷ production 0 (Rule 1 ∷ [])
      ∷ [];
  start_production = 6;
}

-- a rule without a tree, `S: A B | 'c'; A: 'a' | 'a'; B: B 'b';`:
-- the rules S 1, A 2, B 3, which has no tree; the tokens 'c' 0, 'a' 1, 'b' 2, and 3 the end token
abbrev pub rule_without_tree : Grammar
rule_without_tree = record {
  rule_names = codes "^" ∷ codes "S" ∷ codes "A" ∷ codes "B" ∷ [];
  token_names = codes "c" ∷ codes "a" ∷ codes "b" ∷ [];
  token_precedences = None ∷ None ∷ None ∷ [];
  productions =
      production 1 (Rule 2 ∷ Rule 3 ∷ [])
      ∷ production 1 (Token 0 ∷ [])
      ∷ production 2 (Token 1 ∷ [])
      ∷ production 2 (Token 1 ∷ [])
      ∷ production 3 (Rule 3 ∷ Token 2 ∷ [])
      ∷ production 0 (Rule 1 ∷ [])
      ∷ [];
  start_production = 5;
}

-- contested on x alone,
-- `S: 'a' A 'd' | 'a' A 'x' | 'a' B 'e' | 'a' B 'x' | 'b' B 'd' | 'b' A 'e'; A: 'c'; B: 'c';`:
-- the rules S 1, A 2, B 3; the tokens 'a' 0, 'd' 1, 'x' 2, 'e' 3, 'b' 4, 'c' 5, and 6 the end token
abbrev pub contested_on_x : Grammar
contested_on_x = record {
  rule_names = codes "^" ∷ codes "S" ∷ codes "A" ∷ codes "B" ∷ [];
  token_names = codes "a" ∷ codes "d" ∷ codes "x" ∷ codes "e" ∷ codes "b" ∷ codes "c" ∷ [];
  token_precedences = None ∷ None ∷ None ∷ None ∷ None ∷ None ∷ [];
  productions =
      production 1 (Token 0 ∷ Rule 2 ∷ Token 1 ∷ [])
      ∷ production 1 (Token 0 ∷ Rule 2 ∷ Token 2 ∷ [])
      ∷ production 1 (Token 0 ∷ Rule 3 ∷ Token 3 ∷ [])
      ∷ production 1 (Token 0 ∷ Rule 3 ∷ Token 2 ∷ [])
      ∷ production 1 (Token 4 ∷ Rule 3 ∷ Token 1 ∷ [])
      ∷ production 1 (Token 4 ∷ Rule 2 ∷ Token 3 ∷ [])
      ∷ production 2 (Token 5 ∷ [])
      ∷ production 3 (Token 5 ∷ [])
      ∷ production 0 (Rule 1 ∷ [])
      ∷ [];
  start_production = 8;
}

-- hidden left recursion, `S: A S 'x' | B 'y'; A: ; B: ;`:
-- the rules S 1, A 2, B 3; the tokens 'x' 0, 'y' 1, and 2 the end token
abbrev pub hidden_left_recursion : Grammar
hidden_left_recursion = record {
  rule_names = codes "^" ∷ codes "S" ∷ codes "A" ∷ codes "B" ∷ [];
  token_names = codes "x" ∷ codes "y" ∷ [];
  token_precedences = None ∷ None ∷ [];
  productions =
      production 1 (Rule 2 ∷ Rule 1 ∷ Token 0 ∷ [])
      ∷ production 1 (Rule 3 ∷ Token 1 ∷ [])
      ∷ production 2 []
      ∷ production 3 []
      ∷ production 0 (Rule 1 ∷ [])
      ∷ [];
  start_production = 4;
}

-- operators, `%nonassoc '<' %left '+' %left '*' %right '**'`
-- and `E: E '<' E | E '+' E | E '*' E | E '**' E | 'id';`:
-- the rule E 1; the tokens '<' 0, '+' 1, '*' 2, '**' 3, 'id' 4, and 5 the end token
abbrev pub operators : Grammar
operators = record {
  rule_names = codes "^" ∷ codes "E" ∷ [];
  token_names = codes "<" ∷ codes "+" ∷ codes "*" ∷ codes "**" ∷ codes "id" ∷ [];
  token_precedences =
      at_level 0 Nonassoc
      ∷ at_level 1 Left
      ∷ at_level 2 Left
      ∷ at_level 3 Right
      ∷ None
      ∷ [];
  productions =
      production 1 (Rule 1 ∷ Token 0 ∷ Rule 1 ∷ [])
      ∷ production 1 (Rule 1 ∷ Token 1 ∷ Rule 1 ∷ [])
      ∷ production 1 (Rule 1 ∷ Token 2 ∷ Rule 1 ∷ [])
      ∷ production 1 (Rule 1 ∷ Token 3 ∷ Rule 1 ∷ [])
      ∷ production 1 (Token 4 ∷ [])
      ∷ production 0 (Rule 1 ∷ [])
      ∷ [];
  start_production = 5;
}

-- the smallest, `S: ;`: the rule S 1; no named token, and 0 the end token
abbrev pub smallest : Grammar
smallest = record {
  rule_names = codes "^" ∷ codes "S" ∷ [];
  token_names = [];
  token_precedences = [];
  productions = production 1 [] ∷ production 0 (Rule 1 ∷ []) ∷ [];
  start_production = 1;
}

-- three of itself, `S: S S S;`: the rule S 1, which has no tree; no named token, and 0 the end token
abbrev pub three_of_itself : Grammar
three_of_itself = record {
  rule_names = codes "^" ∷ codes "S" ∷ [];
  token_names = [];
  token_precedences = [];
  productions = production 1 (Rule 1 ∷ Rule 1 ∷ Rule 1 ∷ []) ∷ production 0 (Rule 1 ∷ []) ∷ [];
  start_production = 1;
}

-- the headline, for grammars without precedences: a table without conflicts is answered exactly
-- where the canonical LR(1) items leave the grammar uncontested, and its machine then accepts
-- exactly the sentences
use Rattle.std.specs.Prelude.{◌≡◌, ℕ, List, [], Option, None, ◌↔◌}
use Rattle.std.specs.Option.{IfSome, IsSomeAnd}
use Rattle.lrspec.specs.grammars.Grammar.{Grammar, token_precedence}
use Rattle.lrspec.specs.grammars.Candidates.{IsUncontested}
use Rattle.lrspec.specs.grammars.Trees.{IsSentence}
use Rattle.lrspec.specs.tables.Table.{Table}
use Rattle.lrspec.specs.tables.Machine.{Accepted, run}
use Rattle.lrspec.specs.tables.Recognition.{AreNamed, IsNeverStuck, IsSound, IsComplete, IsUnambiguous}

-- no token has a precedence
abbrev pub HasNoPrecedences : Grammar → Type 0
HasNoPrecedences g = (t : ℕ) → token_precedence g t ≡ None

-- both lists of conflicts of the table are empty: its `conflicts` are None
abbrev pub ListsNothing : Table → Type 0
ListsNothing b = (b.reduce_reduce ≡ []) × (b.shift_reduce ≡ [])

-- the machine of the table accepts exactly the sentences of the grammar
pub record Recognises (g : Grammar) (b : Table) : Type 0 where
  -- a text of named tokens is accepted, after some number of steps, exactly where it is a sentence
  pub sentences :
      (text : List ℕ) → AreNamed g text
      → ((n : ℕ) × ((run g b n text).verdict ≡ Accepted)) ↔ IsSentence g text
  -- its number of steps is that of the tokens and of the nodes of its tree, and one more
  pub complete : IsComplete g b
  -- its reductions are the productions of that tree
  pub sound : IsSound g b
  -- it has no other tree
  pub one_tree : IsUnambiguous g
  -- no run sticks
  pub never_stuck : IsNeverStuck g b

-- what is answered to a grammar: a table, or None for the error that it has no table, since it is
-- contested whether to accept
pub record IsExactAnswer (g : Grammar) (answer : Option Table) : Type 0 where
  -- a table without conflicts is answered exactly where no list of symbols leaves a token two
  -- candidates by the canonical LR(1) items
  pub exact : HasNoPrecedences g → IsSomeAnd answer ListsNothing ↔ IsUncontested g
  -- its machine accepts exactly the sentences
  pub recognises :
      HasNoPrecedences g → IfSome answer (λ b. ListsNothing b → Recognises g b)

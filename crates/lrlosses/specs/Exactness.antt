-- tables whose machine accepts exactly the sentences
use Rattle.std.specs.Prelude.{◌≡◌, ℕ, ◌≤◌, List, length, ◌↔◌, ◌⊎◌}
use Rattle.lrspec.specs.grammars.Grammar.{Grammar}
use Rattle.lrspec.specs.grammars.Trees.{IsSentence}
use Rattle.lrspec.specs.merging.Graph.{Graph}
use Rattle.lrspec.specs.tables.Table.{Table, IsCrowded}
use Rattle.lrspec.specs.tables.Machine.{Accepted, run}
use Rattle.lrspec.specs.tables.Recognition.{AreNamed, IsSound}
use Rattle.lrlosses.specs.Losses.{Place, StopsAt}

-- the machine of the table accepts exactly the sentences of the grammar
pub record IsExact (g : Grammar) (b : Table) : Type 0 where
  -- a text of named tokens is accepted, after some number of steps, exactly where it is a sentence
  pub sentences :
      (text : List ℕ) → AreNamed g text
      → ((n : ℕ) × ((run g b n text).verdict ≡ Accepted)) ↔ IsSentence g text
  -- how many steps suffice for a sentence of so many tokens
  pub steps : ℕ → ℕ
  pub within :
      (text : List ℕ) (n : ℕ) → IsSentence g text → steps (length text) ≤ n
      → (run g b n text).verdict ≡ Accepted

-- the machine stops at an error for which more than one move contends
abbrev pub StopsAtCrowdedError : Grammar → Graph → Table → List ℕ → Type 0
StopsAtCrowdedError g h b text =
    (x : Place) × StopsAt g b text x × IsCrowded g h x.state x.token

-- the machine accepts sentences alone, and each that it doesn't accept stops at a crowded error
pub record IsExactButAtErrors (g : Grammar) (h : Graph) (b : Table) : Type 0 where
  -- what is accepted is a sentence
  pub sound : IsSound g b
  -- how many steps suffice for a sentence of so many tokens
  pub steps : ℕ → ℕ
  pub within :
      (text : List ℕ) (n : ℕ) → IsSentence g text → steps (length text) ≤ n
      → ((run g b n text).verdict ≡ Accepted) ⊎ StopsAtCrowdedError g h b text

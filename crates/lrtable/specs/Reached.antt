-- configs to which the machine comes, and what it can do there
use Rattle.std.specs.Prelude.{◌≡◌, ℕ, ◌<◌, List, length, drop, Some}
use Rattle.lrspec.specs.grammars.Grammar.{Grammar, body_of, rule_of}
use Rattle.lrspec.specs.tables.Table.{Table, goto_of}
use Rattle.lrspec.specs.tables.Machine.{Config, top, start_config}
use Rattle.lrspec.proofs.tables.MachineMoves.{Moves}

-- the machine comes to the config on the text, in so many steps, each of which goes on
abbrev pub IsReachedIn : Grammar → Table → List ℕ → ℕ → Config → Type 0
IsReachedIn g b text n c = Moves g b n (start_config b text) c

-- it comes there in some number of steps
abbrev pub IsReached : Grammar → Table → List ℕ → Config → Type 0
IsReached g b text c = (n : ℕ) × IsReachedIn g b text n c

-- with this stack the machine can reduce by `p`: that is a production, the stack is deep enough, and the goto is
-- there
pub record CanReduce (g : Grammar) (b : Table) (p : ℕ) (ss : List ℕ) : Type 0 where
  pub production : p < length g.productions
  pub deep : length (body_of g p) < length ss
  pub goto :
      (u : ℕ) × (goto_of b (top (drop (length (body_of g p)) ss)) (rule_of g p) ≡ Some u)

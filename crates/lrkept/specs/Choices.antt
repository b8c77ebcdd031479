-- cells that take all that contends for them
use Rattle.std.specs.Prelude.{◌≡◌, ◌≢◌, ℕ, ◌<◌, Bool, IsTrue, List, length, Some}
use Rattle.lrspec.specs.grammars.Grammar.{Token, Grammar, body_of, token_count}
use Rattle.lrspec.specs.grammars.ItemSets.{LooksIn}
use Rattle.lrspec.specs.merging.Graph.{Graph, closed_of, edge}
use Rattle.lrspec.specs.tables.Table.{Table, action_of}
use Rattle.lrbits.specs.Bits.{bit}
use Rattle.lrconflicts.specs.Moves.{Shift, Reduce}
use Rattle.lrlosses.specs.Losses.{Takes}

-- where an edge is on the token the cell takes the shift
abbrev pub TakesShift : Graph → Table → ℕ → ℕ → Type 0
TakesShift h b s t = (u : ℕ) → edge h s (Token t) ≡ Some u → Takes (action_of b s t) Shift

-- the cell takes the reduction by the item with these lookaheads, if the item is complete, not of the start production, and
-- looks at the token
abbrev pub TakesAllOfItem : Grammar → Table → ℕ → ℕ → ℕ → ℕ → List Bool → Type 0
TakesAllOfItem g b s t p d tokens =
    d ≡ length (body_of g p) → p ≢ g.start_production → IsTrue (bit tokens t)
    → Takes (action_of b s t) (Reduce p)

-- the cell takes the reduction by each complete item that looks at the token, but for the start production
abbrev pub TakesReductions : Grammar → Graph → Table → ℕ → ℕ → Type 0
TakesReductions g h b s t =
    (p : ℕ) → p ≢ g.start_production → LooksIn (closed_of h s) p (length (body_of g p)) t
    → Takes (action_of b s t) (Reduce p)

-- each cell of the state takes all that contends for it
abbrev pub TakesAllIn : Grammar → Graph → Table → ℕ → Type 0
TakesAllIn g h b s =
    (t : ℕ) → t < token_count g → TakesShift h b s t × TakesReductions g h b s t

-- and so does each cell of the table
abbrev pub TakesAll : Grammar → Graph → Table → Type 0
TakesAll g h b = (s : ℕ) → s < length h → TakesAllIn g h b s

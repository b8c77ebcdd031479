-- sentences that the machine of a table rejects, and where
use Rattle.std.specs.Prelude.{◌≡◌, ◌≢◌, ℕ, ◌<◌, ◌≤◌, List, length, drop, Some, slice_get}
use Rattle.lrspec.specs.grammars.Grammar.{Grammar}
use Rattle.lrspec.specs.grammars.Trees.{IsSentence}
use Rattle.lrspec.specs.tables.Table as table
use Rattle.lrspec.specs.tables.Table.{Table, Action, action_of}
use Rattle.lrspec.specs.tables.Machine.{Config, top, next_token, Accepted, Rejected, Unfinished, run, start_config, stands_after}
use Rattle.lrconflicts.specs.Moves.{Move, Shift, Reduce}

-- some number of steps comes to a rejection of the text
abbrev pub IsRejected : Grammar → Table → List ℕ → Type 0
IsRejected g b text = (n : ℕ) × ((run g b n text).verdict ≡ Rejected)

-- no number of steps accepts it
abbrev pub IsNeverAccepted : Grammar → Table → List ℕ → Type 0
IsNeverAccepted g b text = (n : ℕ) → (run g b n text).verdict ≢ Accepted

-- the text is lost: it is a sentence of the grammar, and the machine of the table rejects it
pub record IsLost (g : Grammar) (b : Table) (text : List ℕ) : Type 0 where
  -- it has a tree
  pub sentence : IsSentence g text
  -- some run ends with an error
  pub rejected : IsRejected g b text

-- what the cell says is this move
pub data Takes : Action → Move → Type 0 where
  -- to shift, to whatever state
  shift : {s : ℕ} → Takes (table.Action.Shift s) Shift
  -- to reduce by the same production
  reduce : {p : ℕ} → Takes (table.Action.Reduce p) (Reduce p)

-- the machine, so many steps after it began with the text
abbrev pub machine_after : Grammar → Table → List ℕ → ℕ → Config
machine_after g b text n = stands_after g b n (start_config b text)

-- the cell at which the machine looks: that of its top state and the next token
abbrev pub cell_seen : Grammar → Table → Config → Action
cell_seen g b c = action_of b (top c.stack) (next_token g c.left)

-- a place in a run on a text
pub record Place : Type 0 where
  -- how many steps were made
  pub steps : ℕ
  -- how many tokens of the text were taken
  pub used : ℕ
  -- the state on top of the stack
  pub state : ℕ
  -- the next token, or the end token
  pub token : ℕ

-- the run on the text comes to the place
pub record ComesTo (g : Grammar) (b : Table) (text : List ℕ) (x : Place) : Type 0 where
  -- so many steps don't end it
  pub goes : (run g b x.steps text).verdict ≡ Unfinished
  -- after them the machine has this state on top
  pub state : top (machine_after g b text x.steps).stack ≡ x.state
  -- what is left is the text without the tokens that were taken
  pub within : x.used ≤ length text
  pub left : (machine_after g b text x.steps).left ≡ drop x.used text
  -- of which this is the first
  pub token : next_token g (drop x.used text) ≡ x.token

-- the machine's first `n` steps are the first `n` moves: each time the cell takes the move
abbrev pub GoesAlong : Grammar → Table → List ℕ → List Move → ℕ → Type 0
GoesAlong g b text ms n =
    (i : ℕ) → i < n
    → (m : Move) × (slice_get ms i ≡ Some m) × Takes (cell_seen g b (machine_after g b text i)) m

-- at the place the machine parts from the moves: up to there its steps are these, and the next move is `m`, which the cell
-- doesn't take
pub record PartsAt (g : Grammar) (b : Table) (text : List ℕ) (ms : List Move) (x : Place)
    (m : Move) : Type 0 where
  pub comes : ComesTo g b text x
  pub along : GoesAlong g b text ms x.steps
  pub next : slice_get ms x.steps ≡ Some m
  pub refused : ¬ (Takes (action_of b x.state x.token) m)

-- at the place the machine rejects the text: the cell is an error
pub record StopsAt (g : Grammar) (b : Table) (text : List ℕ) (x : Place) : Type 0 where
  pub comes : ComesTo g b text x
  pub error : action_of b x.state x.token ≡ table.Action.Error

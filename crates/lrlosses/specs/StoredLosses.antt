-- where sentences are lost, as the code stores it
use Rattle.std.specs.Prelude.{◌≡◌, ◌≢◌, ℕ, List, length}
use Rattle.lrspec.specs.grammars.Grammar.{Grammar}
use Rattle.lrspec.specs.grammars.Trees.{Tree}
use Rattle.lrspec.specs.tables.Table.{Table}
use Rattle.lrspec.specs.tables.Machine.{Rejected, run}
use Rattle.lrconflicts.specs.Moves.{Move, IsTreeBy}
use Rattle.lrlosses.specs.declared.walks.Place as stored
use Rattle.lrlosses.specs.Losses.{Place, GoesAlong}

-- a place by the numbers of its state and token
abbrev pub place_of : {T : Type 0} → (T → ℕ) → stored.Place T → Place
place_of number x = record {
  steps = x.steps;
  used = x.used;
  state = number x.state.0;
  token = number x.token.0;
}

-- if so many steps reject the text, the machine goes along with all the moves
abbrev pub IsRejectedOnlyAlong : Grammar → Table → ℕ → List ℕ → List Move → Type 0
IsRejectedOnlyAlong g b n text ms =
    (run g b n text).verdict ≡ Rejected → GoesAlong g b text ms (length ms)

-- if the moves put together a tree of the text, so many steps don't reject it
abbrev pub IsUnrejected : Grammar → Table → ℕ → List ℕ → List Move → Type 0
IsUnrejected g b n text ms = (t : Tree) → IsTreeBy g ms text t → (run g b n text).verdict ≢ Rejected

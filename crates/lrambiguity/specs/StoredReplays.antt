-- what moves have put together, as the code stores it
use Rattle.std.specs.Prelude.{ℕ, List, ◌++◌, map, take}
use Rattle.lrspec.specs.grammars.Grammar.{Symbol, Grammar}
use Rattle.lrspec.specs.grammars.Trees.{IsForest}
use Rattle.lrgrammar.specs.Symbols.{symbol_of}
use Rattle.lrtree.specs.StoredTrees.{forest_of}
use Rattle.lrambiguity.specs.declared.replays.Replay.{Replay}
use Rattle.lrconflicts.specs.Moves.{Move, HasNoTree}
use Rattle.lrambiguity.specs.Replays.{Reads}

-- the roots of the trees
abbrev pub roots_of : {T : Type 0} → (T → ℕ) → Replay T → List Symbol
roots_of number r = map (symbol_of number) r.roots.items

-- the trees are for the roots
abbrev pub AreRoots : {T : Type 0} → (T → ℕ) → Grammar → Replay T → Type 0
AreRoots number g r = IsForest g (roots_of number r) (forest_of number r.trees.items)

-- these moves have put the trees together, of the tokens that are used
abbrev pub HasMade : {T : Type 0} → (T → ℕ) → Grammar → List ℕ → List Move → Replay T → Type 0
HasMade number g text ms r =
    Reads g ms (take r.used text) (roots_of number r) (forest_of number r.trees.items)

-- some moves have
abbrev pub HasMadeSome : {T : Type 0} → (T → ℕ) → Grammar → List ℕ → Replay T → Type 0
HasMadeSome number g text r = (ms : List Move) × HasMade number g text ms r

-- between the one and the other these moves are made
abbrev pub Makes :
    {T : Type 0} → (T → ℕ) → Grammar → List ℕ → List Move → Replay T → Replay T → Type 0
Makes number g text ns old new =
    (ms : List Move) → HasMade number g text ms old → HasMade number g text (ms ++ ns) new

-- no moves that go on with these put together a tree of the text
abbrev pub LeadsNowhere : {T : Type 0} → (T → ℕ) → Grammar → List ℕ → List Move → Replay T → Type 0
LeadsNowhere number g text ns old =
    (ms rest : List Move) → HasMade number g text ms old → HasNoTree g ((ms ++ ns) ++ rest) text

-- where a search is, as the code stores it
use Rattle.std.specs.Prelude.{ℕ, List, map, None}
use Rattle.std.specs.Option.{option_map}
use Rattle.lrgrammar.specs.Symbols.{symbol_of}
use Rattle.lrsearches.specs.declared.places.Candidate.{Candidate}
use Rattle.lrsearches.specs.declared.places.Candidate.TheVariants.{First, Second}
use Rattle.lrsearches.specs.declared.places.Need as stored
use Rattle.lrsearches.specs.declared.places.Need.TheVariants as code
use Rattle.lrsearches.specs.declared.places.Place as kept
use Rattle.lrsearches.specs.declared.places.Step as made
use Rattle.lrsearches.specs.Searches.{Need, Met, Look, Place, Step}

-- what is needed
abbrev pub need_of : {T : Type 0} → (T → ℕ) → stored.Need T → Need
need_of number code.Met = Met
need_of number (code.Look p d) = Look (number p.0) (number d.0)

-- a place
abbrev pub place_of : {T : Type 0} → (T → ℕ) → kept.Place T → Place
place_of number a =
    record {
      state = number a.state.0;
      first = need_of number a.first;
      second = need_of number a.second;
    }

-- a step
abbrev pub step_of : {T : Type 0} → (T → ℕ) → made.Step T → Step
step_of number e = (option_map (symbol_of number) e.symbol, place_of number e.place)

-- needs
abbrev pub needs_of : {T : Type 0} → (T → ℕ) → List (stored.Need T) → List Need
needs_of number zs = map (need_of number) zs

-- steps
abbrev pub steps_of : {T : Type 0} → (T → ℕ) → List (made.Step T) → List Step
steps_of number es = map (step_of number) es

-- the place with this need for the candidate
abbrev pub place_with : {T : Type 0} → kept.Place T → Candidate → stored.Need T → kept.Place T
place_with a First z = record { state = a.state; first = z; second = a.second }
place_with a Second z = record { state = a.state; first = a.first; second = z }

-- the stored step to this need for the candidate
abbrev pub step_with : {T : Type 0} → kept.Place T → Candidate → stored.Need T → made.Step T
step_with a c z = record { symbol = None; place = place_with a c z }

-- the turns of a search over stored places and steps
use Rattle.std.proofs.Common.{◌≡◌, ℕ, ◌<◌, List, [], ◌∷◌, map, length, get_or, Some, ap}
use Rattle.std.specs.Prelude.{Contains, slice_get, All}
use Rattle.std.specs.List.Sorted.{IsPermutation}
use Rattle.std.proofs.lemmas.List.Elements.{All-contains, Contains-get_or}
use Rattle.lrspec.specs.grammars.Grammar.{Grammar}
use Rattle.lrspec.specs.merging.Graph.{Graph}
use Rattle.lrsearches.specs.declared.places.Place as kept
use Rattle.lrsearches.specs.declared.places.Step as made
use Rattle.lrsearches.specs.StoredPlaces.{place_of, step_of, steps_of}
use Rattle.lrsearches.specs.Searches.{Place, IsGoal, AreLooking, AreStepsOf}
use Rattle.lrsearches.specs.Trails.{Visit, IsVisited, AddsAll, begin_of, next_of}
use Rattle.lrsearches.proofs.StepsOfPlaces.{contains_map, from_contains_map, step_below}
use Rattle.lrsearches.proofs.TrailsInTurn.{IsComing, IsSearching, no_visits, more_visits, begin_coming, step_coming, all_here, all_kept, visited_kept, take_turn, end_turn}

module _ {T : Type 0} (number : T → ℕ) (g : Grammar) (h : Graph) (t : ℕ) (places : List (kept.Place T)) where
  abbrev begun_at : List Place
  begun_at = map (place_of number) places

  coming_place :
      (v : Visit) → All (λ a. AreLooking h t (place_of number a)) places → All (λ a. number a.state.0 < length h) places → Contains (map (begin_of number) places) v
      → IsComing g h t begun_at [] v
  coming_place v look below c =
      let (a, i, e) = from_contains_map (begin_of number) v places c in
      begin_coming g h t begun_at v (place_of number a) (ap (λ (u : Visit). u.from) e) (ap (λ (u : Visit). u.place) e) (contains_map (place_of number) a places i)
      (All-contains (λ a. AreLooking h t (place_of number a)) places a look i) (All-contains (λ a. number a.state.0 < length h) places a below i) []

  -- a search that has begun
  pub begin_searching :
      {us : List Visit} {zs : List ℕ} → All (λ a. AreLooking h t (place_of number a)) places → All (λ a. number a.state.0 < length h) places
      → AddsAll [] [] (map (begin_of number) places) us zs → IsSearching g h t begun_at us zs (λ i. ⊥)
  begin_searching look below a = more_visits g h t begun_at (λ i. ⊥) a (λ v c. coming_place v look below c) (no_visits g h t begun_at)

  -- has come to the places at which it begins
  pub begin_visited :
      {us : List Visit} {zs : List ℕ} → AddsAll [] [] (map (begin_of number) places) us zs → (a : Place) → Contains begun_at a → IsVisited us a
  begin_visited a b c =
      let (p, i, e) = from_contains_map (place_of number) b places c in
      rw e (all_here a (begin_of number p) (contains_map (begin_of number) p places i))

  module _ (vs : List Visit) (n : ℕ) (v : Visit) (steps : List (made.Step T)) (at : slice_get vs n ≡ Some v) (below : v.place.state < length h) where
    coming_step : (u : Visit) → AreStepsOf g h t v.place (steps_of number steps) → Contains (map (next_of number n) steps) u → IsComing g h t begun_at vs u
    coming_step u k c =
        let (e, i, same) = from_contains_map (next_of number n) u steps c in
        let j = contains_map (step_of number) e steps i in
        let made = k.sound (step_of number e) j in
        step_coming g h t begun_at vs n v u (step_of number e) at (ap (λ (u : Visit). u.from) same) (ap (λ (u : Visit). u.symbol) same) (ap (λ (u : Visit). u.place) same)
        made (k.looking (step_of number e) j) (step_below made below)

    -- after the steps of a visit nothing is left to be done at it
    pub turn_searching :
        (ws ys : List ℕ) {us : List Visit} {zs : List ℕ} → IsPermutation ws (n ∷ ys) → (IsGoal g t v.place → ⊥) → AreStepsOf g h t v.place (steps_of number steps)
        → AddsAll vs ys (map (next_of number n) steps) us zs → IsSearching g h t begun_at vs ws (λ i. ⊥) → IsSearching g h t begun_at us zs (λ i. ⊥)
    turn_searching ws ys {us} {zs} p goal k a s =
        let taken = take_turn g h t begun_at vs ws ys n p s in
        let more = more_visits g h t begun_at (λ i. i ≡ n) a (λ u c. coming_step u k c) taken in
        end_turn g h t begun_at us zs n v (steps_of number steps) (all_kept a n v at) goal k
        (λ e c.
        let (x, i, same) = from_contains_map (step_of number) e steps c in
        let here = all_here a (next_of number n x) (contains_map (next_of number n) x steps i) in
        rw same here)
        more

    -- the steps lead to states of the graph
    pub steps_below : AreStepsOf g h t v.place (steps_of number steps) → All (λ e. number e.place.state.0 < length h) steps
    steps_below k i d l =
        let e = get_or steps i d in
        step_below (k.sound (step_of number e) (contains_map (step_of number) e steps (Contains-get_or steps i d l))) below

-- places that were come to stay
pub begun_kept :
    {vs us ms : List Visit} {ws zs : List ℕ} → AddsAll vs ws ms us zs → (ps : List Place) → ((a : Place) → Contains ps a → IsVisited vs a) → (a : Place) → Contains ps a
    → IsVisited us a
begun_kept {vs} {us} a ps begun p c = visited_kept vs us p (all_kept a) (begun p c)

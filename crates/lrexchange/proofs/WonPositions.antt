-- positions that are the same, are listed, and are won
use Rattle.std.proofs.Common.{◌≡◌, ℕ, zero, suc, ◌+◌, ◌<◌, ◌≤◌, List, [], ◌∷◌, ◌++◌, length, length-append, append-nil, append_assoc, map, get_or, Some, sym, subst, ap, ◌∙◌, inl, inr, arith}
use Rattle.std.specs.Prelude.{Contains, slice_get}
use Rattle.std.proofs.lemmas.Bool.{cases_eq}
use Rattle.lrspec.specs.grammars.Grammar.{Grammar}
use Rattle.lrspec.specs.merging.Graph.{Graph}
use Rattle.lrconflicts.specs.Moves.{Move}
use Rattle.lrexchange.specs.Asked.{IsWonOrAmong, AreListed, AddsPositions, IsWonAt, AreWonBelow}
use Rattle.lrexchange.specs.Exchanges.{IsListed, Proceeds, Retreats, AreWon, Begins}
use Rattle.lrexchange.specs.Positions.{Position, Sinks}
use Rattle.lrexchange.proofs.GrowingAnswers.{proceeds_more, retreats_more, begins_more}

-- what is found at a place
pub get_mapped : {X Y : Type 0} (f : X → Y) (xs : List X) (k : ℕ) (x : X) → k < length xs → x ≡ get_or xs k x → slice_get (map f xs) k ≡ Some (f x)
get_mapped f [] k x l e = absurd (omega (arith, l))
get_mapped f (y ∷ ys) zero x l e = ap (λ z. Some (f z)) (sym e)
get_mapped f (y ∷ ys) (suc k) x l e = get_mapped f ys k x (omega (arith, l)) e

-- it is within the list
get_within : {X : Type 0} (xs : List X) (k : ℕ) (x : X) → slice_get xs k ≡ Some x → k < length xs
get_within [] k x e = absurd cc
get_within (y ∷ ys) zero x e = omega arith
get_within (y ∷ ys) (suc k) x e = omega (arith, get_within ys k x e)

-- it is listed where it sinks to one that is won at once or among the first ones
pub sunk_is_listed :
    (h : Graph) (positions : List Position) (bound : ℕ) (a b : Position) → Sinks h a b → IsWonOrAmong positions bound b → IsListed h positions bound a
sunk_is_listed h positions bound a b sinks k = (b, sinks, k)

-- by its place
pub found_among : (positions : List Position) (bound k : ℕ) (b : Position) → k < bound → slice_get positions k ≡ Some b → IsWonOrAmong positions bound b
found_among positions bound k b l e = inr (k, l, e)

module _ (g : Grammar) (h : Graph) (positions : List Position) where
  -- where all that is asked is listed
  pub proceeds_to_listed :
      (n : ℕ) (asked : List Position) (a : Position) → Proceeds g h (Contains asked) a → AreListed h positions n asked → n ≡ length positions
      → Proceeds g h (IsListed h positions (length positions)) a
  proceeds_to_listed n asked a k all e =
      subst (λ (m : ℕ). Proceeds g h (IsListed h positions m) a) e (proceeds_more (Contains asked) (IsListed h positions n) all g h a k)

  pub retreats_to_listed :
      (n : ℕ) (asked : List Position) (a : Position) → Retreats g h (Contains asked) a → AreListed h positions n asked → Retreats g h (IsListed h positions n) a
  retreats_to_listed n asked a k all = retreats_more (Contains asked) (IsListed h positions n) all g h a k

  pub begins_with_listed :
      (s t n : ℕ) (m o : Move) (asked : List Position) → Begins g h s t (Contains asked) m o → AreListed h positions n asked → n ≡ length positions
      → Begins g h s t (IsListed h positions (length positions)) m o
  begins_with_listed s t n m o asked k all e =
      subst (λ (i : ℕ). Begins g h s t (IsListed h positions i) m o) e (begins_more {M = Contains asked} {N = IsListed h positions n} all k)

  -- the position at a place is the one found there
  here : (k : ℕ) (a b : Position) → slice_get positions k ≡ Some a → slice_get positions k ≡ Some b → a ≡ b
  here k a b e f = let both : Some a ≡ Some b = sym e ∙ f in cc

  pub won_by_moves :
      (k : ℕ) (a : Position) → slice_get positions k ≡ Some a → Proceeds g h (IsListed h positions (length positions)) a → IsWonAt g h positions k
  won_by_moves k a e won b f = inl (subst (λ (p : Position). Proceeds g h (IsListed h positions (length positions)) p) (here k a b e f) won)

  pub won_alone : (k : ℕ) (a : Position) → slice_get positions k ≡ Some a → Retreats g h (IsListed h positions k) a → IsWonAt g h positions k
  won_alone k a e won b f = inr (subst (λ (p : Position). Retreats g h (IsListed h positions k) p) (here k a b e f) won)

  -- a turn for each place
  pub next_won : (n : ℕ) → AreWonBelow g h positions n → IsWonAt g h positions n → AreWonBelow g h positions (n + 1)
  next_won n before won k l = elim (cases_eq k n) [ inl e ↦ rw e won | inr e ↦ before k (omega (arith, l, e)) ]

  pub end_won : (n : ℕ) → length positions ≤ n → AreWonBelow g h positions n → AreWon g h positions
  end_won n l all k a e = all k (omega (arith, l, get_within positions k a e)) a e

-- what is found at a place is found there with more behind
get_before : {X : Type 0} (xs ys : List X) (k : ℕ) (x : X) → slice_get xs k ≡ Some x → slice_get (xs ++ ys) k ≡ Some x
get_before [] ys k x e = absurd cc
get_before (z ∷ zs) ys zero x e = e
get_before (z ∷ zs) ys (suc k) x e = get_before zs ys k x e

-- and what is found at a place of the first ones is found among these
get_first : {X : Type 0} (xs ys : List X) (k : ℕ) (x : X) → k < length xs → slice_get (xs ++ ys) k ≡ Some x → slice_get xs k ≡ Some x
get_first [] ys k x l e = absurd (omega (arith, l))
get_first (z ∷ zs) ys zero x l e = e
get_first (z ∷ zs) ys (suc k) x l e = get_first zs ys k x (omega (arith, l)) e

module _ (g : Grammar) (h : Graph) (positions more : List Position) where
  -- listed positions are listed with more behind
  listed_before :
      (bound wider : ℕ) → bound ≤ wider → (a : Position) → IsListed h positions bound a → IsListed h (positions ++ more) wider a
  listed_before bound wider l a (b, sinks, inl same) = (b, sinks, inl same)
  listed_before bound wider l a (b, sinks, inr (k, below, at)) =
      (b, sinks, inr (k, omega (arith, below, l), get_before positions more k b at))

  -- so those that are won are won with more behind
  won_before : AreWon g h positions → AreWonBelow g h (positions ++ more) (length positions)
  won_before won k l a at = elim (won k a (get_first positions more k a l at)) [
    | inl proceeds ↦
        inl (proceeds_more (IsListed h positions (length positions)) (IsListed h (positions ++ more) (length (positions ++ more)))
        (listed_before (length positions) (length (positions ++ more)) (omega (arith, length-append positions more))) g h a proceeds)
    | inr retreats ↦
        inr (retreats_more (IsListed h positions k) (IsListed h (positions ++ more) k) (listed_before k k (omega arith)) g h a retreats)
  ]

-- so behind won positions the first ones are won
pub first_won :
    (g : Grammar) (h : Graph) (old new : List Position) (n : ℕ) → AreWon g h old → AddsPositions old new → n ≡ length old → AreWonBelow g h new n
first_won g h old new n won added e k l =
    subst (λ (ps : List Position). IsWonAt g h ps k) (sym added.1) (won_before g h old added.0 won k (omega (arith, l, e)))

-- no positions are added, or one, or some and then others
pub adds_none : (positions : List Position) → AddsPositions positions positions
adds_none positions = ([], sym (append-nil positions))

pub adds_more : (old between new : List Position) → AddsPositions old between → AddsPositions between new → AddsPositions old new
adds_more old between new first then =
    (first.0 ++ then.0, then.1 ∙ ap (λ ps. ps ++ then.0) first.1 ∙ append_assoc old first.0 then.0)

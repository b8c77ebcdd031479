-- lists of places that are filled while nothing stands there
use Rattle.std.proofs.Common.{◌≡◌, ◌≢◌, ℕ, ◌<◌, List, ◌++◌, length, map, get_or, take, drop, Option, None, Some, option_map}
use Rattle.std.proofs.Common.{⊎_elim, refl, sym, ◌∙◌, arith}
use Rattle.std.specs.List.{range_with_len}
use Rattle.std.specs.Option.{option_or}
use Rattle.std.proofs.Math.ListN.{get_or-map}
use Rattle.std.proofs.Math.Seq.{take-append_seam}
use Rattle.std.proofs.lemmas.Bool.{cases_eq}
use Rattle.std.proofs.lemmas.List.{length-map, same_lists, get_or_default}
use Rattle.std.proofs.lemmas.List.FromFn.{length-map-range_with_len, get_or-map-range_with_len}

-- what a list is after a write to all of it
pub written_back :
    {X : Type 0} (len : ℕ) (new old : List X) → len ≡ length old → length new ≡ length old
    → take len (new ++ drop (length new) old) ≡ new
written_back len new old e f = rw (e ∙ sym f) (take-append_seam new (drop (length new) old))

-- what holds of no value holds of None alone
pub none_only :
    {X : Type 0} (P : Option X → Type 0) → ((x : X) → P (Some x) → ⊥) → (o : Option X) → P o
    → o ≡ None
none_only P not_some None h = refl
none_only P not_some (Some x) h = absurd (not_some x h)

-- a value came to a place, if nothing stood there, and nothing to the others
pub record IsFilled {X : Type 0} (old new : List (Option X)) (k : ℕ) (x : X) : Type 0 where
  pub here : k < length old → get_or new k None ≡ option_or (get_or old k None) (Some x)
  pub others : (t : ℕ) → t ≢ k → get_or new t None ≡ get_or old t None

-- with what is to come where nothing stands yet, each of the first `n` places holds what it is to hold in the end
abbrev pub AreFilling : {X : Type 0} → (X → ℕ) → List (Option X) → ℕ → (ℕ → Option ℕ) → (ℕ → Option ℕ) → Type 0
AreFilling number os n coming whole =
    (t : ℕ) → t < n → option_or (option_map number (get_or os t None)) (coming t) ≡ whole t

-- what comes later to a place at which a value has come is lost
covered :
    {X : Type 0} (number : X → ℕ) (o : Option X) (x : X) (later : Option ℕ)
    → option_or (option_map number (option_or o (Some x))) later ≡ option_or (option_map number o) (Some (number x))
covered number None x later = refl
covered number (Some y) x later = refl

-- nothing is to come
alone : {X : Type 0} (number : X → ℕ) (o : Option X) → option_or (option_map number o) None ≡ option_map number o
alone number None = refl
alone number (Some y) = refl

-- a value comes to its place
pub filled_turn :
    {X : Type 0} (number : X → ℕ) (old new : List (Option X)) (n k : ℕ) (x : X) (coming later whole : ℕ → Option ℕ)
    → length old ≡ n → IsFilled old new k x → coming k ≡ Some (number x) → ((t : ℕ) → t ≢ k → coming t ≡ later t)
    → AreFilling number old n coming whole → AreFilling number new n later whole
filled_turn number old new n k x coming later whole many filled comes remain filling t l =
    ⊎_elim
    (λ (e : t ≡ k).
    let within : k < length old = omega arith in
    rw (e, filled.here within, covered number (get_or old k None) x (later k), ← comes, ← e) (filling t l))
    (λ (d : t ≢ k). rw (filled.others t d, ← (remain t d)) (filling t l))
    (cases_eq t k)

-- nothing stands anywhere yet
pub filling_none :
    {X : Type 0} (number : X → ℕ) (n : ℕ) (whole : ℕ → Option ℕ) (os : List (Option X))
    → ((t : ℕ) → t < n → get_or os t None ≡ None) → AreFilling number os n whole whole
filling_none number n whole os none t l = rw (none t l) refl

module _ {X : Type 0} (number : X → ℕ) (os : List (Option X)) (n : ℕ) (coming whole : ℕ → Option ℕ) where
  -- where nothing is to come, each place holds what it is to hold
  pub filled_at :
      ((t : ℕ) → coming t ≡ None) → AreFilling number os n coming whole → (t : ℕ) → t < n
      → option_map number (get_or os t None) ≡ whole t
  filled_at none filling t l = sym (alone number (get_or os t None)) ∙ (rw (none t) at (filling t l))

  -- and so does the list
  pub filled_all :
      ((t : ℕ) → coming t ≡ None) → AreFilling number os n coming whole → length os ≡ n
      → map (option_map number) os ≡ map whole (range_with_len 0 n)
  filled_all none filling many =
      let same : length (map (option_map number) os) ≡ n = length-map os (option_map number) ∙ many in
      same_lists _ _ (same ∙ sym (length-map-range_with_len whole 0 n))
      (λ t d l.
      let within : t < n = omega arith in
      let stands : get_or (map (option_map number) os) t None ≡ whole t =
      get_or-map (option_map number) os t None ∙ filled_at none filling t within in
      get_or_default (map (option_map number) os) t d None l ∙ stands
      ∙ sym (get_or-map-range_with_len whole 0 n t t d within (omega arith)))

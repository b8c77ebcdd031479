-- what the look-up of a name finds among the names of a grammar
use Rattle.std.proofs.Common.{◌≡◌, ℕ, ◌≤◌, ◌<◌, List, length, map, Option, None, Some, ap, sym, ◌∙◌, arith}
use Rattle.std.specs.Prelude.{IsSome, Contains, MatchOption, slice_get}
use Rattle.std.proofs.lemmas.List.{length-map}
use Rattle.lrspec.specs.texts.Parts.{HasDouble}
use Rattle.lrparts.specs.LookUps.{FindsNames}
use Rattle.lrparts.proofs.NameLookUps.{place_found, place_within, place_missing, no_double}
use Rattle.lrgrammar.proofs.Turns.{has_index, index_number}

module _ {S : Type 0} (text : S → List ℕ) (names : List S) {look : List ℕ → Option ℕ} (seen : FindsNames look (map text names) (length names)) where
  -- no name is there twice
  pub names_apart : HasDouble (map text names) → ⊥
  names_apart = no_double look (map text names) (length names) seen (omega (arith, length-map names text))

  module _ (w : List ℕ) where
    all : length names ≡ length (map text names)
    all = sym (length-map names text)

    -- the place of a name is an index
    pub name_index :
        {X : Type 0} (P : X → Type 0) {most k : ℕ} (o : Option X) → Some k ≡ look w → length (map text names) ≤ most → MatchOption o (most < k) P → IsSome o
    name_index P {most = most} {k = k} o e l made = has_index P most k o made (omega (arith, place_within look (map text names) (length names) k w seen all (sym e), l))

    -- of the name
    pub name_place :
        {X : Type 0} (number : X → ℕ) (most : ℕ) {k : ℕ} {o : Option X} {x : X} → Some k ≡ look w → o ≡ Some x
        → MatchOption o (most < k) (λ z. (k ≤ most) × (number z ≡ k)) → slice_get (map text names) (number x) ≡ Some w
    name_place number most {k = k} {o = o} {x = x} e is made =
        ap (slice_get (map text names)) (index_number number most k o x is made) ∙ place_found look (map text names) (length names) k w seen all (sym e)

    -- a name that has none is not there
    pub name_missing : None ≡ look w → Contains (map text names) w → ⊥
    name_missing e = place_missing look (map text names) (length names) w seen all (sym e)

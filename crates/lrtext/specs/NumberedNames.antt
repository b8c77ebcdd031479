-- names with their numbers: each has its place in the list as its number
use Rattle.std.specs.Prelude.{◌≡◌, ℕ, if◌then◌else◌, List, [], ◌∷◌, ◌++◌, map, Option, None, Some, fold, bytes_eq}
use Rattle.std.specs.HashMap.{HashMap, get_by}
use denote.Ref.{Bor}
use Rattle.lrspec.specs.texts.Names.{has_name, place_of}

-- the names as bytes
abbrev pub names_of : List (Bor (List ℕ)) → List (List ℕ)
names_of ws = map (λ w. w.now) ws

-- the number of the name, if it is one of these
abbrev pub number_in : List (List ℕ) → List ℕ → Option ℕ
number_in ws w = if has_name ws w then Some (place_of ws w) else None

-- the names, and a further one if it is new
abbrev pub with_name : List (List ℕ) → List ℕ → List (List ℕ)
with_name ws w = if has_name ws w then ws else ws ++ w ∷ []

-- the names, and each of further ones if it is new
abbrev pub with_names : List (List ℕ) → List (List ℕ) → List (List ℕ)
with_names ws vs = fold with_name ws vs

-- the map gives each listed name its number, and nothing else
abbrev pub IsNumbered : {S : Type 0} → HashMap (Bor (List ℕ)) ℕ S → List (List ℕ) → Type 0
IsNumbered numbers ws =
    (w : List ℕ) → get_by (λ k. bytes_eq w k.now) numbers ≡ number_in ws w

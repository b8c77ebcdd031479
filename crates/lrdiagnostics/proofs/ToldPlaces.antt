-- words that tell places one behind the other
use Rattle.std.proofs.Common.{◌≡◌, ℕ, zero, suc, Some, None, slice_get, ◌+◌, ◌<◌, ◌≤◌, min, List, [], ◌∷◌, ◌++◌, length, get_or, map, take, append-nil, append_assoc, arith, refl, subst, sym, ap, ◌∙◌}
use Rattle.std.proofs.lemmas.Grind.{flat_map-append}
use Rattle.std.proofs.lemmas.List.{take_all, take_more}
use Rattle.lrwriter.specs.Texts.{Adds, Held}
use Rattle.lrwriter.proofs.Pieces.{adds_both}
use Rattle.lryacc.specs.declared.faults.Fault.{Fault}
use Rattle.lrdiagnostics.specs.declared.diagnostics.Message.{Message}
use Rattle.lrdiagnostics.specs.Positions.{line_of, front_of, EndsBefore}
use Rattle.lrdiagnostics.specs.Places as told
use Rattle.lrdiagnostics.specs.Places.{AddsMore, AddsPlaces, TellsPlaces, AreOf, place_words, first_place, first_places}

-- some words tell no place
pub no_place : {old new : Held} (name text : List ℕ) → AddsMore old new → AddsPlaces old new name text []
no_place name text added = record { words = added.piece; tells = told.TellsPlaces.none; adds = added.adds }

-- words that begin with a place tell it
pub one_place :
    {old middle new : Held} {name text : List ℕ} {at line column : ℕ}
    → line ≡ line_of text at → EndsBefore (front_of text at) 1 column
    → Adds old middle (place_words name line column) → AddsMore middle new
    → AddsPlaces old new name text (at ∷ [])
one_place {old} {middle} {new} {name} {text} {at} {line} {column} is counted place behind = record {
  words = place_words name (line_of text at) column ++ behind.piece;
  tells = told.TellsPlaces.more {at = at} {column = column} {ats = []} {behind = behind.piece} [] counted told.TellsPlaces.none;
  adds = adds_both (subst (λ n. Adds old middle (place_words name n column)) is place) behind.adds;
}

-- the first one of a list, where there is one
pub without_first : {X : Type 0} (xs : List X) → slice_get xs 0 ≡ None → take 1 xs ≡ []
without_first [] is = refl
without_first (x ∷ xs) is = absurd cc

pub with_first : {X : Type 0} (xs : List X) (x : X) → slice_get xs 0 ≡ Some x → take 1 xs ≡ x ∷ []
with_first [] x is = absurd cc
with_first (y ∷ ys) x is = let same : y ≡ x = cc in ap (λ z. z ∷ []) same

-- words tell what they tell behind any others too
tells_behind :
    {name text ats words : List ℕ} (front : List ℕ) → TellsPlaces name text ats words → TellsPlaces name text ats (front ++ words)
tells_behind front told.TellsPlaces.none = told.TellsPlaces.none
tells_behind {name} {text} front (told.TellsPlaces.more {at = at} {column = column} {ats = ats} {behind = behind} before counted rest) =
    subst (TellsPlaces name text (at ∷ ats)) (append_assoc front before (place_words name (line_of text at) column ++ behind))
    (told.TellsPlaces.more (front ++ before) counted rest)

-- words behind others tell what they tell behind what these tell
tells_both :
    {name text ats others front words : List ℕ} → TellsPlaces name text ats front → TellsPlaces name text others words
    → TellsPlaces name text (ats ++ others) (front ++ words)
tells_both {front = front} told.TellsPlaces.none tells = tells_behind front tells
tells_both {name} {text} {others = others} {words = words}
    (told.TellsPlaces.more {at = at} {column = column} {ats = ats} {behind = behind} before counted rest) tells =
    let place = place_words name (line_of text at) column in
    subst (TellsPlaces name text (at ∷ (ats ++ others)))
    (sym (append_assoc before (place ++ behind) words ∙ ap (λ l. before ++ l) (append_assoc place behind words)))
    (told.TellsPlaces.more before counted (tells_both rest tells))

-- what is added tells what is told first, and behind that what is told then
pub places_both :
    {old middle new : Held} {name text ats others : List ℕ}
    → AddsPlaces old middle name text ats → AddsPlaces middle new name text others
    → AddsPlaces old new name text (ats ++ others)
places_both one other = record {
  words = one.words ++ other.words;
  tells = tells_both one.tells other.tells;
  adds = adds_both one.adds other.adds;
}

-- what is added tells those of one message more
pub places_more :
    {old middle new : Held} {name text : List ℕ} (ms : List Message) (i : ℕ) (m : Message) → i < length ms → m ≡ get_or ms i m
    → AddsPlaces old middle name text (first_places (take i ms)) → AddsPlaces middle new name text (first_place m)
    → AddsPlaces old new name text (first_places (take (i + 1) ms))
places_more {old} {middle} {new} {name} {text} ms i m inside is before one =
    let taken : take (i + 1) ms ≡ take i ms ++ m ∷ [] = take_more ms i m inside ∙ ap (λ y. take i ms ++ y ∷ []) (sym is) in
    let joined : first_places (take (i + 1) ms) ≡ first_places (take i ms) ++ first_place m =
    ap first_places taken
    ∙ (flat_map-append first_place (take i ms) (m ∷ []) ∙ ap (λ l. first_places (take i ms) ++ l) (append-nil (first_place m))) in
    subst (AddsPlaces old new name text) (sym joined) (places_both before one)

-- so many of a list, or all
take_min : {X : Type 0} (n : ℕ) (xs : List X) → take (min n (length xs)) xs ≡ take n xs
take_min zero xs = let none : min zero (length xs) ≡ zero = omega arith in ap (λ k. take k xs) none
take_min (suc n) [] = let none : min (suc n) zero ≡ zero = omega arith in ap (λ k. take k []) none
take_min (suc n) (x ∷ xs) =
    let one_more : min (suc n) (suc (length xs)) ≡ suc (min n (length xs)) = omega arith in
    ap (λ k. take k (x ∷ xs)) one_more ∙ ap (λ l. x ∷ l) (take_min n xs)

-- all of the front of a list are its first ones
pub all_first : {X : Type 0} (k n most : ℕ) (front xs : List X) → length front ≤ k → front ≡ take n xs → n ≡ min most (length xs) → take k front ≡ take most xs
all_first k n most front xs within is count = take_all k front within ∙ (is ∙ (ap (λ m. take m xs) count ∙ take_min most xs))

-- the first places of the first messages are those of the first faults
pub places_of_faults :
    (n : ℕ) (ms : List Message) (faults : List Fault) → AreOf ms faults
    → first_places (take n ms) ≡ map (λ fault. fault.span.start) (take n faults)
places_of_faults zero ms faults are = refl
places_of_faults (suc n) [] [] are = refl
places_of_faults (suc n) [] (fault ∷ faults) are = absurd cc
places_of_faults (suc n) (m ∷ ms) [] are = absurd cc
places_of_faults (suc n) (m ∷ ms) (fault ∷ faults) are =
    let alone : m.places.items ≡ fault.span ∷ [] = cc in
    let others : AreOf ms faults = cc in
    ap (λ spans. map (λ span. span.start) (take 1 spans) ++ first_places (take n ms)) alone
    ∙ ap (λ l. fault.span.start ∷ l) (places_of_faults n ms faults others)

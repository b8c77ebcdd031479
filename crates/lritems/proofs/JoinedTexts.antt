-- texts made piece by piece, and partings between the pieces of a list
use Rattle.std.proofs.Common.{◌≡◌, ℕ, ◌+◌, ◌-◌, ◌<◌, Bool, true, false, List, [], ◌∷◌, ◌++◌, length, get_or, append_assoc, refl, ◌∙◌, Result, Ok, Err}
use Rattle.std.specs.Prelude.{if◌then◌else◌, OnOk}
use Rattle.std.specs.Result.{is_ok}
use Rattle.std.specs.List.{filter, flat_map, join_by, range_with_len}
use Rattle.lrgrammar.proofs.Ranges.{range_first}

-- the last piece that a function adds, where memory may be refused
pub last_piece :
    {T E : Type 0} (r : Result T E) (new old piece whole : List ℕ) → new ≡ if is_ok r then old ++ piece else old → old ++ piece ≡ whole → OnOk r (new ≡ whole)
last_piece (Ok x) new old piece whole e h = e ∙ h
last_piece (Err x) new old piece whole e h = tt

-- what is still to add for the pieces that are left, where `between` comes before the first
abbrev pub left_to_join : {X A : Type 0} → (X → List A) → List A → List A → List X → List A
left_to_join f sep between [] = []
left_to_join f sep between (x ∷ xs) = between ++ f x ++ flat_map (λ y. sep ++ f y) xs

-- nothing comes before the first of all pieces
pub left_at_first : {X A : Type 0} (f : X → List A) (sep : List A) (xs : List X) → left_to_join f sep [] xs ≡ join_by f sep xs
left_at_first f sep [] = refl
left_at_first f sep (x ∷ xs) = refl

-- the parting comes before each further piece
left_behind_one : {X A : Type 0} (f : X → List A) (sep : List A) (xs : List X) → left_to_join f sep sep xs ≡ flat_map (λ y. sep ++ f y) xs
left_behind_one f sep [] = refl
left_behind_one f sep (x ∷ xs) = refl

-- one piece is added
pub joined_turn :
    {X A : Type 0} (f : X → List A) (sep between old new whole : List A) (x : X) (xs : List X) → old ++ left_to_join f sep between (x ∷ xs) ≡ whole
    → new ≡ (old ++ between) ++ f x → new ++ left_to_join f sep sep xs ≡ whole
joined_turn f sep between old new whole x xs h e = rw (e, left_behind_one f sep xs) (simp append_assoc (simp append_assoc at h))

-- the places of the set bits from a place on
abbrev pub set_bits_from : List Bool → ℕ → List ℕ
set_bits_from v i = filter (λ t. get_or v t false) (range_with_len i (length v - i))

-- at a set bit one piece is added
pub set_bit_turn :
    (f : ℕ → List ℕ) (sep between old new whole : List ℕ) (v : List Bool) (i : ℕ) → i < length v → get_or v i false ≡ true
    → old ++ left_to_join f sep between (set_bits_from v i) ≡ whole → new ≡ (old ++ between) ++ f i → new ++ left_to_join f sep sep (set_bits_from v (i + 1)) ≡ whole
set_bit_turn f sep between old new whole v i l s h e = joined_turn f sep between old new whole i (set_bits_from v (i + 1)) (rw (range_first i (length v) l, s) at h) e

-- at another bit none is added
pub unset_bit_turn :
    (f : ℕ → List ℕ) (sep between old whole : List ℕ) (v : List Bool) (i : ℕ) → i < length v → get_or v i false ≡ false
    → old ++ left_to_join f sep between (set_bits_from v i) ≡ whole → old ++ left_to_join f sep between (set_bits_from v (i + 1)) ≡ whole
unset_bit_turn f sep between old whole v i l s h = rw (range_first i (length v) l, s) at h

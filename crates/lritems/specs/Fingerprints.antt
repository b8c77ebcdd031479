-- a number made of all items of an item set
use Rattle.std.specs.Prelude.{ℕ, ◌+◌, ◌*◌, ◌%◌, ◌^◌, List, [], ◌∷◌, map}
use Rattle.lrspec.specs.grammars.ItemSets.{Items}

-- a number of 64 bits with another one mixed in
unfoldable pub mixed : ℕ → ℕ → ℕ
mixed n k = (n * 1099511628211 % 2 ^ 64 + k) % 2 ^ 64

-- with an item mixed in, by its production and then its dot
abbrev pub mixed_item : ℕ → ℕ × ℕ → ℕ
mixed_item n k = mixed (mixed n k.0) k.1

-- with items mixed in, one after another
abbrev pub mixed_items : ℕ → List (ℕ × ℕ) → ℕ
mixed_items n [] = n
mixed_items n (k ∷ ks) = mixed_items (mixed_item n k) ks

-- a number made of all items in their order, whatever their lookaheads
abbrev pub fingerprint_of : Items → ℕ
fingerprint_of a = mixed_items 0 (map (λ e. e.0) a)

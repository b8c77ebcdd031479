-- What a hasher is fed of a number tells that number.
use Rattle.std.specs.Prelude.{◌≡◌, ℕ, ◌<◌, ◌^◌, ◌↔◌, [], slice_index_or}
use Rattle.std.specs.Hash as fed
use Rattle.std.specs.Hash.{HashWrites, le_bytes}
use Rattle.std.specs.Int.{from_le_bytes}
use Rattle.std.proofs.Common.{w16, w32, ap, sym, ◌∙◌}
use Rattle.std.proofs.lemmas.Nat.{from_le_bytes-to_le_bytes_2, from_le_bytes-to_le_bytes_4}

-- what a hasher is fed of a number of one byte tells that number
pub hashed_u8 : (x y : ℕ) → x < 2 ^ 8 → y < 2 ^ 8 → (fed.u8 x ≡ fed.u8 y) ↔ (x ≡ y)
hashed_u8 x y h k =
    (λ e. ap (λ (ws : HashWrites). slice_index_or (slice_index_or ws 0 []) 0 0) e, λ e. ap fed.u8 e)

-- and so of two bytes
pub hashed_u16 : (x y : ℕ) → x < 2 ^ 16 → y < 2 ^ 16 → (fed.u16 x ≡ fed.u16 y) ↔ (x ≡ y)
unfolding le_bytes
hashed_u16 x y h k = (
  λ e. sym (from_le_bytes-to_le_bytes_2 x h)
      ∙ ap (λ (ws : HashWrites). from_le_bytes w16 (slice_index_or ws 0 [])) e
      ∙ from_le_bytes-to_le_bytes_2 y k,
  λ e. ap fed.u16 e,
)

-- and of four
pub hashed_u32 : (x y : ℕ) → x < 2 ^ 32 → y < 2 ^ 32 → (fed.u32 x ≡ fed.u32 y) ↔ (x ≡ y)
unfolding le_bytes
hashed_u32 x y h k = (
  λ e. sym (from_le_bytes-to_le_bytes_4 x h)
      ∙ ap (λ (ws : HashWrites). from_le_bytes w32 (slice_index_or ws 0 [])) e
      ∙ from_le_bytes-to_le_bytes_4 y k,
  λ e. ap fed.u32 e,
)

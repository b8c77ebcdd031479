-- tags that are read byte by byte
use Rattle.std.proofs.Common.{◌≡◌, ◌≢◌, ℕ, suc, zero, ◌+◌, ◌-◌, false, List, slice_index, subst, sym, add-one, arith}
use Rattle.std.proofs.lemmas.Bool.Decides.{nat_tests}
use Rattle.lryacc.specs.Tags.{ClosesTag, IsInTag, is_angle}
use Rattle.lryacc.specs.Tags.IsInTag.{arrow, byte, nothing, tag}
use Rattle.lryacc.specs.TagsRead.{AreOpen}
use Rattle.lryacc.specs.TagsRead.AreOpen.{more, none}

-- what may stand in the innermost of them goes on
goes-on : (text : List ℕ) (from at end number : ℕ) → ((from : ℕ) → IsInTag text from at → IsInTag text from end)
    → AreOpen text from at number → AreOpen text from end number
goes-on text from at end zero on (none inside) = none (on from inside)
goes-on text from at end (suc number) on (more {opened = opened} tags opens inside) = more tags opens (on (opened + 1) inside)

-- one more opens
pub opens-one : (text : List ℕ) (from at number : ℕ) → AreOpen text from at number → slice_index text at ≡ 60
    → AreOpen text from (at + 1) (number + 1)
opens-one text from at number tags opens =
    subst (AreOpen text from (at + 1)) (sym (add-one number)) (more tags opens nothing)

-- the innermost closes
pub closes-one : (text : List ℕ) (from at number : ℕ) → AreOpen text from at (suc number) → ClosesTag text at
    → AreOpen text from (at + 1) number
closes-one text from at number (more {opened = opened} tags opens inside) closes =
    goes-on text from opened (at + 1) number (λ from before. tag before opens inside closes) tags

-- all but the outermost are closed
pub none-open : (text : List ℕ) (from at : ℕ) → AreOpen text from at 0 → IsInTag text from at
none-open text from at (none inside) = inside

-- a byte that is neither `<` nor a `>` that closes a tag
pub byte-passes : (text : List ℕ) (from at number : ℕ) → AreOpen text from at number → slice_index text at ≢ 60
    → slice_index text at ≢ 62 → AreOpen text from (at + 1) number
byte-passes text from at number tags no_open no_close =
    let no_angle : is_angle (slice_index text at) ≡ false = grind (arith, nat_tests) in
    goes-on text from at (at + 1) number (λ from before. byte before no_angle) tags

pub arrow-passes : (text : List ℕ) (from at number : ℕ) → AreOpen text from at number → slice_index text at ≡ 62
    → slice_index text (at - 1) ≡ 45 → AreOpen text from (at + 1) number
arrow-passes text from at number tags is dash = goes-on text from at (at + 1) number (λ from before. arrow before is dash) tags

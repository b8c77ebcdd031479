-- counts of failed calls
use Rattle.std.proofs.Common.{◌≡◌, ◌≢◌, ℕ, ◌<◌, ◌≤◌, ◌-◌, ◌^◌, inl, inr, Bool, true, false, ap, subst, refl, cond, ◌&&◌, nat_lt, arith}
use Rattle.std.proofs.lemmas.Bool.{ne_eqb}
use Rattle.std.proofs.lemmas.Bool.Decides.{nat_tests}
use Rattle.lrspec.specs.texts.Devices.{one_more, after_write, HasFailed}

-- a write that takes bytes has not failed
pub after_write_some : (count n len : ℕ) → n ≢ 0 → after_write count n len ≡ count
after_write_some count n len h =
    ap (λ t. cond (t && nat_lt 0 len) (one_more count) count) (ne_eqb n 0 h)

-- a count that was as before is one more now: a call failed
pub failed_now : (old before now : ℕ) → before ≡ old → now ≡ one_more before → HasFailed old now
failed_now old before now same more = go (nat_lt old (2 ^ 64 - 1)) refl
  where
    go : (b : Bool) → nat_lt old (2 ^ 64 - 1) ≡ b → HasFailed old now
    go true h = let below : old < 2 ^ 64 - 1 = grind (arith, nat_tests) in inl (omega arith)
    go false h = let full : 2 ^ 64 - 1 ≤ old = grind (arith, nat_tests) in inr full

-- a call failed since the count was as before
pub failed_since : (old before now : ℕ) → before ≡ old → HasFailed before now → HasFailed old now
failed_since old before now same h = subst (λ k. HasFailed k now) same h

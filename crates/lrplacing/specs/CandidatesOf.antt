-- lists of states by the fingerprints of their cores, as plain data
use Rattle.std.specs.Prelude.{ℕ, ◌<◌, List, [], map, length, nat_eq}
use Rattle.std.specs.List.{Contains}
use Rattle.std.specs.List.Sorted.{IsStrictlyIncreasing}
use Rattle.std.specs.Map.{lookup}
use Rattle.std.specs.Option.{unwrap_or}
use Rattle.std.specs.declared.vec.Vec.{Vec}
use Rattle.std.specs.declared.alloc.Global.{Global}
use Rattle.lrspec.specs.grammars.ItemSets.{Items, AreUpwards}
use Rattle.lrspec.specs.merging.WeakCompatibility.{SameItems}
use Rattle.lrplacing.specs.Construction.{Draft, core_at}
use Rattle.lritems.specs.Fingerprints.{fingerprint_of}

-- numbers of states, by the fingerprints of their cores
abbrev pub CandidateLists : Type 0
CandidateLists = List (ℕ × List ℕ)

-- stored lists by numbers
abbrev pub candidate_lists : List (ℕ × Vec ℕ Global) → CandidateLists
candidate_lists es = map (λ e. (e.0, e.1.items)) es

-- the states listed at a fingerprint
abbrev pub listed_at : CandidateLists → ℕ → List ℕ
listed_at cs n = unwrap_or (lookup (nat_eq n) cs) []

-- the lists have each state, at the fingerprint of what has its core's items, and nothing but
-- states, in order of making
pub record AreCandidates (ss : List Draft) (cs : CandidateLists) : Type 0 where
  pub below : (n k : ℕ) → Contains (listed_at cs n) k → k < length ss
  pub listed :
      (k : ℕ) (a : Items) → k < length ss → AreUpwards a → SameItems (core_at ss k) a
      → Contains (listed_at cs (fingerprint_of a)) k
  pub upwards : (n : ℕ) → IsStrictlyIncreasing (listed_at cs n)

-- the state at which a goto is placed
use Rattle.std.specs.Prelude.{◌≡◌, ℕ, List, ◌∷◌, ◌++◌}
use Rattle.std.specs.List.{All}
use Rattle.lrspec.specs.grammars.ItemSets.{Items}
use Rattle.lrspec.specs.merging.WeakCompatibility.{IsWeaklyCompatible}
use Rattle.lritems.specs.ItemsOf.{Agree}
use Rattle.lrplacing.specs.Construction.{Draft, core_at}

-- `P` holds of no number in the list
abbrev pub HoldsOfNone : (ℕ → Type 0) → List ℕ → Type 0
HoldsOfNone P ks = All (λ j. P j → ⊥) ks

-- `k` is the first number in the list of which `P` holds
pub record IsFirstWith (P : ℕ → Type 0) (ks : List ℕ) (k : ℕ) : Type 0 where
  pub before : List ℕ
  pub after : List ℕ
  pub splits : ks ≡ before ++ k ∷ after
  pub here : P k
  pub none_before : HoldsOfNone P before

-- the core of the state `k` is equal to the goto
abbrev pub IsEqual : List Draft → Items → ℕ → Type 0
IsEqual ss goto k = Agree (core_at ss k) goto

-- the core of the state `k` may be merged with the goto
abbrev pub IsCompatible : List Draft → Items → ℕ → Type 0
IsCompatible ss goto k = IsWeaklyCompatible (core_at ss k) goto

-- the state is the one at which the goto is placed: the first listed one that is equal to it, or
-- else the first listed one that may be merged with it, or else the state `new`, which is made
pub data IsPlaceOf (ss : List Draft) (listed : List ℕ) (goto : Items) (new : ℕ) : ℕ → Type 0 where
  equal : {k : ℕ} → IsFirstWith (IsEqual ss goto) listed k → IsPlaceOf ss listed goto new k
  compatible :
      {k : ℕ} → HoldsOfNone (IsEqual ss goto) listed → IsFirstWith (IsCompatible ss goto) listed k
      → IsPlaceOf ss listed goto new k
  made :
      HoldsOfNone (IsEqual ss goto) listed → HoldsOfNone (IsCompatible ss goto) listed
      → IsPlaceOf ss listed goto new new

-- lists of states by fingerprints: looking one up, and adding a state to one
use Rattle.std.proofs.Common.{◌≡◌, ◌≢◌, ℕ, false, List, [], ◌∷◌, ◌++◌, vec_len, Option, None, Some, refl, sym, ap, ◌∙◌, arith}
use Rattle.std.specs.Prelude.{nat_eq}
use Rattle.std.specs.declared.vec.Vec.{Vec}
use Rattle.std.specs.declared.alloc.Global.{Global}
use Rattle.std.specs.Map.{lookup}
use Rattle.std.specs.Option.{option_map, unwrap_or, UnwrapsOrElse}
use Rattle.std.proofs.lemmas.Bool.Decides.{nat_tests}
use Rattle.std.proofs.lemmas.Map.Made.{lookup-map_values}
use Rattle.lrplacing.specs.CandidatesOf.{candidate_lists, listed_at}

-- a stored list, empty where there is none
abbrev pub stored_or_empty : Option (Vec ℕ Global) → List ℕ
stored_or_empty None = []
stored_or_empty (Some v) = v.items

stored_is : (o : Option (Vec ℕ Global)) → stored_or_empty o ≡ unwrap_or (option_map (λ v. v.items) o) []
stored_is None = refl
stored_is (Some v) = refl

-- what is stored at a fingerprint is what is listed there
pub stored_listed : (es : List (ℕ × Vec ℕ Global)) (n : ℕ) → stored_or_empty (lookup (nat_eq n) es) ≡ listed_at (candidate_lists es) n
stored_listed es n = stored_is (lookup (nat_eq n) es) ∙ ap (λ o. unwrap_or o []) (sym (lookup-map_values (λ (v : Vec ℕ Global). v.items) (nat_eq n) es))

-- an update at a fingerprint keeps all other lists
pub listed_there :
    (es fs : List (ℕ × Vec ℕ Global)) (n m : ℕ) → (nat_eq n m ≡ false → lookup (nat_eq m) fs ≡ lookup (nat_eq m) es) → m ≢ n
    → listed_at (candidate_lists fs) m ≡ listed_at (candidate_lists es) m
listed_there es fs n m keeps other =
    sym (stored_listed fs m) ∙ ap stored_or_empty (keeps (not_same n m (λ e. other (sym e)))) ∙ stored_listed es m
  where
    not_same : (a b : ℕ) → a ≢ b → nat_eq a b ≡ false
    not_same a b h = grind (arith, nat_tests)

-- a list with a state added, which was empty where there was none
pub listed_here :
    (es fs : List (ℕ × Vec ℕ Global)) (n s : ℕ) (o : Option (Vec ℕ Global)) (v w : Vec ℕ Global) → o ≡ lookup (nat_eq n) es
    → UnwrapsOrElse o (λ x. (x.items ≡ []) × (vec_len x ≡ 0)) v → w.items ≡ v.items ++ s ∷ [] → lookup (nat_eq n) fs ≡ Some w
    → listed_at (candidate_lists fs) n ≡ listed_at (candidate_lists es) n ++ s ∷ []
listed_here es fs n s o v w is old pushed new =
    sym (stored_listed fs n) ∙ ap stored_or_empty new ∙ pushed ∙ ap (λ l. l ++ s ∷ []) (unwrapped o old ∙ ap stored_or_empty is ∙ stored_listed es n)
  where
    unwrapped : (p : Option (Vec ℕ Global)) → UnwrapsOrElse p (λ x. (x.items ≡ []) × (vec_len x ≡ 0)) v → v.items ≡ stored_or_empty p
    unwrapped None h = h.0
    unwrapped (Some x) h = ap (λ (y : Vec ℕ Global). y.items) h

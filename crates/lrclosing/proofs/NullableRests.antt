-- whether what is left of a body is nullable, as a walk over its symbols finds it
use Rattle.std.proofs.Common.{◌≡◌, ℕ, true, false, List, [], ◌∷◌, refl}
use Rattle.std.specs.Prelude.{IsTrue, ◌↔◌}
use Rattle.lrspec.specs.grammars.Grammar.{Symbol, Rule, Token, Grammar}
use Rattle.lrspec.specs.grammars.First as first
use Rattle.lrspec.specs.grammars.First.{Nullable, AllNullable}
use Rattle.lrbits.specs.Bits.{bit}
use Rattle.lrgrammar.specs.Firsts.{Firsts, AreFirstsOf}

null_head : {g : Grammar} {r : ℕ} {y : List Symbol} → AllNullable g (Rule r ∷ y) → Nullable g r
null_head (first.AllNullable.more n a) = n

null_tail : {g : Grammar} {r : ℕ} {y : List Symbol} → AllNullable g (Rule r ∷ y) → AllNullable g y
null_tail (first.AllNullable.more n a) = a

null_token : {g : Grammar} {t : ℕ} {y : List Symbol} → AllNullable g (Token t ∷ y) → ⊥
null_token h = elim h [ ]

-- a nullable rule in front changes nothing
pub null_past :
    (g : Grammar) (f : Firsts) → AreFirstsOf g f → (r : ℕ) (left more whole : List Symbol) → (AllNullable g left ↔ AllNullable g whole) → left ≡ Rule r ∷ more
    → bit f.nullable r ≡ true → (AllNullable g more ↔ AllNullable g whole)
null_past g f of r left more whole h e n =
    ((λ a. h.0 (rw e (first.AllNullable.more ((of.is_nullable r).0 n) a))), (λ a. null_tail (rw e at (h.1 a))))

-- a rule that isn't nullable ends it
pub null_stop :
    (g : Grammar) (f : Firsts) → AreFirstsOf g f → (r : ℕ) (left more whole : List Symbol) → (AllNullable g left ↔ AllNullable g whole) → left ≡ Rule r ∷ more
    → bit f.nullable r ≡ false → (IsTrue false ↔ AllNullable g whole)
null_stop g f of r left more whole h e n =
    ((λ a. cc), (λ a. let k : bit f.nullable r ≡ true = (of.is_nullable r).1 (null_head (rw e at (h.1 a))) in cc))

-- and so does a token
pub null_at_token :
    (g : Grammar) (t : ℕ) (left more whole : List Symbol) → (AllNullable g left ↔ AllNullable g whole) → left ≡ Token t ∷ more → (IsTrue false ↔ AllNullable g whole)
null_at_token g t left more whole h e = ((λ a. cc), (λ a. absurd (null_token (rw e at (h.1 a)))))

-- where nothing is left, all is nullable
pub null_end : (g : Grammar) (left whole : List Symbol) → (AllNullable g left ↔ AllNullable g whole) → left ≡ [] → (IsTrue true ↔ AllNullable g whole)
null_end g left whole h e = ((λ a. h.0 (rw e first.AllNullable.none)), (λ a. refl))

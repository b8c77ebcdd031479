-- Where all rows are done, they are the FIRST sets.
use Rattle.std.proofs.Common.{◌≡◌, ℕ, ◌+◌, ◌≤◌, ◌≢◌, Bool, IsTrue, ◌↔◌, List, length, arith, refl, ⊎_elim}
use Rattle.std.proofs.lemmas.Bool.{cases_eq, and_from, or_left, or_right, eq-eqb}
use Rattle.lrspec.specs.grammars.Grammar.{Symbol, Grammar, IsProductionOf}
use Rattle.lrspec.specs.grammars.First.{Nullable, Begins, here, inside, past}
use Rattle.lrbits.specs.Bits.{bit}
use Rattle.lrgrammar.specs.Firsts.{BeginsRule}
use Rattle.lrgrammar.specs.FirstRows.{row, starts, HoldBegins, IsDone, AreDoneBelow, AreDone}
use Rattle.lrgrammar.proofs.NullableRules.{below_from_rule}

-- what begins a list is found where the rows are done and the nullable rules are set
pub starts_from_begins :
    {g : Grammar} {y : List Symbol} (t : ℕ) (v : List Bool) (x : List (List Bool)) → ((r : ℕ) → Nullable g r → IsTrue (bit v r)) → AreDone g v x → Begins g y t
    → IsTrue (starts v x y t)
starts_from_begins t v x n c here = or_left _ _ (eq-eqb t t refl)
starts_from_begins t v x n c (inside p h b) = or_left _ _ (c p _ h t (starts_from_begins t v x n c b))
starts_from_begins t v x n c (past k b) = or_right _ _ (and_from _ _ (n _ k) (starts_from_begins t v x n c b))

-- where all rows are done, a bit is set exactly if the token begins the rule
pub row_bits :
    (g : Grammar) (v : List Bool) (x : List (List Bool)) → ((r : ℕ) → IsTrue (bit v r) ↔ Nullable g r) → HoldBegins g x → AreDone g v x
    → (r t : ℕ) → IsTrue (bit (row x r) t) ↔ BeginsRule g r t
row_bits g v x n s c r t = (s r t, λ b. c b.0 r b.1 t (starts_from_begins t v x (λ k. (n k).1) c b.2))

-- one production more
pub done_below_more :
    (g : Grammar) (v : List Bool) (x : List (List Bool)) (i : ℕ) → AreDoneBelow g v x i → ((r : ℕ) → IsProductionOf g i r → IsDone g v x i r)
    → AreDoneBelow g v x (i + 1)
done_below_more g v x i c f p r lt k =
    ⊎_elim
    (λ (same : p ≡ i). rw same (f r (rw same at k)))
    (λ (other : p ≢ i). c p r (omega arith) k)
    (cases_eq p i)

pub done_from_below : (g : Grammar) (v : List Bool) (x : List (List Bool)) (n : ℕ) → length g.productions ≤ n → AreDoneBelow g v x n → AreDone g v x
done_from_below g v x n all c p r h = c p r (omega (arith, below_from_rule g p r h)) h

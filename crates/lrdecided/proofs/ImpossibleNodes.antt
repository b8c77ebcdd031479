-- nodes that are impossible, by the bits of the tokens with which their symbols begin
use Rattle.std.proofs.Common.{◌≡◌, ℕ, Bool, true, false, suc, ◌-◌, ◌<◌, List, Option, Some, sym, ◌∙◌, ap, subst, arith}
use Rattle.std.specs.Prelude.{IsTrue, ◌↔◌, not}
use Rattle.lrspec.specs.grammars.Grammar.{Grammar}
use Rattle.lrbits.specs.Bits.{bit, Intersect}
use Rattle.lrdecided.specs.Agreements as agreement
use Rattle.lrdecided.specs.Agreements.{Spends}
use Rattle.lrdecided.specs.Beginnings.{BeginsWithin, HasMore}
use Rattle.lrdecided.specs.Nodes as nodes
use Rattle.lrdecided.specs.Rules as rule
use Rattle.lrdecided.specs.Rules.{IsImpossible}

-- ways whose tokens differ
pub no_common_token :
    (g : Grammar) (a : nodes.Node) (v w : List Bool) → BeginsWithin g a.one.symbols v → BeginsWithin g a.other.symbols w
    → (Intersect v w → ⊥) → HasMore a.left → IsImpossible g a
no_common_token g a v w b c n (l, s) = rule.IsImpossible.apart s b.not_empty c.not_empty (λ t f h. n (t, b.begins t f, c.begins t h))

-- an answer that two vectors share no bit
pub share_none : (v w : List Bool) (b : Bool) → IsTrue (not b) → IsTrue b ↔ Intersect v w → Intersect v w → ⊥
share_none v w true t is i = absurd cc
share_none v w false t is i = let no : false ≡ true = is.1 i in absurd cc

-- of some tokens one is spent
pub one_spent : (left : Option ℕ) (n : ℕ) → left ≡ Some n → 0 < n → Spends left (Some (n - 1))
one_spent left n e l =
    let so : n ≡ suc (n - 1) = omega (arith, l) in
    subst (λ (o : Option ℕ). Spends o (Some (n - 1))) (sym (e ∙ ap (λ (k : ℕ). Some k) so)) (agreement.Spends.one (n - 1))

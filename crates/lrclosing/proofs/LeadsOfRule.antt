-- what productions pass on to those of the rules that come first in their bodies
use Rattle.std.proofs.Common.{◌≡◌, ℕ, zero, suc, ◌+◌, ◌≤◌, Bool, false, List, [], ◌∷◌, ◌++◌, None, Some, length, get_or, replicate, refl, ap, ◌∙◌, ◌⊎◌, inl, inr, ⊎_elim}
use Rattle.std.specs.Prelude.{IsTrue, slice_get, ◌↔◌}
use Rattle.std.proofs.lemmas.Option.{same_Some}
use Rattle.lrspec.specs.grammars.Grammar.{Rule, Grammar, IsGrammar, rest, IsProductionOf, productions_of}
use Rattle.lrspec.specs.grammars.First.{AllNullable, Begins}
use Rattle.lrspec.specs.grammars.ItemSets.{IsBefore}
use Rattle.lrspec.proofs.grammars.BodyFacts.{symbol_at_dot}
use Rattle.lrbits.specs.Bits.{bit}
use Rattle.lrclosing.specs.Rows.{ArePassedOn}
use Rattle.lrclosing.specs.Leads.{IsLeadOf, AreLeadsAmong, AreLeadsOf, AreLeadsByRule}
use Rattle.lrclosing.specs.declared.closer.Lead.{Lead}
use Rattle.std.specs.declared.alloc.Global.{Global}
use Rattle.std.specs.declared.vec.Vec.{Vec}
use Rattle.lrclosing.proofs.ProductionsOfRule.{IsAmongFirst, among_productions, among_next}
use Rattle.lrclosing.proofs.VisitedItems.{clear_bits}

-- what the tokens of a rest and whether it is nullable make of a production
pub lead_made :
    (g : Grammar) (p a r n : ℕ) (v w : List Bool) (i : Bool) → IsGrammar g → IsBefore g p 0 (Rule r) → IsProductionOf g p a → v ≡ replicate n false
    → ArePassedOn g (rest g p 1) None (Some v) w → (IsTrue i ↔ AllNullable g (rest g p 1)) → IsLeadOf g a p (record { rule = r; begins = w; inherits = i })
lead_made g p a r n v w i s b h e put null = record {
  is_production = h;
  is = b;
  rule = (symbol_at_dot s p 0 (Rule r) b).1;
  bits = put.len;
  begins = λ t. (
    (λ k. ⊎_elim
        (λ (j : IsTrue (bit v t)). absurd (clear_bits n t (rw e at j)))
        (λ (j : Begins g (rest g p 1) t ⊎ (AllNullable g (rest g p 1) × ⊥)). elim j [ inl x ↦ x | inr x ↦ absurd x.1 ])
        (put.from t k)),
    (λ k. put.begins t k),
  );
  nullable = null;
}

-- one more at the end of a list
pub pushed_old : {X : Type 0} (xs : List X) (x y : X) (k : ℕ) → slice_get xs k ≡ Some y → slice_get (xs ++ x ∷ []) k ≡ Some y
pushed_old [] x y k e = cc
pushed_old (z ∷ xs) x y zero e = e
pushed_old (z ∷ xs) x y (suc k) e = pushed_old xs x y k e

pub pushed_new : {X : Type 0} (xs : List X) (x : X) → slice_get (xs ++ x ∷ []) (length xs) ≡ Some x
pushed_new [] x = refl
pushed_new (z ∷ xs) x = pushed_new xs x

pub pushed_cases : {X : Type 0} (xs : List X) (x y : X) (k : ℕ) → slice_get (xs ++ x ∷ []) k ≡ Some y → (slice_get xs k ≡ Some y) ⊎ (x ≡ y)
pushed_cases [] x y zero e = inr (same_Some x y e)
pushed_cases [] x y (suc k) e = cc
pushed_cases (z ∷ xs) x y zero e = inl e
pushed_cases (z ∷ xs) x y (suc k) e = pushed_cases xs x y k e

-- with its place
pushed_place : {X : Type 0} (xs : List X) (x y : X) (k : ℕ) → slice_get (xs ++ x ∷ []) k ≡ Some y → (slice_get xs k ≡ Some y) ⊎ ((k ≡ length xs) × (x ≡ y))
pushed_place [] x y zero e = inr (refl, same_Some x y e)
pushed_place [] x y (suc k) e = cc
pushed_place (z ∷ xs) x y zero e = inl e
pushed_place (z ∷ xs) x y (suc k) e = elim (pushed_place xs x y k e) [ inl h ↦ inl h | inr h ↦ inr (ap suc h.0, h.1) ]

-- a production that begins with no rule
pub leads_skip :
    (g : Grammar) (a i p : ℕ) (ps : List ℕ) (ls : List Lead) → AreLeadsAmong (IsAmongFirst i ps) g a ls → get_or ps i 0 ≡ p
    → ((r : ℕ) → IsBefore g p 0 (Rule r) → ⊥) → AreLeadsAmong (IsAmongFirst (i + 1) ps) g a ls
leads_skip g a i p ps ls m h n = record {
  each = m.each;
  all = λ q b k e. elim (among_next i ps p q h k) [
    | inl j ↦ m.all q b j e
    | inr j ↦ absurd (n b (rw j at e))
  ];
}

-- one that begins with a rule
pub leads_next :
    (g : Grammar) (a i p : ℕ) (ps : List ℕ) (ls new : List Lead) (l : Lead) → AreLeadsAmong (IsAmongFirst i ps) g a ls → get_or ps i 0 ≡ p
    → new ≡ ls ++ l ∷ [] → IsLeadOf g a p l → AreLeadsAmong (IsAmongFirst (i + 1) ps) g a new
leads_next g a i p ps ls new l m h e x = rw e (record {
  each = λ k o s. ⊎_elim
      (λ (j : slice_get ls k ≡ Some o). m.each k o j)
      (λ (j : l ≡ o). let y : IsLeadOf g a p o = rw j at x in (p, y))
      (pushed_cases ls l o k s);
  all = λ q b k s. elim (among_next i ps p q h k) [
    | inl j ↦ let o = m.all q b j s in (o.0, o.1, pushed_old ls l o.1 o.0 o.2, o.3)
    | inr j ↦ (length ls, l, pushed_new ls l, rw j x)
  ];
})

-- all productions of the rule at last
pub leads_every :
    (g : Grammar) (a n : ℕ) (ps : List ℕ) (ls : List Lead) → ps ≡ productions_of g a → length ps ≤ n → AreLeadsAmong (IsAmongFirst n ps) g a ls → AreLeadsOf g a ls
leads_every g a n ps ls e l m = record {
  each = m.each;
  all = λ q b h s. m.all q b (among_productions g ps a n q e l h) s;
}

-- those of one rule more
pub by_rule_next :
    (g : Grammar) (n : ℕ) (vs new : List (Vec Lead Global)) (v : Vec Lead Global) → AreLeadsByRule g vs → length vs ≡ n → new ≡ vs ++ v ∷ [] → AreLeadsOf g n v.items
    → AreLeadsByRule g new
by_rule_next g n vs new v m l e h a w k =
    let s : slice_get (vs ++ v ∷ []) a ≡ Some w = rw e at k in
    ⊎_elim
    (λ (j : slice_get vs a ≡ Some w). m a w j)
    (λ (j : (a ≡ length vs) × (v ≡ w)).
    let same : a ≡ n = j.0 ∙ l in
    let is : AreLeadsOf g n w.items = rw j.1 at h in
    rw same is)
    (pushed_place vs v w a s)

-- bits of productions that are set one after another
use Rattle.std.proofs.Common.{◌≡◌, ℕ, ◌+◌, ◌<◌, ◌≤◌, Bool, true, List, [], ◌∷◌, zero, suc, length, get_or, set, length-set, refl, ap, ◌∙◌, arith, inl, inr}
use Rattle.std.specs.Prelude.{IsTrue, slice_get}
use Rattle.lrspec.specs.grammars.Grammar.{Grammar, Production, IsOfRule, IsProductionOf, productions_of}
use Rattle.lrbits.specs.Bits.{bit}
use Rattle.lrclosing.specs.Visits.{AreMarked}
use Rattle.lrclosing.proofs.PassedOn.{set_keeps, set_here, set_from}
use Rattle.lrclosing.proofs.ProductionsOfRule.{IsAmongFirst, among_productions, production_among, among_next, among_more, among_here, among_none}

pub mark_none : (ps : List ℕ) (v : List Bool) → AreMarked (IsAmongFirst 0 ps) v v
mark_none ps v = record { len = refl; kept = λ q h. h; set = λ q h. absurd (among_none ps q h); from = λ q h. inl h }

-- one production more
pub mark_this :
    (ps : List ℕ) (i p : ℕ) (old mid new : List Bool) → AreMarked (IsAmongFirst i ps) old mid → new ≡ set mid p true → p < length mid → i < length ps
    → get_or ps i 0 ≡ p → AreMarked (IsAmongFirst (i + 1) ps) old new
mark_this ps i p old mid new m e b l h = record {
  len = ap length e ∙ length-set mid p true ∙ m.len;
  kept = λ q k. rw e (set_keeps mid p q (m.kept q k));
  set = λ q k. rw e (elim (among_next i ps p q h k) [ inl j ↦ set_keeps mid p q (m.set q j) | inr j ↦ rw j (set_here mid p b) ]);
  from = λ q k. elim (set_from mid p q (rw e at k)) [
    | inl j ↦ inr (among_here i ps p q l h j)
    | inr j ↦ elim (m.from q j) [ inl n ↦ inl n | inr n ↦ inr (among_more i ps q n) ]
  ];
}

-- all productions of the rule at last
pub mark_every :
    (g : Grammar) (ps : List ℕ) (r n : ℕ) (old new : List Bool) → ps ≡ productions_of g r → length ps ≤ n → AreMarked (IsAmongFirst n ps) old new
    → AreMarked (λ q. IsProductionOf g q r) old new
mark_every g ps r n old new e l m = record {
  len = m.len;
  kept = m.kept;
  set = λ q h. m.set q (among_productions g ps r n q e l h);
  from = λ q h. elim (m.from q h) [ inl k ↦ inl k | inr k ↦ inr (production_among g ps r n q e k) ];
}

-- a bit that is set is within
pub below_of_bit : (v : List Bool) (i : ℕ) → IsTrue (bit v i) → i < length v
below_of_bit [] i h = cc
below_of_bit (b ∷ v) zero h = omega arith
below_of_bit (b ∷ v) (suc i) h = omega (arith, below_of_bit v i h)

-- a production that is there is of a rule
pub some_rule : (g : Grammar) (p : ℕ) → p < length g.productions → (r : ℕ) × IsProductionOf g p r
some_rule g p h = go g.productions p h
  where
    go : (ps : List Production) (k : ℕ) → k < length ps → (r : ℕ) × IsOfRule (slice_get ps k) r
    go [] k l = absurd (omega arith)
    go (x ∷ ps) zero l = (x.rule, refl)
    go (x ∷ ps) (suc k) l = go ps k (omega arith)

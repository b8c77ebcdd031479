-- the productions whose rules have rows, marked one rule after another
use Rattle.std.proofs.Common.{◌≡◌, ℕ, ◌+◌, ◌-◌, ◌<◌, ◌≤◌, Bool, true, false, List, [], ◌∷◌, length, get_or, set, length-set, replicate, refl, ap, ◌∙◌, ◌⊎◌, arith, inl, inr}
use Rattle.std.specs.Prelude.{IsTrue}
use Rattle.std.specs.Option.{IsSome}
use Rattle.std.proofs.lemmas.List.{length-replicate}
use Rattle.lrspec.specs.grammars.Grammar.{Grammar, IsProductionOf, productions_of}
use Rattle.lrspec.proofs.grammars.BodyFacts.{below_of_production}
use Rattle.lrspec.proofs.grammars.ListMembers.{Among}
use Rattle.lrbits.specs.Bits.{bit}
use Rattle.lrclosing.specs.Rows.{Rows, row_at, IsPutIn}
use Rattle.lrclosing.specs.Visits.{AreMarked}
use Rattle.lrclosing.specs.Listing.{IsIn, ArePutIn}
use Rattle.lrclosing.proofs.PassedOn.{set_keeps, set_here, set_from}
use Rattle.lrclosing.proofs.ProductionsOfRule.{IsAmongFirst, among_productions, production_among, among_next, among_more, among_here, among_none}
use Rattle.lrclosing.proofs.VisitedItems.{clear_bits}

-- ---- the range of the productions

-- the range has the first productions of a list, and one more where that is put in
pub in_range_next :
    (old new : ℕ × ℕ) (ps : List ℕ) (i p : ℕ) → get_or ps i 0 ≡ p → IsIn new p → ((q : ℕ) → IsIn old q → IsIn new q)
    → ((q : ℕ) → IsAmongFirst i ps q → IsIn old q) → (q : ℕ) → IsAmongFirst (i + 1) ps q → IsIn new q
in_range_next old new ps i p e here kept h q s = elim (among_next i ps p q e s) [ inl k ↦ kept q (h q k) | inr k ↦ rw k here ]

-- all productions of the rule at last
pub in_range_every :
    (g : Grammar) (range : ℕ × ℕ) (ps : List ℕ) (r n : ℕ) → ps ≡ productions_of g r → length ps ≤ n → ((q : ℕ) → IsAmongFirst n ps q → IsIn range q)
    → (q : ℕ) → IsProductionOf g q r → IsIn range q
in_range_every g range ps r n e l h q i = h q (among_productions g ps r n q e l i)

-- the range has the productions of the rules that have rows, but for those of the rules that are left
pub record IsRangeBut (left : List ℕ) (g : Grammar) (rows : Rows) (range : ℕ × ℕ) : Type 0 where
  pub has : (q r : ℕ) → IsProductionOf g q r → IsSome (row_at rows r) → Among r left ⊎ IsIn range q
  pub some : (r : ℕ) → Among r left → IsSome (row_at rows r)
  pub first : range.0 ≤ length g.productions
  pub last : 0 < length g.productions → range.1 < length g.productions

-- those of one rule more
pub range_next :
    (g : Grammar) (rows : Rows) (r : ℕ) (left more : List ℕ) (old new : ℕ × ℕ) → left ≡ r ∷ more → ((q : ℕ) → IsProductionOf g q r → IsIn new q)
    → ((q : ℕ) → IsIn old q → IsIn new q) → new.0 ≤ old.0 → (old.1 < length g.productions → new.1 < length g.productions) → IsRangeBut left g rows old
    → IsRangeBut more g rows new
range_next g rows r left more old new e has kept first last b = record {
  has = λ q s i h. elim (b.has q s i h) [
    | inl k ↦
        let one : Among s (r ∷ more) = rw e at k in
        elim one [ inl x ↦ inr (has q (rw x at i)) | inr x ↦ inl x ]
    | inr k ↦ inr (kept q k)
  ];
  some = λ s h. b.some s (rw e (inr h));
  first = omega (arith, first, b.first);
  last = λ h. last (b.last h);
}

-- all at last
pub range_every : (g : Grammar) (rows : Rows) (left : List ℕ) (range : ℕ × ℕ) → left ≡ [] → IsRangeBut left g rows range → (q : ℕ) → IsPutIn g rows q → IsIn range q
range_every g rows left range e b q h = elim (b.has q h.0 h.1 h.2) [
  | inl k ↦ let none : Among h.0 [] = rw e at k in absurd none
  | inr k ↦ k
]

-- ---- their bits

-- none of a list
pub offset_none : (from : ℕ) (ps : List ℕ) (v : List Bool) → AreMarked (λ k. IsAmongFirst 0 ps (from + k)) v v
offset_none from ps v = record { len = refl; kept = λ k h. h; set = λ k h. absurd (among_none ps (from + k) h); from = λ k h. inl h }

-- one production more
pub offset_this :
    (from : ℕ) (ps : List ℕ) (i p : ℕ) (old mid new : List Bool) → AreMarked (λ k. IsAmongFirst i ps (from + k)) old mid → new ≡ set mid (p - from) true
    → from ≤ p → p < from + length mid → i < length ps → get_or ps i 0 ≡ p → AreMarked (λ k. IsAmongFirst (i + 1) ps (from + k)) old new
offset_this from ps i p old mid new m e low high l h =
    let place : p - from < length mid = omega (arith, low, high) in
    record {
      len = ap length e ∙ length-set mid (p - from) true ∙ m.len;
      kept = λ k j. rw e (set_keeps mid (p - from) k (m.kept k j));
      set = λ k j. rw e (elim (among_next i ps p (from + k) h j) [
        | inl n ↦ set_keeps mid (p - from) k (m.set k n)
        | inr n ↦ let same : k ≡ p - from = omega (arith, n) in rw same (set_here mid (p - from) place)
      ]);
      from = λ k j. elim (set_from mid (p - from) k (rw e at j)) [
        | inl n ↦ let same : from + k ≡ p = omega (arith, n, low) in inr (among_here i ps p (from + k) l h same)
        | inr n ↦ elim (m.from k n) [ inl x ↦ inl x | inr x ↦ inr (among_more i ps (from + k) x) ]
      ];
    }

-- all productions of the rule at last
pub offset_every :
    (g : Grammar) (from : ℕ) (ps : List ℕ) (r n : ℕ) (old new : List Bool) → ps ≡ productions_of g r → length ps ≤ n
    → AreMarked (λ k. IsAmongFirst n ps (from + k)) old new → AreMarked (λ k. IsProductionOf g (from + k) r) old new
offset_every g from ps r n old new e l m = record {
  len = m.len;
  kept = m.kept;
  set = λ k h. m.set k (among_productions g ps r n (from + k) e l h);
  from = λ k h. elim (m.from k h) [ inl x ↦ inl x | inr x ↦ inr (production_among g ps r n (from + k) e x) ];
}

-- what is put in is a production
pub put_in_below : (g : Grammar) (rows : Rows) (q : ℕ) → IsPutIn g rows q → q < length g.productions
put_in_below g rows q h = below_of_production g q h.0 h.1

-- the bits of the productions of the rules that have rows, but for those of the rules that are left
pub record ArePutInBut (left : List ℕ) (g : Grammar) (rows : Rows) (from : ℕ) (bits : List Bool) : Type 0 where
  pub len : from + length bits ≤ length g.productions
  pub within : (q : ℕ) → IsPutIn g rows q → (from ≤ q) × (q < from + length bits)
  pub set : (k r : ℕ) → IsProductionOf g (from + k) r → IsSome (row_at rows r) → Among r left ⊎ IsTrue (bit bits k)
  pub came : (k : ℕ) → IsTrue (bit bits k) → IsPutIn g rows (from + k)
  pub some : (r : ℕ) → Among r left → IsSome (row_at rows r)

-- none at first
pub marked_none :
    (g : Grammar) (rows : Rows) (left : List ℕ) (from m : ℕ) (bits : List Bool) → bits ≡ replicate m false → from + m ≤ length g.productions
    → ((q : ℕ) → IsPutIn g rows q → (from ≤ q) × (q < from + m)) → ((r : ℕ) → IsSome (row_at rows r) → Among r left)
    → ((r : ℕ) → Among r left → IsSome (row_at rows r)) → ArePutInBut left g rows from bits
marked_none g rows left from m bits e l within all some =
    let many : length bits ≡ m = ap length e ∙ length-replicate m false in
    record {
      len = rw many l;
      within = rw many within;
      set = λ k r i h. inl (all r h);
      came = λ k h. absurd (clear_bits m k (rw e at h));
      some = some;
    }

-- those of one rule more
pub marked_next :
    (g : Grammar) (rows : Rows) (r : ℕ) (left more : List ℕ) (from : ℕ) (old new : List Bool) → left ≡ r ∷ more
    → AreMarked (λ k. IsProductionOf g (from + k) r) old new → ArePutInBut left g rows from old → ArePutInBut more g rows from new
marked_next g rows r left more from old new e m b = record {
  len = rw m.len b.len;
  within = rw m.len b.within;
  set = λ k s i h. elim (b.set k s i h) [
    | inl x ↦
        let one : Among s (r ∷ more) = rw e at x in
        elim one [ inl y ↦ inr (m.set k (rw y at i)) | inr y ↦ inl y ]
    | inr x ↦ inr (m.kept k x)
  ];
  came = λ k h. elim (m.from k h) [
    | inl x ↦ b.came k x
    | inr x ↦ (r, x, b.some r (rw e (inl refl)))
  ];
  some = λ s h. b.some s (rw e (inr h));
}

-- all at last
pub marked_every : (g : Grammar) (rows : Rows) (left : List ℕ) (from : ℕ) (bits : List Bool) → left ≡ [] → ArePutInBut left g rows from bits → ArePutIn g rows from bits
marked_every g rows left from bits e b = record {
  len = b.len;
  within = b.within;
  each = λ k. (
    b.came k,
    λ h. elim (b.set k h.0 h.1 h.2) [
      | inl x ↦ let none : Among h.0 [] = rw e at x in absurd none
      | inr x ↦ x
    ],
  );
}

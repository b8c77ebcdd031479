-- visits by leads
use Rattle.std.proofs.Common.{◌≡◌, ◌≢◌, ℕ, ◌+◌, ◌<◌, ◌≤◌, Bool, true, false, List, [], ◌∷◌, Option, None, Some, length, set, length-set, get_or-set_other, refl, sym, ap, ◌∙◌, arith, ◌⊎◌, inl, inr, ⊎_elim}
use Rattle.std.specs.Prelude.{IsTrue, slice_get, if◌then◌else◌}
use Rattle.std.proofs.lemmas.Bool.{cases_eq}
use Rattle.std.proofs.lemmas.Option.{same_Some, slice_get_within}
use Rattle.lrspec.specs.grammars.Grammar.{Symbol, Rule, Token, Grammar, rest, token_count, IsProductionOf}
use Rattle.lrspec.specs.grammars.ItemSets.{Items, IsBefore}
use Rattle.lrbits.specs.Bits.{bit}
use Rattle.lrclosing.specs.declared.closer.Row.{Row}
use Rattle.lrclosing.specs.declared.closer.Lead.{Lead}
use Rattle.lrclosing.specs.Rows.{row_at, ArePassedOn, HasGrown}
use Rattle.lrclosing.specs.Visits.{IsRuleToDo, IsVisited, IsUnderway, visits_left}
use Rattle.lrclosing.specs.Leads.{row_in, rows_in, IsLeadOf, AreLeadsOf, AreKeptRows, IsLed}
use Rattle.lrclosing.specs.Closer.{AreVisited}
use Rattle.lrclosing.proofs.PassedOn.{set_keeps, set_here, set_from}
use Rattle.lrclosing.proofs.VisitedItems.{behind_rule, visited, passed_nothing}
use Rattle.lrclosing.proofs.PutLeads.{IsPut, put_by_lead}
use Rattle.lrclosing.proofs.VisitsLeft.{left_by_row}
use Rattle.lrclosing.proofs.ClosingUnderway.{next_productions, fewer_underway}
use Rattle.lrclosing.proofs.RowsWritten.{row_here, rows_set, length_rows, kept_written, row_reached}

-- the bit of the rule is set where something has changed
abbrev pub IsSetIf : Bool → ℕ → List Bool → List Bool → Type 0
IsSetIf true b todo after = after ≡ set todo b true
IsSetIf false b todo after = after ≡ todo

pub set_if : (c : Bool) (b : ℕ) (todo after : List Bool) → c ≡ true → after ≡ set todo b true → IsSetIf c b todo after
set_if true b todo after h e = e
set_if false b todo after h e = cc

pub set_not : (c : Bool) (b : ℕ) (todo after : List Bool) → c ≡ false → after ≡ todo → IsSetIf c b todo after
set_not true b todo after h e = cc
set_not false b todo after h e = e

set_kept : (c : Bool) (b : ℕ) (todo after : List Bool) → IsSetIf c b todo after → (r : ℕ) → IsTrue (bit todo r) → IsTrue (bit after r)
set_kept true b todo after e r h = rw e (set_keeps todo b r h)
set_kept false b todo after e r h = rw e h

set_came : (c : Bool) (b : ℕ) (todo after : List Bool) → IsSetIf c b todo after → (r : ℕ) → IsTrue (bit after r) → IsTrue (bit todo r) ⊎ (r ≡ b)
set_came true b todo after e r h = elim (set_from todo b r (rw e at h)) [ inl k ↦ inr k | inr k ↦ inl k ]
set_came false b todo after e r h = inl (rw e at h)

set_stays :
    (c : Bool) (k b : ℕ) (o : Option (List Bool)) (v todo after : List Bool) → b < length todo → HasGrown k c o v → IsSetIf c b todo after
    → (o ≡ Some v) ⊎ IsTrue (bit after b)
set_stays true k b o v todo after l h e = inr (rw e (set_here todo b l))
set_stays false k b o v todo after l h e = inl h

pub set_len : (c : Bool) (b : ℕ) (todo after : List Bool) → IsSetIf c b todo after → length after ≡ length todo
set_len true b todo after e = ap length e ∙ length-set todo b true
set_len false b todo after e = ap length e

set_same : (c : Bool) (b : ℕ) (todo after : List Bool) → IsSetIf c b todo after → c ≡ false → after ≡ todo
set_same true b todo after e h = cc
set_same false b todo after e h = e

-- what is written for a lead is a visit of its production
visited_put :
    (g : Grammar) (q a : ℕ) (l : Lead) (c : Bool) (old new : List Row) (todo after : List Bool) (Left : ℕ → Type 0) → IsLeadOf g a q l → AreKeptRows g old
    → length todo ≡ length g.rule_names → IsPut g q a l.rule c old new → IsSetIf c l.rule todo after
    → IsVisited g q 0 (row_at (rows_in old) a) (rows_in old) (rows_in new) (λ p. IsRuleToDo g todo p ⊎ Left p) (λ p. IsRuleToDo g after p ⊎ Left p)
visited_put g q a l c old new todo after Left h k e p s =
    let one : 1 ≡ 0 + 1 = omega arith in
    let m : ArePassedOn g h.is.0 (row_at (rows_in old) a) (row_at (rows_in old) l.rule) p.row = rw (behind_rule g q 0 l.rule 1 h.is one) at p.passed in
    let below : l.rule < length (rows_in old) = omega (arith, h.rule, k.len, length_rows old) in
    let bits : l.rule < length todo = omega (arith, h.rule, e) in
    let w : rows_in new ≡ set (rows_in old) l.rule (Some p.row) = ap rows_in p.written ∙ rows_set old l.rule (record { ctx = p.row; is_reached = true }) in
    rw w (visited g q 0 l.rule h.is.0 (row_at (rows_in old) a) (row_at (rows_in old) a) (rows_in old) p.row (λ x. IsRuleToDo g todo x ⊎ Left x)
    (λ x. IsRuleToDo g after x ⊎ Left x) h.is.1 below m
    (λ x y. elim y [ inl z ↦ inl (z.0, z.1, set_kept c l.rule todo after s z.0 z.2) | inr z ↦ inr z ])
    (λ x y. elim y [
      | inr z ↦ inl (inr z)
      | inl z ↦ elim (set_came c l.rule todo after s z.0 z.2) [ inl n ↦ inl (inl (z.0, z.1, n)) | inr n ↦ inr (rw n at z.1) ]
    ])
    (λ x y. elim (set_stays c (token_count g) l.rule (row_at (rows_in old) l.rule) p.row todo after bits p.grown s) [
      | inl z ↦ inl z
      | inr z ↦ inr (inl (l.rule, y, z))
    ])
    (λ t x. x) (λ t x. inl x))

-- the production `q` has one of the leads from place `k` on
abbrev pub IsLeft : Grammar → ℕ → List Lead → ℕ → ℕ → Type 0
IsLeft g a ls k q = (j : ℕ) × (k ≤ j) × (l : Lead) × (slice_get ls j ≡ Some l) × IsLeadOf g a q l

-- a body begins with a rule, or doesn't
rule_first : (y : List Symbol) → ((b : ℕ) × (z : List Symbol) × (y ≡ Rule b ∷ z)) ⊎ ((b : ℕ) → (z : List Symbol) × (y ≡ Rule b ∷ z) → ⊥)
rule_first [] = inr (λ b h. let e : [] ≡ Rule b ∷ h.0 = h.1 in cc)
rule_first (Token t ∷ y) = inr (λ b h. let e : Token t ∷ y ≡ Rule b ∷ h.0 = h.1 in cc)
rule_first (Rule r ∷ y) = inl (r, y, refl)

-- at first the productions of all leads are left
pub leads_start :
    (g : Grammar) (a : ℕ) (ls : List Lead) (rows : List Row) (todo : List Bool) → AreLeadsOf g a ls → AreKeptRows g rows
    → AreVisited g a (λ q. IsRuleToDo g todo q ⊎ IsLeft g a ls 0 q) rows rows todo todo
leads_start g a ls rows todo m k = record {
  rows = k;
  len = refl;
  underway = λ b u. fewer_underway g b (rows_in rows) (λ q. IsRuleToDo g todo q ⊎ IsProductionOf g q a) (λ q. IsRuleToDo g todo q ⊎ IsLeft g a ls 0 q) [] u
      (λ q h. elim h [ inl z ↦ inl z | inr z ↦ inr z.4.is_production ])
      (λ q r i h. elim h [
        | inl z ↦ inl (inl z)
        | inr z ↦ elim (rule_first (rest g q 0)) [
          | inl n ↦ let o = m.all q n.0 z (n.1, n.2) in let low : 0 ≤ o.0 = omega arith in inl (inr (o.0, low, o.1, o.2, o.3))
          | inr n ↦ inr (passed_nothing g q 0 (row_at (rows_in rows) r) (rows_in rows) n)
        ]
      ]);
  left = omega arith;
}

-- one lead more
pub leads_step :
    (g : Grammar) (a k q : ℕ) (ls : List Lead) (l : Lead) (c : Bool) (old rows new : List Row) (start todo after : List Bool)
    → AreVisited g a (λ p. IsRuleToDo g todo p ⊎ IsLeft g a ls k p) old rows start todo → length todo ≡ length g.rule_names → slice_get ls k ≡ Some l
    → IsLeadOf g a q l → IsLed l a c rows new → IsSetIf c l.rule todo after
    → AreVisited g a (λ p. IsRuleToDo g after p ⊎ IsLeft g a ls (k + 1) p) old new start after
leads_step g a k q ls l c old rows new start todo after v e at h led s = record {
  rows = kept_written g rows new l.rule (record { ctx = put.row; is_reached = true }) v.rows (row_reached g put.row put.passed.len) put.written;
  len = set_len c l.rule todo after s ∙ v.len;
  underway = λ b u.
      let now = v.underway b u in
      let here : IsLeft g a ls k q = (k, low, l, at, h) in
      next_productions g b (rows_in rows) (rows_in new) (λ p. IsRuleToDo g todo p ⊎ IsLeft g a ls k p) (λ p. IsRuleToDo g todo p ⊎ IsLeft g a ls (k + 1) p)
      (λ p. IsRuleToDo g after p ⊎ IsLeft g a ls (k + 1) p) (λ p. IsLeadOf g a p l) q a [] now h.is_production (now.put_in q a (inr here) h.is_production)
      (λ p i. i.is_production)
      (λ p i. (visited_put g p a l c rows new todo after (IsLeft g a ls (k + 1)) i v.rows e (put_by_lead g p a l c rows new i v.rows led) s).passed)
      (visited_put g q a l c rows new todo after (IsLeft g a ls (k + 1)) h v.rows e put s)
      (λ p i. elim i [ inl z ↦ inl z | inr z ↦ inr (more p z) ])
      (λ p i. elim i [ inl z ↦ inr (inl z) | inr z ↦ elim (split p z) [ inl n ↦ inl n | inr n ↦ inr (inr n) ] ]);
  left =
      let w : rows_in new ≡ set (rows_in rows) l.rule (Some put.row) =
      ap rows_in put.written ∙ rows_set rows l.rule (record { ctx = put.row; is_reached = true }) in
      let below : l.rule < length (rows_in rows) = omega (arith, h.rule, v.rows.len, length_rows rows) in
      let less : visits_left (token_count g) (set (rows_in rows) l.rule (Some put.row)) after ≤ visits_left (token_count g) (rows_in rows) todo =
      left_by_row c (token_count g) l.rule (rows_in rows) put.row todo after below put.grown (set_len c l.rule todo after s) (set_same c l.rule todo after s) in
      let most : visits_left (token_count g) (rows_in new) after ≤ visits_left (token_count g) (rows_in rows) todo = rw w less in
      omega (arith, most, v.left);
}
  where
    put : IsPut g q a l.rule c rows new
    put = put_by_lead g q a l c rows new h v.rows led

    low : k ≤ k
    low = omega arith

    more : (p : ℕ) → IsLeft g a ls (k + 1) p → IsLeft g a ls k p
    more p z = let n : k ≤ z.0 = omega (arith, z.1) in (z.0, n, z.2, z.3, z.4)

    split : (p : ℕ) → IsLeft g a ls k p → IsLeadOf g a p l ⊎ IsLeft g a ls (k + 1) p
    split p z = ⊎_elim
        (λ (x : z.0 ≡ k).
        let there : slice_get ls k ≡ Some z.2 = rw x at z.3 in
        let same : z.2 ≡ l = same_Some z.2 l (sym there ∙ at) in
        inl (rw same at z.4))
        (λ (x : z.0 ≢ k). let n : k + 1 ≤ z.0 = omega (arith, z.1, x) in inr (z.0, n, z.2, z.3, z.4))
        (cases_eq z.0 k)

-- all leads at last
pub leads_end :
    (g : Grammar) (a n : ℕ) (ls : List Lead) (old new : List Row) (start todo : List Bool) → length ls ≤ n
    → AreVisited g a (λ p. IsRuleToDo g todo p ⊎ IsLeft g a ls n p) old new start todo → AreVisited g a (IsRuleToDo g todo) old new start todo
leads_end g a n ls old new start todo l v = record {
  rows = v.rows;
  len = v.len;
  underway = λ b u. fewer_underway g b (rows_in new) (λ p. IsRuleToDo g todo p ⊎ IsLeft g a ls n p) (IsRuleToDo g todo) [] (v.underway b u)
      (λ q h. inl h)
      (λ q r i h. elim h [
        | inl z ↦ inl z
        | inr z ↦ let within : z.0 < length ls = slice_get_within ls z.0 z.2 z.3 in absurd (omega (arith, within, z.1, l))
      ]);
  left = v.left;
}

-- a rule is taken from what is to be done, and its productions are left to do
pub taken_underway :
    (g : Grammar) (b : Items) (r : ℕ) (rows : List Row) (todo : List Bool) → IsTrue (bit todo r) → IsUnderway g b (rows_in rows) (IsRuleToDo g todo) []
    → IsUnderway g b (rows_in rows) (λ q. IsRuleToDo g (set todo r false) q ⊎ IsProductionOf g q r) []
taken_underway g b r rows todo h u =
    fewer_underway g b (rows_in rows) (IsRuleToDo g todo) (λ q. IsRuleToDo g (set todo r false) q ⊎ IsProductionOf g q r) [] u
    (λ q k. elim k [ inl z ↦ (z.0, z.1, was z.0 z.2) | inr z ↦ (r, z, h) ])
    (λ q s i k. inl (elim (cases_eq k.0 r) [ inl e ↦ inr (rw e at k.1) | inr n ↦ inl (k.0, k.1, still k.0 n k.2) ]))
  where
    was : (x : ℕ) → IsTrue (bit (set todo r false) x) → IsTrue (bit todo x)
    was x k = ⊎_elim (λ (e : x ≡ r). rw e h) (λ (n : x ≢ r). rw get_or-set_other at k) (cases_eq x r)

    still : (x : ℕ) → x ≢ r → IsTrue (bit todo x) → IsTrue (bit (set todo r false) x)
    still x n k = rw get_or-set_other k

-- a given item stands before a rule, whose row is written
pub visited_given :
    (g : Grammar) (p d b e i : ℕ) (ctx : List Bool) (old : List Row) (x y : Row) (todo after : List Bool) → IsBefore g p d (Rule b) → e ≡ d + 1 → i ≡ b
    → slice_get old i ≡ Some x → ArePassedOn g (rest g p e) (Some ctx) (row_in x) y.ctx → y.is_reached ≡ true → i < length todo → after ≡ set todo i true
    → IsVisited g p d (Some ctx) (rows_in old) (rows_in (set old i y)) (IsRuleToDo g todo) (IsRuleToDo g after)
visited_given g p d b e i ctx old x y todo after before next same at passed reached bits m =
    let here : slice_get old b ≡ Some x = rw same at at in
    let in_bits : b < length todo = omega (arith, bits, same) in
    let within : b < length old = slice_get_within old b x here in
    let below : b < length (rows_in old) = omega (arith, within, length_rows old) in
    let put : ArePassedOn g before.0 (Some ctx) (row_at (rows_in old) b) y.ctx = rw (row_here old b x here) (rw (behind_rule g p d b e before next) at passed) in
    let some : row_in y ≡ Some y.ctx = reached_row y.ctx y.is_reached reached in
    let w : rows_in (set old i y) ≡ set (rows_in old) b (Some y.ctx) = rw (same, ← some) (rows_set old b y) in
    let n : after ≡ set todo b true = rw same at m in
    rw (w, n) (visited g p d b before.0 (Some ctx) (Some ctx) (rows_in old) y.ctx (IsRuleToDo g todo) (IsRuleToDo g (set todo b true)) before.1 below put
    (λ q h. (h.0, h.1, set_keeps todo b h.0 h.2))
    (λ q h. elim (set_from todo b h.0 h.2) [ inl z ↦ inr (rw z at h.1) | inr z ↦ inl (h.0, h.1, z) ])
    (λ q h. inr (b, h, set_here todo b in_bits))
    (λ t h. h) (λ t h. inl h))
  where
    reached_row : (v : List Bool) (c : Bool) → c ≡ true → (if c then Some v else None) ≡ Some v
    reached_row v true h = refl
    reached_row v false h = cc

-- which rows are reached, by one bit a rule
use Rattle.std.proofs.Common.{◌≡◌, ℕ, zero, suc, ◌+◌, ◌<◌, Bool, true, false, List, [], ◌∷◌, Some, None, length, get_or, set, drop, replicate, add-one, drop-cons, refl, sym, ap, ◌∙◌, arith, inl, inr}
use Rattle.std.specs.Prelude.{IsTrue, slice_get, if◌then◌else◌}
use Rattle.std.specs.Option.{IsSome}
use Rattle.std.proofs.lemmas.Bool.{cases_eq}
use Rattle.std.proofs.lemmas.List.{length-map}
use Rattle.std.proofs.lemmas.Option.{same_Some}
use Rattle.lrspec.proofs.grammars.ListMembers.{Among}
use Rattle.lrbits.specs.Bits.{bit}
use Rattle.lrclosing.specs.declared.closer.Lead.{Lead}
use Rattle.lrclosing.specs.declared.closer.Row.{Row}
use Rattle.lrclosing.specs.Rows.{row_at}
use Rattle.lrclosing.specs.Leads.{rows_in, reached_of, led_row, IsLed}
use Rattle.lrclosing.proofs.MarkedProductions.{below_of_bit}
use Rattle.lrclosing.proofs.RowsWritten.{row_here, written_here, written_there}
use Rattle.lrclosing.proofs.SetPlaces.{first_among}
use Rattle.lrclosing.proofs.VisitedItems.{clear_bits}
use Rattle.lrclosing.proofs.VisitedLeads.{IsSetIf}

pub length_reached : (rs : List Row) → length (reached_of rs) ≡ length rs
length_reached rs = length-map rs (λ r. r.is_reached)

pub bit_reached : (rs : List Row) (a : ℕ) (r : Row) → slice_get rs a ≡ Some r → bit (reached_of rs) a ≡ r.is_reached
bit_reached [] a r e = cc
bit_reached (x ∷ rs) zero r e = ap (λ (y : Row). y.is_reached) (same_Some x r e)
bit_reached (x ∷ rs) (suc a) r e = bit_reached rs a r e

-- a bit is set where there is a row
some_if : (v : List Bool) (b : Bool) → IsTrue b → IsSome (if b then Some v else None)
some_if v true h = refl
some_if v false h = cc

if_some : (v : List Bool) (b : Bool) → IsSome (if b then Some v else None) → IsTrue b
if_some v true h = refl
if_some v false h = cc

pub row_by_bit : (rs : List Row) (a : ℕ) → IsTrue (bit (reached_of rs) a) → IsSome (row_at (rows_in rs) a)
row_by_bit [] a h = cc
row_by_bit (x ∷ rs) zero h = some_if x.ctx x.is_reached h
row_by_bit (x ∷ rs) (suc a) h = row_by_bit rs a h

pub bit_by_row : (rs : List Row) (a : ℕ) → IsSome (row_at (rows_in rs) a) → IsTrue (bit (reached_of rs) a)
bit_by_row [] a h = cc
bit_by_row (x ∷ rs) zero h = if_some x.ctx x.is_reached h
bit_by_row (x ∷ rs) (suc a) h = bit_by_row rs a h

pub below_of_row : (rs : List Row) (a : ℕ) → IsSome (row_at (rows_in rs) a) → a < length rs
below_of_row rs a h = omega (arith, below_of_bit (reached_of rs) a (bit_by_row rs a h), length_reached rs)

-- what is left of a list begins with the element at hand
pub left_here : (xs : List ℕ) (i d : ℕ) → i < length xs → drop i xs ≡ get_or xs i d ∷ drop (i + 1) xs
left_here xs i d l = rw add-one (drop-cons xs i d l)

-- the rule at a place of a list of reached ones has a row, and is below the number of rows
pub row_in_turn :
    (rs : List Row) (rules : List ℕ) (i : ℕ) → i < length rules → ((r : ℕ) → Among r (drop i rules) → IsSome (row_at (rows_in rs) r))
    → IsSome (row_at (rows_in rs) (get_or rules i 0))
row_in_turn rs rules i l some = first_among (λ r. IsSome (row_at (rows_in rs) r)) _ _ _ (left_here rules i 0 l) some

pub rule_in_turn :
    (rs : List Row) (rules : List ℕ) (i n : ℕ) → length rs ≡ n → i < length rules → ((r : ℕ) → Among r (drop i rules) → IsSome (row_at (rows_in rs) r))
    → get_or rules i 0 < n
rule_in_turn rs rules i n e l some = omega (arith, below_of_row rs (get_or rules i 0) (row_in_turn rs rules i l some), e)

-- ---- a row that is written

pub reached_set : (rs : List Row) (b : ℕ) (y : Row) → y.is_reached ≡ true → reached_of (set rs b y) ≡ set (reached_of rs) b true
reached_set [] b y h = refl
reached_set (x ∷ rs) zero y h = ap (λ c. c ∷ reached_of rs) h
reached_set (x ∷ rs) (suc b) y h = ap (λ l. x.is_reached ∷ l) (reached_set rs b y h)

was_reached : (v w : List Bool) (b : Bool) → (if b then Some v else None) ≡ Some w → true ≡ b
was_reached v w true e = refl
was_reached v w false e = cc

-- a bit that was set is set again
set_again : (rs : List Row) (b : ℕ) (v : List Bool) → row_at (rows_in rs) b ≡ Some v → set (reached_of rs) b true ≡ reached_of rs
set_again [] b v e = refl
set_again (x ∷ rs) zero v e = ap (λ c. c ∷ reached_of rs) (was_reached x.ctx v x.is_reached e)
set_again (x ∷ rs) (suc b) v e = ap (λ l. x.is_reached ∷ l) (set_again rs b v e)

-- what a lead writes sets the bit if that changed the row
pub reached_led : (l : Lead) (a : ℕ) (c : Bool) (old new : List Row) → IsLed l a c old new → IsSetIf c l.rule (reached_of old) (reached_of new)
reached_led l a true old new p = ap reached_of p.written ∙ reached_set old l.rule (led_row l p.row p.own) refl
reached_led l a false old new p =
    ap reached_of p.written ∙ reached_set old l.rule (led_row l p.row p.own) refl
    ∙ set_again old l.rule (led_row l p.row p.own).ctx (row_here old l.rule p.row p.row_is ∙ p.grown)

-- ---- rows that are cleared

-- those that are reached are left
abbrev pub AreLeft : List ℕ → List Row → Type 0
AreLeft left rs = (a : ℕ) (r : Row) → slice_get rs a ≡ Some r → r.is_reached ≡ true → Among a left

pub left_by_bits : (rs : List Row) (left : List ℕ) → ((a : ℕ) → IsTrue (bit (reached_of rs) a) → Among a left) → AreLeft left rs
left_by_bits rs left h a r e t = h a (bit_reached rs a r e ∙ t)

-- one is cleared
pub left_next : (rs : List Row) (b : ℕ) (y : Row) (left more : List ℕ) → left ≡ b ∷ more → b < length rs → y.is_reached ≡ false → AreLeft left rs → AreLeft more (set rs b y)
left_next rs b y left more e l c h a r at t = elim (cases_eq a b) [
  | inl s ↦
      let here : slice_get (set rs b y) b ≡ Some r = rw s at at in
      let same : y ≡ r = same_Some y r (sym (written_here rs b y l) ∙ here) in
      let no : true ≡ false = sym t ∙ (rw same at c) in
      cc
  | inr n ↦
      let there : slice_get rs a ≡ Some r = sym (written_there rs b a y n) ∙ at in
      let one : Among a (b ∷ more) = rw e at (h a r there t) in
      elim one [ inl s ↦ absurd (n s) | inr i ↦ i ]
]

not_true : (b : Bool) → (b ≡ true → ⊥) → b ≡ false
not_true true h = absurd (h refl)
not_true false h = refl

-- all at last
pub none_reached : (rs : List Row) (left : List ℕ) → left ≡ [] → AreLeft left rs → (a : ℕ) (r : Row) → slice_get rs a ≡ Some r → r.is_reached ≡ false
none_reached rs left e h a r at = not_true r.is_reached (λ t. let k : Among a [] = rw e at (h a r at t) in k)

pub reached_clear : (rs : List Row) → ((a : ℕ) (r : Row) → slice_get rs a ≡ Some r → r.is_reached ≡ false) → reached_of rs ≡ replicate (length rs) false
reached_clear [] c = refl
reached_clear (x ∷ rs) c = ap (λ b. b ∷ reached_of rs) (c 0 x refl) ∙ ap (λ l. false ∷ l) (reached_clear rs (λ a r h. c (suc a) r h))

-- then no bit is set
pub no_bits : (rs : List Row) → ((a : ℕ) (r : Row) → slice_get rs a ≡ Some r → r.is_reached ≡ false) → (a : ℕ) → IsTrue (bit (reached_of rs) a) → ⊥
no_bits rs c a h = clear_bits (length rs) a (rw (reached_clear rs c) at h)

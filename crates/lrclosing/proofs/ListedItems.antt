-- the items of a closure, listed: the given ones, and between them what the rows give
use Rattle.std.proofs.Common.{◌≡◌, ℕ, zero, suc, ◌+◌, ◌-◌, ◌<◌, ◌≤◌, Bool, List, [], ◌∷◌, ◌++◌, Option, None, Some, length, refl, ap, ◌∙◌, arith, ◌⊎◌, inl, inr}
use Rattle.std.specs.Prelude.{IsTrue}
use Rattle.std.specs.List.{range_with_len, flat_map}
use Rattle.std.proofs.lemmas.Bool.{cases_lt}
use Rattle.lrspec.specs.grammars.Grammar.{Grammar, IsProductionOf, rule_of}
use Rattle.lrspec.specs.grammars.ItemSets.{Items, item_at, HasItem, Precedes, AreUpwards, Fits}
use Rattle.lrspec.proofs.grammars.BodyFacts.{below_of_production, rule_of_production}
use Rattle.lrspec.proofs.grammars.ListMembers.{Among, among_front, among_back, among_append, among_flat_map, from_flat_map}
use Rattle.lrbits.specs.Bits.{bit}
use Rattle.lrclosing.specs.Rows.{Rows, row_at, HasToken, AreRows, IsPutIn, AreWithRows}
use Rattle.lrclosing.specs.Listing.{row_item, row_items, listed_items}
use Rattle.lrclosing.proofs.AscendingItems.{AllBehind, AreAscending, behind_then, behind_from_among, behind_append, ascending_append, item_from_among, among_from_item, upwards_from_ascending}
use Rattle.lrclosing.proofs.JoinedLookaheads.{some_of}
use Rattle.lrclosing.proofs.MarkedProductions.{some_rule}

-- ---- what the rows give to the productions of a range

-- the item is what the row of its rule gives to a production of `from..end`
pub record IsRowItem (g : Grammar) (rows : Rows) (from end : ℕ) (x : (ℕ × ℕ) × List Bool) : Type 0 where
  pub dot : x.0.1 ≡ 0
  pub above : from ≤ x.0.0
  pub below : x.0.0 < end
  pub row : row_at rows (rule_of g x.0.0) ≡ Some x.1

from_row_item : (q : ℕ) (o : Option (List Bool)) (x : (ℕ × ℕ) × List Bool) → Among x (row_item q o) → (x.0.0 ≡ q) × (x.0.1 ≡ 0) × (o ≡ Some x.1)
from_row_item q None x h = absurd h
from_row_item q (Some v) x (inl e) = rw e (refl, refl, refl)
from_row_item q (Some v) x (inr h) = absurd h

among_row_item : (x : (ℕ × ℕ) × List Bool) (o : Option (List Bool)) → o ≡ Some x.1 → x.0.1 ≡ 0 → Among x (row_item x.0.0 o)
among_row_item x None e d = cc
among_row_item x (Some v) e d =
    let s : x.1 ≡ v = cc in
    inl (ap (λ n. ((x.0.0, n), x.1)) d ∙ ap (λ w. ((x.0.0, 0), w)) s)

among_range : (a n q : ℕ) → a ≤ q → q < a + n → Among q (range_with_len a n)
among_range a zero q l h = absurd (omega arith)
among_range a (suc n) q l h = elim (cases_lt a q) [ inl k ↦ inr (among_range (a + 1) n q (omega arith) (omega arith)) | inr k ↦ inl (omega arith) ]

from_range : (a n q : ℕ) → Among q (range_with_len a n) → (a ≤ q) × (q < a + n)
from_range a zero q h = absurd h
from_range a (suc n) q (inl e) = (omega arith, omega arith)
from_range a (suc n) q (inr h) = let (l, m) = from_range (a + 1) n q h in (omega arith, omega arith)

-- the row of each production as items
abbrev pub row_of_production : Grammar → Rows → ℕ → Items
row_of_production g rows q = row_item q (row_at rows (rule_of g q))

pub from_row_items : (g : Grammar) (rows : Rows) (from end : ℕ) (x : (ℕ × ℕ) × List Bool) → Among x (row_items g rows from end) → IsRowItem g rows from end x
from_row_items g rows from end x h =
    let (q, i, j) = from_flat_map (row_of_production g rows) x (range_with_len from (end - from)) h in
    let (l, m) = from_range from (end - from) q i in
    let (p, d, r) = from_row_item q (row_at rows (rule_of g q)) x j in
    record { dot = d; above = omega arith; below = omega arith; row = rw p r }

pub among_row_items : (g : Grammar) (rows : Rows) (from end : ℕ) (x : (ℕ × ℕ) × List Bool) → IsRowItem g rows from end x → Among x (row_items g rows from end)
among_row_items g rows from end x r =
    among_flat_map (row_of_production g rows) x x.0.0 (range_with_len from (end - from))
    (among_range from (end - from) x.0.0 r.above (let l = r.above in let m = r.below in omega arith))
    (among_row_item x (row_at rows (rule_of g x.0.0)) r.row r.dot)

-- ---- what is listed

-- the items are those of a closure, upwards
pub record AreClosed (g : Grammar) (rs : Rows) (es b : Items) : Type 0 where
  pub rows : AreWithRows g rs es b
  pub fits : Fits g b
  pub upwards : AreUpwards b

from_here : (g : Grammar) (rows : Rows) (from end n : ℕ) (x : (ℕ × ℕ) × List Bool) → IsRowItem g rows from end x → end ≤ n → IsRowItem g rows 0 n x
from_here g rows from end n x r l = record { dot = r.dot; above = omega arith; below = omega (arith, r.below, l); row = r.row }

-- what is listed is given, or comes from a row
pub from_listed :
    (g : Grammar) (rows : Rows) (from : ℕ) (es : Items) (x : (ℕ × ℕ) × List Bool) → ((y : (ℕ × ℕ) × List Bool) → Among y es → y.0.0 < length g.productions)
    → Among x (listed_items g rows from es) → Among x es ⊎ IsRowItem g rows 0 (length g.productions) x
from_listed g rows from [] x w h =
    inr (from_here g rows from (length g.productions) (length g.productions) x (from_row_items g rows from (length g.productions) x h) (omega arith))
from_listed g rows from (e ∷ es) x w h =
    elim (among_append x (row_items g rows from (e.0.0 + 1)) (e ∷ listed_items g rows (e.0.0 + 1) es) h) [
      | inl i ↦
          let l : e.0.0 < length g.productions = w e (inl refl) in
          inr (from_here g rows from (e.0.0 + 1) (length g.productions) x (from_row_items g rows from (e.0.0 + 1) x i) (omega arith))
      | inr i ↦ elim i [
        | inl s ↦ inl (inl s)
        | inr j ↦ elim (from_listed g rows (e.0.0 + 1) es x (λ y k. w y (inr k)) j) [ inl k ↦ inl (inr k) | inr k ↦ inr k ]
      ]
    ]

-- what is given is listed
pub given_listed : (g : Grammar) (rows : Rows) (from : ℕ) (es : Items) (x : (ℕ × ℕ) × List Bool) → Among x es → Among x (listed_items g rows from es)
given_listed g rows from [] x h = absurd h
given_listed g rows from (e ∷ es) x (inl s) = among_back x (row_items g rows from (e.0.0 + 1)) (e ∷ listed_items g rows (e.0.0 + 1) es) (inl s)
given_listed g rows from (e ∷ es) x (inr i) =
    among_back x (row_items g rows from (e.0.0 + 1)) (e ∷ listed_items g rows (e.0.0 + 1) es) (inr (given_listed g rows (e.0.0 + 1) es x i))

-- so is what a row gives
pub row_listed :
    (g : Grammar) (rows : Rows) (from : ℕ) (es : Items) (x : (ℕ × ℕ) × List Bool) → IsRowItem g rows from (length g.productions) x
    → Among x (listed_items g rows from es)
row_listed g rows from [] x r = among_row_items g rows from (length g.productions) x r
row_listed g rows from (e ∷ es) x r = elim (cases_lt x.0.0 (e.0.0 + 1)) [
  | inl l ↦
      among_front x (row_items g rows from (e.0.0 + 1)) (e ∷ listed_items g rows (e.0.0 + 1) es)
      (among_row_items g rows from (e.0.0 + 1) x (record { dot = r.dot; above = r.above; below = l; row = r.row }))
  | inr l ↦
      among_back x (row_items g rows from (e.0.0 + 1)) (e ∷ listed_items g rows (e.0.0 + 1) es)
      (inr (row_listed g rows (e.0.0 + 1) es x (record { dot = r.dot; above = l; below = r.below; row = r.row })))
]

-- ---- their order

ascending_one : (q : ℕ) (o : Option (List Bool)) (a : Items) → AllBehind (q, 0) a → AreAscending a → AreAscending (row_item q o ++ a)
ascending_one q None a h i = i
ascending_one q (Some v) a h i = (h, i)

ascending_range : (g : Grammar) (rows : Rows) (from n : ℕ) → AreAscending (flat_map (row_of_production g rows) (range_with_len from n))
ascending_range g rows from zero = tt
ascending_range g rows from (suc n) =
    ascending_one from (row_at rows (rule_of g from)) (flat_map (row_of_production g rows) (range_with_len (from + 1) n))
    (behind_from_among (flat_map (row_of_production g rows) (range_with_len (from + 1) n)) (from, 0) behind)
    (ascending_range g rows (from + 1) n)
  where
    behind : (x : (ℕ × ℕ) × List Bool) → Among x (flat_map (row_of_production g rows) (range_with_len (from + 1) n)) → Precedes (from, 0) x.0
    behind x h =
        let (q, i, j) = from_flat_map (row_of_production g rows) x (range_with_len (from + 1) n) h in
        let (l, m) = from_range (from + 1) n q i in
        let (p, d, r) = from_row_item q (row_at rows (rule_of g q)) x j in
        inl (omega arith)

behind_row_items : (g : Grammar) (rows : Rows) (from end : ℕ) (k : ℕ × ℕ) → k.0 < from → AllBehind k (row_items g rows from end)
behind_row_items g rows from end k l =
    behind_from_among (row_items g rows from end) k (λ x h. let r = from_row_items g rows from end x h in inl (omega (arith, l, r.above)))

pub below_next : (j k : ℕ × ℕ) → Precedes j k → j.0 < k.0 + 1
below_next j k (inl h) = omega (arith, h)
below_next j k (inr h) = omega (arith, h.0)

behind_listed : (g : Grammar) (rows : Rows) (from : ℕ) (es : Items) (k : ℕ × ℕ) → AllBehind k es → k.0 < from → AllBehind k (listed_items g rows from es)
behind_listed g rows from [] k h l = behind_row_items g rows from (length g.productions) k l
behind_listed g rows from (e ∷ es) k h l =
    behind_append (row_items g rows from (e.0.0 + 1)) (e ∷ listed_items g rows (e.0.0 + 1) es) k (behind_row_items g rows from (e.0.0 + 1) k l)
    (h.0, behind_listed g rows (e.0.0 + 1) es k h.1 (below_next k e.0 h.0))

-- what a row gives up to a given item comes before that, unless it is that item
row_before : (g : Grammar) (rows : Rows) (from : ℕ) (k : ℕ × ℕ) (x : (ℕ × ℕ) × List Bool) → (row_at rows (rule_of g k.0) ≡ Some x.1 → k.1 ≡ 0 → ⊥) → IsRowItem g rows from (k.0 + 1) x → Precedes x.0 k
row_before g rows from k x n r = elim (cases_lt x.0.0 k.0) [
  | inl l ↦ inl l
  | inr l ↦
      let same : x.0.0 ≡ k.0 = omega (arith, l, r.below) in
      let other : k.1 ≡ 0 → ⊥ = n (rw same at r.row) in
      inr (same, omega (arith, r.dot, other))
]

-- the listed items come upwards where no row gives a given item
pub ascending_listed :
    (g : Grammar) (rows : Rows) (from : ℕ) (es : Items) → AreAscending es
    → ((y : (ℕ × ℕ) × List Bool) (v : List Bool) → Among y es → row_at rows (rule_of g y.0.0) ≡ Some v → y.0.1 ≡ 0 → ⊥) → AreAscending (listed_items g rows from es)
ascending_listed g rows from [] h n = ascending_range g rows from (length g.productions - from)
ascending_listed g rows from (e ∷ es) h n =
    ascending_append (row_items g rows from (e.0.0 + 1)) (e ∷ listed_items g rows (e.0.0 + 1) es)
    (ascending_range g rows from (e.0.0 + 1 - from))
    (behind_listed g rows (e.0.0 + 1) es e.0 h.0 (omega arith), ascending_listed g rows (e.0.0 + 1) es h.1 (λ y v i. n y v (inr i)))
    (λ x i.
    let r = from_row_items g rows from (e.0.0 + 1) x i in
    let before : Precedes x.0 e.0 = row_before g rows from e.0 x (n e x.1 (inl refl)) r in
    (before, behind_listed g rows (e.0.0 + 1) es x.0 (behind_then es x.0 e.0 before h.0) r.below))

-- ---- so they are the given items with the rows

looks_some : (o : Option (List Bool)) (t : ℕ) → HasToken o t → (v : List Bool) × (o ≡ Some v) × IsTrue (bit v t)
looks_some None t h = absurd h
looks_some (Some v) t h = (v, refl, h)

module _
    (g : Grammar) (rows : Rows) (es : Items) (fits : Fits g es) (shaped : AreRows g rows) (up : AreAscending es)
    (apart : (q : ℕ) → IsPutIn g rows q → HasItem es q 0 → ⊥)
  where
    found : (y : (ℕ × ℕ) × List Bool) → Among y es → item_at es y.0.0 y.0.1 ≡ Some y.1
    found y i = item_from_among es y up i

    within : (y : (ℕ × ℕ) × List Bool) → Among y es → y.0.0 < length g.productions
    within y i = (fits y.0.0 y.0.1 y.1 (found y i)).production

    -- a row that gives something to a production puts it in
    put_in : (q : ℕ) (v : List Bool) → q < length g.productions → row_at rows (rule_of g q) ≡ Some v → (r : ℕ) × IsProductionOf g q r × (row_at rows r ≡ Some v)
    put_in q v l e = let (r, i) = some_rule g q l in (r, i, rw (rule_of_production g q r i) at e)

    no_given : (y : (ℕ × ℕ) × List Bool) (v : List Bool) → Among y es → row_at rows (rule_of g y.0.0) ≡ Some v → y.0.1 ≡ 0 → ⊥
    no_given y v i e d =
        let (r, k, s) = put_in y.0.0 v (within y i) e in
        let here : item_at es y.0.0 0 ≡ Some y.1 = rw d at (found y i) in
        apart y.0.0 (r, k, rw s refl) (rw here refl)

    listed_ascending : AreAscending (listed_items g rows 0 es)
    listed_ascending = ascending_listed g rows 0 es up no_given

    given_here : (p d : ℕ) (v : List Bool) → item_at es p d ≡ Some v → item_at (listed_items g rows 0 es) p d ≡ Some v
    given_here p d v h = item_from_among (listed_items g rows 0 es) ((p, d), v) listed_ascending (given_listed g rows 0 es ((p, d), v) (among_from_item es p d v h))

    row_here : (p r : ℕ) (v : List Bool) → IsProductionOf g p r → row_at rows r ≡ Some v → item_at (listed_items g rows 0 es) p 0 ≡ Some v
    row_here p r v i e =
        item_from_among (listed_items g rows 0 es) ((p, 0), v) listed_ascending
        (row_listed g rows 0 es ((p, 0), v)
        (record { dot = refl; above = omega arith; below = below_of_production g p r i; row = rw (rule_of_production g p r i) e }))

    from_listing :
        (p d : ℕ) (v : List Bool) → item_at (listed_items g rows 0 es) p d ≡ Some v
        → (item_at es p d ≡ Some v) ⊎ IsRowItem g rows 0 (length g.productions) ((p, d), v)
    from_listing p d v h = elim (from_listed g rows 0 es ((p, d), v) within (among_from_item (listed_items g rows 0 es) p d v h)) [
      | inl i ↦ inl (found ((p, d), v) i)
      | inr r ↦ inr r
    ]

    listed_with_rows : AreWithRows g rows es (listed_items g rows 0 es)
    listed_with_rows = record {
      contains = record {
        items = λ p d h. let (v, e) = some_of (item_at es p d) h in rw (given_here p d v e) refl;
        looks = λ p d t h. let (v, e, b) = looks_some (item_at es p d) t h in rw (given_here p d v e) b;
      };
      from_item = λ p d h.
          let (v, e) = some_of (item_at (listed_items g rows 0 es) p d) h in
          elim (from_listing p d v e) [
            | inl k ↦ inl (rw k refl)
            | inr r ↦ let (s, i, k) = put_in p v r.below r.row in inr (r.dot, (s, i, rw k refl))
          ];
      from_look = λ p d t h.
          let (v, e, b) = looks_some (item_at (listed_items g rows 0 es) p d) t h in
          elim (from_listing p d v e) [
            | inl k ↦ inl (rw k b)
            | inr r ↦ let (s, i, k) = put_in p v r.below r.row in inr (r.dot, (s, i, rw k b))
          ];
      items = λ p h. let (v, e) = some_of (row_at rows h.0) h.2 in rw (row_here p h.0 v h.1 e) refl;
      looks = λ p t h. let (v, e, b) = looks_some (row_at rows h.0) t h.2 in rw (row_here p h.0 v h.1 e) b;
    }

    listed_fits : Fits g (listed_items g rows 0 es)
    listed_fits p d v h = elim (from_listing p d v h) [
      | inl k ↦ fits p d v k
      | inr r ↦
          let (s, i, k) = put_in p v r.below r.row in
          record { production = r.below; dot = omega (arith, r.dot); bits = shaped.bits s v k }
    ]

    -- so is what is the same list
    pub are_closed : (b : Items) → b ≡ listed_items g rows 0 es → AreClosed g rows es b
    are_closed b is = record {
      rows = rw is listed_with_rows;
      fits = rw is listed_fits;
      upwards = rw is (upwards_from_ascending (listed_items g rows 0 es) listed_ascending);
    }

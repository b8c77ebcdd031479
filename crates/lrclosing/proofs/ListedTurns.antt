-- items that are listed, one after another
use Rattle.std.proofs.Common.{◌≡◌, ℕ, zero, suc, ◌+◌, ◌-◌, ◌<◌, ◌≤◌, Bool, true, false, List, [], ◌∷◌, ◌++◌, Option, None, Some, length, map, take, drop, append_assoc, refl, sym, ap, ◌∙◌, arith, inl, inr}
use Rattle.std.specs.Prelude.{IsTrue, slice_get}
use Rattle.std.specs.List.{range_with_len, flat_map}
use Rattle.std.specs.Option.{IsSome, MatchOption}
use Rattle.std.proofs.lemmas.Bool.{cases_lt}
use Rattle.std.proofs.lemmas.List.{map-append, length-take-le, length-drop, get_or-take, get_or-drop}
use Rattle.lrspec.specs.grammars.Grammar.{Grammar, IsProductionOf, rule_of}
use Rattle.lrspec.specs.grammars.ItemSets.{Items}
use Rattle.lrspec.proofs.grammars.BodyFacts.{rule_of_production}
use Rattle.lrspec.proofs.grammars.ListMembers.{Among}
use Rattle.lrbits.specs.Bits.{bit, places, set_places}
use Rattle.lrclosing.specs.declared.closer.Row.{Row}
use Rattle.lrclosing.specs.Rows.{Rows, row_at, IsPutIn}
use Rattle.lrclosing.specs.Leads.{row_in, rows_in}
use Rattle.lrclosing.specs.Listing.{ArePutIn, IsPlaceAmong, row_item, row_items, listed_items}
use Rattle.lrclosing.proofs.AscendingItems.{AllBehind, behind_among}
use Rattle.lrclosing.proofs.ClosingUnderway.{one_rule}
use Rattle.lrclosing.proofs.ListedItems.{row_of_production, below_next}
use Rattle.lrclosing.proofs.MarkedProductions.{some_rule}
use Rattle.lrclosing.proofs.RowsWritten.{row_here, some_tokens}

-- ---- what the rows give, by the set places

-- where the places that aren't set give nothing, the set ones give what all do
over_places :
    (f : ℕ → Items) (n : ℕ) (v : List Bool) → ((k : ℕ) → k < length v → bit v k ≡ false → f (n + k) ≡ [])
    → flat_map f (places n v) ≡ flat_map f (range_with_len n (length v))
over_places f n [] h = refl
over_places f n (true ∷ v) h =
    ap (λ a. f n ++ a) (over_places f (n + 1) v (λ k l b. let e : n + 1 + k ≡ n + suc k = omega arith in rw e (h (suc k) (omega arith) b)))
over_places f n (false ∷ v) h =
    let e : n + 0 ≡ n = omega arith in
    let none : f n ≡ [] = rw e at (h 0 (omega arith) refl) in
    rw none (over_places f (n + 1) v (λ k l b. let e : n + 1 + k ≡ n + suc k = omega arith in rw e (h (suc k) (omega arith) b)))

not_set : (b : Bool) → b ≡ false → IsTrue b → ⊥
not_set true e h = cc
not_set false e h = cc

-- a production whose rule has no row is given nothing
no_row_item : (g : Grammar) (rows : Rows) (q : ℕ) → q < length g.productions → (IsPutIn g rows q → ⊥) → row_of_production g rows q ≡ []
no_row_item g rows q l n = go (row_at rows (rule_of g q)) refl
  where
    go : (o : Option (List Bool)) → row_at rows (rule_of g q) ≡ o → row_item q o ≡ []
    go None e = refl
    go (Some v) e =
        let (r, i) = some_rule g q l in
        let here : row_at rows r ≡ Some v = rw (rule_of_production g q r i) at e in
        absurd (n (r, i, rw here refl))

-- a range that begins later, and one that ends earlier, where nothing is given to what is left out
later : (h : ℕ → Items) (a k n : ℕ) → ((q : ℕ) → a ≤ q → q < a + k → h q ≡ []) → flat_map h (range_with_len a (k + n)) ≡ flat_map h (range_with_len (a + k) n)
later h a zero n none = let e : a + 0 ≡ a = omega arith in let f : 0 + n ≡ n = omega arith in rw (e, f) refl
later h a (suc k) n none =
    let e : suc k + n ≡ suc (k + n) = omega arith in
    let f : a + suc k ≡ a + 1 + k = omega arith in
    let here : h a ≡ [] = none a (omega arith) (omega arith) in
    rw (e, f, here) (later h (a + 1) k n (λ q l m. none q (omega arith) (omega arith)))

nothing : (h : ℕ → Items) (a n : ℕ) → ((q : ℕ) → a ≤ q → q < a + n → h q ≡ []) → flat_map h (range_with_len a n) ≡ []
nothing h a zero none = refl
nothing h a (suc n) none =
    let here : h a ≡ [] = none a (omega arith) (omega arith) in
    rw here (nothing h (a + 1) n (λ q l m. none q (omega arith) (omega arith)))

earlier : (h : ℕ → Items) (a n k : ℕ) → ((q : ℕ) → a + n ≤ q → q < a + n + k → h q ≡ []) → flat_map h (range_with_len a (n + k)) ≡ flat_map h (range_with_len a n)
earlier h a zero k none =
    let f : 0 + k ≡ k = omega arith in
    rw f (nothing h a k (λ q l m. none q (omega arith) (omega arith)))
earlier h a (suc n) k none =
    let e : suc n + k ≡ suc (n + k) = omega arith in
    rw e (ap (λ x. h a ++ x) (earlier h (a + 1) n k (λ q l m. none q (omega arith) (omega arith))))

-- what is given from `from` on, and from `a` on
shifted : (h : ℕ → Items) (from a n : ℕ) → flat_map (λ k. h (from + k)) (range_with_len a n) ≡ flat_map h (range_with_len (from + a) n)
shifted h from a zero = refl
shifted h from a (suc n) =
    let e : from + (a + 1) ≡ from + a + 1 = omega arith in
    ap (λ x. h (from + a) ++ x) (shifted h from (a + 1) n ∙ ap (λ b. flat_map h (range_with_len b n)) e)

-- places come in the order of the productions, and below the end of a range comes what is below its place
pub places_order : (from n p q j k : ℕ) → IsPlaceAmong from n p j → IsPlaceAmong from n q k → p ≤ q → j ≤ k
places_order from n p q j k x y l = elim (cases_lt from p) [
  | inl lt ↦ elim (cases_lt q (from + n)) [
    | inl below ↦ omega (arith, x.among (omega arith) (omega arith), y.among (omega arith) (omega arith), l)
    | inr above ↦ omega (arith, x.most, y.behind above)
  ]
  | inr ge ↦ omega (arith, x.before ge)
]

pub below_end : (from n q k b : ℕ) → IsPlaceAmong from n q b → k < b → from + k < q
below_end from n q k b y l = elim (cases_lt from q) [
  | inl lt ↦ elim (cases_lt q (from + n)) [
    | inl below ↦ omega (arith, y.among (omega arith) (omega arith), l)
    | inr above ↦ omega (arith, y.behind above, l)
  ]
  | inr ge ↦ absurd (omega (arith, y.before ge, l))
]

module _
    (g : Grammar) (rows : Rows) (from : ℕ) (bits : List Bool) (p q a b : ℕ) (put : ArePutIn g rows from bits) (order : p ≤ q) (most : q ≤ length g.productions)
    (begin : IsPlaceAmong from (length bits) p a) (behind : IsPlaceAmong from (length bits) q b)
  where
    -- nothing is given to what has no bit
    before : (x : ℕ) → x < q → x < from → row_of_production g rows x ≡ []
    before x l m = no_row_item g rows x (omega (arith, l, most)) (λ h. absurd (omega (arith, (put.within x h).0, m)))

    after : (x : ℕ) → x < q → from + length bits ≤ x → row_of_production g rows x ≡ []
    after x l m = no_row_item g rows x (omega (arith, l, most)) (λ h. absurd (omega (arith, (put.within x h).1, m)))

    -- where some of them have bits, they begin at `from` or later, and end at the last bit or earlier
    low : p < from + length bits → (p ≤ from + a) × ((x : ℕ) → p ≤ x → x < from + a → x < from)
    low below = elim (cases_lt from p) [
      | inl lt ↦ let e = begin.among (omega arith) (omega arith) in (omega (arith, e), λ x l m. absurd (omega (arith, e, l, m)))
      | inr ge ↦ let e = begin.before ge in (omega (arith, e, ge), λ x l m. omega (arith, e, m))
    ]

    high : from < q → (from + b ≤ q) × ((x : ℕ) → from + b ≤ x → x < q → from + length bits ≤ x)
    high above = elim (cases_lt (from + length bits) q) [
      | inl lt ↦ let e = behind.behind (omega arith) in (omega (arith, e, lt), λ x l m. omega (arith, e, l))
      | inr ge ↦ let e = behind.among (omega arith) ge in (omega (arith, e), λ x l m. absurd (omega (arith, e, l, m)))
    ]

    inner : from < q → p < from + length bits → flat_map (row_of_production g rows) (range_with_len (from + a) (b - a)) ≡ row_items g rows p q
    inner above below =
        let h = row_of_production g rows in
        let ab = places_order from (length bits) p q a b begin behind order in
        let l = low below in
        let u = high above in
        let many : q - p ≡ (from + a - p) + ((b - a) + (q - (from + b))) = omega (arith, ab, l.0, u.0) in
        let start : p + (from + a - p) ≡ from + a = omega (arith, l.0) in
        let end : from + a + (b - a) ≡ from + b = omega (arith, ab) in
        let stop : from + a + (b - a) + (q - (from + b)) ≡ q = omega (arith, ab, u.0) in
        sym
        (ap (λ n. flat_map h (range_with_len p n)) many
        ∙ later h p (from + a - p) ((b - a) + (q - (from + b))) (λ x i j. let k : x < from + a = rw start at j in before x (omega (arith, k, ab, u.0)) (l.1 x i k))
        ∙ ap (λ m. flat_map h (range_with_len m ((b - a) + (q - (from + b))))) start
        ∙ earlier h (from + a) (b - a) (q - (from + b)) (λ x i j. let k : x < q = rw stop at j in after x k (u.1 x (rw end at i) k)))

    -- the bits from `a` to below `b` are those of all productions from `p` to below `q` that are given something
    clipped : flat_map (row_of_production g rows) (range_with_len (from + a) (b - a)) ≡ row_items g rows p q
    clipped = elim (cases_lt from q) [
      | inl above ↦ elim (cases_lt p (from + length bits)) [
        | inl below ↦ inner above below
        | inr far ↦
            let e : b - a ≡ 0 = omega (arith, begin.behind far, behind.most) in
            rw e (sym (nothing (row_of_production g rows) p (q - p) (λ x l m. after x (omega (arith, m, order)) (omega (arith, far, l)))))
      ]
      | inr far ↦
          let e : b - a ≡ 0 = omega (arith, behind.before far) in
          rw e (sym (nothing (row_of_production g rows) p (q - p) (λ x l m. before x (omega (arith, m, order)) (omega (arith, m, order, far)))))
    ]

    not_marked : (k : ℕ) → k < length bits → bit bits k ≡ false → row_of_production g rows (from + k) ≡ []
    not_marked k l e = no_row_item g rows (from + k) (omega (arith, l, put.len)) (λ h. not_set (bit bits k) e ((put.each k).1 h))

    pub over_marked : flat_map (λ k. row_of_production g rows (from + k)) (set_places bits a b) ≡ row_items g rows p q
    over_marked =
        over_places (λ k. row_of_production g rows (from + k)) a (take (b - a) (drop a bits)) empty
        ∙ ap (λ n. flat_map (λ k. row_of_production g rows (from + k)) (range_with_len a n)) many
        ∙ shifted (row_of_production g rows) from a (b - a) ∙ clipped
      where
        many : length (take (b - a) (drop a bits)) ≡ b - a
        many = length-take-le (b - a) (drop a bits) (omega (arith, length-drop a bits, behind.most))

        empty : (k : ℕ) → k < length (take (b - a) (drop a bits)) → bit (take (b - a) (drop a bits)) k ≡ false → row_of_production g rows (from + (a + k)) ≡ []
        empty k l e =
            let lt : k < b - a = omega (arith, l, many) in
            not_marked (a + k) (omega (arith, lt, behind.most)) (sym (get_or-take (b - a) (drop a bits) k false lt ∙ get_or-drop a bits k false) ∙ e)

-- ---- one place after the other

-- the number of a place that is below one that is kept is kept
pub number_kept : {X : Type 0} (P : X → Type 0) (o : Option X) (most q n : ℕ) → MatchOption o (most < q) P → q < n → n ≤ most → IsSome o
number_kept P None most q n m l h = absurd (omega arith)
number_kept P (Some x) most q n m l h = refl

-- what a production is given by the row of its rule
pub row_item_is :
    (g : Grammar) (rows : Rows) (p q r d : ℕ) (v : List Bool) → q ≡ p → IsProductionOf g q r → row_at rows r ≡ Some v → d ≡ 0
    → row_of_production g rows p ≡ ((q, d), v) ∷ []
row_item_is g rows p q r d v e i k z =
    let rule : rule_of g p ≡ r = rw (← e) (rule_of_production g q r i) in
    rw (rule, k, e, z) refl

-- that is its tokens, where the production is marked
pub marked_row :
    (g : Grammar) (rs : List Row) (from : ℕ) (bits : List Bool) (k r : ℕ) (x : Row) → ArePutIn g (rows_in rs) from bits → IsTrue (bit bits k)
    → IsProductionOf g (from + k) r → slice_get rs r ≡ Some x → row_at (rows_in rs) r ≡ Some x.ctx
marked_row g rs from bits k r x a b i e =
    let put = (a.each k).0 b in
    let same : put.0 ≡ r = one_rule (slice_get g.productions (from + k)) r put.0 i put.1 in
    let there : IsSome (row_at (rows_in rs) r) = rw same at put.2 in
    let some : IsSome (row_in x) = rw (row_here rs r x e) at there in
    row_here rs r x e ∙ some_tokens x.ctx x.is_reached some

module _ {X : Type 0} (f : X → (ℕ × ℕ) × List Bool) where
  -- the item of a production with a row
  pub row_pushed :
      (h : ℕ → Items) (items new : List X) (x : X) (p : ℕ) (ps more : List ℕ) (all : Items) → ps ≡ p ∷ more → new ≡ items ++ x ∷ [] → h p ≡ f x ∷ []
      → map f items ++ flat_map h ps ≡ all → map f new ++ flat_map h more ≡ all
  row_pushed h items new x p ps more all e n r a =
      let before : map f items ++ ((f x ∷ []) ++ flat_map h more) ≡ all = rw (e, r) at a in
      rw (n, map-append f items (x ∷ [])) (append_assoc (map f items) (f x ∷ []) (flat_map h more) ∙ before)

  -- a given item, and what the rows give before it
  pub item_listed :
      (g : Grammar) (rows : Rows) (items mid new : List X) (x : X) (from next : ℕ) (e : (ℕ × ℕ) × List Bool) (ps es all : Items) → ps ≡ e ∷ es
      → next ≡ e.0.0 + 1 → map f mid ≡ map f items ++ row_items g rows from next → new ≡ mid ++ x ∷ [] → f x ≡ e
      → map f items ++ listed_items g rows from ps ≡ all → map f new ++ listed_items g rows next es ≡ all
  item_listed g rows items mid new x from next e ps es all s k m n h a =
      let before : map f items ++ (row_items g rows from (e.0.0 + 1) ++ e ∷ listed_items g rows (e.0.0 + 1) es) ≡ all = rw s at a in
      let shown : map f new ≡ (map f items ++ row_items g rows from (e.0.0 + 1)) ++ e ∷ [] = rw (n, map-append f mid (x ∷ []), m, h, k) refl in
      rw (shown, k)
      (append_assoc (map f items ++ row_items g rows from (e.0.0 + 1)) (e ∷ []) (listed_items g rows (e.0.0 + 1) es)
      ∙ append_assoc (map f items) (row_items g rows from (e.0.0 + 1)) (e ∷ listed_items g rows (e.0.0 + 1) es) ∙ before)

  -- what the rows give behind the last one
  pub all_listed :
      (g : Grammar) (rows : Rows) (items new : List X) (from end : ℕ) (ps all : Items) → ps ≡ [] → end ≡ length g.productions
      → map f new ≡ map f items ++ row_items g rows from end → map f items ++ listed_items g rows from ps ≡ all → map f new ≡ all
  all_listed g rows items new from end ps all s k n a =
      let before : map f items ++ row_items g rows from (length g.productions) ≡ all = rw s at a in
      n ∙ rw k before

-- ---- the items that are left

-- each of them comes at `from` or above it, but for those of the production before
abbrev pub AreFrom : ℕ → Items → Type 0
AreFrom from es = (x : (ℕ × ℕ) × List Bool) → Among x es → from ≤ x.0.0 + 1

-- those behind an item are of its production or above it
pub from_next : (e : (ℕ × ℕ) × List Bool) (es : Items) → AllBehind e.0 es → AreFrom (e.0.0 + 1) es
from_next e es h x i = let l = below_next e.0 x.0 (behind_among es e.0 x h i) in omega (arith, l)

-- maps whose keys are items, by the numbers of these
use Rattle.std.proofs.Common.{◌≡◌, ℕ, Bool, true, false, cond, ◌&&◌, List, [], ◌∷◌, Option, None, Some, refl, sym, ap, ◌∙◌, arith, ◌⊎◌, inl, inr}
use Rattle.std.specs.Prelude.{◌==◌}
use Rattle.std.specs.declared.cmp.Ordering.{Ordering}
use Rattle.std.specs.declared.cmp.Ordering.TheVariants.{Less, Equal, Greater}
use Rattle.std.specs.Ordering.{is_eq, nat_cmp, ordering_then}
use Rattle.std.specs.Map.{lookup}
use Rattle.std.specs.BTreeMap.{is_at}
use Rattle.std.proofs.lemmas.Bool.Decides.{nat_tests}
use Rattle.lrgrammar.specs.declared.idx.PIdx.{PIdx}
use Rattle.lrgrammar.specs.declared.idx.SIdx.{SIdx}
use Rattle.lrspec.specs.grammars.ItemSets.{item_at}
use Rattle.lrspec.specs.merging.WeakCompatibility.{Apart}
use Rattle.lrclosing.specs.ItemsOf.{items_of}

abbrev pub Key : Type 0 → Type 0
Key T = PIdx T × SIdx T

both_parts : (a b : Bool) → (a && b) ≡ true → (a ≡ true) × (b ≡ true)
both_parts true b h = (refl, h)
both_parts false b h = cc

same_number : (p q : ℕ) → (p == q) ≡ true → q ≡ p
same_number p q h = grind (arith, nat_tests)

pub eq_parts : (p q d e : ℕ) → ((p == q) && (d == e)) ≡ true → (q ≡ p) × (e ≡ d)
eq_parts p q d e h = let b = both_parts (p == q) (d == e) h in (same_number p q b.0, same_number d e b.1)

then_eq : (a b : Ordering) → is_eq (ordering_then a b) ≡ (is_eq a && is_eq b)
then_eq Less b = refl
then_eq Equal b = refl
then_eq Greater b = refl

pub cmp_eq : (m n : ℕ) → is_eq (nat_cmp m n) ≡ (m == n)
cmp_eq m n = grind (arith, nat_tests)

-- an item is one item, or apart from it
pub same_or_apart : (p d q e : ℕ) → ((q ≡ p) × (e ≡ d)) ⊎ Apart p d q e
same_or_apart p d q e = go ((p == q) && (d == e)) refl
  where
    go : (b : Bool) → ((p == q) && (d == e)) ≡ b → ((q ≡ p) × (e ≡ d)) ⊎ Apart p d q e
    go true h = inl (eq_parts p q d e h)
    go false h = inr (λ i j. grind (arith, nat_tests))

-- the look-up passes an item that is apart
pub apart_test : (p d q e : ℕ) → Apart p d q e → ((p == q) && (d == e)) ≡ false
apart_test p d q e f = go ((p == q) && (d == e)) refl
  where
    go : (b : Bool) → ((p == q) && (d == e)) ≡ b → b ≡ false
    go true h = let k = eq_parts p q d e h in absurd (f (sym k.0) (sym k.1))
    go false h = refl

-- keys are compared by production, then by dot
abbrev pub key_cmp : {T : Type 0} → (T → T → Ordering) → Key T → Key T → Ordering
key_cmp cmp j k = ordering_then (cmp j.0.0 k.0.0) (cmp j.1.0 k.1.0)

module _ {T : Type 0} (number : T → ℕ) (cmp : T → T → Ordering) (ordered : (x y : T) → cmp x y ≡ nat_cmp (number x) (number y)) where
  agrees : (j k : Key T) → is_eq (key_cmp cmp j k) ≡ ((number j.0.0 == number k.0.0) && (number j.1.0 == number k.1.0))
  agrees j k =
      then_eq (cmp j.0.0 k.0.0) (cmp j.1.0 k.1.0)
      ∙ rw (ordered j.0.0 k.0.0, ordered j.1.0 k.1.0, cmp_eq (number j.0.0) (number k.0.0), cmp_eq (number j.1.0) (number k.1.0)) refl

module _ {T X : Type 0} (number : T → ℕ) (cmp : T → T → Ordering) (ordered : (x y : T) → cmp x y ≡ nat_cmp (number x) (number y)) where
  -- a map finds by the numbers of the key
  pub item_here : (es : List (Key T × X)) (k : Key T) → lookup (is_at (key_cmp cmp k)) es ≡ item_at (items_of number es) (number k.0.0) (number k.1.0)
  item_here [] k = refl
  item_here (e ∷ es) k = rw (agrees number cmp ordered k e.0, item_here es k) refl

  -- an item that is there has a key
  pub key_at : (es : List (Key T × X)) (p d : ℕ) (x : X) → item_at (items_of number es) p d ≡ Some x → (q : Key T) × (number q.0.0 ≡ p) × (number q.1.0 ≡ d)
  key_at [] p d x h = cc
  key_at (e ∷ es) p d x h = go ((p == number e.0.0.0) && (d == number e.0.1.0)) refl (key_at es p d x) h
    where
      go :
          (b : Bool) → ((p == number e.0.0.0) && (d == number e.0.1.0)) ≡ b
          → (item_at (items_of number es) p d ≡ Some x → (q : Key T) × (number q.0.0 ≡ p) × (number q.1.0 ≡ d))
          → cond b (Some e.1) (item_at (items_of number es) p d) ≡ Some x → (q : Key T) × (number q.0.0 ≡ p) × (number q.1.0 ≡ d)
      go true i r k = let f = eq_parts p (number e.0.0.0) d (number e.0.1.0) i in (e.0, f.0, f.1)
      go false i r k = r k

  -- an update at a key keeps every other item
  module _
      (es fs : List (Key T × X)) (k : Key T) (w : Option X)
      (u : (q : Key T) → lookup (is_at (key_cmp cmp q)) fs ≡ cond (is_at (key_cmp cmp k) q) w (lookup (is_at (key_cmp cmp q)) es))
    where
      at_key :
          (q : Key T) (p d : ℕ) → number q.0.0 ≡ p → number q.1.0 ≡ d → Apart (number k.0.0) (number k.1.0) p d
          → item_at (items_of number fs) p d ≡ item_at (items_of number es) p d
      at_key q p d i j f =
          let test : is_at (key_cmp cmp k) q ≡ false = agrees number cmp ordered k q ∙ apart_test (number k.0.0) (number k.1.0) (number q.0.0) (number q.1.0) (λ x y. f (x ∙ i) (y ∙ j)) in
          rw (← i, ← j, ← item_here fs q, ← item_here es q) (u q ∙ rw test refl)

      pub item_there : (p d : ℕ) → Apart (number k.0.0) (number k.1.0) p d → item_at (items_of number fs) p d ≡ item_at (items_of number es) p d
      item_there p d f = go (item_at (items_of number fs) p d) (item_at (items_of number es) p d) refl refl
        where
          go :
              (x y : Option X) → item_at (items_of number fs) p d ≡ x → item_at (items_of number es) p d ≡ y
              → item_at (items_of number fs) p d ≡ item_at (items_of number es) p d
          go (Some x) y h i = let q = key_at fs p d x h in at_key q.0 p d q.1 q.2 f
          go None (Some y) h i = let q = key_at es p d y i in at_key q.0 p d q.1 q.2 f
          go None None h i = h ∙ sym i

-- keys whose parts are copies are the same
pub same_key :
    {T : Type 0} (C : T → T → Type 0) → ((x y : T) → C x y → y ≡ x) → (x y : Key T) → C x.0.0 y.0.0 → C x.1.0 y.1.0 → y ≡ x
same_key {T} C s x y a b =
    let key : T → T → Key T = λ p d. (record { 0 = p }, record { 0 = d }) in
    ap (λ p. key p y.1.0) (s x.0.0 y.0.0 a) ∙ ap (λ d. key x.0.0 d) (s x.1.0 y.1.0 b)

-- when two maps have the same entries
use Rattle.std.proofs.Common.{◌≡◌, ℕ, Bool, ◌&&◌, List, length, refl, sym, ap, ◌∙◌}
use Rattle.std.specs.Prelude.{IsTrue, ◌↔◌, nat_eq}
use mathlib.Core.Bool.{beq}
use Rattle.std.specs.Bool.{Decides}
use Rattle.std.specs.BTreeMap.{BTreeMap, IsOrdered}
use Rattle.std.specs.Cmp.{IsTotalOrder, then_total, on_total}
use Rattle.std.specs.Cmp.Lexicographic.{pointwise}
use Rattle.std.specs.declared.cmp.Ordering.{Ordering}
use Rattle.std.specs.declared.cmp.Ordering.TheVariants.{Equal}
use Rattle.std.specs.Ordering.{nat_cmp}
use Rattle.std.proofs.lemmas.Bool.{and_from, and_parts, eqb-true}
use Rattle.std.proofs.lemmas.Map.Lookups.{CmpEqualImpliesEq, exact_unsigned, exact_pairs, btree_map_from_get, btree_map_eq-Decides}
use Rattle.lrgrammar.specs.declared.idx.PIdx.{PIdx}
use Rattle.lrgrammar.specs.declared.idx.SIdx.{SIdx}
use Rattle.lrbits.proofs.EqualBits.{same_bits}
use Rattle.lrspec.specs.grammars.ItemSets.{item_at}
use Rattle.lritems.specs.ItemsOf.{items_of, Agree}
use Rattle.lrclosing.proofs.ItemKeys.{Key, key_cmp, item_here}

module _
    {T : Type 0} (number : T → ℕ) (cmp : T → T → Ordering) (ordered : (x y : T) → cmp x y ≡ nat_cmp (number x) (number y))
    (inj : (x y : T) → number x ≡ number y → x ≡ y) (total : IsTotalOrder cmp)
  where
    pub key_total : IsTotalOrder (key_cmp cmp)
    key_total = then_total (on_total (λ k. k.0.0) total) (on_total (λ k. k.1.0) total)

    part : (x y : T) → cmp x y ≡ Equal → x ≡ y
    part x y e = inj x y (exact_unsigned (number x) (number y) (sym (ordered x y) ∙ e))

    pub key_exact : CmpEqualImpliesEq (key_cmp cmp)
    key_exact =
        let p : T → PIdx T = λ x. record { 0 = x } in
        let s : T → SIdx T = λ x. record { 0 = x } in
        exact_pairs (λ (a b : PIdx T). cmp a.0 b.0) (λ (a b : SIdx T). cmp a.0 b.0) (λ a b e. ap p (part a.0 b.0 e)) (λ a b e. ap s (part a.0 b.0 e))

    -- maps that have the same items with the same bits have the same entries
    pub entries_from_agree :
        (m n : BTreeMap (Key T) (List Bool)) → IsOrdered (key_cmp cmp) m → IsOrdered (key_cmp cmp) n
        → Agree (items_of number m.entries) (items_of number n.entries) → m.entries ≡ n.entries
    entries_from_agree m n s t a =
        btree_map_from_get key_total m n s t
        (λ q. item_here number cmp ordered m.entries q ∙ a (number q.0.0) (number q.1.0) ∙ sym (item_here number cmp ordered n.entries q)) key_exact

    -- what a comparison of the entries says
    module _
        (eq : T → T → Bool) (same : (x y : T) → IsTrue (eq x y) ↔ (number x ≡ number y)) (m n : BTreeMap (Key T) (List Bool)) (s : IsOrdered (key_cmp cmp) m)
        (t : IsOrdered (key_cmp cmp) n)
      where
        key_eq : (a b : Key T) → Decides (eq a.0.0 b.0.0 && eq a.1.0 b.1.0) (a ≡ b)
        key_eq a b =
            let key : T → T → Key T = λ p d. (record { 0 = p }, record { 0 = d }) in (
              λ e. let h = and_parts (eq a.0.0 b.0.0) (eq a.1.0 b.1.0) e in
                  ap (λ p. key p a.1.0) (inj a.0.0 b.0.0 ((same a.0.0 b.0.0).0 h.0)) ∙ ap (λ d. key b.0.0 d) (inj a.1.0 b.1.0 ((same a.1.0 b.1.0).0 h.1)),
              λ e. and_from (eq a.0.0 b.0.0) (eq a.1.0 b.1.0) ((same a.0.0 b.0.0).1 (ap (λ k. number k.0.0) e)) ((same a.1.0 b.1.0).1 (ap (λ k. number k.1.0) e)),
            )

        bits_eq : (v w : List Bool) → Decides (pointwise beq v w) (v ≡ w)
        bits_eq v w = same_bits v w (pointwise beq v w) refl

        pub agree_from_eq :
            (r : Bool) → r ≡ pointwise (λ (p q : Key T × List Bool). (eq p.0.0.0 q.0.0.0 && eq p.0.1.0 q.0.1.0) && pointwise beq p.1 q.1) m.entries n.entries
            → IsTrue r ↔ Agree (items_of number m.entries) (items_of number n.entries)
        agree_from_eq r e =
            let d : Decides r (m.entries ≡ n.entries) = btree_map_eq-Decides {E = λ (a b : Key T). eq a.0.0 b.0.0 && eq a.1.0 b.1.0} {F = pointwise beq} key_eq bits_eq m n r e in (
              λ h p d'. ap (λ es. item_at (items_of number es) p d') (d.0 h),
              λ a. d.1 (entries_from_agree m n s t a),
            )

        -- maps of two lengths don't agree
        pub apart_from_len :
            (x y : ℕ) → x ≡ length m.entries → y ≡ length n.entries → (x ≡ y → ⊥)
            → IsTrue (nat_eq x y) ↔ Agree (items_of number m.entries) (items_of number n.entries)
        apart_from_len x y e f u =
            (λ h. absurd (u (eqb-true x y h)), λ a. absurd (u (e ∙ ap length (entries_from_agree m n s t a) ∙ sym f)))

-- items that stand before rules, one after another
use Rattle.std.proofs.Common.{◌≡◌, ℕ, ◌+◌, ◌<◌, ◌≤◌, List, [], ◌∷◌, ◌++◌, length, get_or, set, drop, refl, sym, ap, ◌∙◌, arith, inl, inr}
use Rattle.std.specs.Prelude.{Contains}
use Rattle.std.specs.declared.vec.Vec.{Vec}
use Rattle.std.specs.declared.alloc.Global.{Global}
use Rattle.std.proofs.lemmas.Bool.{cases_eq}
use Rattle.std.proofs.lemmas.List.{get_or-set_other, map-append, drop_all}
use Rattle.std.proofs.lemmas.List.Elements.{Contains-append_left}
use Rattle.lrspec.specs.grammars.Grammar.{Symbol, Rule, Token, Grammar, body_of}
use Rattle.lrspec.specs.grammars.ItemSets.{IsBefore}
use Rattle.lrspec.proofs.grammars.BodyFacts.{below_of_drop}
use Rattle.lrgrammar.specs.declared.idx.PIdx.{PIdx}
use Rattle.lrgrammar.specs.declared.idx.SIdx.{SIdx}
use Rattle.lrgrammar.proofs.ProductionLists.{one_more}
use Rattle.lrclosing.proofs.SymbolsBehindDots.{left_at}
use Rattle.lrsearches.specs.Rests.{HasBehind}
use Rattle.lrsearches.specs.StoredUses.{keys_of, HasUsesOfRule, HasUse, HasUseOf, HasUsesOf, KeepsUses, AreUses}

-- the item stands before one symbol
pub before_one : (g : Grammar) (p d r s : ℕ) (y : List Symbol) → IsBefore g p d (Rule r) → HasBehind g p d s y → s ≡ r
before_one g p d r s y b e = let both : Rule s ∷ y ≡ Rule r ∷ b.0 = sym e ∙ b.1 in cc

-- and where that is a token before no rule
pub before_token : (g : Grammar) (p d t s : ℕ) (y : List Symbol) → IsBefore g p d (Token t) → HasBehind g p d s y → ⊥
before_token g p d t s y b e = let both : Rule s ∷ y ≡ Token t ∷ b.0 = sym e ∙ b.1 in cc

module _ {T : Type 0} (number : T → ℕ) where
  abbrev Row : Type 0
  Row = Vec (PIdx T × SIdx T) Global

  -- a row with one item more keeps what it had
  pub keeps_by_push :
      (old : List Row) (i : ℕ) (was new : Row) (x : PIdx T × SIdx T) → i < length old → was ≡ get_or old i was → new.items ≡ was.items ++ x ∷ []
      → KeepsUses number old (set old i new)
  keeps_by_push old i was new x within read more r p d h row = elim (cases_eq r i) [
    | inl e ↦
        let had : Contains (keys_of number (get_or old i row).items) (p, d) = rw e at (h row) in
        rw (e, row_is) (Contains-append_left (keys_of number (get_or old i row).items) ((number x.0.0, number x.1.0) ∷ []) (p, d) had)
    | inr e ↦ rw (get_or-set_other old i r new row e) (h row)
  ]
    where
      row_is : keys_of number (get_or (set old i new) i row).items ≡ keys_of number (get_or old i row).items ++ (number x.0.0, number x.1.0) ∷ []
      row_is =
          ap (keys_of number) (one_more old i was new row x within read more) ∙ map-append (λ (k : PIdx T × SIdx T). (number k.0.0, number k.1.0)) (get_or old i row).items (x ∷ [])

  -- the items that are left at a place are the one there and those behind it
  pub keys_left :
      (ks : List (PIdx T × SIdx T)) (i : ℕ) (k : PIdx T × SIdx T) → i < length ks → k ≡ get_or ks i k
      → keys_of number (drop i ks) ≡ (number k.0.0, number k.1.0) ∷ keys_of number (drop (i + 1) ks)
  keys_left ks i k l is =
      let shown : PIdx T × SIdx T → ℕ × ℕ = λ k. (number k.0.0, number k.1.0) in left_at {Y = ℕ × ℕ} shown ks i k k l is refl

  -- none is left at the end
  pub keys_none : (ks : List (PIdx T × SIdx T)) (i : ℕ) → length ks ≤ i → keys_of number (drop i ks) ≡ []
  keys_none ks i l = rw (drop_all i ks l) refl

  module _ (g : Grammar) where
    -- the item that stands before a rule is in its row
    pub use_added : (rows : List Row) (p d r : ℕ) → IsBefore g p d (Rule r) → HasUse number rows r p d → HasUseOf number g rows p d
    use_added rows p d r b u s y e = rw (before_one g p d r s y b e) u

    -- one item of the production more
    pub next_use :
        (old new : List Row) (p n : ℕ) → ((d : ℕ) → d < n → HasUseOf number g old p d) → KeepsUses number old new → HasUseOf number g new p n
        → (d : ℕ) → d < n + 1 → HasUseOf number g new p d
    next_use old new p n before keeps here d below r y e = elim (cases_eq d n) [
      | inl s ↦ rw s (here r y (rw s at e))
      | inr s ↦ keeps r p d (before d (omega (arith, below, s)) r y e)
    ]

    -- no item stands before a rule from the end of the body on
    pub end_use : (rows : List Row) (p n : ℕ) → length (body_of g p) ≤ n → ((d : ℕ) → d < n → HasUseOf number g rows p d) → HasUsesOf number g rows p
    end_use rows p n past before d r y e = before d (omega (arith, past, below_of_drop (body_of g p) d (Rule r) y e)) r y e

    -- one production more
    pub next_uses :
        (old new : List Row) (n : ℕ) → ((p : ℕ) → p < n → HasUsesOf number g old p) → KeepsUses number old new → HasUsesOf number g new n
        → (p : ℕ) → p < n + 1 → HasUsesOf number g new p
    next_uses old new n before keeps here p below d r y e = elim (cases_eq p n) [
      | inl s ↦ rw s (here d r y (rw s at e))
      | inr s ↦ keeps r p d (before p (omega (arith, below, s)) d r y e)
    ]

    -- the row of a rule that is read
    pub row_of_rule :
        (rows : List Row) (i r : ℕ) (was : Row) (ks : List (PIdx T × SIdx T)) → ks ≡ was.items → was ≡ get_or rows i was → i ≡ r → AreUses number g rows
        → HasUsesOfRule g r (keys_of number ks)
    row_of_rule rows i r was ks read is same all p d y below e =
        let read_there : ks ≡ (get_or rows r was).items =
        read ∙ ap (λ (v : Row). v.items) is ∙ ap (λ (j : ℕ). (get_or rows j was).items) same in
        let there : Contains (keys_of number (get_or rows r was).items) (p, d) = all.items p below d r y e was in
        rw read_there there

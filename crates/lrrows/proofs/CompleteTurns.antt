-- walks that list the complete items of an item set
use Rattle.std.proofs.Common.{◌≡◌, ◌≢◌, ℕ, Bool, true, false, not, eqb, IsTrue, ◌↔◌, List, [], ◌∷◌, ◌++◌, length, map, Option, None, Some, IfSome, option_map, append_assoc, eq-eqb, refl, sym, ap, ◌∙◌, ◌⊎◌, inl, inr, cond}
use Rattle.std.specs.Prelude.{◌&&◌}
use Rattle.std.proofs.lemmas.Bool.Decides.{eqb_tells}
use Rattle.std.proofs.lemmas.List.{append-nil, map-append}
use Rattle.lrspec.specs.grammars.Grammar.{Grammar, body_of, token_count}
use Rattle.lrspec.specs.grammars.ItemSets.{Items, item_at, Fits}
use Rattle.lrspec.specs.tables.Table.{bit_or_none, accepts_at}
use Rattle.lrrows.specs.StateRows.{complete_item, complete_items}

-- the test of two different numbers
pub other : (p q : ℕ) → p ≢ q → eqb p q ≡ false
other p q n = elim (eqb_tells p q) [ inl e ↦ absurd (n e.1) | inr e ↦ e.0 ]

-- what a test of two numbers tells, where the second is known by another name
pub equal_by_test : (b : Bool) (m n k : ℕ) → IsTrue b ↔ (m ≡ n) → true ≡ b → n ≡ k → m ≡ k
equal_by_test b m n k test is e = test.0 (sym is) ∙ e

pub differ_by_test : (b : Bool) (m n k : ℕ) → IsTrue b ↔ (m ≡ n) → false ≡ b → n ≡ k → m ≢ k
differ_by_test b m n k test is e same = let t : false ≡ true = is ∙ test.1 (same ∙ sym e) in cc

-- a test by what its denial says
pub denied : (a b : Bool) → a ≡ not b → not a ≡ b
denied a true h = rw h refl
denied a false h = rw h refl

-- a complete item is listed
listed : (g : Grammar) (p d : ℕ) (v : List Bool) → d ≡ length (body_of g p) → p ≢ g.start_production → complete_item g ((p, d), v) ≡ Some (p, v)
listed g p d v e n = rw (eq-eqb d (length (body_of g p)) e, other p g.start_production n) refl

-- an item that is not complete, or of the start production, is not listed
pub left_out : (g : Grammar) (p d : ℕ) (v : List Bool) → (d ≢ length (body_of g p)) ⊎ (p ≡ g.start_production) → complete_item g ((p, d), v) ≡ None
left_out g p d v (inl n) = rw (other d (length (body_of g p)) n) refl
left_out g p d v (inr e) = rw (eq-eqb p g.start_production e) (neither (eqb d (length (body_of g p))) (p, v))
  where
    neither : (b : Bool) (c : ℕ × List Bool) → cond (b && not true) (Some c) None ≡ None
    neither true c = refl
    neither false c = refl

module _ {X : Type 0} (shown : X → ℕ × List Bool) (g : Grammar) where
  -- one complete item more is listed
  pub complete_turn :
      (before new : List X) (x : X) (p d : ℕ) (v : List Bool) (rest : Items) (whole : List (ℕ × List Bool)) → shown x ≡ (p, v)
      → d ≡ length (body_of g p) → p ≢ g.start_production → new ≡ before ++ x ∷ []
      → map shown before ++ complete_items g (((p, d), v) ∷ rest) ≡ whole → map shown new ++ complete_items g rest ≡ whole
  complete_turn before new x p d v rest whole s e n pushed h =
      let here : complete_items g (((p, d), v) ∷ rest) ≡ (p, v) ∷ complete_items g rest = rw (listed g p d v e n) refl in
      rw (pushed, map-append shown before (x ∷ []), s) (append_assoc (map shown before) ((p, v) ∷ []) (complete_items g rest) ∙ ap (λ ys. map shown before ++ ys) (sym here) ∙ h)

  -- an item is passed over
  pub passed_turn :
      (before : List X) (p d : ℕ) (v : List Bool) (rest : Items) (whole : List (ℕ × List Bool)) → complete_item g ((p, d), v) ≡ None
      → map shown before ++ complete_items g (((p, d), v) ∷ rest) ≡ whole → map shown before ++ complete_items g rest ≡ whole
  passed_turn before p d v rest whole none h =
      let here : complete_items g (((p, d), v) ∷ rest) ≡ complete_items g rest = rw none refl in
      ap (λ ys. map shown before ++ ys) (sym here) ∙ h

-- nothing is left
pub all_listed :
    {X : Type 0} (before left whole : List X) → left ≡ [] → before ++ left ≡ whole → before ≡ whole
all_listed before left whole none h = sym (ap (λ xs. before ++ xs) none ∙ append-nil before) ∙ h

-- what is found of the complete start production
pub accepted_found :
    (g : Grammar) (a : Items) (o : Option (List Bool)) (p d : ℕ) → p ≡ g.start_production → d ≡ length (body_of g p) → o ≡ item_at a p d
    → (t : ℕ) → bit_or_none o t ≡ accepts_at g a t
accepted_found g a o p d e f h t = rw (h, f, e) refl

-- what is found of an item set that fits has a bit a token
pub bits_found :
    {X : Type 0} (bits : X → List Bool) (g : Grammar) (a : Items) (p d : ℕ) (o : Option X) → Fits g a → option_map bits o ≡ item_at a p d
    → IfSome o (λ x. length (bits x) ≡ token_count g)
bits_found bits g a p d None fits e = tt
bits_found bits g a p d (Some x) fits e = (fits p d (bits x) (sym e)).bits

-- Which rules have a production, and so whether one has none.
use Rattle.std.proofs.Common.{◌≡◌, ◌≢◌, ℕ, ◌<◌, ◌==◌, ◌||◌, Bool, true, false, List, [], ◌∷◌, map, take, set, length, get_or, refl, sym, ap, ◌∙◌, ◌+◌, ◌≤◌, arith}
use Rattle.std.specs.Prelude.{All}
use Rattle.std.specs.List.{list_any}
use Rattle.std.proofs.lemmas.Bool.{false≢true}
use Rattle.std.proofs.lemmas.Bool.Decides.{Decides-eqb}
use Rattle.std.proofs.lemmas.Grind.{get_or-set_at, take_at_read}
use Rattle.std.proofs.lemmas.List.{length-map, length-set, get_or-set_other}
use Rattle.std.proofs.lemmas.List.Folds.{list_any-append}
use Rattle.std.proofs.lemmas.List.Elements.{All-nil, All-cons, All-head, All-tail}
use Rattle.std.specs.String.{string_bytes}
use Rattle.lrspec.specs.grammars.Grammar.{Production}
use Rattle.lrspec.specs.texts.Parts.{EmptyRule}
use Rattle.lrtext.specs.declared.parts.GrammarParts.{GrammarParts}
use Rattle.lrtext.specs.declared.parts.PartProd.{PartProd}
use Rattle.lrtext.specs.StoredParts.{parts_of, part_production_of}
use Rattle.lrparts.specs.UsedRules.{AreUsed}

split_or : (a b : Bool) → (a || b) ≡ false → (a ≡ false) × (b ≡ false)
split_or true b e = absurd (false≢true (sym e))
split_or false b e = (refl, e)

-- no production is of the rule
none_of_rule : (xs : List PartProd) (r : ℕ) → list_any (λ p. p.rule == r) xs ≡ false → All (λ (p : Production). p.rule ≢ r) (map part_production_of xs)
none_of_rule [] r e = All-nil (λ p. p.rule ≢ r)
none_of_rule (x ∷ xs) r e =
    let s = split_or (x.rule == r) (list_any (λ p. p.rule == r) xs) e in
    All-cons (λ p. p.rule ≢ r) (part_production_of x) (map part_production_of xs) (λ h. false≢true (sym s.0 ∙ (Decides-eqb x.rule r).1 h)) (none_of_rule xs r s.1)

-- some production is of the rule
some_of_rule : (xs : List PartProd) (r : ℕ) → list_any (λ p. p.rule == r) xs ≡ true → All (λ (p : Production). p.rule ≢ r) (map part_production_of xs) → ⊥
some_of_rule [] r e h = false≢true e
some_of_rule (x ∷ xs) r e h =
    some_of_rule xs r (by_tail (x.rule == r) (list_any (λ p. p.rule == r) xs) e (λ t. All-head (λ p. p.rule ≢ r) (part_production_of x) (map part_production_of xs) h ((Decides-eqb x.rule r).0 t))) (All-tail (λ p. p.rule ≢ r) (part_production_of x) (map part_production_of xs) h)
  where
    by_tail : (a b : Bool) → (a || b) ≡ true → (a ≡ true → ⊥) → b ≡ true
    by_tail true b e never = absurd (never refl)
    by_tail false b e never = e

pub empty_from_unused : (ps : GrammarParts) (used : List Bool) (r : ℕ) → AreUsed ps used → r < length used → get_or used r false ≡ false → EmptyRule (parts_of ps)
empty_from_unused ps used r are within e =
    (r, omega (arith, are.all, length-map ps.rules.items string_bytes), none_of_rule ps.prods.items r (sym (are.each r within) ∙ e))

pub none_empty : (ps : GrammarParts) (used : List Bool) → AreUsed ps used → ((r : ℕ) → r < length used → get_or used r false ≡ true) → EmptyRule (parts_of ps) → ⊥
none_empty ps used are each (r, within, h) =
    let inside : r < length used = omega (arith, are.all, length-map ps.rules.items string_bytes) in
    some_of_rule ps.prods.items r (sym (are.each r inside) ∙ each r inside) h

-- ---- a loop over the productions `ys`, which are `xs`, that notes the rule of each

or_false : (b : Bool) → (b || false) ≡ b
or_false true = refl
or_false false = refl

or_true : (b : Bool) → (b || true) ≡ true
or_true true = refl
or_true false = refl

module _ (ys xs : List PartProd) (i : ℕ) (x : PartProd) (same : ys ≡ xs) (within : i < length ys) (is : x ≡ get_or ys i x) where
  -- whether one of the productions up to that of the turn is of the rule
  one_more : (r : ℕ) (b : Bool) → (x.rule == r) ≡ b → list_any (λ p. p.rule == r) (take (i + 1) xs) ≡ (list_any (λ p. p.rule == r) (take i xs) || b)
  one_more r b h =
      let of_rule = λ (p : PartProd). p.rule == r in
      ap (λ zs. list_any of_rule (take (i + 1) zs)) (sym same)
      ∙ ap (list_any of_rule) (take_at_read ys i x within).1
      ∙ list_any-append of_rule (take i ys) (get_or ys i x ∷ [])
      ∙ ap (λ (p : PartProd). list_any of_rule (take i ys) || (of_rule p || false)) (sym is)
      ∙ ap (λ c. list_any of_rule (take i ys) || c) (or_false (x.rule == r) ∙ h)
      ∙ ap (λ zs. list_any of_rule (take i zs) || b) same

  module _ (u : List Bool) (each : (r : ℕ) → r < length u → get_or u r false ≡ list_any (λ p. p.rule == r) (take i xs)) where
    -- its rule is noted
    pub noted : x.rule < length u → (r : ℕ) → r < length (set u x.rule true) → get_or (set u x.rule true) r false ≡ list_any (λ p. p.rule == r) (take (i + 1) xs)
    noted inside r l = go (x.rule == r) refl
      where
        go : (b : Bool) → (x.rule == r) ≡ b → get_or (set u x.rule true) r false ≡ list_any (λ p. p.rule == r) (take (i + 1) xs)
        go true h =
            let e = (Decides-eqb x.rule r).0 h in
            get_or-set_at u x.rule r true false (sym e) inside ∙ sym (or_true (list_any (λ p. p.rule == r) (take i xs))) ∙ sym (one_more r true h)
        go false h =
            get_or-set_other u x.rule r true false (λ e. false≢true (sym h ∙ (Decides-eqb x.rule r).1 (sym e)))
            ∙ each r (omega (arith, l, length-set u x.rule true))
            ∙ sym (or_false (list_any (λ p. p.rule == r) (take i xs)))
            ∙ sym (one_more r false h)

    -- its rule is none that is noted
    pub passed_by : length u ≤ x.rule → (r : ℕ) → r < length u → get_or u r false ≡ list_any (λ p. p.rule == r) (take (i + 1) xs)
    passed_by outside r l = go (x.rule == r) refl
      where
        go : (b : Bool) → (x.rule == r) ≡ b → get_or u r false ≡ list_any (λ p. p.rule == r) (take (i + 1) xs)
        go true h = let e = (Decides-eqb x.rule r).0 h in absurd (omega (arith, e, l, outside))
        go false h = each r l ∙ sym (or_false (list_any (λ p. p.rule == r) (take i xs))) ∙ sym (one_more r false h)

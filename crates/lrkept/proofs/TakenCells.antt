-- cells that take all that contends for them, item after item
use Rattle.std.proofs.Common.{◌≡◌, ◌≢◌, ℕ, ◌<◌, Bool, true, false, cond, ◌&&◌, IsTrue, List, [], ◌∷◌, ◌++◌, append_assoc, length, None, Some, refl, sym, subst, ap, ◌∙◌, ◌⊎◌, inl, inr, arith}
use Rattle.std.specs.Prelude.{◌==◌, ◌↔◌, slice_index_or, slice_get}
use Rattle.std.specs.Option.{IsSomeAnd}
use Rattle.std.proofs.lemmas.Bool.Decides.{nat_tests}
use Rattle.lrspec.specs.grammars.Grammar.{Token, Grammar, body_of}
use Rattle.lrspec.specs.grammars.ItemSets.{Items, item_at, LooksIn, AreUpwards}
use Rattle.lrspec.specs.merging.Graph.{Graph, closed_of, edge, IsGraphOf}
use Rattle.lrspec.specs.tables.Table.{Table, action_of}
use Rattle.lrbits.specs.Bits.{bit}
use Rattle.lrclosing.proofs.ItemKeys.{eq_parts}
use Rattle.lritems.proofs.ItemsByPlace.{item_at_place}
use Rattle.lrconflicts.specs.Moves.{Shift, Reduce}
use Rattle.lrlosses.specs.Losses.{Takes}
use Rattle.lrkept.specs.Choices.{TakesShift, TakesAllOfItem, TakesReductions}

-- a test of two numbers
pub same_numbers : (m n : ℕ) → IsTrue (m == n) ↔ (m ≡ n)
same_numbers m n = (λ t. grind (arith, nat_tests), λ e. grind (arith, nat_tests))

-- an item of a list that looks at a token is the first, or among the rest
first_or_rest_looks :
    (p d : ℕ) (ctx : List Bool) (rest : Items) (i e t : ℕ) → LooksIn (((p, d), ctx) ∷ rest) i e t
    → ((p ≡ i) × (d ≡ e) × IsTrue (bit ctx t)) ⊎ LooksIn rest i e t
first_or_rest_looks p d ctx rest i e t h = go ((i == p) && (e == d)) refl h
  where
    go :
        (b : Bool) → ((i == p) && (e == d)) ≡ b → IsSomeAnd (cond b (Some ctx) (item_at rest i e)) (λ v. IsTrue (slice_index_or v t false))
        → ((p ≡ i) × (d ≡ e) × IsTrue (bit ctx t)) ⊎ LooksIn rest i e t
    go true is l = let k = eq_parts i p e d is in inl (k.0, k.1, l)
    go false is l = inr l

-- an element of a list between others
at_seam : {X : Type 0} (xs : List X) (e : X) (ys : List X) → slice_get (xs ++ e ∷ ys) (length xs) ≡ Some e
at_seam [] e ys = refl
at_seam (x ∷ xs) e ys = at_seam xs e ys

-- an item that is looked up looks at the tokens of its bits
looks_there : (a : Items) (p d t : ℕ) (ctx : List Bool) → item_at a p d ≡ Some ctx → IsTrue (bit ctx t) → LooksIn a p d t
looks_there a p d t ctx e i = rw e i

-- where there is no edge the shift is taken, as there is none
pub no_shift : (h : Graph) (b : Table) (s t : ℕ) → None ≡ edge h s (Token t) → TakesShift h b s t
no_shift h b s t none u e = let no : None ≡ Some u = none ∙ e in absurd cc

-- and else it is if the cell takes it
pub one_shift :
    (h : Graph) (b : Table) (s t u : ℕ) (r : Bool) → Some u ≡ edge h s (Token t) → (IsTrue r ↔ Takes (action_of b s t) Shift) → IsTrue r ↔ TakesShift h b s t
one_shift h b s t u r some k = (λ i v e. k.0 i, λ all. k.1 (all u (sym some)))

-- a reduction by an item
module _ (g : Grammar) (b : Table) (s t p d : ℕ) (ctx : List Bool) where
  pub open_item : d ≢ length (body_of g p) → TakesAllOfItem g b s t p d ctx
  open_item k e differ i = absurd (k e)

  pub start_item : p ≡ g.start_production → TakesAllOfItem g b s t p d ctx
  start_item same e differ i = absurd (differ same)

  pub blind_item : ¬ (IsTrue (bit ctx t)) → TakesAllOfItem g b s t p d ctx
  blind_item k e differ i = absurd (k i)

  pub contending_item :
      (r : Bool) → d ≡ length (body_of g p) → p ≢ g.start_production → IsTrue (bit ctx t) → (IsTrue r ↔ Takes (action_of b s t) (Reduce p))
      → IsTrue r ↔ TakesAllOfItem g b s t p d ctx
  contending_item r e differ i k = (λ y e' differ' i'. k.0 y, λ all. k.1 (all e differ i))

module _ (g : Grammar) (h : Graph) (b : Table) (s t : ℕ) where
  -- the reductions by the items that are not left are taken
  pub record TakenBut (left : Items) : Type 0 where
    pub taken : (p : ℕ) → p ≢ g.start_production → LooksIn (closed_of h s) p (length (body_of g p)) t
        → LooksIn left p (length (body_of g p)) t ⊎ Takes (action_of b s t) (Reduce p)
    pub before : Items
    pub splits : closed_of h s ≡ before ++ left

  pub begin_taken : (left : Items) → left ≡ closed_of h s → TakenBut left
  begin_taken left e = record { taken = λ p differ l. inl (rw e l); before = []; splits = sym e }

  module _ (up : AreUpwards (closed_of h s)) (left : Items) (p d : ℕ) (ctx : List Bool) (k : TakenBut (((p, d), ctx) ∷ left)) where
    -- the next item is looked up
    here : item_at (closed_of h s) p d ≡ Some ctx
    here =
        item_at_place (closed_of h s) (length k.before) ((p, d), ctx) up
        (ap (λ (a : Items). slice_get a (length k.before)) k.splits ∙ at_seam k.before ((p, d), ctx) left)

    pub next_within : IsGraphOf g h → s < length h → p < length g.productions
    next_within graph within = (graph.closures.fit_closed s within p d ctx here).production

    pub next_taken : TakesAllOfItem g b s t p d ctx → TakenBut left
    next_taken takes = record {
      taken = λ q differ l. elim (k.taken q differ l) [
        | inl j ↦ elim (first_or_rest_looks p d ctx left q (length (body_of g q)) t j) [
          | inl same ↦
              let whole : d ≡ length (body_of g p) = same.1 ∙ ap (λ (r : ℕ). length (body_of g r)) (sym same.0) in
              let other : p ≢ g.start_production = λ e. differ (sym same.0 ∙ e) in
              inr (subst (λ (r : ℕ). Takes (action_of b s t) (Reduce r)) same.0 (takes whole other same.2))
          | inr r ↦ inl r
        ]
        | inr j ↦ inr j
      ];
      before = k.before ++ ((p, d), ctx) ∷ [];
      splits = k.splits ∙ sym (append_assoc k.before (((p, d), ctx) ∷ []) left);
    }

    -- where all reductions are taken that by the next item is
    pub next_of_all : TakesReductions g h b s t → TakesAllOfItem g b s t p d ctx
    next_of_all all e differ i = all p differ (looks_there (closed_of h s) p (length (body_of g p)) t ctx (subst (λ n. item_at (closed_of h s) p n ≡ Some ctx) e here) i)

  pub end_taken : (left : Items) → left ≡ [] → TakenBut left → TakesReductions g h b s t
  end_taken left none k p differ l = elim (k.taken p differ l) [
    | inl j ↦ absurd (subst (λ (a : Items). LooksIn a p (length (body_of g p)) t) none j)
    | inr j ↦ j
  ]

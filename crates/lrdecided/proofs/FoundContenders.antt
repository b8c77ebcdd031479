-- complete items, reductions and contenders, one after another
use Rattle.std.proofs.Common.{◌≡◌, ℕ, Bool, true, false, cond, ◌&&◌, IsTrue, List, [], ◌∷◌, length, Some, refl, sym, subst, ap, ◌∙◌, ◌⊎◌, inl, inr}
use Rattle.std.specs.Prelude.{◌==◌, Contains, is_some, slice_index_or}
use Rattle.std.specs.Option.{IsSomeAnd}
use Rattle.lrspec.specs.grammars.Grammar.{Token, Grammar, body_of}
use Rattle.lrspec.specs.grammars.ItemSets.{Items, item_at, LooksIn}
use Rattle.lrspec.specs.merging.Graph.{Graph, closed_of, edge}
use Rattle.lrspec.specs.tables.Table as table
use Rattle.lrspec.specs.tables.Table.{IsContender}
use Rattle.lrbits.specs.Bits.{bit}
use Rattle.lrclosing.proofs.ItemKeys.{eq_parts}
use Rattle.lrconflicts.specs.Moves.{Move, Shift, Reduce, candidate_of}
use Rattle.lrdecided.specs.Contenders.{KeepsCompletes, HasComplete, HasCompletes, KeepsMoves, HasReductions, HasContenders}
use Rattle.lrdecided.proofs.CollectedInTurn.{first_or_behind, none_contained}

-- an item of a list that looks at a token is the first, or among the rest
pub first_or_rest_looks :
    (p d : ℕ) (ctx : List Bool) (rest : Items) (i e t : ℕ) → LooksIn (((p, d), ctx) ∷ rest) i e t
    → ((p ≡ i) × (d ≡ e) × IsTrue (bit ctx t)) ⊎ LooksIn rest i e t
first_or_rest_looks p d ctx rest i e t h = go ((i == p) && (e == d)) refl h
  where
    go :
        (b : Bool) → ((i == p) && (e == d)) ≡ b → IsSomeAnd (cond b (Some ctx) (item_at rest i e)) (λ v. IsTrue (slice_index_or v t false))
        → ((p ≡ i) × (d ≡ e) × IsTrue (bit ctx t)) ⊎ LooksIn rest i e t
    go true is l = let k = eq_parts i p e d is in inl (k.0, k.1, l)
    go false is l = inr l

-- a turn for each item of an item set: of those that are not left the complete ones are listed
abbrev pub HasCompletesBut : Grammar → Items → Items → List (ℕ × List Bool) → Type 0
HasCompletesBut g a left cs =
    (p t : ℕ) → LooksIn a p (length (body_of g p)) t → LooksIn left p (length (body_of g p)) t ⊎ HasComplete cs p t

pub begin_completes : (g : Grammar) (a : Items) (cs : List (ℕ × List Bool)) → HasCompletesBut g a a cs
begin_completes g a cs p t l = inl l

pub next_completes :
    (g : Grammar) (a left : Items) (p d : ℕ) (ctx : List Bool) (old new : List (ℕ × List Bool)) → HasCompletesBut g a (((p, d), ctx) ∷ left) old
    → KeepsCompletes old new → (d ≡ length (body_of g p) → Contains new (p, ctx)) → HasCompletesBut g a left new
next_completes g a left p d ctx old new k keeps here q t l = elim (k q t l) [
  | inl j ↦ elim (first_or_rest_looks p d ctx left q (length (body_of g q)) t j) [
    | inl same ↦
        let whole : d ≡ length (body_of g p) = same.1 ∙ ap (λ (r : ℕ). length (body_of g r)) (sym same.0) in
        inr (ctx, subst (λ (r : ℕ). Contains new (r, ctx)) same.0 (here whole), same.2)
    | inr r ↦ inl r
  ]
  | inr j ↦ inr (j.0, keeps (q, j.0) j.1, j.2)
]

none_looks : (left : Items) (p d t : ℕ) → left ≡ [] → LooksIn left p d t → ⊥
none_looks left p d t none l = absurd (subst (λ (a : Items). LooksIn a p d t) none l)

pub end_completes : (g : Grammar) (a left : Items) (cs : List (ℕ × List Bool)) → left ≡ [] → HasCompletesBut g a left cs → HasCompletes g a cs
end_completes g a left cs none k p t l = elim (k p t l) [ inl j ↦ absurd (none_looks left p (length (body_of g p)) t none j) | inr j ↦ j ]

-- a turn for each complete item: of those that are not left the reductions are listed
abbrev pub HasReductionsBut : List (ℕ × List Bool) → List (ℕ × List Bool) → ℕ → List Move → Type 0
HasReductionsBut cs left t moves = (p : ℕ) → HasComplete cs p t → HasComplete left p t ⊎ Contains moves (Reduce p)

pub begin_reductions : (cs : List (ℕ × List Bool)) (t : ℕ) (moves : List Move) → HasReductionsBut cs cs t moves
begin_reductions cs t moves p h = inl h

pub next_reductions :
    (cs left : List (ℕ × List Bool)) (p : ℕ) (v : List Bool) (t : ℕ) (old new : List Move) → HasReductionsBut cs ((p, v) ∷ left) t old → KeepsMoves old new
    → (IsTrue (bit v t) → Contains new (Reduce p)) → HasReductionsBut cs left t new
next_reductions cs left p v t old new k keeps here q h = elim (k q h) [
  | inl j ↦ elim (first_or_behind (p, v) left (q, j.0) j.1) [
    | inl same ↦
        let production : q ≡ p = ap (λ (c : ℕ × List Bool). c.0) same in
        let bits : j.0 ≡ v = ap (λ (c : ℕ × List Bool). c.1) same in
        inr (subst (λ (r : ℕ). Contains new (Reduce r)) (sym production) (here (subst (λ (w : List Bool). IsTrue (bit w t)) bits j.2)))
    | inr i ↦ inl (j.0, i, j.2)
  ]
  | inr j ↦ inr (keeps (Reduce q) j)
]

pub end_reductions : (cs left : List (ℕ × List Bool)) (t : ℕ) (moves : List Move) → left ≡ [] → HasReductionsBut cs left t moves → HasReductions cs t moves
end_reductions cs left t moves none k p h = elim (k p h) [ inl j ↦ absurd (none_contained (p, j.0) (rw none at j.1)) | inr j ↦ j ]

module _ (g : Grammar) (h : Graph) (s t : ℕ) (cs : List (ℕ × List Bool)) (completes : HasCompletes g (closed_of h s) cs) where
  -- where there is no edge the reductions are all
  pub all_without_shift : (moves : List Move) → HasReductions cs t moves → (b : Bool) → b ≡ is_some (edge h s (Token t)) → b ≡ false → HasContenders g h s t moves
  all_without_shift moves reductions b is none m k = go m k
    where
      go : (m : Move) → IsContender g h s t (candidate_of m) → Contains moves m
      go Shift (table.IsContender.shift {u} e) = let some : b ≡ true = is ∙ ap is_some e in absurd cc
      go (Reduce p) (table.IsContender.reduce differ l) = reductions p (completes p t l)

  -- and else the shift is one more
  pub all_with_shift : (old new : List Move) → HasReductions cs t old → KeepsMoves old new → Contains new Shift → HasContenders g h s t new
  all_with_shift old new reductions keeps here m k = go m k
    where
      go : (m : Move) → IsContender g h s t (candidate_of m) → Contains new m
      go Shift e = here
      go (Reduce p) (table.IsContender.reduce differ l) = keeps (Reduce p) (reductions p (completes p t l))

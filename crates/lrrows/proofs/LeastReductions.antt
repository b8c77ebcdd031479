-- the least production by which an item set reduces on a token, by its complete items
use Rattle.std.proofs.Common.{◌≡◌, ℕ, Bool, true, false, cond, List, [], ◌∷◌, map, Some, refl, sym, ap, ◌∙◌}
use Rattle.std.specs.Prelude.{filter, slice_index_or}
use Rattle.std.specs.List.{range_with_len}
use Rattle.lrspec.specs.grammars.Grammar.{Grammar, token_count}
use Rattle.lrspec.specs.grammars.ItemSets.{Items, AreUpwards, Fits}
use Rattle.lrspec.specs.tables.Table.{reductions}
use Rattle.lrrows.specs.StateRows.{complete_items, first_at, first_of, least_reductions}
use Rattle.lrrows.proofs.ReductionsOf.{reductions_are}

-- the first that looks at the token is the first of those that look at it
first_kept : (t : ℕ) (cs : List (ℕ × List Bool)) → first_at cs t ≡ first_of (map (λ c. c.0) (filter (λ c. slice_index_or c.1 t false) cs))
first_kept t [] = refl
first_kept t (c ∷ cs) = go (slice_index_or c.1 t false) (first_kept t cs)
  where
    kept : List (ℕ × List Bool)
    kept = filter (λ b. slice_index_or b.1 t false) cs

    go : (b : Bool) → first_at cs t ≡ first_of (map (λ x. x.0) kept) → cond b (Some c.0) (first_at cs t) ≡ first_of (map (λ x. x.0) (cond b (c ∷ kept) kept))
    go true h = refl
    go false h = h

-- the first complete item that looks at the token is of the least reduction
pub first_is : (g : Grammar) (a : Items) (t : ℕ) → AreUpwards a → Fits g a → first_at (complete_items g a) t ≡ first_of (reductions g a t)
first_is g a t upwards fits = first_kept t (complete_items g a) ∙ ap first_of (sym (reductions_are g a t upwards fits))

-- token by token they are the least reductions
pub least_is :
    (g : Grammar) (a : Items) → AreUpwards a → Fits g a
    → map (first_at (complete_items g a)) (range_with_len 0 (token_count g)) ≡ least_reductions g a
least_is g a upwards fits = go (range_with_len 0 (token_count g))
  where
    go : (ts : List ℕ) → map (first_at (complete_items g a)) ts ≡ map (λ t. first_of (reductions g a t)) ts
    go [] = refl
    go (t ∷ ts) = rw (first_is g a t upwards fits, go ts) refl

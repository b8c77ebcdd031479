-- the start item alone
use Rattle.std.proofs.Common.{◌≡◌, ℕ, zero, suc, ◌<◌, Bool, true, false, ◌&&◌, List, [], ◌∷◌, None, Some, length, refl, sym, ap, ◌∙◌, ◌⊎◌, inl, inr, ⊎_elim, arith, replicate, length-set}
use Rattle.std.specs.Prelude.{◌==◌, IsTrue, ◌↔◌, slice_set, slice_index_or}
use Rattle.std.proofs.lemmas.List.{length-replicate}
use Rattle.std.proofs.lemmas.Bool.Decides.{nat_tests}
use Rattle.lrspec.specs.grammars.Grammar.{Grammar, IsGrammar, token_count, end_token}
use Rattle.lrspec.specs.grammars.StartState.{IsStartCore}
use Rattle.lrspec.specs.grammars.ItemSets.{Items, item_at, HasItem, LooksIn, Fits}

both_parts : (a b : Bool) → (a && b) ≡ true → (a ≡ true) × (b ≡ true)
both_parts true b h = (refl, h)
both_parts false b h = cc

same_number : (p q : ℕ) → (p == q) ≡ true → q ≡ p
same_number p q h = grind (arith, nat_tests)

same_or_apart : (p d q e : ℕ) → ((q ≡ p) × (e ≡ d)) ⊎ (p ≡ q → d ≡ e → ⊥)
same_or_apart p d q e = go ((p == q) && (d == e)) refl
  where
    go : (b : Bool) → ((p == q) && (d == e)) ≡ b → ((q ≡ p) × (e ≡ d)) ⊎ (p ≡ q → d ≡ e → ⊥)
    go true h = let b = both_parts (p == q) (d == e) h in inl (same_number p q b.0, same_number d e b.1)
    go false h = inr (λ i j. grind (arith, nat_tests))

-- one bit that is set looks there alone
no_bit : (n t : ℕ) → slice_index_or (replicate n false) t false ≡ false
no_bit zero t = refl
no_bit (suc n) zero = refl
no_bit (suc n) (suc t) = no_bit n t

only_bit : (n l t : ℕ) → IsTrue (slice_index_or (slice_set (replicate n false) l true) t false) → t ≡ l
only_bit zero l t h = cc
only_bit (suc n) zero zero h = refl
only_bit (suc n) zero (suc t) h = let y : false ≡ true = sym (no_bit n t) ∙ h in absurd cc
only_bit (suc n) (suc l) zero h = cc
only_bit (suc n) (suc l) (suc t) h = ap suc (only_bit n l t h)

set_bit : (n l : ℕ) → l < n → IsTrue (slice_index_or (slice_set (replicate n false) l true) l false)
set_bit zero l below = absurd (omega (arith, below))
set_bit (suc n) zero below = refl
set_bit (suc n) (suc l) below = set_bit n l (omega (arith, below))

one_bit : (n l t : ℕ) → l < n → IsTrue (slice_index_or (slice_set (replicate n false) l true) t false) ↔ (t ≡ l)
one_bit n l t below = (only_bit n l t, λ e. rw e (set_bit n l below))

-- of one item, that one alone is there
item_of_one : (k : ℕ) (v : List Bool) → item_at (((k, 0), v) ∷ []) k 0 ≡ Some v
item_of_one k v = grind (arith, nat_tests, item_at)

none_of_one : (k : ℕ) (v : List Bool) (p e : ℕ) → (k ≡ p → 0 ≡ e → ⊥) → item_at (((k, 0), v) ∷ []) p e ≡ None
none_of_one k v p e x = grind (arith, nat_tests, item_at)

module _
    (g : Grammar) (b : Items) (v : List Bool) (here : item_at b g.start_production 0 ≡ Some v)
    (others : (p d : ℕ) → (g.start_production ≡ p → 0 ≡ d → ⊥) → item_at b p d ≡ None)
    (bits : v ≡ slice_set (replicate (token_count g) false) (end_token g) true)
  where
    has_start : HasItem b g.start_production 0
    has_start = rw here refl

    only_start : (p d : ℕ) → HasItem b p d → (p ≡ g.start_production) × (d ≡ 0)
    only_start p d h =
        ⊎_elim (λ s. s) (λ x. let y : false ≡ true = rw (others p d x) at h in absurd cc) (same_or_apart g.start_production 0 p d)

    looks_bit : (t : ℕ) → IsTrue (slice_index_or v t false) ↔ (t ≡ end_token g)
    looks_bit t = rw bits (one_bit (token_count g) (end_token g) t (omega arith))

    looks_at_end : (t : ℕ) → LooksIn b g.start_production 0 t → t ≡ end_token g
    looks_at_end t h = (looks_bit t).0 (rw here at h)

    end_looked_at : (t : ℕ) → t ≡ end_token g → LooksIn b g.start_production 0 t
    end_looked_at t e = rw here ((looks_bit t).1 e)

    only_looks : (p d t : ℕ) → LooksIn b p d t → (p ≡ g.start_production) × (d ≡ 0) × (t ≡ end_token g)
    only_looks p d t h =
        ⊎_elim (λ (s : (p ≡ g.start_production) × (d ≡ 0)). (s.0, s.1, looks_at_end t (rw (s.0, s.1) at h))) (λ x. absurd (rw (others p d x) at h))
        (same_or_apart g.start_production 0 p d)

    start_alone : IsStartCore g b
    start_alone = record {
      item = λ p d. (only_start p d, λ s. rw (s.0, s.1) has_start);
      look = λ p d t. (only_looks p d t, λ s. rw (s.0, s.1) (end_looked_at t s.2));
    }

    -- it fits the grammar
    start_fits : IsGrammar g → Fits g b
    start_fits shape p d w h =
        let s = only_start p d (rw h refl) in
        let there : item_at b g.start_production 0 ≡ Some w = rw (s.0, s.1) at h in
        let both : Some w ≡ Some v = sym there ∙ here in
        let same : w ≡ v = cc in
        rw (s.0, s.1) record {
          production = omega (arith, shape.last);
          dot = omega arith;
          bits = ap length same ∙ ap length bits ∙ length-set (replicate (token_count g) false) (end_token g) true ∙ length-replicate (token_count g) false;
        }

-- the start item, looking at the end token alone, is a start core, which fits the grammar
pub one_start :
    (g : Grammar) (a : Items) (k d l n : ℕ) (zeros v : List Bool) → IsGrammar g → a ≡ ((k, d), v) ∷ []
    → k ≡ g.start_production → d ≡ 0 → l ≡ end_token g → n ≡ token_count g → zeros ≡ replicate n false → v ≡ slice_set zeros l true
    → IsStartCore g a × Fits g a
one_start g a k d l n zeros v shape one is_start is_zero is_end is_count are_zeros set =
    (start_alone g a v at_start apart bits, start_fits g a v at_start apart bits shape)
  where
    literal : a ≡ ((g.start_production, 0), v) ∷ []
    literal = rw (← is_start, ← is_zero) one

    at_start : item_at a g.start_production 0 ≡ Some v
    at_start = rw literal (item_of_one g.start_production v)

    apart : (p e : ℕ) → (g.start_production ≡ p → 0 ≡ e → ⊥) → item_at a p e ≡ None
    apart p e x = rw literal (none_of_one g.start_production v p e x)

    bits : v ≡ slice_set (replicate (token_count g) false) (end_token g) true
    bits =
        set ∙ ap (λ z. slice_set z l true) (are_zeros ∙ ap (λ m. replicate m false) is_count)
        ∙ ap (λ z. slice_set (replicate (token_count g) false) z true) is_end

-- lists of the least productions by which a state reduces, token by token
use Rattle.std.proofs.Common.{◌≡◌, ℕ, zero, suc, ◌+◌, ◌<◌, Bool, true, false, cond, List, ◌∷◌, length, map, get_or, Option, None, Some, IfSome, option_map, sym, ap, ◌∙◌, arith}
use Rattle.std.specs.List.{filter, range_with_len}
use Rattle.std.proofs.Math.ListN.{get_or-map}
use Rattle.std.proofs.lemmas.List.{length-map}
use Rattle.std.proofs.lemmas.List.FromFn.{length-map-range_with_len, get_or-map-range_with_len}
use Rattle.lrspec.specs.grammars.Grammar.{Grammar}
use Rattle.lrspec.specs.grammars.ItemSets.{Items}
use Rattle.lrspec.specs.tables.Table.{reductions}
use Rattle.lrrows.specs.StateRows.{first_of}

module _ {X Y : Type 0} (f : X → Y) (h : ℕ → Y) (xs : List X) (n : ℕ) (listed : map f xs ≡ map h (range_with_len 0 n)) where
  -- there are as many as places
  pub as_many : length xs ≡ n
  as_many = sym (length-map xs f) ∙ ap length listed ∙ length-map-range_with_len h 0 n

  -- what stands at a place
  pub listed_at : (i : ℕ) (d : X) → i < n → f (get_or xs i d) ≡ h i
  listed_at i d l =
      sym (get_or-map f xs i d) ∙ ap (λ ys. get_or ys i (f d)) listed ∙ get_or-map-range_with_len h 0 n i i (f d) l (omega arith)

first_in_range : (f : ℕ → Bool) (a n p : ℕ) → first_of (filter f (range_with_len a n)) ≡ Some p → p < a + n
first_in_range f a zero p h = cc
first_in_range f a (suc n) p h = go (f a) (λ k. first_in_range f (a + 1) n p k) h
  where
    go :
        (b : Bool) → (first_of (filter f (range_with_len (a + 1) n)) ≡ Some p → p < a + 1 + n)
        → first_of (cond b (a ∷ filter f (range_with_len (a + 1) n)) (filter f (range_with_len (a + 1) n))) ≡ Some p → p < a + suc n
    go true r k = let e : a ≡ p = cc in omega arith
    go false r k = omega (arith, r k)

-- the least production by which an item set reduces is one of the grammar
pub first_is_of_grammar : (g : Grammar) (a : Items) (t p : ℕ) → first_of (reductions g a t) ≡ Some p → p < length g.productions
first_is_of_grammar g a t p h = omega (arith, first_in_range _ 0 (length g.productions) p h)

-- and so is the production that is stored for it
pub some_first :
    {X : Type 0} (number : X → ℕ) (g : Grammar) (a : Items) (t : ℕ) (o : Option X) → option_map number o ≡ first_of (reductions g a t)
    → IfSome o (λ x. number x < length g.productions)
some_first number g a t None e = tt
some_first number g a t (Some x) e = first_is_of_grammar g a t (number x) (sym e)

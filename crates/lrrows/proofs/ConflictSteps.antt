-- conflicts that are added one after the other
use Rattle.std.proofs.Common.{◌≡◌, ℕ, suc, ◌+◌, ◌<◌, Bool, false, List, [], ◌∷◌, ◌++◌, Option, None, Some, length, map, option_map, take, get_or, refl, sym, ap, ◌∙◌, inl, inr, arith}
use Rattle.std.specs.Prelude.{filter}
use Rattle.std.specs.Option.{IfSome}
use Rattle.std.specs.List.{filter_map, range_with_len}
use Rattle.std.proofs.Math.Seq.{take-length}
use Rattle.std.proofs.lemmas.List.{append_assoc, map-append, get_or-map, length-map}
use Rattle.std.proofs.lemmas.List.FromFn.{length-map-range_with_len, get_or-map-range_with_len}
use Rattle.lrspec.specs.grammars.Grammar.{Grammar}
use Rattle.lrspec.specs.grammars.ItemSets.{Items}
use Rattle.lrspec.specs.tables.Table.{reductions}
use Rattle.lrspec.specs.texts.PrintedTexts.{set_bits}
use Rattle.lrspec.proofs.grammars.ListMembers.{Among, from_filter, below_from_range}
use Rattle.lrgrammar.specs.Bits.{places, set_places}
use Rattle.lrrows.specs.StateRows.{first_of}
use Rattle.lrrows.specs.ReduceReduce.{reduce_reduce_by_least}

-- the entry for the token `t` in the state `s`, where `q` is the other production
abbrev pub reduce_reduce_on : List (Option ℕ) → ℕ → ℕ → ℕ → Option (ℕ × ℕ × ℕ × ℕ)
reduce_reduce_on least s q t = reduce_reduce_by_least (get_or least t None) q s t

-- numbers that come one after the other are below what all are below
pub next_below : (n t : ℕ) (ts us : List ℕ) → ts ≡ t ∷ us → ((u : ℕ) → Among u ts → u < n) → t < n
next_below n t ts us e h = h t (rw e (inl refl))

pub rest_below : (n t : ℕ) (ts us : List ℕ) → ts ≡ t ∷ us → ((u : ℕ) → Among u ts → u < n) → (u : ℕ) → Among u us → u < n
rest_below n t ts us e h u i = h u (rw e (inr i))

places_are :
    (n : ℕ) (v w : List Bool) → ((i : ℕ) → get_or w (n + i) false ≡ get_or v i false)
    → places n v ≡ filter (λ t. get_or w t false) (range_with_len n (length v))
places_are n [] w h = refl
places_are n (b ∷ v) w h =
    let here : get_or w n false ≡ b = ap (λ k. get_or w k false) (omega arith) ∙ h 0 in
    let there = places_are (n + 1) v w (λ i. ap (λ k. get_or w k false) (omega arith) ∙ h (suc i)) in
    rw (here, there) refl

-- the set places of all bits are the set bits
pub set_places_are : (v : List Bool) → set_places v 0 (length v) ≡ set_bits v
set_places_are v =
    ap (λ k. places 0 (take k v)) (omega arith) ∙ ap (places 0) (take-length v) ∙ places_are 0 v v (λ i. ap (λ k. get_or v k false) (omega arith))

-- and they are below the number of bits
pub set_bits_below : (v : List Bool) (t : ℕ) → Among t (set_bits v) → t < length v
set_bits_below v t i = below_from_range (length v) t (from_filter _ t (range_with_len 0 (length v)) i)

module _ {X Y : Type 0} where
  added_one :
      (f : X → Option Y) (x : X) (xs : List X) (y : Y) (ys zs : List Y) → f x ≡ Some y → ys ++ filter_map f (x ∷ xs) ≡ zs
      → (ys ++ y ∷ []) ++ filter_map f xs ≡ zs
  added_one f x xs y ys zs e h = append_assoc ys (y ∷ []) (filter_map f xs) ∙ (rw e at h)

  added_none :
      (f : X → Option Y) (x : X) (xs : List X) (ys zs : List Y) → f x ≡ None → ys ++ filter_map f (x ∷ xs) ≡ zs → ys ++ filter_map f xs ≡ zs
  added_none f x xs ys zs e h = rw e at h

module _ {P E : Type 0} (number : P → ℕ) (shown : E → ℕ × ℕ × ℕ × ℕ) where
  reduce_reduce_at_token :
      (least : List (Option P)) (s q t : ℕ) (o : Option P) (r : Option E) → t < length least → o ≡ get_or least t o
      → option_map shown r ≡ reduce_reduce_by_least (option_map number o) q s t → reduce_reduce_on (map (option_map number) least) s q t ≡ option_map shown r
  reduce_reduce_at_token least s q t o r l k h =
      let here : get_or (map (option_map number) least) t None ≡ option_map number o = get_or-map (option_map number) least t o None l ∙ ap (option_map number) (sym k) in
      ap (λ x. reduce_reduce_by_least x q s t) here ∙ sym h

  -- the entry for the next token is added
  pub reduce_reduce_added :
      (least : List (Option P)) (s q t : ℕ) (ts us : List ℕ) (o : Option P) (r : Option E) (e : E) (old new : List E) (zs : List (ℕ × ℕ × ℕ × ℕ))
      → ts ≡ t ∷ us → t < length least → o ≡ get_or least t o → option_map shown r ≡ reduce_reduce_by_least (option_map number o) q s t → r ≡ Some e
      → new ≡ old ++ e ∷ [] → map shown old ++ filter_map (reduce_reduce_on (map (option_map number) least) s q) ts ≡ zs
      → map shown new ++ filter_map (reduce_reduce_on (map (option_map number) least) s q) us ≡ zs
  reduce_reduce_added least s q t ts us o r e old new zs i l k h m n w =
      let f = reduce_reduce_on (map (option_map number) least) s q in
      let here : f t ≡ Some (shown e) = reduce_reduce_at_token least s q t o r l k h ∙ ap (option_map shown) m in
      rw (n, map-append shown old (e ∷ [])) (added_one f t us (shown e) (map shown old) zs here (rw i at w))

  -- or there is none
  pub reduce_reduce_passed :
      (least : List (Option P)) (s q t : ℕ) (ts us : List ℕ) (o : Option P) (r : Option E) (old : List E) (zs : List (ℕ × ℕ × ℕ × ℕ))
      → ts ≡ t ∷ us → t < length least → o ≡ get_or least t o → option_map shown r ≡ reduce_reduce_by_least (option_map number o) q s t → r ≡ None
      → map shown old ++ filter_map (reduce_reduce_on (map (option_map number) least) s q) ts ≡ zs
      → map shown old ++ filter_map (reduce_reduce_on (map (option_map number) least) s q) us ≡ zs
  reduce_reduce_passed least s q t ts us o r old zs i l k h m w =
      let f = reduce_reduce_on (map (option_map number) least) s q in
      let here : f t ≡ None = reduce_reduce_at_token least s q t o r l k h ∙ ap (option_map shown) m in
      added_none f t us (map shown old) zs here (rw i at w)

module _ {X E Y : Type 0} (shown : E → Y) (f : X → Option Y) (x : X) (xs ts : List X) (r : Option E) where
  -- what the next one gives is added
  pub entry_added :
      (e : E) (old new : List E) (zs : List Y) → ts ≡ x ∷ xs → option_map shown r ≡ f x → r ≡ Some e → new ≡ old ++ e ∷ []
      → map shown old ++ filter_map f ts ≡ zs → map shown new ++ filter_map f xs ≡ zs
  entry_added e old new zs i h m n w =
      rw (n, map-append shown old (e ∷ [])) (added_one f x xs (shown e) (map shown old) zs (sym h ∙ ap (option_map shown) m) (rw i at w))

  -- or it gives nothing
  pub entry_passed :
      (old : List E) (zs : List Y) → ts ≡ x ∷ xs → option_map shown r ≡ f x → r ≡ None → map shown old ++ filter_map f ts ≡ zs
      → map shown old ++ filter_map f xs ≡ zs
  entry_passed old zs i h m w = added_none f x xs (map shown old) zs (sym h ∙ ap (option_map shown) m) (rw i at w)

first_among : (rs : List ℕ) (q : ℕ) → Some q ≡ first_of rs → Among q rs
first_among [] q e = absurd cc
first_among (p ∷ ps) q e = inl cc

module _ {P : Type 0} (number : P → ℕ) where
  -- there is an entry for each token
  pub least_long :
      (least : List (Option P)) (f : ℕ → Option ℕ) (n : ℕ) → map (option_map number) least ≡ map f (range_with_len 0 n) → length least ≡ n
  least_long least f n e = sym (length-map least (option_map number)) ∙ ap length e ∙ length-map-range_with_len f 0 n

  -- and it is that of the token
  pub least_at :
      (least : List (Option P)) (f : ℕ → Option ℕ) (n t : ℕ) (o : Option P) → map (option_map number) least ≡ map f (range_with_len 0 n) → t < n
      → o ≡ get_or least t o → option_map number o ≡ f t
  least_at least f n t o e l k =
      ap (option_map number) k ∙ sym (get_or-map (option_map number) least t o None (omega (arith, least_long least f n e)))
      ∙ ap (λ xs. get_or xs t None) e ∙ get_or-map-range_with_len f 0 n t t None l (omega arith)

  -- the least production is one of the grammar
  pub least_below :
      (g : Grammar) (a : Items) (t : ℕ) (o : Option P) → option_map number o ≡ first_of (reductions g a t) → IfSome o (λ p. number p < length g.productions)
  least_below g a t None e = tt
  least_below g a t (Some p) e =
      below_from_range (length g.productions) (number p) (from_filter _ (number p) (range_with_len 0 (length g.productions)) (first_among (reductions g a t) (number p) e))

-- edges that were sorted stably by target are the edges by target
use Rattle.std.proofs.Common.{◌≡◌, ℕ, zero, suc, ◌+◌, ◌<◌, ◌≤◌, Bool, true, false, List, [], ◌∷◌, ◌++◌, get_or, refl, sym, ap, ◌∙◌, arith}
use Rattle.std.specs.Prelude.{◌==◌, map}
use Rattle.std.specs.List.{All, filter, flat_map, range_with_len}
use Rattle.std.specs.List.Sorted.{IsNonDecreasingBy, IsSortedBy, IsSortedByKey, IsStableBy, IsStableByKey, IsPermutation, ties}
use Rattle.std.specs.declared.cmp.Ordering.{Ordering}
use Rattle.std.specs.Ordering.{nat_cmp, is_lt}
use Rattle.std.proofs.lemmas.Bool.Decides.{nat_tests}
use Rattle.std.proofs.lemmas.List.{map-append}
use Rattle.std.proofs.lemmas.List.Elements.{All-cons, All-head, All-nil, All-same, All-tail, filter_agree, filter_passes}
use Rattle.std.proofs.lemmas.List.Sorted.{IsNonDecreasingBy-from_sort, All-permutation}
use Rattle.lrgrammar.specs.declared.idx.Symbol.{Symbol}
use Rattle.lrgrammar.specs.Symbols.{symbol_of}
use Rattle.lrspec.specs.grammars.Grammar as math
use Rattle.lrspec.specs.texts.PrintedTexts.{edges_by_target}
use Rattle.lrgraphs.specs.GraphOf.{edges_of}

-- ---- a list sorted stably by a number key

module _ {X : Type 0} (key : X → ℕ) where
  -- the elements whose key is `u`
  abbrev pub keyed : ℕ → List X → List X
  keyed u xs = filter (λ x. key x == u) xs

  -- those whose key is one of the `n` from `a` on, by key
  abbrev pub groups : ℕ → ℕ → List X → List X
  groups a n xs = flat_map (λ u. keyed u xs) (range_with_len a n)

  -- none has a key below all keys
  none_below : (b u : ℕ) (xs : List X) → u < b → All (λ x. b ≤ key x) xs → keyed u xs ≡ []
  none_below b u [] l h = refl
  none_below b u (x ∷ xs) l h =
      let here : b ≤ key x = h 0 x (omega arith) in
      let no : (key x == u) ≡ false = grind (arith, nat_tests) in
      rw no (none_below b u xs l (λ k d m. h (suc k) d (omega arith)))

  -- an element whose key is passed is in none of the groups to come
  skipped : (x : X) (xs : List X) (a n : ℕ) → key x < a → groups a n (x ∷ xs) ≡ groups a n xs
  skipped x xs a zero l = refl
  skipped x xs a (suc n) l =
      let no : (key x == a) ≡ false = grind (arith, nat_tests) in
      rw no (ap (λ ys. keyed a xs ++ ys) (skipped x xs (a + 1) n (omega arith)))

  -- an element of least key comes first
  first_of_groups : (x : X) (xs : List X) → All (λ y. key x ≤ key y) xs → (a n : ℕ) → a ≤ key x → key x < a + n → groups a n (x ∷ xs) ≡ x ∷ groups a n xs
  first_of_groups x xs h a zero l m = absurd (omega (arith, l, m))
  first_of_groups x xs h a (suc n) l m = go (key x == a) refl (λ p. first_of_groups x xs h (a + 1) n p (omega arith))
    where
      go :
          (b : Bool) → (key x == a) ≡ b → (a + 1 ≤ key x → groups (a + 1) n (x ∷ xs) ≡ x ∷ groups (a + 1) n xs)
          → groups a (suc n) (x ∷ xs) ≡ x ∷ groups a (suc n) xs
      go true i later =
          let same : key x ≡ a = grind (arith, nat_tests) in
          rw i (ap (λ ys. x ∷ (keyed a xs ++ ys)) (skipped x xs (a + 1) n (omega arith)))
      go false i later =
          let more : a < key x = grind (arith, nat_tests) in
          rw (i, none_below (key x) a xs more h) (later (omega arith))

  -- a list in order of its keys is its groups
  in_groups : (xs : List X) (n : ℕ) → IsNonDecreasingBy key xs → All (λ x. key x < n) xs → xs ≡ groups 0 n xs
  in_groups [] n up below = sym (none n 0)
    where
      none : (m a : ℕ) → groups a m [] ≡ []
      none zero a = refl
      none (suc m) a = none m (a + 1)
  in_groups (x ∷ xs) n up below =
      let least : All (λ y. key x ≤ key y) xs = λ k d l. up 0 (suc k) d (omega arith) (omega arith) in
      let under : key x < n = below 0 x (omega arith) in
      ap (λ ys. x ∷ ys) (in_groups xs n (λ i j d l m. up (suc i) (suc j) d (omega arith) (omega arith)) (λ k d l. below (suc k) d (omega arith)))
      ∙ sym (first_of_groups x xs least 0 n (omega arith) (omega arith))

  -- elements that tie are those of one key
  tie_of : (lt : X → X → Bool) → ((x y : X) → lt x y ≡ is_lt (nat_cmp (key x) (key y))) → (x y : X) → ties lt x y ≡ (key y == key x)
  tie_of lt by x y = rw (by x y, by y x) (grind (arith, nat_tests))

  -- the first of the elements of a key has it
  head_key : (u : ℕ) (ys : List X) (x : X) (rest : List X) → keyed u ys ≡ x ∷ rest → key x ≡ u
  head_key u ys x rest e =
      let passes = All-same (λ y. (key y == u) ≡ true) (x ∷ rest) (keyed u ys) (sym e) (filter_passes (λ y. key y == u) ys) in
      let same = All-head (λ y. (key y == u) ≡ true) x rest passes in
      grind (arith, nat_tests)

  -- a stable sort keeps the elements of each key, in their order
  same_keyed :
      (lt : X → X → Bool) → ((x y : X) → lt x y ≡ is_lt (nat_cmp (key x) (key y))) → (xs ys : List X) → IsStableBy lt xs ys
      → (u : ℕ) → keyed u ys ≡ keyed u xs
  same_keyed lt by xs ys stable u = go (keyed u ys) (keyed u xs) refl refl
    where
      at : (x : X) → key x ≡ u → keyed u ys ≡ keyed u xs
      at x e =
          let agree : (y : X) → ties lt x y ≡ (key y == u) = λ y. tie_of lt by x y ∙ ap (λ k. key y == k) e in
          sym (filter_agree (ties lt x) (λ y. key y == u) agree ys) ∙ stable x ∙ filter_agree (ties lt x) (λ y. key y == u) agree xs

      go : (a b : List X) → keyed u ys ≡ a → keyed u xs ≡ b → keyed u ys ≡ keyed u xs
      go (x ∷ a) b e f = at x (head_key u ys x a e)
      go [] (x ∷ b) e f = at x (head_key u xs x b f)
      go [] [] e f = e ∙ sym f

  -- a stable sort by the key gives the groups of what was sorted
  pub groups_from_sort :
      (lt : X → X → Bool) → ((x y : X) → lt x y ≡ is_lt (nat_cmp (key x) (key y))) → (xs ys : List X)
      → IsPermutation xs ys → IsSortedBy lt ys → IsStableBy lt xs ys → (n : ℕ) → All (λ x. key x < n) xs → ys ≡ groups 0 n xs
  groups_from_sort lt by xs ys moved sorted stable n below =
      let up = IsNonDecreasingBy-from_sort key ys (λ k d l m. sym (by (get_or ys (k + 1) d) (get_or ys k d)) ∙ sorted k d l m) in
      in_groups ys n up (All-permutation (λ x. key x < n) xs ys moved below)
      ∙ grouped (range_with_len 0 n)
    where
      grouped : (us : List ℕ) → flat_map (λ u. keyed u ys) us ≡ flat_map (λ u. keyed u xs) us
      grouped [] = refl
      grouped (u ∷ us) = rw (same_keyed lt by xs ys stable u) (ap (λ zs. keyed u xs ++ zs) (grouped us))

-- ---- edges by their numbers

filter_of_map : {X Y : Type 0} (g : X → Y) (p : Y → Bool) (xs : List X) → map g (filter (λ x. p (g x)) xs) ≡ filter p (map g xs)
filter_of_map g p [] = refl
filter_of_map g p (x ∷ xs) = go (p (g x)) refl (filter_of_map g p xs)
  where
    go : (b : Bool) → p (g x) ≡ b → map g (filter (λ y. p (g y)) xs) ≡ filter p (map g xs) → map g (filter (λ y. p (g y)) (x ∷ xs)) ≡ filter p (map g (x ∷ xs))
    go true i e = rw i (ap (λ ys. g x ∷ ys) e)
    go false i e = rw i e

module _ {X Y : Type 0} (g : X → Y) where
  map_of_groups : (key : Y → ℕ) (xs : List X) (us : List ℕ) → map g (flat_map (λ u. keyed (λ x. key (g x)) u xs) us) ≡ flat_map (λ u. keyed key u (map g xs)) us
  map_of_groups key xs [] = refl
  map_of_groups key xs (u ∷ us) =
      map-append g (keyed (λ x. key (g x)) u xs) (flat_map (λ v. keyed (λ x. key (g x)) v xs) us)
      ∙ rw (filter_of_map g (λ y. key y == u) xs) (ap (λ zs. keyed key u (map g xs) ++ zs) (map_of_groups key xs us))

  all_of_map : (P : Y → Type 0) (xs : List X) → All P (map g xs) → All (λ x. P (g x)) xs
  all_of_map P [] h = All-nil (λ x. P (g x))
  all_of_map P (x ∷ xs) h = All-cons (λ y. P (g y)) x xs (All-head P (g x) (map g xs) h) (all_of_map P xs (All-tail P (g x) (map g xs) h))

-- what a stable sort by target gives
pub edges_from_sort :
    {T X : Type 0} (number : T → ℕ) (state : X → ℕ) (cmp : X → X → Ordering) → ((u v : X) → cmp u v ≡ nat_cmp (state u) (state v))
    → (xs ys : List (Symbol T × X)) → IsPermutation xs ys → IsSortedByKey (λ e. e.1) cmp ys → IsStableByKey (λ e. e.1) cmp xs ys
    → (n : ℕ) → All (λ e. e.1 < n) (edges_of number state xs) → edges_of number state ys ≡ edges_by_target n (edges_of number state xs)
edges_from_sort {T} {X} number state cmp ordered xs ys moved sorted stable n below =
    let by : (d e : Symbol T × X) → is_lt (cmp d.1 e.1) ≡ is_lt (nat_cmp (state d.1) (state e.1)) = λ d e. ap is_lt (ordered d.1 e.1) in
    ap (map edge) (groups_from_sort (λ e. state e.1) (λ d e. is_lt (cmp d.1 e.1)) by xs ys moved sorted stable n (all_of_map edge (λ e. e.1 < n) xs below))
    ∙ map_of_groups edge (λ e. e.1) xs (range_with_len 0 n)
  where
    edge : Symbol T × X → math.Symbol × ℕ
    edge e = (symbol_of number e.0, state e.1)

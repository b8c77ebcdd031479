-- numbers that are taken away again and again, and ranks
use Rattle.std.proofs.Common.{◌≡◌, ℕ, zero, suc, ◌+◌, ◌<◌, ◌≤◌, List, [], ◌∷◌, ◌++◌, ◌⊎◌, inl, inr, length, length-append, get_or, take, drop, drop-cons, add-one, Bool, true, false, refl, sym, ap, ◌∙◌, subst, arith}
use Rattle.std.specs.Prelude.{Contains, IsTrue, ◌↔◌, ◌==◌}
use Rattle.std.proofs.lemmas.Bool.{cases_eq}
use Rattle.std.proofs.lemmas.List.{take_more, take_all, drop_all}
use Rattle.std.proofs.lemmas.List.Elements.{Contains-push, Contains-push_cases, Contains-append_left, Contains-get_or}
use Rattle.lrspec.proofs.grammars.ListMembers.{Among, among_from_contains, contains_from_among}
use Rattle.lrdecided.proofs.CollectedInTurn.{first_or_behind}
use Rattle.lrkept.specs.Pairs.{LeadsInto, IsLeftIf, AreLeft, CanBeRanked, LeadFromBelow}

-- a number is among others or not
among_or_not : (ns : List ℕ) (n : ℕ) → Among n ns ⊎ ¬ (Among n ns)
among_or_not [] n = inr (λ a. a)
among_or_not (m ∷ ns) n = elim (cases_eq n m) [
  | inl e ↦ inl (inl e)
  | inr d ↦ elim (among_or_not ns n) [
    | inl a ↦ inl (inr a)
    | inr k ↦ inr (λ a. elim a [ inl e ↦ d e | inr b ↦ k b ])
  ]
]

contained_or_not : (ns : List ℕ) (n : ℕ) → Contains ns n ⊎ ¬ (Contains ns n)
contained_or_not ns n = elim (among_or_not ns n) [
  | inl a ↦ inl (contains_from_among n ns a)
  | inr k ↦ inr (λ c. k (among_from_contains n ns c))
]

pub none_listed : {X : Type 0} (x : X) → Contains [] x → ⊥
none_listed x (k, l, e) = absurd (omega (arith, l))

-- a list that is tested not to be empty
pub not_empty : (n : ℕ) (b : Bool) → b ≡ (n == 0) → b ≡ false → 0 < n
not_empty zero b e f = let no : true ≡ false = sym e ∙ f in absurd cc
not_empty (suc n) b e f = omega arith

-- the bound where something holds, and else what it was
abbrev raised : {A : Type 0} → A ⊎ ¬ A → ℕ → ℕ → ℕ
raised (inl a) bound old = bound
raised (inr n) bound old = old

raised_in : {A : Type 0} (d : A ⊎ ¬ A) (bound old : ℕ) → A → raised d bound old ≡ bound
raised_in (inl b) bound old a = refl
raised_in (inr n) bound old a = absurd (n a)

raised_out : {A : Type 0} (d : A ⊎ ¬ A) (bound old : ℕ) → ¬ A → raised d bound old ≡ old
raised_out (inl a) bound old n = absurd (n a)
raised_out (inr k) bound old n = refl

raised_below : {A : Type 0} (d : A ⊎ ¬ A) (bound old : ℕ) → old < bound → raised d bound old < bound + 1
raised_below (inl a) bound old l = omega arith
raised_below (inr k) bound old l = omega arith

-- the bound for the numbers that were left, and the old ranks for the others
abbrev next_rank : List ℕ → ℕ → (ℕ → ℕ) → ℕ → ℕ
next_rank numbers bound rank n = raised (contained_or_not numbers n) bound (rank n)

-- numbers with the next one
pub listed_more : (old new : List ℕ) (k : ℕ) → new ≡ old ++ k ∷ [] → ((n : ℕ) → n < k → Contains old n) → (n : ℕ) → n < k + 1 → Contains new n
listed_more old new k pushed before n l = elim (cases_eq n k) [
  | inl e ↦ subst (λ (ns : List ℕ). Contains ns n) (sym pushed) (rw e (Contains-push old k))
  | inr d ↦ subst (λ (ns : List ℕ). Contains ns n) (sym pushed) (Contains-append_left old (k ∷ []) n (before n (omega (arith, l, d))))
]

-- a turn for each pair: a pair that leads so is left, or was not passed
module _ (pairs : List (ℕ × ℕ)) (i n : ℕ) (numbers : List ℕ) (before : (m : ℕ) → Contains pairs (n, m) → Contains numbers m → Contains (drop i pairs) (n, m)) where
  pub next_pair :
      (d : ℕ × ℕ) → i < length pairs → ¬ (((get_or pairs i d).0 ≡ n) × Contains numbers (get_or pairs i d).1)
      → (m : ℕ) → Contains pairs (n, m) → Contains numbers m → Contains (drop (i + 1) pairs) (n, m)
  next_pair d l none m p k =
      let cut : drop i pairs ≡ get_or pairs i d ∷ drop (i + 1) pairs = rw add-one (drop-cons pairs i d l) in
      elim (first_or_behind (get_or pairs i d) (drop (i + 1) pairs) (n, m) (subst (λ (ps : List (ℕ × ℕ)). Contains ps (n, m)) cut (before m p k))) [
        | inl e ↦ absurd (none (sym (ap (λ (x : ℕ × ℕ). x.0) e), subst (Contains numbers) (ap (λ (x : ℕ × ℕ). x.1) e) k))
        | inr j ↦ j
      ]

  pub no_pair : length pairs ≤ i → IsTrue false ↔ LeadsInto pairs n numbers
  no_pair l = (
    λ t. let no : false ≡ true = t in absurd cc,
    λ (m, p, k). absurd (none_listed (n, m) (subst (λ (ps : List (ℕ × ℕ)). Contains ps (n, m)) (drop_all i pairs l) (before m p k))),
  )

module _ (pairs : List (ℕ × ℕ)) where
  -- what is not left has ranks, which fall along pairs, and no pair leads from it to what is left
  pub record IsPeeled (left : List ℕ) : Type 0 where
    pub bound : ℕ
    pub rank : ℕ → ℕ
    pub below : (n : ℕ) → rank n < bound
    pub falls : (n m : ℕ) → Contains pairs (n, m) → ¬ (Contains left n) → (¬ (Contains left m)) × (rank m < rank n)

  -- at first all are left from which pairs lead
  pub begin_peeled : (count : ℕ) (left : List ℕ) → LeadFromBelow pairs count → ((n : ℕ) → n < count → Contains left n) → IsPeeled left
  begin_peeled count left from all = record {
    bound = 1;
    rank = λ n. 0;
    below = λ n. omega arith;
    falls = λ n m p out. absurd (out (all n (from n m p)));
  }

  -- those that are taken away get the next rank
  pub next_peeled : (numbers left : List ℕ) → IsPeeled numbers → AreLeft pairs numbers left → IsPeeled left
  next_peeled numbers left k a = record { bound = k.bound + 1; rank = next_rank numbers k.bound k.rank; below = λ n. raised_below (contained_or_not numbers n) k.bound (k.rank n) (k.below n); falls = falls }
    where
      stays : (m : ℕ) → ¬ (Contains numbers m) → next_rank numbers k.bound k.rank m ≡ k.rank m
      stays m out = raised_out (contained_or_not numbers m) k.bound (k.rank m) out

      falls : (n m : ℕ) → Contains pairs (n, m) → ¬ (Contains left n) → (¬ (Contains left m)) × (next_rank numbers k.bound k.rank m < next_rank numbers k.bound k.rank n)
      falls n m p out = elim (contained_or_not numbers n) [
        | inl i ↦ elim (a.gone n i) [
          | inl j ↦ absurd (out j)
          | inr none ↦
              let away : ¬ (Contains numbers m) = λ j. none (m, p, j) in
              let here : next_rank numbers k.bound k.rank n ≡ k.bound = raised_in (contained_or_not numbers n) k.bound (k.rank n) i in
              (λ j. away (a.within m j), omega (arith, here, stays m away, k.below m))
        ]
        | inr before ↦
            let old = k.falls n m p before in (λ j. old.0 (a.within m j), omega (arith, stays n before, stays m old.0, old.1))
      ]

  -- where none is left all are ranked
  pub end_peeled : (left : List ℕ) → IsPeeled left → left ≡ [] → CanBeRanked pairs
  end_peeled left k none = (k.bound, k.rank, k.below, λ n m p. (k.falls n m p (λ i. none_listed n (rw none at i))).1)

  -- where a pair leads from each to one of them there are no ranks
  descends :
      (numbers : List ℕ) (rank : ℕ → ℕ) → ((n m : ℕ) → Contains pairs (n, m) → rank m < rank n) → ((n : ℕ) → Contains numbers n → LeadsInto pairs n numbers)
      → (k n : ℕ) → Contains numbers n → rank n < k → ⊥
  descends numbers rank falls all zero n i l = absurd (omega (arith, l))
  descends numbers rank falls all (suc k) n i l =
      let (m, p, j) = all n i in
      descends numbers rank falls all k m j (omega (arith, l, falls n m p))

  pub never_ranked : (numbers left : List ℕ) → AreLeft pairs numbers left → length left ≡ length numbers → 0 < length numbers → ¬ (CanBeRanked pairs)
  never_ranked numbers left a same some (bound, rank, below, falls) =
      let first : ℕ = get_or numbers 0 0 in descends numbers rank falls (a.stuck same) bound first (Contains-get_or numbers 0 0 some) (below first)

  module _ (numbers : List ℕ) where
    -- those that are left of the first numbers
    pub record AreLeftOf (seen left : List ℕ) : Type 0 where
      pub gone : (n : ℕ) → Contains seen n → Contains left n ⊎ ¬ (LeadsInto pairs n numbers)
      pub within : (n : ℕ) → Contains left n → Contains seen n
      pub fewer : length left ≤ length seen
      pub stuck : length left ≡ length seen → (n : ℕ) → Contains seen n → LeadsInto pairs n numbers

    pub none_left : AreLeftOf [] []
    none_left = record {
      gone = λ n i. absurd (none_listed n i);
      within = λ n i. i;
      fewer = omega arith;
      stuck = λ e n i. absurd (none_listed n i);
    }

    -- one more that is left
    pub left_more : (seen left : List ℕ) (x : ℕ) → AreLeftOf seen left → LeadsInto pairs x numbers → AreLeftOf (seen ++ x ∷ []) (left ++ x ∷ [])
    left_more seen left x a leads = record {
      gone = λ n i. elim (Contains-push_cases seen x n i) [
        | inl j ↦ elim (a.gone n j) [ inl k ↦ inl (Contains-append_left left (x ∷ []) n k) | inr none ↦ inr none ]
        | inr e ↦ inl (subst (Contains (left ++ x ∷ [])) e (Contains-push left x))
      ];
      within = λ n i. elim (Contains-push_cases left x n i) [
        | inl j ↦ Contains-append_left seen (x ∷ []) n (a.within n j)
        | inr e ↦ subst (Contains (seen ++ x ∷ [])) e (Contains-push seen x)
      ];
      fewer = omega (arith, a.fewer, length-append seen (x ∷ []), length-append left (x ∷ []));
      stuck = λ e n i. elim (Contains-push_cases seen x n i) [
        | inl j ↦ a.stuck (omega (arith, e, length-append seen (x ∷ []), length-append left (x ∷ []))) n j
        | inr s ↦ subst (λ k. LeadsInto pairs k numbers) s leads
      ];
    }

    -- and one that is not
    pub left_same : (seen left : List ℕ) (x : ℕ) → AreLeftOf seen left → ¬ (LeadsInto pairs x numbers) → AreLeftOf (seen ++ x ∷ []) left
    left_same seen left x a away = record {
      gone = λ n i. elim (Contains-push_cases seen x n i) [
        | inl j ↦ a.gone n j
        | inr e ↦ inr (subst (λ k. ¬ (LeadsInto pairs k numbers)) e away)
      ];
      within = λ n i. Contains-append_left seen (x ∷ []) n (a.within n i);
      fewer = omega (arith, a.fewer, length-append seen (x ∷ []));
      stuck = λ e n i. absurd (omega (arith, e, a.fewer, length-append seen (x ∷ [])));
    }

    -- a turn for each number
    pub next_left :
        (i d : ℕ) (old new : List ℕ) → i < length numbers → AreLeftOf (take i numbers) old → IsLeftIf pairs (get_or numbers i d) numbers old new
        → AreLeftOf (take (i + 1) numbers) new
    next_left i d old new l a (inl (leads, pushed)) =
        let more = left_more (take i numbers) old (get_or numbers i d) a leads in rw (take_more numbers i d l, pushed) more
    next_left i d old new l a (inr (none, same)) =
        let more = left_same (take i numbers) old (get_or numbers i d) a none in rw (take_more numbers i d l, same) more

    pub all_left : (i : ℕ) (left : List ℕ) → length numbers ≤ i → AreLeftOf (take i numbers) left → AreLeft pairs numbers left
    all_left i left l a =
        let b = subst (λ ns. AreLeftOf ns left) (take_all i numbers l) a in
        record { gone = b.gone; within = b.within; fewer = b.fewer; stuck = b.stuck }

-- the least production by which the states of a graph reduce where they accept
use Rattle.std.proofs.Common.{Ordering, ◌≡◌, ◌≢◌, ℕ, ◌+◌, ◌<◌, ◌≤◌, Bool, true, false, cond, List, [], ◌∷◌, Option, None, Some, length, refl, sym, ◌∙◌, subst, ◌⊎◌, inl, inr, ⊎_elim, arith}
use Rattle.std.proofs.lemmas.Bool.{cases_eq}
use Rattle.std.specs.Prelude.{MatchOption, option_map}
use Rattle.std.specs.List.{range_with_len}
use Rattle.std.specs.Ordering.{nat_cmp, is_lt, is_some_and}
use Rattle.std.proofs.lemmas.Bool.Decides.{nat_tests}
use Rattle.std.proofs.lemmas.Map.Keys.{ge_from_not_lt}
use Rattle.lrspec.specs.grammars.Grammar.{Grammar, end_token, body_of}
use Rattle.lrspec.specs.grammars.ItemSets.{Items}
use Rattle.lrspec.specs.merging.Graph.{Graph, closed_of}
use Rattle.lrspec.specs.tables.Table.{reductions, accepts_at, AcceptsAndReduces}
use Rattle.lrspec.specs.tables.Conflicts.{IsLeastAcceptReduce}
use Rattle.lrspec.proofs.grammars.ListMembers.{Among}
use Rattle.lrspec.proofs.tables.CellFacts.{looks_in_from_test, test_from_looks_in, among_reductions, reduction_looks, least_of_first}
use Rattle.lrspec.proofs.tables.MachineStacks.{look_fits}
use Rattle.lrrows.specs.ReadGraphs.{IsReadable}
use Rattle.lrrows.specs.StateRows.{first_of, least_accept_reduce}
use Rattle.lrrows.proofs.NumbersInTurn.{InTurn, turns_begin, turn_at, turn_taken, turns_end}

-- the least production by which the state reduces where it accepts, or none where it doesn't
abbrev pub IsAcceptReduceOf : Grammar → Graph → ℕ → Option ℕ → Type 0
IsAcceptReduceOf g h s o =
    MatchOption o ((p : ℕ) → AcceptsAndReduces g h s p → ⊥) (λ p. AcceptsAndReduces g h s p × ((q : ℕ) → AcceptsAndReduces g h s q → p ≤ q))

-- one of the first `n` states accepts and reduces by the production
abbrev pub OneBelow : Grammar → Graph → ℕ → ℕ → Type 0
OneBelow g h n p = (s : ℕ) × (s < n) × AcceptsAndReduces g h s p

-- the least production by which one of the first `n` states reduces where it accepts, or none where none does
abbrev pub IsAcceptReduceBelow : Grammar → Graph → ℕ → Option ℕ → Type 0
IsAcceptReduceBelow g h n o = MatchOption o ((p : ℕ) → OneBelow g h n p → ⊥) (λ p. OneBelow g h n p × ((q : ℕ) → OneBelow g h n q → p ≤ q))

-- `r` is the lesser of both numbers, or `p` where that is the only one
abbrev pub IsLesser : Option ℕ → ℕ → ℕ → Type 0
IsLesser None p r = r ≡ p
IsLesser (Some q) p r = (r ≤ p) × (r ≤ q) × ((r ≡ p) ⊎ (r ≡ q))

lesser_told : (a b : ℕ) → is_lt (nat_cmp a b) ≡ true → a < b
lesser_told a b e = grind (arith, nat_tests)

module _ {T : Type 0} (number : T → ℕ) (cmp : T → T → Ordering) (partial : T → T → Option Ordering)
    (ordered : (x y : T) → cmp x y ≡ nat_cmp (number x) (number y)) (matches : (x y : T) → partial x y ≡ Some (cmp x y)) where
  tests_numbers : (x y : T) (r : Bool) → r ≡ is_some_and is_lt (partial x y) → r ≡ is_lt (nat_cmp (number x) (number y))
  tests_numbers x y r e = e ∙ rw (matches x y, ordered x y) refl

  -- where what is there is less it is the lesser
  pub lesser_before : (x y : T) (r : Bool) → r ≡ is_some_and is_lt (partial x y) → r ≡ true → IsLesser (Some (number x)) (number y) (number x)
  lesser_before x y r e t =
      let l = lesser_told (number x) (number y) (sym (tests_numbers x y r e) ∙ t) in (omega (arith, l), omega arith, inr refl)

  -- and else the other is
  pub lesser_other : (x y : T) (r : Bool) → r ≡ is_some_and is_lt (partial x y) → r ≡ false → IsLesser (Some (number x)) (number y) (number y)
  lesser_other x y r e t =
      let l = ge_from_not_lt (number x) (number y) (sym (tests_numbers x y r e) ∙ t) in (omega arith, l, inl refl)

module _ (g : Grammar) (h : Graph) (m : IsReadable g h) where
  -- a production that a state reduces by at the end of the text is among its reductions there
  among_accept_reduce : (s p : ℕ) → AcceptsAndReduces g h s p → Among p (reductions g (closed_of h s) (end_token g))
  among_accept_reduce s p k =
      let (below, token) = look_fits (closed_of h s) p (length (body_of g p)) (end_token g) (m.closed s k.below) k.reduces in
      among_reductions g (closed_of h s) (end_token g) p below k.differ k.reduces

  -- by whether it accepts, and its reductions
  accept_reduce_by :
      (s : ℕ) (b : Bool) (ps : List ℕ) → s < length h → accepts_at g (closed_of h s) (end_token g) ≡ b
      → reductions g (closed_of h s) (end_token g) ≡ ps → IsAcceptReduceOf g h s (cond b (first_of ps) None)
  accept_reduce_by s false ps l a r =
      λ p k. let t = test_from_looks_in (closed_of h s) g.start_production (length (body_of g g.start_production)) (end_token g) k.accepts in cc
  accept_reduce_by s true [] l a r = λ p k. rw r at (among_accept_reduce s p k)
  accept_reduce_by s true (p ∷ ps) l a r =
      let (n, look) = reduction_looks g (closed_of h s) (end_token g) p (rw r (inl refl)) in (
        record {
          below = l;
          differ = n;
          accepts = looks_in_from_test (closed_of h s) g.start_production (length (body_of g g.start_production)) (end_token g) a;
          reduces = look;
        },
        λ q k. least_of_first g (closed_of h s) (end_token g) p q ps r (rw r at (among_accept_reduce s q k)),
      )

  -- the least one of a state
  pub accept_reduce_is : (s : ℕ) → s < length h → IsAcceptReduceOf g h s (least_accept_reduce g (closed_of h s))
  accept_reduce_is s l = accept_reduce_by s (accepts_at g (closed_of h s) (end_token g)) (reductions g (closed_of h s) (end_token g)) l refl refl

  -- as it is found by an item set that is the closed state
  pub accept_reduce_found : (s : ℕ) (a : Items) (o : Option ℕ) → s < length h → a ≡ closed_of h s → o ≡ least_accept_reduce g a → IsAcceptReduceOf g h s o
  accept_reduce_found s a o l e f = rw (f, e) (accept_reduce_is s l)

-- the states left are to be asked, and the others have been
abbrev pub IsAcceptReduceBefore : Grammar → Graph → Option ℕ → List ℕ → Type 0
IsAcceptReduceBefore g h o left = InTurn (λ n. IsAcceptReduceBelow g h n o) (length h) left

module _ (g : Grammar) (h : Graph) where
  -- one of the states up to `n` is before it, or is it
  one_more : (n p : ℕ) → OneBelow g h (n + 1) p → OneBelow g h n p ⊎ AcceptsAndReduces g h n p
  one_more n p (s, l, k) = ⊎_elim (λ (e : s ≡ n). inr (subst (λ u. AcceptsAndReduces g h u p) e k)) (λ (d : s ≢ n). inl (s, omega (arith, l), k)) (cases_eq s n)

  -- one of fewer states is one of more
  still_one : (n p : ℕ) → OneBelow g h n p → OneBelow g h (n + 1) p
  still_one n p (s, l, k) = (s, omega (arith, l), k)

  -- a state that doesn't accept and reduce leaves the least
  accept_reduce_kept : (n : ℕ) (o : Option ℕ) → IsAcceptReduceBelow g h n o → IsAcceptReduceOf g h n None → IsAcceptReduceBelow g h (n + 1) o
  accept_reduce_kept n None b k = λ p i. elim (one_more n p i) [ inl j ↦ b p j | inr j ↦ k p j ]
  accept_reduce_kept n (Some p) b k = (still_one n p b.0, λ q i. elim (one_more n q i) [ inl j ↦ b.1 q j | inr j ↦ absurd (k q j) ])

  -- of one that does, the lesser of its least and the one before is the least
  accept_reduce_more :
      (n : ℕ) (o : Option ℕ) (p r : ℕ) → IsAcceptReduceBelow g h n o → IsAcceptReduceOf g h n (Some p) → IsLesser o p r → IsAcceptReduceBelow g h (n + 1) (Some r)
  accept_reduce_more n None p r b k e =
      (rw e (n, omega arith, k.0), λ q i. elim (one_more n q i) [ inl j ↦ absurd (b q j) | inr j ↦ rw e (k.1 q j) ])
  accept_reduce_more n (Some o) p r b k (l, m, e) = (
    elim e [ inl i ↦ rw i (n, omega arith, k.0) | inr i ↦ rw i (still_one n o b.0) ],
    λ q i. elim (one_more n q i) [ inl j ↦ omega (arith, m, b.1 q j) | inr j ↦ omega (arith, l, k.1 q j) ],
  )

  -- before the first state there is none
  pub no_accept_reduce_yet : (left : List ℕ) → left ≡ range_with_len 0 (length h) → IsAcceptReduceBefore g h None left
  no_accept_reduce_yet left e = turns_begin _ (length h) left e (λ p (s, l, k). omega (arith, l))

  -- the next state is one of the graph
  pub next_asked : (o : Option ℕ) (left : List ℕ) (x : ℕ) (xs : List ℕ) → left ≡ x ∷ xs → IsAcceptReduceBefore g h o left → x < length h
  next_asked o left x xs e b = (turn_at _ (length h) left x xs e b).0

  -- once a state is asked that doesn't accept and reduce
  pub asked_in_vain :
      (o : Option ℕ) (left : List ℕ) (x : ℕ) (xs : List ℕ) → left ≡ x ∷ xs → IsAcceptReduceBefore g h o left → IsAcceptReduceOf g h x None
      → IsAcceptReduceBefore g h o xs
  asked_in_vain o left x xs e b k =
      turn_taken _ (λ n. IsAcceptReduceBelow g h n o) (length h) left x xs e b (accept_reduce_kept x o (turn_at _ (length h) left x xs e b).1 k)

  -- once one is asked that does
  pub asked :
      (o : Option ℕ) (p r : ℕ) (left : List ℕ) (x : ℕ) (xs : List ℕ) → left ≡ x ∷ xs → IsAcceptReduceBefore g h o left → IsAcceptReduceOf g h x (Some p)
      → IsLesser o p r → IsAcceptReduceBefore g h (Some r) xs
  asked o p r left x xs e b k m =
      turn_taken _ (λ n. IsAcceptReduceBelow g h n (Some r)) (length h) left x xs e b (accept_reduce_more x o p r (turn_at _ (length h) left x xs e b).1 k m)

  accept_reduce_told :
      {X : Type 0} (f : X → ℕ) (o : Option X) → IsAcceptReduceBelow g h (length h) (option_map f o)
      → MatchOption o ((s p : ℕ) → AcceptsAndReduces g h s p → ⊥) (λ p. IsLeastAcceptReduce g h (f p))
  accept_reduce_told f None b = λ s p k. b p (s, k.below, k)
  accept_reduce_told f (Some p) b = record { some = (b.0.0, b.0.2); least = λ s q k. b.1 q (s, k.below, k) }

  -- once all are asked
  pub all_asked :
      {X : Type 0} (f : X → ℕ) (o : Option X) (left : List ℕ) → left ≡ [] → IsAcceptReduceBefore g h (option_map f o) left
      → MatchOption o ((s p : ℕ) → AcceptsAndReduces g h s p → ⊥) (λ p. IsLeastAcceptReduce g h (f p))
  all_asked f o left e b = accept_reduce_told f o (turns_end _ (length h) left e b)

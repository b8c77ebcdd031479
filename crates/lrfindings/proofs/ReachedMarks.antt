-- marking the states that are reached: what holds while there are marked states whose edges are to be followed
use Rattle.std.proofs.Common.{◌≡◌, ℕ, zero, suc, ◌<◌, Bool, true, false, cond, List, [], ◌∷◌, ◌++◌, length, Some, replicate, refl, sym, ap, ◌∙◌, ◌⊎◌, inl, inr, arith}
use Rattle.std.proofs.lemmas.List.{length-replicate}
use Rattle.lrspec.specs.grammars.Grammar.{Symbol, Rule, Token}
use Rattle.lrspec.specs.merging.Graph.{Graph, edge, edge_at, edges_of, same_symbol}
use Rattle.lrspec.proofs.merging.SameSymbols.{symbol_from_same}
use Rattle.lrspec.proofs.grammars.ListMembers.{Among}
use Rattle.lrpager.specs.Collecting.{IsMarked, MarksOnly}
use Rattle.lrpager.proofs.MarksAdded.{among_more, among_last, among_pushed}
use Rattle.lrfindings.specs.ReachedStates as reached
use Rattle.lrfindings.specs.ReachedStates.{IsReached, StaysTo, AreMarked, stays}

module _ (taken : ℕ → ℕ → Bool) (h : Graph) where
  -- the start state is marked, marked states are reached, and the edges of each that stay are still to be followed or lead to marked
  -- ones
  pub record IsMarking (marks : List Bool) (todo : List ℕ) : Type 0 where
    pub length_is : length marks ≡ length h
    pub start : IsMarked marks 0
    pub reached : (s : ℕ) → IsMarked marks s → IsReached taken h s
    pub waiting : (s : ℕ) → Among s todo → IsMarked marks s
    pub followed : (s u : ℕ) → IsMarked marks s → StaysTo taken h s u → Among s todo ⊎ IsMarked marks u

  none_marked : (n s : ℕ) → IsMarked (replicate n false) s → ⊥
  none_marked zero s m = cc
  none_marked (suc n) zero m = cc
  none_marked (suc n) (suc s) m = none_marked n s m

  -- the start state was marked
  pub marking_start :
      (none marks : List Bool) (todo : List ℕ) (first : ℕ) → none ≡ replicate (length h) false → first ≡ 0
      → MarksOnly (λ s. s ≡ first) none [] marks todo → IsMarked marks first → IsMarking marks todo
  marking_start none marks todo first e zeroth m start = record {
    length_is = m.length_is ∙ (ap length e ∙ length-replicate (length h) false);
    start = rw zeroth at start;
    reached = λ s i. elim (m.only s i) [ inl old ↦ absurd (fresh s old) | inr (z, w) ↦ rw (z, zeroth) reached.IsReached.start ];
    waiting = λ s i. elim (m.noted s i) [ inl j ↦ absurd j | inr n ↦ n ];
    followed = λ s u i to. elim (m.only s i) [ inl old ↦ absurd (fresh s old) | inr (z, w) ↦ inl w ];
  }
    where
      fresh : (s : ℕ) → IsMarked none s → ⊥
      fresh s old = let i : IsMarked (replicate (length h) false) s = rw e at old in none_marked (length h) s i

  -- the edges of one more were followed
  pub marking_turn :
      (marks new : List Bool) (s : ℕ) (before todo rest : List ℕ) → IsMarking marks before → before ≡ todo ++ s ∷ []
      → MarksOnly (StaysTo taken h s) marks todo new rest → ((u : ℕ) → StaysTo taken h s u → IsMarked new u) → IsMarking new rest
  marking_turn marks new s before todo rest i pop m marked = record {
    length_is = m.length_is ∙ i.length_is;
    start = m.still 0 i.start;
    reached = λ u n. elim (m.only u n) [
      | inl old ↦ i.reached u old
      | inr ((x, e, stays), w) ↦ reached.IsReached.follow x (i.reached s (i.waiting s (rw pop (among_last s todo)))) e stays
    ];
    waiting = λ u a. elim (m.noted u a) [ inl b ↦ m.still u (i.waiting u (rw pop (among_more u todo (s ∷ []) b))) | inr n ↦ n ];
    followed = λ v u n to. elim (m.only v n) [ inl old ↦ go v u to (i.followed v u old to) | inr (_, w) ↦ inl w ];
  }
    where
      go : (v u : ℕ) → StaysTo taken h v u → Among v before ⊎ IsMarked marks u → Among v rest ⊎ IsMarked new u
      go v u to (inl a) = elim (among_pushed v s todo (rw pop at a)) [
        | inl b ↦ inl (m.waiting v b)
        | inr same ↦ inr (marked u (rw same at to))
      ]
      go v u to (inr o) = inr (m.still u o)

  -- where none is to be followed, exactly those that are reached are marked
  pub marking_end : (marks : List Bool) (todo : List ℕ) → IsMarking marks todo → todo ≡ [] → AreMarked taken h marks
  marking_end marks todo i e = record { reached = i.reached; marked = λ s r. all_marked r }
    where
      all_marked : {s : ℕ} → IsReached taken h s → IsMarked marks s
      all_marked reached.IsReached.start = i.start
      all_marked (reached.IsReached.follow {s = s} {u = u} x r e2 stays) =
          elim (i.followed s u (all_marked r) (x, e2, stays)) [ inl a ↦ let none : Among s [] = rw e at a in absurd none | inr m ↦ m ]

  -- the next state to be followed is one of the states
  pub next_below :
      (marks : List Bool) (s : ℕ) (before todo : List ℕ) → IsMarking marks before → before ≡ todo ++ s ∷ [] → s < length h
  next_below marks s before todo i pop =
      let m : IsMarked marks s = i.waiting s (rw pop (among_last s todo)) in
      omega (arith, i.length_is, within marks s m)
    where
      within : (marks : List Bool) (s : ℕ) → IsMarked marks s → s < length marks
      within [] s m = absurd cc
      within (b ∷ marks) zero m = omega arith
      within (b ∷ marks) (suc s) m = let l : s < length marks = within marks s m in omega arith

-- what is reached depends on the shifts alone that are taken away
pub reached_alike :
    (one other : ℕ → ℕ → Bool) (h : Graph) → ((s t : ℕ) → one s t ≡ other s t) → (s : ℕ) → IsReached one h s → IsReached other h s
reached_alike one other h same s r = go r
  where
    alike : (s : ℕ) (x : Symbol) → stays one s x ≡ stays other s x
    alike s (Rule r) = refl
    alike s (Token t) = rw (same s t) refl

    go : {s : ℕ} → IsReached one h s → IsReached other h s
    go reached.IsReached.start = reached.IsReached.start
    go (reached.IsReached.follow {s = s} x r e left) = reached.IsReached.follow x (go r) e (sym (alike s x) ∙ left)

-- each edge of the state that stays leads to a marked state, or is one of those that are left
abbrev pub AreFollowed : (ℕ → ℕ → Bool) → Graph → ℕ → List Bool → List (Symbol × ℕ) → Type 0
AreFollowed taken h s marks left =
    (u : ℕ) (x : Symbol) → edge h s x ≡ Some u → stays taken s x ≡ true → IsMarked marks u ⊎ (edge_at left x ≡ Some u)

module _ (taken : ℕ → ℕ → Bool) (h : Graph) (s : ℕ) where
  -- before the first all are left
  pub begin_followed : (marks : List Bool) (left : List (Symbol × ℕ)) → left ≡ edges_of h s → AreFollowed taken h s marks left
  begin_followed marks left e u x at stay = inr (rw e at)

  -- the first that is left is followed, unless it doesn't stay
  pub next_followed :
      (old new : List Bool) (left rest : List (Symbol × ℕ)) (x : Symbol) (v : ℕ) → left ≡ (x, v) ∷ rest → ((u : ℕ) → IsMarked old u → IsMarked new u)
      → (stays taken s x ≡ true → IsMarked new v) → AreFollowed taken h s old left → AreFollowed taken h s new rest
  next_followed old new left rest x v first still here are u y at stay = elim (are u y at stay) [
    | inl m ↦ inl (still u m)
    | inr l ↦ elim (first_or_left y x v rest u (rw first at l)) [
      | inl (same, to) ↦ inl (rw to (here (rw same at stay)))
      | inr later ↦ inr later
    ]
  ]
    where
      first_or_left : (y x : Symbol) (v : ℕ) (rest : List (Symbol × ℕ)) (u : ℕ) → edge_at ((x, v) ∷ rest) y ≡ Some u → ((y ≡ x) × (u ≡ v)) ⊎ (edge_at rest y ≡ Some u)
      first_or_left y x v rest u l = go (same_symbol y x) refl l
        where
          go : (b : Bool) → same_symbol y x ≡ b → cond b (Some v) (edge_at rest y) ≡ Some u → ((y ≡ x) × (u ≡ v)) ⊎ (edge_at rest y ≡ Some u)
          go true e k = inl (symbol_from_same y x e, cc)
          go false e k = inr k

  -- where none is left all are followed
  pub end_followed : (marks : List Bool) (left : List (Symbol × ℕ)) → left ≡ [] → AreFollowed taken h s marks left → (u : ℕ) → StaysTo taken h s u → IsMarked marks u
  end_followed marks left none are u (x, at, stay) = elim (are u x at stay) [ inl m ↦ m | inr l ↦ let no = rw none at l in absurd cc ]

-- so do the marks
pub marked_alike :
    (one other : ℕ → ℕ → Bool) (h : Graph) (marks : List Bool) → ((s t : ℕ) → one s t ≡ other s t) → AreMarked one h marks → AreMarked other h marks
marked_alike one other h marks same are = record {
  reached = λ s m. reached_alike one other h same s (are.reached s m);
  marked = λ s r. are.marked s (reached_alike other one h (λ v t. sym (same v t)) s r);
}

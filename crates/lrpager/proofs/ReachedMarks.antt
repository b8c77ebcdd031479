-- marking the states that are reached: what holds while there are marked states whose edges are to be followed
use Rattle.std.proofs.Common.{◌≡◌, ℕ, zero, suc, ◌<◌, Bool, false, List, [], ◌∷◌, ◌++◌, length, Some, replicate, ap, ◌∙◌, ◌⊎◌, inl, inr, arith}
use Rattle.std.proofs.lemmas.List.{length-replicate}
use Rattle.std.specs.Prelude.{slice_get}
use Rattle.lrspec.specs.grammars.Grammar.{Symbol}
use Rattle.lrspec.proofs.grammars.ListMembers.{Among}
use Rattle.lrpager.specs.Collecting as collecting
use Rattle.lrplacing.specs.Construction.{Draft, draft_edges, edge_from}
use Rattle.lrpager.specs.Collecting.{Walks, ReachedAreMarked, IsMarked, HasTarget, MarksOnly}
use Rattle.lrpager.proofs.MarksAdded.{among_more, among_last, among_pushed}

-- the start state is marked, marked states are reached, and the edges of each are still to be followed or lead to marked ones
pub record IsMarking (ss : List Draft) (marks : List Bool) (todo : List ℕ) : Type 0 where
  pub length_is : length marks ≡ length ss
  pub start : IsMarked marks 0
  pub reached : (k : ℕ) → IsMarked marks k → (w : List Symbol) × Walks ss w k
  pub waiting : (k : ℕ) → Among k todo → IsMarked marks k
  pub followed : (k u : ℕ) (x : Symbol) → IsMarked marks k → edge_from ss k x ≡ Some u → Among k todo ⊎ IsMarked marks u

none_marked : (n k : ℕ) → IsMarked (replicate n false) k → ⊥
none_marked zero k m = cc
none_marked (suc n) zero m = cc
none_marked (suc n) (suc k) m = none_marked n k m

-- the start state was marked
pub marking_start :
    (ss : List Draft) (none marks : List Bool) (todo : List ℕ) → none ≡ replicate (length ss) false
    → MarksOnly (λ k. k ≡ 0) none [] marks todo → IsMarked marks 0 → IsMarking ss marks todo
marking_start ss none marks todo e m start = record {
  length_is = m.length_is ∙ (ap length e ∙ length-replicate (length ss) false);
  start = start;
  reached = λ k i. elim (m.only k i) [ inl old ↦ absurd (fresh k old) | inr (z, w) ↦ rw z (([]), collecting.Walks.start) ];
  waiting = λ k i. elim (m.noted k i) [ inl j ↦ absurd j | inr n ↦ n ];
  followed = λ k u x i h. elim (m.only k i) [ inl old ↦ absurd (fresh k old) | inr (z, w) ↦ inl w ];
}
  where
    fresh : (k : ℕ) → IsMarked none k → ⊥
    fresh k old = let i : IsMarked (replicate (length ss) false) k = rw e at old in none_marked (length ss) k i

-- the edges of one more were followed
pub marking_turn :
    (ss : List Draft) (marks new : List Bool) (k : ℕ) (before todo rest : List ℕ) (es : List (Symbol × ℕ)) → IsMarking ss marks before
    → before ≡ todo ++ k ∷ [] → es ≡ draft_edges (slice_get ss k) → MarksOnly (HasTarget es) marks todo new rest
    → ((u : ℕ) → HasTarget es u → IsMarked new u) → IsMarking ss new rest
marking_turn ss marks new k before todo rest es i pop is m marked = record {
  length_is = m.length_is ∙ i.length_is;
  start = m.still 0 i.start;
  reached = λ j n. elim (m.only j n) [
    | inl old ↦ i.reached j old
    | inr ((x, e), w) ↦ let (v, walk) = i.reached k (i.waiting k (rw pop (among_last k todo))) in (v ++ x ∷ [], collecting.Walks.follow x walk (rw is at e))
  ];
  waiting = λ j a. elim (m.noted j a) [ inl b ↦ m.still j (i.waiting j (rw pop (among_more j todo (k ∷ []) b))) | inr n ↦ n ];
  followed = λ j u x n e. elim (m.only j n) [ inl old ↦ go j u x old e (i.followed j u x old e) | inr (_, w) ↦ inl w ];
}
  where
    go : (j u : ℕ) (x : Symbol) → IsMarked marks j → edge_from ss j x ≡ Some u → Among j before ⊎ IsMarked marks u → Among j rest ⊎ IsMarked new u
    go j u x n e (inl a) = elim (among_pushed j k todo (rw pop at a)) [
      | inl b ↦ inl (m.waiting j b)
      | inr same ↦ inr (marked u (x, rw is (rw same at e)))
    ]
    go j u x n e (inr o) = inr (m.still u o)

-- where none is to be followed, exactly those that are reached are marked
pub marking_end : (ss : List Draft) (marks : List Bool) (todo : List ℕ) → IsMarking ss marks todo → todo ≡ [] → ReachedAreMarked ss marks
marking_end ss marks todo i e = record { length_is = i.length_is; reached = i.reached; marked = walk_marked }
  where
    walk_marked : (w : List Symbol) (k : ℕ) → Walks ss w k → IsMarked marks k
    walk_marked _ _ collecting.Walks.start = i.start
    walk_marked _ _ (collecting.Walks.follow {w = w} {k = k} {u = u} x walk h) =
        elim (i.followed k u x (walk_marked w k walk) h) [ inl a ↦ let none : Among k [] = rw e at a in absurd none | inr m ↦ m ]

-- the next state to be followed is one of the states
pub next_below :
    (ss : List Draft) (marks : List Bool) (k : ℕ) (before todo : List ℕ) → IsMarking ss marks before → before ≡ todo ++ k ∷ [] → k < length ss
next_below ss marks k before todo i pop =
    let m : IsMarked marks k = i.waiting k (rw pop (among_last k todo)) in
    omega (arith, i.length_is, within marks k m)
  where
    within : (marks : List Bool) (k : ℕ) → IsMarked marks k → k < length marks
    within [] k m = absurd cc
    within (b ∷ marks) zero m = omega arith
    within (b ∷ marks) (suc k) m = let l : k < length marks = within marks k m in omega arith

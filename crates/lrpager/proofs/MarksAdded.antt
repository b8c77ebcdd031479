-- marking states: what one mark more does, and marking some after others
use Rattle.std.proofs.Common.{◌≡◌, ◌≢◌, ℕ, zero, suc, ◌+◌, ◌<◌, Bool, true, false, List, [], ◌∷◌, ◌++◌, length, set, get_or, refl, ap, ◌∙◌, ◌⊎◌, inl, inr, arith, length-set, length-append, get_or-set_same}
use Rattle.lrspec.proofs.grammars.ListMembers.{Among}
use Rattle.lrpager.specs.Collecting.{IsMarked, unmarked_count, MarksOnly}

-- one of a list stays one when more are put behind it
pub among_more : (k : ℕ) (xs ys : List ℕ) → Among k xs → Among k (xs ++ ys)
among_more k [] ys i = absurd i
among_more k (x ∷ xs) ys (inl e) = inl e
among_more k (x ∷ xs) ys (inr i) = inr (among_more k xs ys i)

-- the last of a list is one of it
pub among_last : (k : ℕ) (xs : List ℕ) → Among k (xs ++ k ∷ [])
among_last k [] = inl refl
among_last k (x ∷ xs) = inr (among_last k xs)

-- one of a list is the last, or one of those before it
pub among_pushed : (k y : ℕ) (xs : List ℕ) → Among k (xs ++ y ∷ []) → Among k xs ⊎ (k ≡ y)
among_pushed k y [] (inl e) = inr e
among_pushed k y [] (inr i) = absurd i
among_pushed k y (x ∷ xs) (inl e) = inl (inl e)
among_pushed k y (x ∷ xs) (inr i) = elim (among_pushed k y xs i) [ inl j ↦ inl (inr j) | inr e ↦ inr e ]

-- a mark that was set stays
set_still : (marks : List Bool) (k j : ℕ) → IsMarked marks j → IsMarked (set marks k true) j
set_still [] k j m = m
set_still (b ∷ marks) zero zero m = refl
set_still (b ∷ marks) zero (suc j) m = m
set_still (b ∷ marks) (suc k) zero m = m
set_still (b ∷ marks) (suc k) (suc j) m = set_still marks k j m

-- no other mark is set
set_only : (marks : List Bool) (k j : ℕ) → IsMarked (set marks k true) j → IsMarked marks j ⊎ (j ≡ k)
set_only [] k j m = inl m
set_only (b ∷ marks) zero zero m = inr refl
set_only (b ∷ marks) zero (suc j) m = inl m
set_only (b ∷ marks) (suc k) zero m = inl m
set_only (b ∷ marks) (suc k) (suc j) m = elim (set_only marks k j m) [ inl n ↦ inl n | inr e ↦ inr (ap suc e) ]

-- one state less is not marked
unmarked_count-set : (marks : List Bool) (k : ℕ) → k < length marks → get_or marks k false ≢ true → unmarked_count (set marks k true) + 1 ≡ unmarked_count marks
unmarked_count-set [] k l n = absurd (omega arith)
unmarked_count-set (true ∷ marks) zero l n = absurd (n refl)
unmarked_count-set (false ∷ marks) zero l n = omega arith
unmarked_count-set (b ∷ marks) (suc k) l n = omega (arith, unmarked_count-set marks k (omega arith) n)

-- marking a state that wasn't marked
pub mark_one :
    (marks : List Bool) (todo : List ℕ) (k : ℕ) → k < length marks → get_or marks k false ≢ true
    → MarksOnly (λ j. j ≡ k) marks todo (set marks k true) (todo ++ k ∷ [])
mark_one marks todo k l n = record {
  length_is = length-set marks k true;
  still = set_still marks k;
  only = λ j m. elim (set_only marks k j m) [ inl i ↦ inl i | inr e ↦ inr (e, rw e (among_last k todo)) ];
  waiting = λ j i. among_more j todo (k ∷ []) i;
  noted = λ j i. elim (among_pushed j k todo i) [ inl w ↦ inl w | inr e ↦ inr (rw e (get_or-set_same marks k true false l)) ];
  left = omega (arith, unmarked_count-set marks k l n, length-append todo (k ∷ []));
}

-- marking none
pub marks_none : (P : ℕ → Type 0) (marks : List Bool) (todo : List ℕ) → MarksOnly P marks todo marks todo
marks_none P marks todo =
    record { length_is = refl; still = λ k m. m; only = λ k m. inl m; waiting = λ k i. i; noted = λ k i. inl i; left = refl }

-- marking some after others
pub marks_then :
    (P Q : ℕ → Type 0) (a b c : List Bool) (s t u : List ℕ) → ((k : ℕ) → Q k → P k) → MarksOnly P a s b t → MarksOnly Q b t c u
    → MarksOnly P a s c u
marks_then P Q a b c s t u into m n = record {
  length_is = n.length_is ∙ m.length_is;
  still = λ k i. n.still k (m.still k i);
  only = λ k i. elim (n.only k i) [
    | inl j ↦ elim (m.only k j) [ inl old ↦ inl old | inr (p, w) ↦ inr (p, n.waiting k w) ]
    | inr (q, w) ↦ inr (into k q, w)
  ];
  waiting = λ k w. n.waiting k (m.waiting k w);
  noted = λ k w. elim (n.noted k w) [
    | inl v ↦ elim (m.noted k v) [ inl old ↦ inl old | inr i ↦ inr (n.still k i) ]
    | inr i ↦ inr i
  ];
  left = omega (arith, m.left, n.left);
}

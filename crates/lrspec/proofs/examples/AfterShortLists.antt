-- two grammars after lists of one symbol at most: where items look, and what is contested
use Rattle.std.proofs.Common.{◌≡◌, ℕ, ◌≤◌, Bool, true, ◌||◌, ◌&&◌, List, [], ◌∷◌, ◌++◌, length, refl, Some, ◌⊎◌, inl, inr, arith}
use Rattle.std.specs.Prelude.{◌==◌, slice_index_or}
use Rattle.std.proofs.lemmas.Bool.{and_parts, or_cases, eqb-true, false≢true, le-leb}
use Rattle.lrspec.specs.grammars.Grammar.{Symbol, Rule, Token}
use Rattle.lrspec.specs.grammars.CanonicalItems as item
use Rattle.lrspec.specs.grammars.CanonicalItems.{Looks}
use Rattle.lrspec.specs.grammars.First as first
use Rattle.lrspec.specs.grammars.Candidates.{IsContested}
use Rattle.lrspec.proofs.grammars.ListMembers.{Among}
use Rattle.lrspec.specs.examples.ExampleGrammars.{assignments, hidden_left_recursion}
use Rattle.lrspec.proofs.examples.ItemsAndTrees.{assignments_start}
use Rattle.lrspec.proofs.examples.ItemEntries.{Entry, same_list, list_from_same}
use Rattle.lrspec.proofs.examples.ItemsByComputing.{is_enumeration, looks_listed}
use Rattle.lrspec.proofs.examples.ContestsByComputing.{agree_all, contested_within}
use Rattle.lrspec.proofs.examples.ContestedTokens.{after, no_null, nothing}

-- ---- assignments, after lists of one symbol at most

abbrev assignments_entries : List Entry
assignments_entries =
    after [] ((5, 0, 3 ∷ []) ∷ (0, 0, 3 ∷ []) ∷ (1, 0, 3 ∷ []) ∷ (2, 0, 0 ∷ 3 ∷ []) ∷ (3, 0, 0 ∷ 3 ∷ []) ∷ (4, 0, 3 ∷ []) ∷ [])
    ++ after (Rule 1 ∷ []) ((5, 1, 3 ∷ []) ∷ [])
    ++ after (Rule 2 ∷ []) ((0, 1, 3 ∷ []) ∷ (4, 1, 3 ∷ []) ∷ [])
    ++ after (Rule 3 ∷ []) ((1, 1, 3 ∷ []) ∷ [])
    ++ after (Token 1 ∷ []) ((2, 1, 0 ∷ 3 ∷ []) ∷ (4, 0, 0 ∷ 3 ∷ []) ∷ (2, 0, 0 ∷ 3 ∷ []) ∷ (3, 0, 0 ∷ 3 ∷ []) ∷ [])
    ++ after (Token 2 ∷ []) ((3, 1, 0 ∷ 3 ∷ []) ∷ [])

-- '*' and 'id' begin each rule
abbrev star_or_id : ℕ → List ℕ
star_or_id r = 1 ∷ 2 ∷ []

assignments_hold : is_enumeration assignments (Some 1) no_null star_or_id assignments_entries ≡ true
assignments_hold = refl

assignments_agree : agree_all assignments nothing assignments_entries ≡ true
assignments_agree = refl

end_alone : (ts : List ℕ) (t : ℕ) → Some (3 ∷ []) ≡ Some ts → Among t ts → t ≡ 3
end_alone [] t e h = cc
end_alone (u ∷ []) t e (inl h) = cc
end_alone (u ∷ []) t e (inr h) = absurd h
end_alone (u ∷ v ∷ ts) t e h = cc

-- after L the item `R: L .` looks at the end token alone
pub assignments_end_alone : (t : ℕ) → Looks assignments (Rule 2 ∷ []) 4 1 t → t ≡ 3
assignments_end_alone t l =
    let (ts, k, i) = looks_listed assignments (Some 1) no_null star_or_id assignments_entries assignments_hold l refl in
    end_alone ts t k i

-- so not at '=', though '=' may follow an R elsewhere
pub assignments_not_equals : Looks assignments (Rule 2 ∷ []) 4 1 0 → ⊥
assignments_not_equals l = let e = assignments_end_alone 0 l in omega arith

-- as behind '*', where `R: L .` looks at it
pub assignments_equals_elsewhere : Looks assignments (Token 1 ∷ Rule 2 ∷ []) 4 1 0
assignments_equals_elsewhere =
    let star : Looks assignments (Token 1 ∷ []) 2 1 0 = item.Looks.advance (item.Looks.expand assignments_start refl refl first.Begins.here) refl in
    item.Looks.advance (item.Looks.inherit star refl refl first.AllNullable.none) refl

-- so after L no token is contested, where a table by what may follow a rule has a conflict on '='
pub assignments_uncontested_after : (t : ℕ) → IsContested assignments (Rule 2 ∷ []) t → ⊥
assignments_uncontested_after t k =
    false≢true (contested_within assignments (Some 1) no_null star_or_id assignments_entries assignments_hold nothing assignments_agree (Rule 2 ∷ []) t k refl)

-- ---- hidden left recursion, after lists of one symbol at most

abbrev hidden_entries : List Entry
hidden_entries =
    after [] ((4, 0, 2 ∷ []) ∷ (0, 0, 2 ∷ []) ∷ (1, 0, 2 ∷ []) ∷ (2, 0, 1 ∷ []) ∷ (3, 0, 1 ∷ []) ∷ [])
    ++ after (Rule 1 ∷ []) ((4, 1, 2 ∷ []) ∷ [])
    ++ after (Rule 2 ∷ []) ((0, 1, 2 ∷ []) ∷ (0, 0, 0 ∷ []) ∷ (1, 0, 0 ∷ []) ∷ (2, 0, 1 ∷ []) ∷ (3, 0, 1 ∷ []) ∷ [])
    ++ after (Rule 3 ∷ []) ((1, 1, 2 ∷ []) ∷ [])

-- A and B are nullable
abbrev hidden_null : ℕ → Bool
hidden_null r = r == 2 || r == 3

-- `y` begins S
abbrev hidden_begins : ℕ → List ℕ
hidden_begins r = slice_index_or ((1 ∷ []) ∷ (1 ∷ []) ∷ [] ∷ [] ∷ []) r []

hidden_holds : is_enumeration hidden_left_recursion (Some 1) hidden_null hidden_begins hidden_entries ≡ true
hidden_holds = refl

abbrev y_at_once : List Symbol → ℕ → Bool
y_at_once w t = (same_list w [] || same_list w (Rule 2 ∷ [])) && (t == 1)

hidden_agree : agree_all hidden_left_recursion y_at_once hidden_entries ≡ true
hidden_agree = refl

none_or_a : (w : List Symbol) → (same_list w [] || same_list w (Rule 2 ∷ [])) ≡ true → (w ≡ []) ⊎ (w ≡ Rule 2 ∷ [])
none_or_a w e = elim (or_cases (same_list w []) (same_list w (Rule 2 ∷ [])) e) [
  | inl i ↦ inl (list_from_same w [] i)
  | inr i ↦ inr (list_from_same w (Rule 2 ∷ []) i)
]

-- after lists of one symbol at most `y` alone is contested, and only after none and after A
pub hidden_y_alone :
    (w : List Symbol) (t : ℕ) → length w ≤ 1 → IsContested hidden_left_recursion w t → ((w ≡ []) ⊎ (w ≡ Rule 2 ∷ [])) × (t ≡ 1)
hidden_y_alone w t l k =
    let (i, j) =
    and_parts (same_list w [] || same_list w (Rule 2 ∷ [])) (t == 1)
    (contested_within hidden_left_recursion (Some 1) hidden_null hidden_begins hidden_entries hidden_holds y_at_once hidden_agree w t k (le-leb (length w) 1 l)) in
    (none_or_a w i, eqb-true t 1 j)

-- the tokens that are contested in three grammars
use Rattle.std.proofs.Common.{◌≡◌, ℕ, Bool, true, false, ◌&&◌, List, [], ◌∷◌, ◌++◌, map, refl, None, Some}
use Rattle.std.specs.Prelude.{◌==◌, slice_index_or}
use Rattle.std.proofs.lemmas.Bool.{and_parts, eqb-true, false≢true}
use Rattle.lrspec.specs.grammars.Grammar.{Symbol, Rule, Token}
use Rattle.lrspec.specs.grammars.CanonicalItems.{Looks}
use Rattle.lrspec.specs.grammars.Candidates.{IsContested, IsUncontested}
use Rattle.lrspec.proofs.grammars.ListMembers.{Among}
use Rattle.lrspec.specs.examples.ExampleGrammars.{lr_not_lalr, rule_without_tree, contested_on_x}
use Rattle.lrspec.proofs.examples.ItemEntries.{Entry, same_list, list_from_same}
use Rattle.lrspec.proofs.examples.ItemsByComputing.{is_enumeration, looks_listed}
use Rattle.lrspec.proofs.examples.ContestsByComputing.{agree_all, contested_within}

-- the items after one list, each with its production, its dot and its tokens
abbrev pub after : List Symbol → List (ℕ × ℕ × List ℕ) → List Entry
after w items = map (λ i. (w, i.0, i.1, i.2)) items

-- no rule of these grammars is nullable
abbrev pub no_null : ℕ → Bool
no_null r = false

abbrev lr_not_lalr_entries : List Entry
lr_not_lalr_entries =
    after [] ((6, 0, 5 ∷ []) ∷ (0, 0, 5 ∷ []) ∷ (1, 0, 5 ∷ []) ∷ (2, 0, 5 ∷ []) ∷ (3, 0, 5 ∷ []) ∷ [])
    ++ after (Rule 1 ∷ []) ((6, 1, 5 ∷ []) ∷ [])
    ++ after (Token 0 ∷ []) ((0, 1, 5 ∷ []) ∷ (2, 1, 5 ∷ []) ∷ (4, 0, 1 ∷ []) ∷ (5, 0, 3 ∷ []) ∷ [])
    ++ after (Token 2 ∷ []) ((1, 1, 5 ∷ []) ∷ (3, 1, 5 ∷ []) ∷ (5, 0, 1 ∷ []) ∷ (4, 0, 3 ∷ []) ∷ [])
    ++ after (Token 0 ∷ Rule 2 ∷ []) ((0, 2, 5 ∷ []) ∷ [])
    ++ after (Token 0 ∷ Rule 3 ∷ []) ((2, 2, 5 ∷ []) ∷ [])
    ++ after (Token 0 ∷ Token 4 ∷ []) ((4, 1, 1 ∷ []) ∷ (5, 1, 3 ∷ []) ∷ [])
    ++ after (Token 2 ∷ Rule 3 ∷ []) ((1, 2, 5 ∷ []) ∷ [])
    ++ after (Token 2 ∷ Rule 2 ∷ []) ((3, 2, 5 ∷ []) ∷ [])
    ++ after (Token 2 ∷ Token 4 ∷ []) ((5, 1, 1 ∷ []) ∷ (4, 1, 3 ∷ []) ∷ [])
    ++ after (Token 0 ∷ Rule 2 ∷ Token 1 ∷ []) ((0, 3, 5 ∷ []) ∷ [])
    ++ after (Token 0 ∷ Rule 3 ∷ Token 3 ∷ []) ((2, 3, 5 ∷ []) ∷ [])
    ++ after (Token 2 ∷ Rule 3 ∷ Token 1 ∷ []) ((1, 3, 5 ∷ []) ∷ [])
    ++ after (Token 2 ∷ Rule 2 ∷ Token 3 ∷ []) ((3, 3, 5 ∷ []) ∷ [])

abbrev contested_entries : List Entry
contested_entries =
    after [] ((8, 0, 6 ∷ []) ∷ (0, 0, 6 ∷ []) ∷ (1, 0, 6 ∷ []) ∷ (2, 0, 6 ∷ []) ∷ (3, 0, 6 ∷ []) ∷ (4, 0, 6 ∷ []) ∷ (5, 0, 6 ∷ []) ∷ [])
    ++ after (Rule 1 ∷ []) ((8, 1, 6 ∷ []) ∷ [])
    ++ after (Token 0 ∷ []) ((0, 1, 6 ∷ []) ∷ (1, 1, 6 ∷ []) ∷ (2, 1, 6 ∷ []) ∷ (3, 1, 6 ∷ []) ∷ (6, 0, 1 ∷ 2 ∷ []) ∷ (7, 0, 2 ∷ 3 ∷ []) ∷ [])
    ++ after (Token 4 ∷ []) ((4, 1, 6 ∷ []) ∷ (5, 1, 6 ∷ []) ∷ (7, 0, 1 ∷ []) ∷ (6, 0, 3 ∷ []) ∷ [])
    ++ after (Token 0 ∷ Rule 2 ∷ []) ((0, 2, 6 ∷ []) ∷ (1, 2, 6 ∷ []) ∷ [])
    ++ after (Token 0 ∷ Rule 3 ∷ []) ((2, 2, 6 ∷ []) ∷ (3, 2, 6 ∷ []) ∷ [])
    ++ after (Token 0 ∷ Token 5 ∷ []) ((6, 1, 1 ∷ 2 ∷ []) ∷ (7, 1, 2 ∷ 3 ∷ []) ∷ [])
    ++ after (Token 4 ∷ Rule 3 ∷ []) ((4, 2, 6 ∷ []) ∷ [])
    ++ after (Token 4 ∷ Rule 2 ∷ []) ((5, 2, 6 ∷ []) ∷ [])
    ++ after (Token 4 ∷ Token 5 ∷ []) ((7, 1, 1 ∷ []) ∷ (6, 1, 3 ∷ []) ∷ [])
    ++ after (Token 0 ∷ Rule 2 ∷ Token 1 ∷ []) ((0, 3, 6 ∷ []) ∷ [])
    ++ after (Token 0 ∷ Rule 2 ∷ Token 2 ∷ []) ((1, 3, 6 ∷ []) ∷ [])
    ++ after (Token 0 ∷ Rule 3 ∷ Token 3 ∷ []) ((2, 3, 6 ∷ []) ∷ [])
    ++ after (Token 0 ∷ Rule 3 ∷ Token 2 ∷ []) ((3, 3, 6 ∷ []) ∷ [])
    ++ after (Token 4 ∷ Rule 3 ∷ Token 1 ∷ []) ((4, 3, 6 ∷ []) ∷ [])
    ++ after (Token 4 ∷ Rule 2 ∷ Token 3 ∷ []) ((5, 3, 6 ∷ []) ∷ [])

abbrev without_tree_entries : List Entry
without_tree_entries =
    after [] ((5, 0, 3 ∷ []) ∷ (0, 0, 3 ∷ []) ∷ (1, 0, 3 ∷ []) ∷ (2, 0, []) ∷ (3, 0, []) ∷ [])
    ++ after (Rule 1 ∷ []) ((5, 1, 3 ∷ []) ∷ [])
    ++ after (Rule 2 ∷ []) ((0, 1, 3 ∷ []) ∷ (4, 0, 2 ∷ 3 ∷ []) ∷ [])
    ++ after (Token 0 ∷ []) ((1, 1, 3 ∷ []) ∷ [])
    ++ after (Token 1 ∷ []) ((2, 1, []) ∷ (3, 1, []) ∷ [])
    ++ after (Rule 2 ∷ Rule 3 ∷ []) ((0, 2, 3 ∷ []) ∷ (4, 1, 2 ∷ 3 ∷ []) ∷ [])
    ++ after (Rule 2 ∷ Rule 3 ∷ Token 2 ∷ []) ((4, 2, 2 ∷ 3 ∷ []) ∷ [])

-- the tokens that begin each rule
abbrev lr_not_lalr_begins : ℕ → List ℕ
lr_not_lalr_begins r = slice_index_or ((0 ∷ 2 ∷ []) ∷ (0 ∷ 2 ∷ []) ∷ (4 ∷ []) ∷ (4 ∷ []) ∷ []) r []

abbrev contested_begins : ℕ → List ℕ
contested_begins r = slice_index_or ((0 ∷ 4 ∷ []) ∷ (0 ∷ 4 ∷ []) ∷ (5 ∷ []) ∷ (5 ∷ []) ∷ []) r []

abbrev without_tree_begins : ℕ → List ℕ
without_tree_begins r = slice_index_or ((0 ∷ 1 ∷ []) ∷ (0 ∷ 1 ∷ []) ∷ (1 ∷ []) ∷ [] ∷ []) r []

lr_not_lalr_holds : is_enumeration lr_not_lalr None no_null lr_not_lalr_begins lr_not_lalr_entries ≡ true
lr_not_lalr_holds = refl

contested_holds : is_enumeration contested_on_x None no_null contested_begins contested_entries ≡ true
contested_holds = refl

without_tree_holds : is_enumeration rule_without_tree None no_null without_tree_begins without_tree_entries ≡ true
without_tree_holds = refl

-- no token may be contested
abbrev pub nothing : List Symbol → ℕ → Bool
nothing w t = false

abbrev x_after_a_c : List Symbol → ℕ → Bool
x_after_a_c w t = same_list w (Token 0 ∷ Token 5 ∷ []) && (t == 2)

lr_not_lalr_agree : agree_all lr_not_lalr nothing lr_not_lalr_entries ≡ true
lr_not_lalr_agree = refl

contested_agree : agree_all contested_on_x x_after_a_c contested_entries ≡ true
contested_agree = refl

without_tree_agree : agree_all rule_without_tree nothing without_tree_entries ≡ true
without_tree_agree = refl

-- no token is contested after any list
pub lr_not_lalr_uncontested : IsUncontested lr_not_lalr
lr_not_lalr_uncontested w t k = false≢true (contested_within lr_not_lalr None no_null lr_not_lalr_begins lr_not_lalr_entries lr_not_lalr_holds nothing lr_not_lalr_agree w t k refl)

-- `x` after `a c` alone is contested
pub contested_on_x_alone : (w : List Symbol) (t : ℕ) → IsContested contested_on_x w t → (w ≡ Token 0 ∷ Token 5 ∷ []) × (t ≡ 2)
contested_on_x_alone w t k =
    let (i, j) =
    and_parts (same_list w (Token 0 ∷ Token 5 ∷ [])) (t == 2)
    (contested_within contested_on_x None no_null contested_begins contested_entries contested_holds x_after_a_c contested_agree w t k refl) in
    (list_from_same w (Token 0 ∷ Token 5 ∷ []) i, eqb-true t 2 j)

-- no token is contested after any list, though one rule has no tree
pub without_tree_uncontested : IsUncontested rule_without_tree
without_tree_uncontested w t k =
    false≢true (contested_within rule_without_tree None no_null without_tree_begins without_tree_entries without_tree_holds nothing without_tree_agree w t k refl)

found_nothing : (ts : List ℕ) (t : ℕ) → Some [] ≡ Some ts → Among t ts → ⊥
found_nothing [] t e h = h
found_nothing (u ∷ ts) t e h = cc

-- after `a` the complete A looks at no token
pub without_tree_looks_at_nothing : (t : ℕ) → Looks rule_without_tree (Token 1 ∷ []) 2 1 t → ⊥
without_tree_looks_at_nothing t l =
    let (ts, k, i) = looks_listed rule_without_tree None no_null without_tree_begins without_tree_entries without_tree_holds l refl in
    found_nothing ts t k i

-- the trees of forms in brackets, by the moves that put them together
use Rattle.std.specs.Prelude.{ℕ, ◌+◌, ◌-◌, ◌==◌, min, List, [], ◌∷◌, ◌++◌, codes, drop, fold, length, nat_le, take, if◌then◌else◌}
use Rattle.std.specs.List.{flat_map}
use Rattle.lrspec.specs.grammars.Grammar.{Grammar, body_of, rule_of}
use Rattle.lrspec.specs.texts.PrintedTexts.{rule_name}
use Rattle.lrconflicts.specs.Moves.{Move, Shift, Reduce}

-- ---- brackets

-- the words of trees in a row
abbrev pub joined : List (List (List ℕ)) → List (List ℕ)
joined ts = flat_map (λ t. t) ts

-- words behind a name and an opening bracket
abbrev pub opened : List ℕ → List (List ℕ) → List (List ℕ)
opened name [] = (name ++ codes "(") ∷ []
opened name (w ∷ ws) = (name ++ codes "(" ++ w) ∷ ws

-- words before a closing bracket
abbrev pub closed : List (List ℕ) → List (List ℕ)
closed [] = []
closed (w ∷ []) = (w ++ codes ")") ∷ []
closed (w ∷ v ∷ ws) = w ∷ closed (v ∷ ws)

-- ---- moves

-- trees in a row, each by its words, and how many symbols of the form they have
pub record Row : Type 0 where
  pub trees : List (List (List ℕ))
  pub used : ℕ

-- no moves made
abbrev pub no_row : Row
no_row = record { trees = []; used = 0 }

-- the words of the leaf at a place of a form: its word, behind the dot where that stands there
abbrev pub leaf : ℕ → List (List ℕ) → ℕ → List (List ℕ)
leaf d ws i = (if i == d then codes "." ∷ [] else []) ++ take 1 (drop i ws)

-- what a move makes of trees in a row, of a form with these words and the dot behind `d` of them: a
-- shift adds a leaf, and a reduction puts the rule of its production and brackets around the last
-- trees, as many as its body has symbols
abbrev pub next_row : Grammar → ℕ → List (List ℕ) → Row → Move → Row
next_row g d ws r Shift = record {
  trees = r.trees ++ leaf d ws r.used ∷ [];
  used = min (r.used + 1) (length ws);
}
next_row g d ws r (Reduce p) =
    let n = length r.trees - length (body_of g p) in
    let name = rule_name g (rule_of g p) in
    record {
      trees = take n r.trees ++ closed (opened name (joined (drop n r.trees))) ∷ [];
      used = r.used;
    }

-- the words of the trees that moves make of a form with these words and the dot behind `d` of them
unfoldable pub bracketed_words : Grammar → ℕ → List (List ℕ) → List Move → List (List ℕ)
bracketed_words g d ws ms =
    joined (fold (next_row g d ws) no_row ms).trees
    ++ (if nat_le (length ws) d then codes "." ∷ [] else [])

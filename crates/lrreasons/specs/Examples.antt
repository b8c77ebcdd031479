-- after what a conflict is real, and how the text goes on
use Rattle.std.specs.Prelude.{◌≡◌, ℕ, ◌<◌, List, [], ◌∷◌, ◌++◌, map, length, Option, None, Some, IfSome, ◌⊎◌}
use Rattle.lrspec.specs.grammars.Grammar.{Symbol, Token, Grammar, body_of}
use Rattle.lrspec.specs.grammars.ItemSets.{IsBefore}
use Rattle.lrspec.specs.merging.Graph.{Graph}
use Rattle.lrgrammar.specs.Symbols.{symbol_of, number_of}
use Rattle.lrtable.specs.RunAnswers.{text_of}
use Rattle.lrconflicts.specs.declared.moves.Written.{Written}
use Rattle.lrconflicts.specs.Moves.{Move, Shift, Reduce}
use Rattle.lrconflicts.specs.StoredMoves.{moves_stored}
use Rattle.lrambiguity.specs.Inputs.{IsReadAs, GoesOn}
use Rattle.lrambiguity.specs.Nesting.{Nests}
use Rattle.lrambiguity.specs.StoredItems.{items_of}
use Rattle.lrforms.specs.declared.outlooks.Outlook.{Outlook}
use Rattle.lrreasons.specs.declared.examples.Example.{Example}
use Rattle.lrconflicts.specs.Entries.{Entry, token_of, one_of, other_of, IsRealAfter, IsNowhereReal}

-- the list derives the text by its moves
abbrev pub IsTextOf : Grammar → List Symbol → Written ℕ → Type 0
IsTextOf g w x =
    IsReadAs g w (text_of number_of x.tokens.items) (moves_stored number_of x.moves.items)

-- the item in which the move on the token `t` is a candidate: complete, or before the token
pub data IsItemOf (g : Grammar) (t : ℕ) : Move → ℕ → ℕ → Type 0 where
  shift : {p d : ℕ} → IsBefore g p d (Token t) → IsItemOf g t Shift p d
  reduce : {p : ℕ} → IsItemOf g t (Reduce p) p (length (body_of g p))

-- the text goes on behind the input by the move on the token `t`: there is no such text where there
-- is no input
abbrev pub IsRestBehind : Grammar → ℕ → Move → Option (Written ℕ) → Option (Written ℕ) → Type 0
IsRestBehind g t m input None = Unit {0}
IsRestBehind g t m None (Some rest) = ⊥
IsRestBehind g t m (Some input) (Some rest) =
    GoesOn g t m
    (text_of number_of input.tokens.items) (moves_stored number_of input.moves.items)
    (text_of number_of rest.tokens.items) (moves_stored number_of rest.moves.items)

-- the last of the items is that of the move on the token `t`
abbrev pub IsLastItemOf : Grammar → ℕ → Move → List (ℕ × ℕ) → Type 0
IsLastItemOf g t m items =
    (is : List (ℕ × ℕ)) × (p : ℕ) × (d : ℕ) × (items ≡ is ++ (p, d) ∷ []) × IsItemOf g t m p d

-- the items stand in one another after the list, the last one is that of the move on the token `t`,
-- and the rest is one behind the input
pub record IsOutlook (g : Grammar) (w : List Symbol) (t : ℕ) (m : Move)
    (input : Option (Written ℕ)) (o : Outlook) : Type 0 where
  pub nests : Nests g (items_of number_of o.items.items) w
  pub last : IsLastItemOf g t m (items_of number_of o.items.items)
  pub rest : IsRestBehind g t m input o.rest

-- the symbols of the list
abbrev pub list_of : Example → List Symbol
list_of x = map (symbol_of number_of) x.list.items

-- after the list the entry is real on the token, which is its own, or else the least on which there
-- is a list
pub record IsExampleOf (g : Grammar) (h : Graph) (e : Entry) (x : Example) : Type 0 where
  pub real : IsRealAfter g h x.token.0 e (list_of x)
  pub own : (x.token.0 ≡ token_of e) ⊎ IsNowhereReal g h (token_of e) e
  pub least : (x.token.0 ≡ token_of e) ⊎ ((t : ℕ) → t < x.token.0 → IsNowhereReal g h t e)
  pub input : IfSome x.input (IsTextOf g (list_of x))
  pub one : IfSome x.one (IsOutlook g (list_of x) x.token.0 (one_of e) x.input)
  pub other : IfSome x.other (IsOutlook g (list_of x) x.token.0 (other_of e) x.input)

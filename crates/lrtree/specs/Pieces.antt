-- the pieces of which the texts of nodes are made, each from its last byte to its first
use Rattle.std.specs.Prelude.{ℕ, zero, suc, List, [], ◌∷◌, ◌++◌, length, reverse, codes}
use Rattle.lrspec.specs.grammars.Grammar.{Symbol, Rule, Token, Grammar, body_of}
use Rattle.lrspec.specs.texts.MachineLines.{production_label}
use Rattle.lrspec.specs.texts.PrintedTexts.{token_text}

-- the beginning of a node: its label, and the bracket behind it
abbrev pub node_text : Grammar → ℕ → List ℕ
node_text g p = production_label g p ++ codes "("

-- what is written of the end of a node: the pieces that are whole, the last one first, before each of
-- which stands a child that is a node, and the piece in work
pub record Draft : Type 0 where
  pub pieces : List (List ℕ)
  pub text : List ℕ

-- a symbol more before it
abbrev pub with_symbol : Grammar → Symbol → Draft → Draft
with_symbol g (Token t) d =
    record { pieces = d.pieces; text = d.text ++ reverse (token_text g t) }
with_symbol g (Rule r) d = record { pieces = d.pieces ++ d.text ∷ []; text = [] }

-- a space more before it, if there are symbols behind that
abbrev pub with_gap : ℕ → Draft → Draft
with_gap zero d = d
with_gap (suc n) d = record { pieces = d.pieces; text = d.text ++ codes " " }

-- what is written of a node behind these symbols at the end of its body
abbrev pub draft_of : Grammar → List Symbol → Draft
draft_of g [] = record { pieces = []; text = codes ")" }
draft_of g (x ∷ xs) = with_symbol g x (with_gap (length xs) (draft_of g xs))

-- the pieces of a production, the last one first
abbrev pub pieces_of : Grammar → ℕ → List (List ℕ)
pieces_of g p =
    (draft_of g (body_of g p)).pieces
    ++ ((draft_of g (body_of g p)).text ++ reverse (node_text g p)) ∷ []

-- where the productions of a file stand, in their order
use Rattle.std.specs.Prelude.{◌≡◌, ◌+◌, ◌-◌, List, [], ◌∷◌, ◌++◌, length, map, flat_map, take, vec_len}
use Rattle.lryacc.specs.declared.contents.Alternative.{Alternative}
use Rattle.lryacc.specs.declared.contents.BodyPart.{BodyPart}
use Rattle.lryacc.specs.declared.contents.BodyPart.TheVariants.{Symbol, Action}
use Rattle.lryacc.specs.declared.lexemes.Lexeme.{Lexeme}
use Rattle.lryacc.specs.declared.numbering.FileGrammar.{FileGrammar}
use Rattle.lryacc.specs.declared.places.Span.{Span}
use Rattle.lryacc.specs.declared.productions.Productions.{Productions}

-- where a part of a body stands
abbrev pub part_place : BodyPart → Span
part_place (Symbol name) = name.span
part_place (Action action name) = action.span

-- the same, if it is an action
abbrev pub action_place : BodyPart → List Span
action_place (Symbol _) = []
action_place (Action action name) = action.span ∷ []

-- where the actions among parts of a body stand
abbrev pub action_places : List BodyPart → List Span
action_places parts = flat_map action_place parts

-- the parts of a body before its last one: actions among these are rules of their own, with one empty production each
abbrev pub parts_before_last : Alternative → List BodyPart
parts_before_last body = take (vec_len body.parts - 1) body.parts.items

-- where the productions of a body stand: those of the actions before its last part, and then its own
abbrev pub body_places : Alternative → List Span
body_places body = action_places (parts_before_last body) ++ body.span ∷ []

-- the start rules: those behind `%start`, or else that of the first body
abbrev pub start_rules_of : List Lexeme → List Alternative → List Lexeme
start_rules_of [] bodies = map (λ body. body.rule) (take 1 bodies)
start_rules_of (start ∷ starts) bodies = start ∷ starts

-- where the productions of a file stand: those of the start rules, and then those of the bodies
abbrev pub file_places : List Lexeme → List Alternative → List Span
file_places starts bodies =
    map (λ start. start.span) (start_rules_of starts bodies) ++ flat_map body_places bodies

-- productions have a place each, and a list of the places of their symbols
pub record ArePlaced (all : Productions) : Type 0 where
  pub places : vec_len all.places ≡ vec_len all.prods
  pub symbol_places : vec_len all.symbol_places ≡ vec_len all.prods

-- productions at these places are added
pub record Adds (old new : Productions) (added : List Span) : Type 0 where
  pub places : new.places.items ≡ old.places.items ++ added
  pub count : vec_len new.prods ≡ vec_len old.prods + length added
  pub symbol_places : vec_len new.symbol_places ≡ vec_len old.symbol_places + length added

-- the productions of a grammar have a place each, and a list of the places of their symbols
pub record IsPlaced (file : FileGrammar) : Type 0 where
  pub places : vec_len file.production_places ≡ vec_len file.parts.prods
  pub symbol_places : vec_len file.symbol_places ≡ vec_len file.parts.prods

-- what is found in cells as plain data
use Rattle.std.specs.Prelude.{◌≡◌, ℕ, Bool, false, List, Option, filter, map, slice_get, slice_index_or}
use Rattle.std.specs.Option.{option_and_then, option_map}
use Rattle.lrspec.specs.grammars.Grammar as math
use Rattle.lrspec.specs.grammars.Grammar.{Grammar, token_precedence, production_precedence}
use Rattle.lrtext.specs.StoredParts.{precedence_of}
use Rattle.lrtext.specs.declared.parts.Precedence.{Precedence}
use Rattle.lrverdicts.specs.Listed.{told}
use Rattle.lrfindings.specs.CellConflicts.{Resolution, outcome_of}
use Rattle.lrfindings.specs.declared.cells.Outcome.{Outcome}
use Rattle.lrfindings.specs.declared.cells.Precedences.{Precedences}
use Rattle.lrfindings.specs.declared.cells.Reduction.{Reduction}
use Rattle.lrfindings.specs.declared.cells.Resolved.{Resolved}

-- what something resolved tells, without its place
abbrev pub resolution : Resolved → Resolution
resolution s = (told s.entry, s.winner)

-- the precedence at a place of a list, if there is one
abbrev pub precedence_at : List (Option Precedence) → ℕ → Option math.Precedence
precedence_at os k = option_map precedence_of (option_and_then (λ o. o) (slice_get os k))

-- what the precedences make of the shift of a token and of each reduction
abbrev pub outcome_in : Precedences → ℕ → ℕ → Outcome
outcome_in ps t p = outcome_of (precedence_at ps.tokens.items t) (precedence_at ps.productions.items p)

-- they are those of the grammar
pub record ArePrecedencesOf (g : Grammar) (ps : Precedences) : Type 0 where
  pub tokens : (t : ℕ) → precedence_at ps.tokens.items t ≡ token_precedence g t
  pub productions : (p : ℕ) → precedence_at ps.productions.items p ≡ production_precedence g p

-- a complete item with its lookaheads
abbrev pub complete : Reduction → ℕ × List Bool
complete r = (r.production, r.tokens.now)

-- the productions of complete items that look at the token
abbrev pub looking_at : List (ℕ × List Bool) → ℕ → List ℕ
looking_at cs t = map (λ c. c.0) (filter (λ c. slice_index_or c.1 t false) cs)

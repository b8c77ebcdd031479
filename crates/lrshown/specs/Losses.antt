-- sentences that the parser rejects
use Rattle.std.specs.Prelude.{◌≡◌, ℕ, ◌-◌, Bool, List, All, IfSome, is_some}
use Rattle.std.specs.Option.{ForSome}
use Rattle.lrspec.specs.grammars.Grammar.{Grammar}
use Rattle.lrspec.specs.grammars.Trees.{Tree}
use Rattle.lrspec.specs.tables.Table.{Table}
use Rattle.lryacc.specs.declared.numbering.FileGrammar.{FileGrammar}
use Rattle.lrconflicts.specs.Moves.{IsTreeOfText, moves_of}
use Rattle.lrlosses.specs.Losses.{Place, IsLost, PartsAt, StopsAt}
use Rattle.lrshown.specs.declared.evidence.Evidence.{Evidence}
use Rattle.lrshown.specs.declared.losses.Loss.{Loss}
use Rattle.lrshown.specs.Steps.{move_by, moves_by}
use Rattle.lrshown.specs.ShownTexts.{choosing, start_of_sentence}

-- the sentence is one of the grammar, which the machine of the table rejects: by the moves of a tree of it the machine comes to
-- the state `s` with the token `t`, where it doesn't make the next one, the step that is lost
pub record IsLostAt (g : Grammar) (b : Table) (s t : ℕ) (l : Loss) : Type 0 where
  pub lost : IsLost g b l.tokens.items
  pub tree : Tree
  pub of_text : IsTreeOfText g l.tokens.items tree
  pub steps : moves_of tree ≡ moves_by l.steps.items
  -- where the machine parts from the moves of the tree
  pub parting : Place
  pub parts : PartsAt g b l.tokens.items (moves_of tree) parting (move_by l.lost)
  pub state : parting.state ≡ s
  pub token : parting.token ≡ t
  pub made : parting.steps ≡ l.made
  pub dot : parting.used ≡ l.dot
  -- and where it stops
  pub rejected : Place
  pub stops : StopsAt g b l.tokens.items rejected
  pub stop : rejected.used ≡ l.stop

-- the same, without saying where it goes wrong
abbrev pub IsLoss : Grammar → Table → Loss → Type 0
IsLoss g b l = (s : ℕ) × (t : ℕ) × IsLostAt g b s t l

-- and without saying of which tree
abbrev pub IsShownLoss : Grammar → Table → Loss → Type 0
IsShownLoss g b l = ∥ IsLoss g b l ∥₁

abbrev pub AreShownLosses : Grammar → Table → List Evidence → Type 0
AreShownLosses g b evidence = All (λ e. ForSome e.loss (λ l. IsShownLoss g b l.value)) evidence

-- a sentence that is told of an entry is lost in its state, where its token comes
abbrev pub IsLostAtEntry : Grammar → Table → Evidence → Type 0
IsLostAtEntry g b e = IfSome e.loss (λ l. IsLostAt g b e.entry.state e.entry.token l.value)

-- whether a sentence that is rejected is known of an entry
abbrev pub rejects : Evidence → Bool
rejects e = is_some e.loss

-- so many of the first tokens of a text, without the one that chooses its start rule
abbrev pub without_choice : FileGrammar → List ℕ → ℕ → ℕ
without_choice file tokens n = n - choosing (start_of_sentence file tokens)

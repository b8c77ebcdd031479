-- what the machine accepts, and when a table recognises its grammar
use Rattle.std.specs.Prelude.{◌≡◌, ◌≢◌, ℕ, ◌+◌, ◌-◌, ◌<◌, ◌≤◌, List, ◌++◌, length, take, drop}
use Rattle.std.specs.List.{All}
use Rattle.lrspec.specs.grammars.Grammar.{Rule, Grammar, end_token}
use Rattle.lrspec.specs.grammars.Trees.{Tree, order, nodes, IsTree, IsSentence}
use Rattle.lrspec.specs.tables.Table.{Table}
use Rattle.lrspec.specs.tables.Machine.{Verdict, Accepted, Rejected, Unfinished, Stuck, Answer, run, left_after}

-- each token of the text is a named one
abbrev pub AreNamed : Grammar → List ℕ → Type 0
AreNamed g text = All (λ t. t < end_token g) text

-- where the text is accepted it is a sentence, and the reductions are the productions in order of a
-- tree of it
abbrev pub HasTreeIfAccepted : Grammar → List ℕ → Answer → Type 0
HasTreeIfAccepted g text a =
    a.verdict ≡ Accepted → (s : IsSentence g text) × (order s.tree ≡ a.reductions)

-- the text is accepted in a step a token, a step a node of the tree, and one more, with the
-- productions of the tree
pub record IsAcceptedBy (text : List ℕ) (t : Tree) (a : Answer) : Type 0 where
  pub verdict : a.verdict ≡ Accepted
  pub steps : a.steps ≡ length text + nodes t + 1
  pub reductions : a.reductions ≡ order t

-- where `n` steps are that many, the text is accepted so, by each tree of it
abbrev pub IsAcceptedIfSentence : Grammar → ℕ → List ℕ → Answer → Type 0
IsAcceptedIfSentence g n text a =
    (s : IsSentence g text) → length text + nodes s.tree + 1 ≤ n → IsAcceptedBy text s.tree a

-- the text is the beginning of a sentence
abbrev pub BeginsSentence : Grammar → List ℕ → Type 0
BeginsSentence g w = (z : List ℕ) × IsSentence g (w ++ z)

-- whether the last step of a run was neither a shift nor a reduction, by its verdict: 1 where that
-- step ended the run
abbrev pub last_step : Verdict → ℕ
last_step Accepted = 1
last_step Rejected = 1
last_step Unfinished = 0
last_step Stuck = 1

-- how many tokens a run has shifted: its steps less its reductions, less one where it ended
abbrev pub shifted : Answer → ℕ
shifted a = a.steps - length a.reductions - last_step a.verdict

-- the tokens shifted are the beginning of a sentence
abbrev pub ShiftedBeginsSentence : Grammar → List ℕ → Answer → Type 0
ShiftedBeginsSentence g text a =
    (shifted a ≤ length text) × BeginsSentence g (take (shifted a) text)

-- the tokens shifted are those that the machine has taken: the text without them is what is left
abbrev pub ShiftsWhatIsTaken : Grammar → Table → Type 0
ShiftsWhatIsTaken g b =
    (n : ℕ) (text : List ℕ) → AreNamed g text
    → (shifted (run g b n text) ≤ length text)
    × (drop (shifted (run g b n text)) text ≡ left_after g b n text)

-- the machine sticks on no text, after no number of steps
abbrev pub IsNeverStuck : Grammar → Table → Type 0
IsNeverStuck g b =
    (n : ℕ) (text : List ℕ) → AreNamed g text → (run g b n text).verdict ≢ Stuck

-- it accepts sentences alone, and tells a tree
abbrev pub IsSound : Grammar → Table → Type 0
IsSound g b =
    (n : ℕ) (text : List ℕ) → AreNamed g text → HasTreeIfAccepted g text (run g b n text)

-- it accepts each sentence, in exactly its steps
abbrev pub IsComplete : Grammar → Table → Type 0
IsComplete g b = (n : ℕ) (text : List ℕ) → IsAcceptedIfSentence g n text (run g b n text)

-- no sentence has two trees
abbrev pub IsUnambiguous : Grammar → Type 0
IsUnambiguous g = (text : List ℕ) (s u : IsSentence g text) → s.tree ≡ u.tree

-- every rule has a tree
abbrev pub HasTrees : Grammar → Type 0
HasTrees g = (r : ℕ) → r < length g.rule_names → (t : Tree) × IsTree g (Rule r) t

-- what it has shifted, on any text after any number of steps, begins a sentence
abbrev pub ShiftsBeginnings : Grammar → Table → Type 0
ShiftsBeginnings g b =
    (n : ℕ) (text : List ℕ) → AreNamed g text → ShiftedBeginsSentence g text (run g b n text)

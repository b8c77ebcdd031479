-- the tokens that the machine shifts behind a text
use Rattle.std.specs.Prelude.{◌≡◌, ℕ, ◌+◌, ◌<◌, List, [], ◌∷◌, ◌++◌, length, All, Contains}
use Rattle.lrspec.specs.grammars.Grammar.{Grammar}
use Rattle.lrspec.specs.tables.Recognition.{BeginsSentence, HasTrees, shifted}
use Rattle.lrparsing.specs.Machines.{Tabled, run_by}

-- the machine shifts the token behind the text
abbrev pub IsShiftedBehind : Tabled → List ℕ → ℕ → Type 0
IsShiftedBehind m w t = shifted (run_by m (w ++ t ∷ [])) ≡ length w + 1

-- the tokens up to a number that it shifts behind the text: these, and no others
pub record AreShiftedBehind (m : Tabled) (w : List ℕ) (count : ℕ) (ts : List ℕ) : Type 0 where
  pub below : All (λ t. t < count) ts
  pub are : All (IsShiftedBehind m w) ts
  pub all : (t : ℕ) → t < count → IsShiftedBehind m w t → Contains ts t

-- a sentence begins with the text and each of the tokens behind it, where all rules have trees
abbrev pub BeginSentences : Grammar → List ℕ → List ℕ → Type 0
BeginSentences g w ts = HasTrees g → All (λ t. BeginsSentence g (w ++ t ∷ [])) ts

-- chains: productions, each of which alone stands below the one above it, and which of them are shown
use Rattle.std.specs.Prelude.{ℕ, zero, suc, ◌-◌, ◌==◌, nat_lt, Bool, true, false, List, [], ◌∷◌, length, map, take_while, if◌then◌else◌, filter, not}
use Rattle.lryacc.specs.declared.numbering.FileGrammar.{FileGrammar}
use Rattle.lrshown.specs.declared.steps.Step.{Step}
use Rattle.lrshown.specs.declared.steps.Step.TheVariants.{Shift, Reduce}
use Rattle.lrshown.specs.declared.chains.Kept.{Kept}
use Rattle.lrshown.specs.declared.chains.Cutting.{Cutting}
use Rattle.lrshown.specs.DrawnTrees.{body}

-- whether a step puts a node over one tree alone
abbrev pub is_unit : FileGrammar → Step → Bool
is_unit file Shift = false
is_unit file (Reduce p) = length (body file p) == 1

-- the steps that put a leaf there, or a node over none or several trees
abbrev pub others : FileGrammar → List Step → List Step
others file ss = filter (λ s. not (is_unit file s)) ss

-- how many units come first
abbrev pub units : FileGrammar → List Step → ℕ
units file ss = length (take_while (λ s. is_unit file s) ss)

-- of so many nodes, each over the one before it, all but the last are left out, if these are two at the least
abbrev pub all_but_last : ℕ → ℕ
all_but_last n = if nat_lt 2 n then n - 1 else 0

-- how many steps are left out behind one
abbrev pub left_out_behind : FileGrammar → Step → List Step → ℕ
left_out_behind file Shift ss = 0
left_out_behind file (Reduce p) ss = all_but_last (units file ss)

-- the steps that are kept, where so many of them are left out first; each with whether some are left out before it
abbrev pub kept_from : FileGrammar → ℕ → Bool → List Step → List Kept
kept_from file n b [] = []
kept_from file (suc n) b (s ∷ ss) = kept_from file n true ss
kept_from file zero b (s ∷ ss) = record { step = s; is_cut = b } ∷ kept_from file (left_out_behind file s ss) false ss

-- the same by how they go on
abbrev pub kept_by : FileGrammar → Cutting → List Step → List Kept
kept_by file c ss = kept_from file c.left c.is_cut ss

-- the same where none comes before them
abbrev pub kept : FileGrammar → List Step → List Kept
kept file ss = kept_from file 0 false ss

-- these steps
abbrev pub steps_kept : FileGrammar → List Step → List Step
steps_kept file ss = map (λ k. k.step) (kept file ss)

-- whether some are left out before each
abbrev pub cuts_of : FileGrammar → List Step → List Bool
cuts_of file ss = map (λ k. k.is_cut) (kept file ss)

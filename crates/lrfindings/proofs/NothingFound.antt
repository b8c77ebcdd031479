-- why nothing is found, by the errors of the calls that are made
use Rattle.std.proofs.Common.{◌≡◌, ◌⊎◌, inl, inr, ℕ, Bool, true, false, None, Some, Result, Ok, Err, refl, arith}
use Rattle.std.specs.Prelude.{IfErr, IfOk}
use Rattle.lrspec.specs.grammars.Grammar.{Grammar}
use Rattle.lrspec.specs.tables.Conflicts.{IsAcceptContested, IsLeastAcceptContested}
use Rattle.lrgraphs.specs.declared.errors.BuildError.{BuildError}
use Rattle.lrgraphs.specs.declared.errors.BuildError.TheVariants as build
use Rattle.lrgraphs.specs.declared.statetable.StateTableErrorKind.{StateTableErrorKind}
use Rattle.lrgraphs.specs.declared.statetable.StateTableErrorKind.TheVariants.{AcceptReduceConflict}
use Rattle.lrparts.specs.declared.errors.GrammarError.{GrammarError}
use Rattle.lrparts.specs.declared.errors.GrammarError.TheVariants as error
use Rattle.lrparts.specs.Refusals.{IsRefusedBy}
use Rattle.lrtable.specs.Refusals.{IsBuildRefusal, TellsOne}
use Rattle.lryacc.specs.declared.numbering.FileGrammar.{FileGrammar}
use Rattle.lrgrammar.specs.Symbols.{number_of}
use Rattle.lrfindings.specs.FileGrammars.{IsGrammarOfFile, parts_in_force}
use Rattle.lrfindings.specs.FindErrors.{IsNothingFound, parts_error, build_error}
use Rattle.lrfindings.specs.declared.findings.FindError.{FindError}
use Rattle.lrfindings.specs.declared.findings.Findings.{Findings}
use Rattle.lrfindings.specs.Findings.{DecidesNothing}

-- a production that is told is one with which accepting is contested
told_production :
    (g : Grammar) (k : StateTableErrorKind ℕ) → TellsOne number_of (IsLeastAcceptContested g) k → (p : ℕ) × IsAcceptContested g p
told_production g (AcceptReduceConflict None) h = absurd h
told_production g (AcceptReduceConflict (Some p)) h = (p.0, h.contested)

module _ (max : ℕ) (file : FileGrammar) (b : Bool) where
  -- the parts are refused
  pub by_parts : (e : GrammarError) → IsRefusedBy max (parts_in_force file b) e → IsNothingFound max file b (parts_error e)
  by_parts error.TooManyRules h = inl (1, omega arith, h)
  by_parts error.TooManyTokens h = inl (2, omega arith, h)
  by_parts error.TooManyProductions h = inl (3, omega arith, h)
  by_parts error.BodyTooLong h = inl (4, omega arith, h)
  by_parts error.SymbolOutOfRange h = h
  by_parts error.EmptyRule h = h
  by_parts error.ReservedName h = h
  by_parts error.DuplicateName h = h
  by_parts error.MixedLevel h = h
  by_parts error.NoStart h = h
  by_parts error.Memory h = h

  -- there is no graph with a table
  pub by_build :
      (g : Grammar) (e : BuildError ℕ) → IsGrammarOfFile max file b g → IsBuildRefusal number_of max g e
      → IsNothingFound max file b (build_error e)
  by_build g (build.Table e) made h = let (p, contested) = told_production g e.kind h.other in (g, p, made, contested)
  by_build g build.TooLarge made h = inr (g, made, h)
  by_build g build.Memory made h = h

  -- with its precedences or without them
  pub with_or_without :
      {T : Type 0} (r : Result T FindError) → IfErr r (IsNothingFound max file b) → IfErr r (λ e. (b : Bool) × IsNothingFound max file b e)
  with_or_without (Ok x) h = tt
  with_or_without (Err e) h = (b, h)

-- precedences are left out only where the table with them lists nothing
pub kept_or_not :
    (max : ℕ) (file : FileGrammar) (b : Bool) (r : Result Findings FindError) → IfOk r (λ f. f.has_precedences ≡ false)
    → (b ≡ true → DecidesNothing max file) → IfOk r (λ f. (f.has_precedences ≡ b) ⊎ DecidesNothing max file)
kept_or_not max file b (Err e) h nothing = tt
kept_or_not max file true (Ok f) h nothing = inr (nothing refl)
kept_or_not max file false (Ok f) h nothing = inl h

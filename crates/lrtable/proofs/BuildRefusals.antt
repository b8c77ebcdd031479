-- why a grammar has no graph with a table, by why the graph has no table
use Rattle.std.proofs.Common.{◌≡◌, ℕ, ◌≤◌, length, None, Some, Result, Ok, Err, sym, subst, arith}
use Rattle.std.specs.Result.{IsErrAnd, MatchResult}
use Rattle.lrspec.specs.grammars.Grammar.{Grammar, IsGrammar}
use Rattle.lrspec.specs.merging.Graph.{Graph, IsGraphOf}
use Rattle.lrspec.specs.tables.LrTables.{IsExactAnswer}
use Rattle.lrspec.specs.tables.Conflicts.{IsLeastAcceptReduce, IsLeastAcceptContested}
use Rattle.lrspec.proofs.tables.ConflictsAreContested.{least_contested}
use Rattle.lrspec.proofs.tables.ExactWithoutPrecedences.{refusal_answer}
use Rattle.lrgraphs.specs.declared.errors.BuildError.{BuildError}
use Rattle.lrgraphs.specs.declared.errors.BuildError.TheVariants.{Table, TooLarge, Memory}
use Rattle.lrgraphs.specs.declared.statetable.StateTableErrorKind.{StateTableErrorKind}
use Rattle.lrgraphs.specs.declared.statetable.StateTableErrorKind.TheVariants.{AcceptReduceConflict}
use Rattle.lrspec.specs.merging.Chains.{HasChainOf, HasChainOfExactly}
use Rattle.lrcells.specs.Refusals.{TellsOne, IsTableRefusal}
use Rattle.lrtable.specs.Refusals.{IsLargeOnly, IsBuildRefusal, IsExactError}

-- what holds of the production that is told
still_told :
    {T : Type 0} (number : T → ℕ) (P Q : ℕ → Type 0) (k : StateTableErrorKind T) → ((p : ℕ) → P p → Q p) → TellsOne number P k → TellsOne number Q k
still_told number P Q (AcceptReduceConflict None) f t = absurd t
still_told number P Q (AcceptReduceConflict (Some p)) f t = f (number p.0) t

-- the graph has no table
pub refused_by_table :
    {T : Type 0} (number : T → ℕ) (most : ℕ) (g : Grammar) (h : Graph) (e : BuildError T) → IsGrammar g → IsGraphOf g h
    → HasChainOf g (length h) → IsTableRefusal number most g h e → IsBuildRefusal number most g e
refused_by_table number most g h (Table e) grammar m c r = record {
  other = still_told number (IsLeastAcceptReduce g h) (IsLeastAcceptContested g) e.kind (least_contested g h grammar m) r.1.other;
  at = r.1.at;
}
refused_by_table number most g h TooLarge grammar m (chain, is, n) r = (chain, is, omega (arith, r, n))
refused_by_table number most g h Memory grammar m c r = tt

-- the headline, by which production is told
told_answer : {T : Type 0} (number : T → ℕ) (g : Grammar) (k : StateTableErrorKind T) → TellsOne number (IsLeastAcceptContested g) k → IsExactAnswer g None
told_answer number g (AcceptReduceConflict None) t = absurd t
told_answer number g (AcceptReduceConflict (Some p)) t = refusal_answer t.contested

-- the headline where the grammar is refused
pub exact_error : {T : Type 0} (number : T → ℕ) (most : ℕ) (g : Grammar) (e : BuildError T) → IsBuildRefusal number most g e → IsExactError g e
exact_error number most g (Table e) r = told_answer number g e.kind r.other
exact_error number most g TooLarge r = tt
exact_error number most g Memory r = tt

-- the headline where there is no graph
pub exact_without_graph : {T : Type 0} (P : Type 0) (g : Grammar) (e : BuildError T) → IsLargeOnly P e → IsExactError g e
exact_without_graph P g (Table e) r = absurd r
exact_without_graph P g TooLarge r = tt
exact_without_graph P g Memory r = tt

-- what holds of an error holds where it is passed on
pub error_answered : {T E : Type 0} (P : T → Type 0) (Q : E → Type 0) (r : Result T E) (e : E) → IsErrAnd r (λ x. x ≡ e) → Q e → MatchResult r P Q
error_answered P Q (Ok x) e same h = absurd same
error_answered P Q (Err x) e same h = subst Q (sym same) h

-- a chain that is long enough
pub chain_of_count : (g : Grammar) (n made : ℕ) → HasChainOfExactly g made → n ≤ made → HasChainOf g n
chain_of_count g n made (chain, is, same) l = (chain, is, omega (arith, same, l))

use Rattle.std.proofs.Common.{◌≡◌, ℕ, ◌-◌, ◌^◌, true, false, map, subst}
use Rattle.lryacc.specs.declared.numbering.FileGrammar.{FileGrammar}
use Rattle.lrfindings.specs.declared.findings.Findings.{Findings}
use Rattle.lrfindings.specs.FileGrammars.{IsGrammarOfFile}
use Rattle.lrfindings.specs.ReachedStates.{AreLeft, AreResolved}
use Rattle.lrfindings.specs.Findings.{AreFindings, FindNothing, DecidesNothing}
use Rattle.lrverdicts.specs.Listed.{told}
use Rattle.lrfindings.specs.StoredCells.{resolution}
use Rattle.lrfindings.proofs.ListedNothing.{lists_nothing}
use Rattle.lrfindings.proofs.NothingFound.{with_or_without, kept_or_not}
use Rattle.lrfindings.proofs.findings.find.Goals as goal

pub returns-then-is_nothing-clause-refused : goal.returns-then-is_nothing-clause-refused
returns-then-is_nothing-clause-refused c = with_or_without (2 ^ 32 - 1) c.args.file.now false _ c.find_with-then-is_nothing.ensures.refused

-- with the precedences nothing was found
none_with :
    (max : ℕ) (file : FileGrammar) (f : Findings) → AreFindings max file f → FindNothing f → f.has_precedences ≡ true
    → DecidesNothing max file
none_with max file f are nothing with = record {
  grammar = f.grm;
  graph = are.graph;
  table = f.table;
  of_file = subst (λ b. IsGrammarOfFile max file b f.grm) with are.grammar;
  of_grammar = are.of_grammar;
  of_graph = are.table;
  nothing = lists_nothing f.table f.conflicts.items are.conflicts nothing.conflicts;
  left = λ some. subst (λ es. AreLeft f.grm are.graph (map told es)) nothing.left (are.left some);
  resolved = subst (λ rs. AreResolved f.grm are.graph (map resolution rs)) nothing.resolved are.resolved;
}

pub returns-then-is_nothing-clause-kept : goal.returns-then-is_nothing-clause-kept
returns-then-is_nothing-clause-kept c =
    let max = 2 ^ 32 - 1 in
    let found = c.in_ok-found.found in
    kept_or_not max c.args.file.now c.args.has_precedences _ c.find_with-then-is_nothing.ensures.asked
    (λ asked. none_with max c.args.file.now found c.in_ok-found.ensures.found (c.is_nothing.ensures c.if-is_nothing.true) (subst (λ b. found.has_precedences ≡ b) asked c.in_ok-found.ensures.asked))

use Rattle.std.proofs.Common.{◌≡◌, ◌∙◌, None, ℕ, ◌-◌, ◌^◌, Bool, arith, length, subst, sym}
use Rattle.std.specs.Prelude.{IfSome, IsTrue}
use Rattle.lrspec.specs.grammars.Grammar.{Grammar}
use Rattle.lrspec.specs.merging.Graph.{Graph, IsGraphOf}
use Rattle.lrspec.specs.tables.Table.{IsTableOf}
use Rattle.lrspec.specs.tables.Conflicts.{AreReductionsContested}
use Rattle.lryacc.specs.declared.numbering.FileGrammar.{FileGrammar}
use Rattle.lryacc.specs.declared.meaning.Expected.{Expected}
use Rattle.lrverdicts.specs.declared.verdicts.Counts.{Counts}
use Rattle.lrverdicts.specs.declared.verdicts.Verdict.{Verdict}
use Rattle.lrverdicts.specs.declared.verdicts.Verdict.TheVariants.{Unambiguous}
use Rattle.lrverdicts.specs.Verdicts.{IsVerdict}
use Rattle.lrfindings.specs.declared.findings.Findings.{Findings}
use Rattle.lrfindings.specs.Findings.{AreFindings}
use Rattle.lrevidence.specs.Entries.{AreListedIn}
use Rattle.lrevidence.specs.Ambiguities.{PartsAtEntry}
use Rattle.lrevidence.specs.DecidedEntries.{IsDecidedEntry, IsDecidedOf}
use Rattle.lrevidence.specs.KeptEntries.{IsKeptEntry}
use Rattle.lrshown.specs.declared.evidence.Evidence.{Evidence}
use Rattle.lrshown.specs.Exactness.{IsExactButAtErrors}
use Rattle.lrreport.proofs.KeptGraph.{of_kept, at_kept, kept_or, each_of_kept, told_of_kept, each_at_kept}
use Rattle.lrreport.proofs.KeptFindings.{are_left, so_many_resolved, known_without, none_known}
use Rattle.lrreport.proofs.reports.outcome_on_findings.Goals as goal

-- the entries are those of the graph's table
listed : (max : ℕ) (file : FileGrammar) (f : Findings) (a : AreFindings max file f) → AreListedIn f.grm a.graph f.conflicts.items
listed max file f a = rw (← a.table.reduce_reduce, ← a.table.shift_reduce) a.conflicts

pub known_of-requires-clause-graph : goal.known_of-requires-clause-graph
known_of-requires-clause-graph c =
    let found = c.args.found.now in
    kept_or c.requires.found.graph (IsGraphOf found.grm) found.graph _ c.requires.found.kept c.requires.found.of_grammar c.requires.found.without

pub known_of-requires-clause-listed : goal.known_of-requires-clause-listed
known_of-requires-clause-listed c =
    let found = c.args.found.now in
    of_kept c.requires.found.graph (λ h. AreListedIn found.grm h found.conflicts.items) found.graph c.requires.found.kept (listed _ _ found c.requires.found)

pub known_of-requires-clause-contested : goal.known_of-requires-clause-contested
known_of-requires-clause-contested c =
    let found = c.args.found.now in
    of_kept c.requires.found.graph (AreReductionsContested found.grm) found.graph c.requires.found.kept c.requires.found.contested

pub known_of-requires-clause-table : goal.known_of-requires-clause-table
known_of-requires-clause-table c = record {
  graph = c.requires.found.graph;
  graph_of = c.requires.found.of_grammar;
  table_of = c.requires.found.table;
}

pub known_of-requires-clause-table_of : goal.known_of-requires-clause-table_of
known_of-requires-clause-table_of c =
    let found = c.args.found.now in
    of_kept c.requires.found.graph (λ h. IsTableOf found.grm h found.table) found.graph c.requires.found.kept c.requires.found.table

-- a verdict that says so is of a grammar that is shown to be unambiguous
shown : (b : Bool) (left : Counts) (e : Expected) (v : Verdict) → IsVerdict b left e v → v ≡ Unambiguous → IsTrue b
shown b left e v is told = (subst (λ v. IsVerdict b left e v) told is).0

pub text_on_findings-requires-clause-unambiguous : goal.text_on_findings-requires-clause-unambiguous
text_on_findings-requires-clause-unambiguous c = λ told. c.requires.found.unambiguous (shown c.args.found.now.is_unambiguous c.in_ok-known.known.left c.beside-expected.result c.of-verdict.result c.of-verdict.ensures told)

pub page_on_findings-requires-clause-unambiguous : goal.page_on_findings-requires-clause-unambiguous
page_on_findings-requires-clause-unambiguous c = λ told. c.requires.found.unambiguous (shown c.args.found.now.is_unambiguous c.in_ok-known.known.left c.beside-expected.result c.of-verdict.result c.of-verdict.ensures told)

-- of an entry of which nothing is told nothing is wrong
not_told : (g : Grammar) (h : Graph) (e : Evidence) → e.decided ≡ None → IsDecidedOf g h e
not_told g h e none = subst (λ d. IfSome d (IsDecidedEntry g h e.entry)) (sym none) tt

pub page_on_findings-requires-clause-graph : goal.page_on_findings-requires-clause-graph
page_on_findings-requires-clause-graph c =
    let found = c.args.found.now in
    of_kept c.requires.found.graph (IsGraphOf found.grm) found.graph c.requires.found.kept c.requires.found.of_grammar

pub page_on_findings-requires-clause-table_of : goal.page_on_findings-requires-clause-table_of
page_on_findings-requires-clause-table_of c =
    let found = c.args.found.now in
    of_kept c.requires.found.graph (λ h. IsTableOf found.grm h found.table) found.graph c.requires.found.kept c.requires.found.table

pub returns-clause-proved : goal.returns-clause-proved
returns-clause-proved c = record {
  max = 2 ^ 32 - 1;
  grammar = c.args.found.now.grm;
  graph = c.requires.found.graph;
  shown = c.args.found.now.is_unambiguous;
  of_file = c.requires.found.grammar;
  kept = c.requires.kept;
  of_grammar = c.requires.found.of_grammar;
  left = rw c.in_ok-known.ensures.left (are_left _ _ c.args.found.now c.requires.found);
  resolved =
      let (rs, are, many) = so_many_resolved _ _ c.args.found.now c.requires.found in
      (rs, are, omega (arith, c.len.ensures, c.args.found.now.resolved.ok.0) ∙ many);
  verdict = subst (λ counts. IsVerdict c.args.found.now.is_unambiguous counts c.beside-expected.result c.of-verdict.result) c.in_ok-known.ensures.counts c.of-verdict.ensures;
  unambiguous = c.requires.found.unambiguous;
  yet_unambiguous = c.in_ok-known.ensures.unambiguous;
  known = λ plain none. known_without _ _ c.args.found.now c.requires.found plain (sym c.in_ok-known.ensures.left ∙ none_known _ none);
  texts = c.in_ok-known.ensures.proved;
  parts = each_of_kept c.requires.found.graph (PartsAtEntry c.args.found.now.grm) c.in_ok-known.known.evidence.items c.args.found.now.graph
      c.requires.found.kept c.in_ok-known.ensures.parts;
  table = c.args.found.now.table;
  table_of = c.requires.found.table;
  lost = c.in_ok-known.ensures.lost;
  decided = told_of_kept c.requires.found.graph (λ e. e.decided ≡ None) (IsDecidedOf c.args.found.now.grm) c.in_ok-known.known.evidence.items c.args.found.now.graph
      (λ e none. not_told c.args.found.now.grm c.requires.found.graph e none) c.requires.found.kept c.in_ok-known.ensures.entries;
  exact = c.in_ok-known.ensures.exact.exact;
  but_at_errors = λ told. at_kept c.requires.found.graph (λ h. IsExactButAtErrors c.args.found.now.grm h c.args.found.now.table) c.args.found.now.graph
      c.requires.found.kept (c.in_ok-known.ensures.exact.but_at_errors told);
  kept_entries = each_at_kept c.requires.found.graph (λ h. IsKeptEntry c.args.found.now.grm h c.args.found.now.table) c.in_ok-known.known.kept.items
      c.args.found.now.graph c.requires.found.kept c.in_ok-known.ensures.kept;
  without = c.in_ok-known.ensures.decided;
}

pub returns-clause-told : goal.returns-clause-told
returns-clause-told c =
    let resolved : c.len.result ≡ length c.args.found.now.resolved.items = omega (arith, c.len.ensures, c.args.found.now.resolved.ok.0) in
    rw resolved c.in_ok-text.ensures.told

use Rattle.std.proofs.Common.{false, length, nat_lt}
use Rattle.lrreport.proofs.KeptGraph.{is_some_referred}
use Rattle.lrreport.proofs.outputs.page_on_findings.Goals as goal

pub page-requires-clause-words : goal.page-requires-clause-words
page-requires-clause-words c = ∣ record {
  verdict = c.args.verdict;
  shown = c.args.known.now.is_unambiguous;
  evidence = c.args.known.now.evidence.items;
  searched = nat_lt 0 c.told_of.result.options.steps;
  resolved = length c.args.found.now.resolved.items;
  hint = false;
  exactness = c.args.known.now.exactness;
  decided = c.args.known.now.decided;
  are =
      rw (c.as_str.ensures.value, ← c.told_of.ensures.shown, ← c.told_of.ensures.exact, ← c.told_of.ensures.evidence, ← is_some_referred c.args.known.now.decided c.as_ref.result c.as_ref.ensures.value)
      c.in_ok-words.ensures.words;
  unambiguous = c.requires.unambiguous;
  yet_unambiguous = c.requires.yet_unambiguous;
  texts = c.requires.proved;
  lost = c.requires.lost;
  graph = c.args.found.now.graph;
  graph_of = c.requires.graph;
  table_of = c.requires.table_of;
  exact = c.requires.exact;
  entries = c.requires.entries;
  without = c.requires.decided;
} ∣₁

pub verdict_words-requires-clause-yet_unambiguous : goal.verdict_words-requires-clause-yet_unambiguous
verdict_words-requires-clause-yet_unambiguous c = rw c.told_of.ensures.shown c.requires.yet_unambiguous

pub verdict_words-requires-clause-exact : goal.verdict_words-requires-clause-exact
verdict_words-requires-clause-exact c = rw c.told_of.ensures.exact c.requires.exact

pub page-requires-clause-kept : goal.page-requires-clause-kept
page-requires-clause-kept c = rw c.told_of.ensures.kept c.requires.kept

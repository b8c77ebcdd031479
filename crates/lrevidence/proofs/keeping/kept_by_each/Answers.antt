use Rattle.std.proofs.lemmas.List.Elements.{All-push}
use Rattle.lrevidence.specs.KeptEntries.{IsKeptEntry}
use Rattle.lrevidence.proofs.keeping.kept_by_each.Goals.{then-branch+in_ok-push, else-branch}
use Rattle.lrevidence.proofs.keeping.kept_by_each.Goals as goal

pub loop-entry-preserved : goal.loop-entry-preserved
loop-entry-preserved c =
    let is_kept = IsKeptEntry c.args.automaton.grm.now c.args.automaton.graph.now c.args.automaton.table.now in
    elim c.if-branch.branch [
      | then-branch+in_ok-push w ↦ record {
        won = c.in_ok-is_kept_entry.ensures.won;
        kept = rw (w.kept-is, w.in_ok-push.ensures.items)
            (All-push is_kept c.loop-entry.kept.items _ c.loop-entry.invariant.kept (c.in_ok-is_kept_entry.ensures.kept w.if-branch.true));
      }
      | else-branch w ↦ record { won = c.in_ok-is_kept_entry.ensures.won; kept = rw w.kept-is c.loop-entry.invariant.kept }
    ]

use Rattle.std.proofs.Common.{◌≡◌, ◌≤◌, length, drop, slice_index}
use Rattle.std.specs.Vec.Iter.{into_iter_items, into_iter_len}
use Rattle.std.specs.List.{All}
use Rattle.lrspec.specs.merging.Graph.{IsInOrder}
use Rattle.lrclosing.specs.Closer.{IsCloserOf}
use Rattle.lrgraphs.specs.GraphOf.{graph_of}
use Rattle.lrpager.proofs.CollectedBelow.{AreKeptSoFar}
use Rattle.lrpager.proofs.pager.collecting.marked_states.Given as goal

abbrev pub invariant-loop-draft : goal.invariant-loop-draft
invariant-loop-draft g l =
    let drafts = l.fn.drafts.items in
    record {
      len : into_iter_len l.draft-iterator ≡ length (into_iter_items l.draft-iterator);
      rest : into_iter_items l.draft-iterator ≡ drop l.k drafts;
      within : l.k ≤ length drafts;
      closer : IsCloserOf l.grm l.closer;
      collecting : AreKeptSoFar l.kept l.grm (slice_index l.numbers) drafts l.marks l.k (graph_of g.T.IndexStorage.number l.states.items) l.edges_len;
      order : All IsInOrder (graph_of g.T.IndexStorage.number l.states.items);
    }

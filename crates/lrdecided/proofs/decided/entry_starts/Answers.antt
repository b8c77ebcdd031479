-- each of the first sides with each of the second
use Rattle.lrdecided.specs.StoredNodes.{sides_of, states_of}
use Rattle.lrdecided.proofs.decided.entry_starts.Goals as goal

pub states_with_core-requires-clause-fingerprints : goal.states_with_core-requires-clause-fingerprints
states_with_core-requires-clause-fingerprints c = rw c.as_slice.ensures.value c.requires.ways.fingerprints

pub returns : goal.returns
returns c =
    record {
      states = states_of c.in_ok-states.states.items;
      cores = c.in_ok-states.ensures;
      ones = sides_of c.in-Some.ones.items;
      others = sides_of c.in-Some-2.others.items;
      all_ones = rw c.in-Some.is at c.in_ok-ones.ensures;
      all_others = rw c.in-Some-2.is at c.in_ok-others.ensures;
      starts = rw (c.as_slice-2.ensures.value, c.as_slice-3.ensures.value, c.as_slice-4.ensures.value) at c.in_ok-starts.ensures;
    }

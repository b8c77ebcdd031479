use Rattle.std.proofs.Common.{◌≤◌, ◌≡◌, ◌<◌, List, None, false, length}
use Rattle.std.specs.Vec.Iter.{into_iter_items, into_iter_len}
use Rattle.lrspec.specs.grammars.Grammar as math
use Rattle.lrplacing.specs.Construction.{Draft, closed_at, edge_from, with_closed, closed_unless, PlacesAll}
use Rattle.lrplacing.specs.Invariant.{Holds, AllMayBePlaced}
use Rattle.lrplacing.specs.CandidatesOf.{AreCandidates}
use Rattle.lritems.specs.Gotos.{gotos_of, AllUpwards, AreOnDistinctSymbols, HasGotoOn}
use Rattle.lrplacing.proofs.placing.place_all.Given as goal

abbrev pub invariant-loop-symbol : goal.invariant-loop-symbol
invariant-loop-symbol g l =
    let number = g.T.IndexStorage.number in
    let rest = into_iter_items l.symbol-iterator in
    let states = closed_unless l.grew l.drafts.items l.from in
    record {
      count : into_iter_len l.symbol-iterator ≡ length rest;
      from : l.from < length l.drafts.items;
      most : length l.drafts.items ≤ g.T.IndexStorage.MAX;
      unclosed : closed_at l.drafts.items l.from ≡ false;
      holds : Holds l._grm states;
      gotos : AllMayBePlaced l._grm states l.from (gotos_of number rest);
      upwards : AllUpwards (gotos_of number rest);
      distinct : AreOnDistinctSymbols (gotos_of number rest);
      free : (x : math.Symbol) → HasGotoOn (gotos_of number rest) x → edge_from l.drafts.items l.from x ≡ None;
      candidates : AreCandidates l.drafts.items l.candidates;
      placed :
          (us : List Draft) → PlacesAll l.from states (gotos_of number rest) us
          → PlacesAll l.from (with_closed l.initial.drafts.items l.from) (gotos_of number l.fn.gotos.items) us;
    }

use Rattle.std.proofs.Common.{◌≡◌, ℕ, ◌<◌, List, [], ◌∷◌, ◌∙◌, refl, sym, length, arith, ap, inl, inr}
use Rattle.lrspec.proofs.texts.ResultsPassedOn.{error_passed}
use Rattle.lrspec.specs.merging.Chains.{HasChainOf}
use Rattle.lrplacing.specs.Refusals.{IsLargeOnly}
use Rattle.lrplacing.specs.Construction as plain
use Rattle.lrplacing.proofs.ClosedLater.{length_unless, core_unless, still_unclosed, placed_turn}
use Rattle.lrplacing.proofs.PlacedCores.{length_grown}
use Rattle.lrplacing.proofs.PlacingTurns.{bits_of_goto, held_on, still_may_be_placed, still_free, chain_of_most, large_by}
use Rattle.lrplacing.proofs.placing.place_all.Goals as goal

pub place-requires-clause-bits : goal.place-requires-clause-bits
place-requires-clause-bits g c k b =
    let e = c.in-Some.ensures.steps.0 in
    let drafts = c.loop-symbol.drafts.items in
    let grew = c.loop-symbol.grew in
    rw (← core_unless grew drafts c.args.from k)
    (bits_of_goto c.loop-symbol.invariant.holds (rw e at c.loop-symbol.invariant.gotos).0 k (rw (length_unless grew drafts c.args.from) b))

pub returns-in_err-placed-clause-refused : goal.returns-in_err-placed-clause-refused
returns-in_err-placed-clause-refused g c =
    let most = g.T.IndexStorage.MAX in
    let i = c.loop-symbol.invariant in
    let same = length_unless c.loop-symbol.grew c.loop-symbol.drafts.items c.args.from in
    error_passed (IsLargeOnly (HasChainOf c.args._grm.now most)) _ c.in_err-placed.field-0.0 c.from_residual.ensures.1
    (large_by (λ l. chain_of_most _ most i.holds (rw same l)) c.in_err-placed.field-0.0 c.in_err-placed.ensures.refused)

pub loop-symbol-init : goal.loop-symbol-init
loop-symbol-init g c =
    let is = c.into_iter-symbol-iterator.ensures.into_iter_gives in
    record {
      count = is.1 ∙ c.args.gotos.ok.0 ∙ sym (ap length is.0);
      from = c.requires.from;
      most = c.requires.most;
      unclosed = c.requires.unclosed;
      holds = c.requires.holds;
      gotos = rw is.0 c.requires.gotos;
      upwards = rw is.0 c.requires.upwards;
      distinct = rw is.0 c.requires.distinct;
      free = λ x h. c.requires.free x;
      candidates = c.requires.candidates;
      placed = λ us p. rw is.0 at p;
    }

pub loop-symbol-preserved : goal.loop-symbol-preserved
loop-symbol-preserved g c =
    let e = c.in-Some.ensures.steps.0 in
    let i = c.loop-symbol.invariant in
    let from : c.args.from < length (plain.closed_unless c.loop-symbol.grew c.loop-symbol.drafts.items c.args.from) =
    rw (length_unless c.loop-symbol.grew c.loop-symbol.drafts.items c.args.from) i.from in
    let may = rw e at i.gotos in
    let up = rw e at i.upwards in
    let distinct = rw e at i.distinct in
    let m = c.in_ok-placed.ensures in
    let p = placed_turn m.placed i.from i.unclosed m.grew c.loop-symbol.grew c.has_grown-grew.result c.has_grown-grew.ensures in
    record {
      count = omega (arith, c.in-Some.ensures.steps.1, i.count, ap length e);
      from = omega (arith, i.from, length_grown m.placed);
      most = m.most;
      unclosed = still_unclosed m.placed i.from i.unclosed;
      holds = held_on p i.holds from may.0;
      gotos = still_may_be_placed c.args._grm.now p from _ may.1;
      upwards = up.1;
      distinct = distinct.1;
      free = still_free m.placed _ distinct.0 (λ y h. i.free y (rw e (inr h)));
      candidates = m.candidates;
      placed = λ us r. i.placed us (rw e (plain.PlacesAll.more c.in_ok-placed.placed.state p r));
    }

pub place-requires-clause-upwards : goal.place-requires-clause-upwards
place-requires-clause-upwards g c = let e = c.in-Some.ensures.steps.0 in (rw e at c.loop-symbol.invariant.upwards).0

pub place-requires-clause-free : goal.place-requires-clause-free
place-requires-clause-free g c = let e = c.in-Some.ensures.steps.0 in c.loop-symbol.invariant.free _ (rw e (inl refl))

empty : {X : Type 0} (xs : List X) (n : ℕ) → n ≡ length xs → n ≡ 0 → xs ≡ []
empty [] n e f = refl
empty (x ∷ xs) n e f = absurd (omega arith)

pub returns-clause-placed : goal.returns-clause-placed
returns-clause-placed g c =
    let e = empty _ _ c.loop-symbol.invariant.count c.in-None.ensures.steps.0 in
    c.loop-symbol.invariant.placed _ (rw e plain.PlacesAll.none)

pub place-requires-clause-from : goal.place-requires-clause-from
place-requires-clause-from g c = c.loop-symbol.invariant.from

pub place-requires-clause-most : goal.place-requires-clause-most
place-requires-clause-most g c = c.loop-symbol.invariant.most

pub place-requires-clause-candidates : goal.place-requires-clause-candidates
place-requires-clause-candidates g c = c.loop-symbol.invariant.candidates

pub returns-clause-from : goal.returns-clause-from
returns-clause-from g c = c.loop-symbol.invariant.from

pub returns-clause-most : goal.returns-clause-most
returns-clause-most g c = c.loop-symbol.invariant.most

pub returns-clause-candidates : goal.returns-clause-candidates
returns-clause-candidates g c = c.loop-symbol.invariant.candidates

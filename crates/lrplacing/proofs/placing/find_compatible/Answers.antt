use Rattle.std.proofs.Common.{sym, ◌∙◌, ◌<◌, get_or, length, arith}
use Rattle.std.proofs.lemmas.Bool.{false≢true}
use Rattle.std.proofs.lemmas.List.{take_all}
use Rattle.std.proofs.lemmas.List.Elements.{All-more}
use Rattle.lrspec.specs.merging.WeakCompatibility.{SameItems, Clash}
use Rattle.lritems.specs.Gotos.{items_in}
use Rattle.lrplacing.specs.Construction.{core_at}
use Rattle.lrplacing.specs.ChosenPlaces.{IsCompatible}
use Rattle.lrplacing.proofs.DraftLists.{core_found, clash_more}
use Rattle.lrplacing.proofs.FirstOfList.{first_at}
use Rattle.lrplacing.proofs.placing.find_compatible.Goals as goal

pub weakly_compatible-requires-clause-bits : goal.weakly_compatible-requires-clause-bits
weakly_compatible-requires-clause-bits g c =
    let k = get_or c.args.candidates.now c.loop-k.k-index 0 in
    let below : k < length c.args.drafts.now = c.requires.below c.loop-k.k-index 0 (omega arith) in
    rw (c.core.ensures ∙ sym (core_found c.args.drafts.now k c.index-drafts-k.result below c.index-drafts-k.is)) (c.requires.bits k below)

pub loop-k-preserved : goal.loop-k-preserved
loop-k-preserved g c =
    let goto = items_in g.T.IndexStorage.number c.args.goto.now in
    let compatible = IsCompatible c.args.drafts.now goto in
    let i = c.loop-k.k-index in
    let k = get_or c.args.candidates.now i 0 in
    let below : k < length c.args.drafts.now = c.requires.below i 0 (omega arith) in
    let found = core_found c.args.drafts.now k c.index-drafts-k.result below c.index-drafts-k.is ∙ sym c.core.ensures in
    let clash : SameItems (core_at c.args.drafts.now k) goto → Clash (core_at c.args.drafts.now k) goto =
    rw found (c.weakly_compatible.ensures.clash c.if-weakly_compatible.false) in
    let none : compatible k → ⊥ =
    rw found (λ h. false≢true (sym c.if-weakly_compatible.false ∙ c.weakly_compatible.ensures.compatible.1 h)) in
    record {
      clash = clash_more c.args.drafts.now goto c.args.candidates.now i (omega arith) c.loop-k.invariant.clash clash;
      none = All-more (λ j. compatible j → ⊥) c.args.candidates.now i 0 (omega arith) c.loop-k.invariant.none none;
    }

pub returns-then-weakly_compatible : goal.returns-then-weakly_compatible
returns-then-weakly_compatible g c =
    let compatible = IsCompatible c.args.drafts.now (items_in g.T.IndexStorage.number c.args.goto.now) in
    let i = c.loop-k.k-index in
    let k = get_or c.args.candidates.now i 0 in
    let below : k < length c.args.drafts.now = c.requires.below i 0 (omega arith) in
    let here : compatible k =
    rw (core_found c.args.drafts.now k c.index-drafts-k.result below c.index-drafts-k.is ∙ sym c.core.ensures) (c.weakly_compatible.ensures.compatible.0 c.if-weakly_compatible.true) in
    record {
      compatible = (below, here);
      first = first_at compatible c.args.candidates.now i (omega arith) c.loop-k.invariant.none here;
    }

pub returns : goal.returns
returns g c = record {
  compatible = λ k d l. c.loop-k.invariant.clash k d (omega arith);
  first = rw (take_all c.loop-k.k-index c.args.candidates.now (omega arith)) at c.loop-k.invariant.none;
}

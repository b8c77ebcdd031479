use Rattle.std.proofs.Common.{sym, ◌∙◌, ◌<◌, get_or, length, arith}
use Rattle.std.proofs.lemmas.Bool.{false≢true}
use Rattle.std.proofs.lemmas.List.{take_all}
use Rattle.std.proofs.lemmas.List.Elements.{All-more}
use Rattle.lritems.specs.Gotos.{items_in}
use Rattle.lrplacing.specs.ChosenPlaces.{IsEqual}
use Rattle.lrplacing.proofs.DraftLists.{core_found}
use Rattle.lrplacing.proofs.FirstOfList.{first_at}
use Rattle.lrplacing.proofs.placing.find_equal.Goals as goal

pub loop-k-preserved : goal.loop-k-preserved
loop-k-preserved g c =
    let equal = IsEqual c.args.drafts.now (items_in g.T.IndexStorage.number c.args.goto.now) in
    let i = c.loop-k.k-index in
    let k = get_or c.args.candidates.now i 0 in
    let below : k < length c.args.drafts.now = c.requires.below i 0 (omega arith) in
    let here : equal k → ⊥ =
    rw (core_found c.args.drafts.now k c.index-drafts-k.result below c.index-drafts-k.is ∙ sym c.core.ensures) (λ h. false≢true (sym c.if-is_equal.false ∙ c.is_equal.ensures.1 h)) in
    All-more (λ j. equal j → ⊥) c.args.candidates.now i 0 (omega arith) c.loop-k.invariant here

pub returns-then-is_equal : goal.returns-then-is_equal
returns-then-is_equal g c =
    let equal = IsEqual c.args.drafts.now (items_in g.T.IndexStorage.number c.args.goto.now) in
    let i = c.loop-k.k-index in
    let k = get_or c.args.candidates.now i 0 in
    let below : k < length c.args.drafts.now = c.requires.below i 0 (omega arith) in
    let here : equal k =
    rw (core_found c.args.drafts.now k c.index-drafts-k.result below c.index-drafts-k.is ∙ sym c.core.ensures) (c.is_equal.ensures.0 c.if-is_equal.true) in
    first_at equal c.args.candidates.now i (omega arith) c.loop-k.invariant here

pub returns : goal.returns
returns g c = rw (take_all c.loop-k.k-index c.args.candidates.now (omega arith)) at c.loop-k.invariant

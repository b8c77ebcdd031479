use Rattle.std.proofs.Common.{◌≡◌, ℕ, ◌<◌, ◌∙◌, sym, ap, refl, arith, length, below_more}
use Rattle.std.specs.Prelude.{false}
use Rattle.std.proofs.lemmas.List.{length-map}
use Rattle.lrspec.proofs.merging.CrossFacts.{clash_refutes}
use Rattle.lritems.specs.Gotos.{items_in}
use Rattle.lritems.specs.Merging.{PassesWithLater}
use Rattle.lritems.proofs.PassingPairs.{compatible_from_later}
use Rattle.lritems.proofs.SameKeys.{same_from_keys, keys_from_same, no_from}
use Rattle.lritems.proofs.merging.weakly_compatible.Goals as goal

pub returns-then-not-has_same_items-clause-compatible : goal.returns-then-not-has_same_items-clause-compatible
returns-then-not-has_same_items-clause-compatible g c =
    let keys = keys_from_same c.args.a.now (items_in g.T.IndexStorage.number c.args.b.now) c.has_same_items.ensures.upwards c.requires.upwards in
    no_from _ (λ w. let k : false ≡ _ = sym c.if-not-has_same_items.true ∙ c.has_same_items.ensures.same.1 (keys w.items) in cc)

pub returns-then-not-has_same_items-clause-clash : goal.returns-then-not-has_same_items-clause-clash
returns-then-not-has_same_items-clause-clash g c = λ _ s.
    let keys = keys_from_same c.args.a.now (items_in g.T.IndexStorage.number c.args.b.now) c.has_same_items.ensures.upwards c.requires.upwards s in
    let k : false ≡ _ = sym c.if-not-has_same_items.true ∙ c.has_same_items.ensures.same.1 keys in
    cc

pub returns-then-not-passes_with_later-clause-compatible : goal.returns-then-not-passes_with_later-clause-compatible
returns-then-not-passes_with_later-clause-compatible g c = no_from _ (clash_refutes (c.passes_with_later.ensures.no c.if-not-passes_with_later.true))

pub returns-then-not-passes_with_later-clause-clash : goal.returns-then-not-passes_with_later-clause-clash
returns-then-not-passes_with_later-clause-clash g c = λ _ _. c.passes_with_later.ensures.no c.if-not-passes_with_later.true

pub passes_with_later-requires-clause-place : goal.passes_with_later-requires-clause-place
passes_with_later-requires-clause-place g c =
    let long : length c.a.inside.items.items ≡ length c.args.a.now = sym (length-map c.a.inside.items.items _) ∙ ap length c.a.view_is in
    omega (arith, long, c.a.inside.items.ok.0)

pub loop-i-preserved : goal.loop-i-preserved
loop-i-preserved g c =
    below_more (λ (k : ℕ). PassesWithLater c.args.a.now (items_in g.T.IndexStorage.number c.args.b.now) k) c.loop-i.i c.loop-i.invariant
    (c.passes_with_later.ensures.yes c.if-not-passes_with_later.false)

pub returns-clause-compatible : goal.returns-clause-compatible
returns-clause-compatible g c =
    let number = g.T.IndexStorage.number in
    let a = c.args.a.now in
    let b = items_in number c.args.b.now in
    let same = same_from_keys a b (c.has_same_items.ensures.same.0 c.if-not-has_same_items.false) in
    let long : length c.a.inside.items.items ≡ length a = sym (length-map c.a.inside.items.items _) ∙ ap length c.a.view_is in
    (λ _. compatible_from_later a b same (λ k l. let below : k < c.loop-i.i = omega (arith, c.a.inside.items.ok.0) in c.loop-i.invariant k below), λ _. refl)

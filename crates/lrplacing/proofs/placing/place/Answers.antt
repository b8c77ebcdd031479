use Rattle.std.proofs.Common.{◌∙◌, ◌<◌, ◌≤◌, length, refl, sym, subst, arith}
use Rattle.lrgrammar.specs.Symbols.{symbol_of}
use Rattle.lritems.specs.Gotos.{items_in}
use Rattle.lrplacing.specs.ChosenPlaces as choice
use Rattle.lrplacing.specs.Construction.{TellsGrowth}
use Rattle.lrplacing.proofs.CoreGrowth.{of_equal, not_grown}
use Rattle.lrplacing.proofs.CandidateLists.{all_below, all_clash, candidates_kept, candidates_made, same_cores, merged_items, others_core}
use Rattle.lrplacing.proofs.FirstOfList.{first_among}
use Rattle.lrplacing.proofs.PlacingFacts.{edges_from, put_places, put_equal, put_merged, put_made}
use Rattle.lrplacing.proofs.placing.place.Goals as goal

pub find_equal-requires-clause-below : goal.find_equal-requires-clause-below
find_equal-requires-clause-below g c =
    rw c.as_slice.ensures.value (all_below c.at-listed.result.now c.goto_fingerprint-fingerprint.result c.requires.candidates c.at-listed.ensures)

pub returns-in-Some-clause-placed : goal.returns-in-Some-clause-placed
returns-in-Some-clause-placed g c =
    let number = g.T.IndexStorage.number in
    let old = c.args.drafts.now.items in
    let equal = rw c.as_slice.ensures.value at c.in-Some.ensures in
    let listed = all_below c.at-listed.result.now c.goto_fingerprint-fingerprint.result c.requires.candidates c.at-listed.ensures in
    let below = first_among (λ k. k < length old) listed equal in
    let l = c.in_ok-link.ensures in
    put_places c.args.from (symbol_of number c.args.symbol) c.in-Some.k
    (put_equal old (items_in number c.args.goto.now) c.in-Some.k below equal.here) l.len l.stays l.edges

pub returns-in-Some-clause-choice : goal.returns-in-Some-clause-choice
returns-in-Some-clause-choice g c =
    let equal = rw c.as_slice.ensures.value at c.in-Some.ensures in
    rw (← c.goto_fingerprint-fingerprint.ensures, ← c.at-listed.ensures) (choice.IsPlaceOf.equal equal)

pub returns-in-Some-clause-candidates : goal.returns-in-Some-clause-candidates
returns-in-Some-clause-candidates g c =
    let l = c.in_ok-link.ensures in
    candidates_kept l.len (λ j b. same_cores (l.stays j).core) c.requires.candidates

pub find_compatible-requires-clause-below : goal.find_compatible-requires-clause-below
find_compatible-requires-clause-below g c =
    rw c.as_slice-2.ensures.value (all_below c.at-listed.result.now c.goto_fingerprint-fingerprint.result c.requires.candidates c.at-listed.ensures)

pub find_compatible-requires-clause-bits : goal.find_compatible-requires-clause-bits
find_compatible-requires-clause-bits g c = rw c.as_slice-2.ensures.value c.requires.bits

pub merge_at-grew-requires-clause-can : goal.merge_at-grew-requires-clause-can
merge_at-grew-requires-clause-can g c =
    let found = rw c.as_slice-2.ensures.value at c.in-Some-find_compatible.ensures.compatible in
    record {
      items = found.1.items;
      bits = c.requires.bits c.in-Some-find_compatible.k found.0;
      upwards = c.requires.upwards;
    }

pub returns-in-Some-find_compatible-clause-placed : goal.returns-in-Some-find_compatible-clause-placed
returns-in-Some-find_compatible-clause-placed g c =
    let number = g.T.IndexStorage.number in
    let found = rw c.as_slice-2.ensures.value at c.in-Some-find_compatible.ensures.compatible in
    let m = c.merge_at-grew.ensures in
    let l = c.in_ok-link-2.ensures in
    put_places c.args.from (symbol_of number c.args.symbol) c.in-Some-find_compatible.k
    (put_merged c.args.drafts.now.items c.merge_at-grew.new.drafts.items (items_in number c.args.goto.now) c.in-Some-find_compatible.k found.0 found.1 m.len m.others m.edges m.taken.union
    m.taken.fits m.closed)
    l.len l.stays l.edges

pub returns-in-Some-find_compatible-clause-choice : goal.returns-in-Some-find_compatible-clause-choice
returns-in-Some-find_compatible-clause-choice g c =
    let none_equal = rw c.as_slice.ensures.value at c.in_default.ensures in
    let compatible = rw c.as_slice-2.ensures.value at c.in-Some-find_compatible.ensures.first in
    rw (← c.goto_fingerprint-fingerprint.ensures, ← c.at-listed.ensures) (choice.IsPlaceOf.compatible none_equal compatible)

pub returns-in-Some-find_compatible-clause-candidates : goal.returns-in-Some-find_compatible-clause-candidates
returns-in-Some-find_compatible-clause-candidates g c =
    let m = c.merge_at-grew.ensures in
    let l = c.in_ok-link-2.ensures in
    let k = c.in-Some-find_compatible.k in
    let old = c.args.drafts.now.items in
    candidates_kept (l.len ∙ m.len)
    (λ j b. rw ((l.stays j).core) (merged_items old c.merge_at-grew.new.drafts.items k m.others m.taken.union j))
    c.requires.candidates

pub returns-clause-placed : goal.returns-clause-placed
returns-clause-placed g c =
    let number = g.T.IndexStorage.number in
    let none = rw c.as_slice-2.ensures.value at c.in_default-find_compatible.ensures.compatible in
    let m = c.in_ok-k.ensures in
    let l = c.in_ok-link-3.ensures in
    put_places c.args.from (symbol_of number c.args.symbol) c.in_ok-k.k
    (put_made c.args.drafts.now.items c.make.new.drafts.items (items_in number c.args.goto.now) c.in_ok-k.k m.number m.len m.others (m.core ∙ c.in_ok-core.ensures) m.closed m.edges
    (all_clash c.at-listed.result.now c.requires.candidates c.requires.upwards (rw c.goto_fingerprint-fingerprint.ensures at c.at-listed.ensures) none))
    l.len l.stays l.edges

pub returns-clause-choice : goal.returns-clause-choice
returns-clause-choice g c =
    let none_equal = rw c.as_slice.ensures.value at c.in_default.ensures in
    let none_compatible = rw c.as_slice-2.ensures.value at c.in_default-find_compatible.ensures.first in
    rw (c.in_ok-k.ensures.number, ← c.goto_fingerprint-fingerprint.ensures, ← c.at-listed.ensures) (choice.IsPlaceOf.made none_equal none_compatible)

pub returns-clause-candidates : goal.returns-clause-candidates
returns-clause-candidates g c =
    let number = g.T.IndexStorage.number in
    let m = c.in_ok-k.ensures in
    let a = c.in_ok-add.ensures in
    let l = c.in_ok-link-3.ensures in
    candidates_kept l.len (λ j b. same_cores (l.stays j).core)
    (candidates_made c.args.drafts.now.items c.make.new.drafts.items c.args.candidates.now c.add.new.self (items_in number c.args.goto.now) m.len
    (λ j b. others_core c.args.drafts.now.items c.make.new.drafts.items m.others j b) (m.core ∙ c.in_ok-core.ensures) c.requires.upwards
    (rw (m.number, c.goto_fingerprint-fingerprint.ensures) at a.here) (rw c.goto_fingerprint-fingerprint.ensures at a.others) c.requires.candidates)

pub link-requires-2-clause-from : goal.link-requires-2-clause-from
link-requires-2-clause-from g c = omega (arith, c.in_ok-k.ensures.len, c.requires.from)

pub link-requires-2-clause-free : goal.link-requires-2-clause-free
link-requires-2-clause-free g c =
    let old = c.args.drafts.now.items in
    let m = c.in_ok-k.ensures in
    edges_from old c.make.new.drafts.items c.args.from (m.others c.args.from (λ e. omega (arith, e, c.requires.from))) (symbol_of g.T.IndexStorage.number c.args.symbol)
    ∙ c.requires.free

pub returns-in-Some-clause-grew : goal.returns-in-Some-clause-grew
returns-in-Some-clause-grew g c = λ _. not_grown _ _ (c.in_ok-link.ensures.stays c.in-Some.k).core

pub returns-in-Some-find_compatible-clause-grew : goal.returns-in-Some-find_compatible-clause-grew
returns-in-Some-find_compatible-clause-grew g c = λ _.
    let k = c.in-Some-find_compatible.k in
    of_equal (TellsGrowth c.merge_at-grew.result) _ _ _ _ refl (c.in_ok-link-2.ensures.stays k).core c.merge_at-grew.ensures.grew

pub returns-in-Some-find_compatible-clause-most : goal.returns-in-Some-find_compatible-clause-most
returns-in-Some-find_compatible-clause-most g c =
    subst (λ n. n ≤ g.T.IndexStorage.MAX) (sym (c.in_ok-link-2.ensures.len ∙ c.merge_at-grew.ensures.len)) c.requires.most

pub returns-clause-grew : goal.returns-clause-grew
returns-clause-grew g c = λ b. absurd (omega (arith, b, c.in_ok-k.ensures.number))

pub returns-clause-most : goal.returns-clause-most
returns-clause-most g c = subst (λ n. n ≤ g.T.IndexStorage.MAX) (sym c.in_ok-link-3.ensures.len) c.in_ok-k.ensures.most

use Rattle.std.proofs.Common.{◌≡◌, ◌++◌, ◌∙◌, ◌<◌, length, map, sym, subst}
use Rattle.std.specs.Prelude.{All, OnOk}
use Rattle.std.proofs.lemmas.List.Elements.{All-map}
use Rattle.lrtable.proofs.MadeLabels.{labels_count, labels_are}
use Rattle.lrtable.proofs.PushedRuns.{accepted, rejected, unfinished}
use Rattle.lrtable.proofs.machine.answers.push_run.Goals as goal

pub push_reductions-requires : goal.push_reductions-requires
push_reductions-requires g c =
    let number = g.T.IndexStorage.number in
    let m = c.args.grm.now in
    let ps = c.deref.result.now in
    let there = subst (λ ps. All (λ p. number p.0 < length m.productions) ps) (sym c.deref.ensures.value) c.requires.productions in
    subst (λ n. All (λ p. number p.0 < n) ps) (sym (labels_count m c.args.labels.now c.requires.labels)) there

pub returns-in_ok-extend_from_slice-in-Accepted : goal.returns-in_ok-extend_from_slice-in-Accepted
returns-in_ok-extend_from_slice-in-Accepted g c =
    let number = g.T.IndexStorage.number in
    let m = c.args.grm.now in
    let ps = c.deref.result.now in
    let there = subst (λ ps. All (λ p. number p.0 < length m.productions) ps) (sym c.deref.ensures.value) c.requires.productions in
    let texts = labels_are m c.args.labels.now c.requires.labels (map (λ p. number p.0) ps) (All-map (λ p. p < length m.productions) (λ p. number p.0) ps there) in
    let before = c.extend_from_slice.new.self.items in
    let written = subst (λ t. OnOk c.push_reductions.result (c.push_reductions.new.out.items ≡ before ++ t)) texts c.push_reductions.ensures in
    accepted number m c.args.run.now c.push_reductions.result c.push_reductions.new.out.items c.args.out.now.items c.as_bytes.result.now before ps
    c.in-Accepted.is c.deref.ensures.value c.in_ok-extend_from_slice-in-Accepted.ensures.items (c.as_bytes.ensures.value ∙ c.in_ok-format-in-Accepted.ensures.ok)
    written

pub returns-in_ok-format-in-Rejected : goal.returns-in_ok-format-in-Rejected
returns-in_ok-format-in-Rejected g c =
    rejected g.T.IndexStorage.number c.args.grm.now c.args.run.now c.extend_from_slice-in-Rejected.result c.extend_from_slice-in-Rejected.new.self.items
    c.args.out.now.items c.as_bytes-in-Rejected.result.now c.in-Rejected.is c.extend_from_slice-in-Rejected.ensures.items
    (c.as_bytes-in-Rejected.ensures.value ∙ c.in_ok-format-in-Rejected.ensures.ok)

pub returns-in_ok-format-in-Unfinished : goal.returns-in_ok-format-in-Unfinished
returns-in_ok-format-in-Unfinished g c =
    unfinished g.T.IndexStorage.number c.args.grm.now c.args.run.now c.extend_from_slice-in-Unfinished.result c.extend_from_slice-in-Unfinished.new.self.items
    c.args.out.now.items c.as_bytes-in-Unfinished.result.now c.in-Unfinished.is c.extend_from_slice-in-Unfinished.ensures.items
    (c.as_bytes-in-Unfinished.ensures.value ∙ c.in_ok-format-in-Unfinished.ensures.ok)

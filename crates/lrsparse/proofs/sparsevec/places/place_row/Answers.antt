use Rattle.std.proofs.Common.{ℕ, ◌<◌, ◌^◌}
use Rattle.std.proofs.lemmas.List.Elements.{All-map}
use Rattle.lrsparse.proofs.StartsKept.{nowhere_of_set, nowhere_of_list, nowhere_stays, starts_stay}
use Rattle.lrsparse.proofs.sparsevec.places.place_row.Goals as goal

pub set_of-requires-clause-narrow : goal.set_of-requires-clause-narrow
set_of-requires-clause-narrow c =
    rw (c.as_slice.ensures.value, c.in_ok-columns.ensures)
    (All-map (λ k. k < 2 ^ 60) (λ (e : ℕ × ℕ). e.0) c.args.entries.now c.requires.narrow)

pub place_from-requires-clause-start : goal.place_from-requires-clause-start
place_from-requires-clause-start c =
    let words = c.args.places.now.owned.items in
    let columns = c.in_ok-columns.columns in
    let same = rw c.as_slice.ensures.value at c.in_ok-set.ensures in
    let full = nowhere_of_list words columns.items c.in_ok-set.set same c.behind_full.result (rw c.as_slice-2.ensures.value at c.behind_full.ensures) in
    rw c.as_slice-3.ensures.value
    (nowhere_of_set words columns.items c.in_ok-set.set same _ (c.before-start.ensures words c.requires.starts full))

pub place_from-requires-clause-narrow : goal.place_from-requires-clause-narrow
place_from-requires-clause-narrow c =
    rw (c.as_slice-3.ensures.value, c.in_ok-columns.ensures)
    (All-map (λ k. k < 2 ^ 60) (λ (e : ℕ × ℕ). e.0) c.args.entries.now c.requires.narrow)

pub returns-clause-starts : goal.returns-clause-starts
returns-clause-starts c =
    let before = c.args.places.now.owned.items in
    let after = c.place_from.new.self.owned.items in
    let grown = c.in_ok-displacement.ensures.owned in
    let set = c.in_ok-set.set in
    let least = rw c.as_slice-3.ensures.value at c.in_ok-displacement.ensures.least in
    let here = nowhere_of_list before c.in_ok-columns.columns.items set (rw c.as_slice.ensures.value at c.in_ok-set.ensures) c.in_ok-displacement.displacement least in
    c.in_ok-note.ensures after
    (starts_stay c.args.starts.now before after grown c.requires.starts)
    (nowhere_stays before after set c.in_ok-displacement.displacement grown here)

use Rattle.std.proofs.Common.{◌++◌, ap, ◌∙◌, arith}
use Rattle.std.specs.Option.{option_to_list}
use Rattle.lrspec.specs.grammars.Trees.{Bare, And}
use Rattle.lrtree.proofs.BuiltRows.{some_row, some_root, root_is}
use Rattle.lrtree.proofs.building.build.Goals as goal

pub unwrap-roots-requires : goal.unwrap-roots-requires
unwrap-roots-requires g c =
    let number = g.T.IndexStorage.number in
    let (t, k) = c.requires in
    let some = some_row number c.add_visits.new.rows.items (And t Bare) (c.in-Ok.ensures t k) in
    c.pop.ensures.variant.1 (omega (arith, some, c.add_visits.new.rows.ok.0))

pub unwrap-root-requires : goal.unwrap-root-requires
unwrap-root-requires g c =
    let number = g.T.IndexStorage.number in
    let (t, k) = c.requires in
    let popped = c.pop.ensures.items ∙ ap (λ o. c.pop.new.self.items ++ option_to_list o) c.unwrap-roots.ensures in
    let some = some_root number c.add_visits.new.rows.items c.pop.new.self.items c.unwrap-roots.result t (c.in-Ok.ensures t k) popped in
    c.pop-in-Ok.ensures.variant.1 (omega (arith, some, c.unwrap-roots.result.ok.0))

pub returns-in-Ok : goal.returns-in-Ok
returns-in-Ok g c = λ t k.
    let number = g.T.IndexStorage.number in
    let popped = c.pop.ensures.items ∙ ap (λ o. c.pop.new.self.items ++ option_to_list o) c.unwrap-roots.ensures in
    root_is number c.add_visits.new.rows.items c.pop.new.self.items c.unwrap-roots.result t (c.in-Ok.ensures t k) popped c.pop-in-Ok.new.self.items c.unwrap-root.result
    (c.pop-in-Ok.ensures.items ∙ ap (λ o. c.pop-in-Ok.new.self.items ++ option_to_list o) c.unwrap-root.ensures)

use Rattle.std.proofs.Common.{◌≡◌, take, drop, subst}
use Rattle.std.proofs.lemmas.List.{take_min}
use Rattle.lrdiagnostics.specs.Positions.{EndsBefore, front_of, last_line}
use Rattle.lrdiagnostics.proofs.Ends.{some_end}
use Rattle.lrdiagnostics.proofs.sources.Source.column.Goals as goal

pub returns : goal.returns
returns c =
    let text = c.args.self.now.bytes.now in
    let end = c.min-end.result in
    let known = c.known_before-known.result in
    let same : take end text ≡ take c.args.at text = rw c.min-end.ensures (take_min c.args.at text) in
    let counted = some_end (front_of text end) 1 in
    let rest : EndsBefore (drop known.at (take end text)) known.column c.column_of.result = rw (c.split_at-2.ensures.back, c.split_at.ensures.front) at c.column_of.ensures in
    let is = c.known_before-known.ensures.goes_on counted.0 c.column_of.result counted.1 rest in
    subst (λ front. EndsBefore (last_line front) 1 c.column_of.result) same (subst (EndsBefore (front_of text end) 1) is counted.1)

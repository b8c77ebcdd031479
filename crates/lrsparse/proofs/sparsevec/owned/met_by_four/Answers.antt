use Rattle.std.proofs.Common.{◌<◌, ◌-◌, ◌/◌, length, arith}
use Rattle.lrsparse.proofs.MetColumns.{met_by_one, met_more}
use Rattle.lrsparse.proofs.sparsevec.owned.met_by_four.Goals as goal

pub returns-then-ends : goal.returns-then-ends
returns-then-ends c =
    let words = c.args.words.now in
    let columns = c.args.columns.now in
    let d = c.args.displacement in
    let first = met_by_one words columns d c.places_from.result 0 (omega arith) c.places_from.ensures in
    met_more words columns d c.places_from-2.result c.in-Some.last (omega arith) c.places_from-2.ensures _ first

pub returns : goal.returns
returns c =
    let words = c.args.words.now in
    let columns = c.args.columns.now in
    let d = c.args.displacement in
    let last = c.in-Some.last in
    let third = last / 3 in
    let within : last < length columns = omega arith in
    let first = met_by_one words columns d c.places_from.result 0 (omega arith) c.places_from.ensures in
    let ends = met_more words columns d c.places_from-2.result last within c.places_from-2.ensures _ first in
    let second = met_more words columns d c.places_from-3.result third (omega arith) c.places_from-3.ensures _ ends in
    met_more words columns d c.places_from-4.result (last - third) (omega arith) c.places_from-4.ensures _ second

use Rattle.std.proofs.Common.{length, map, sym, arith}
use Rattle.std.specs.String.{string_bytes}
use Rattle.std.proofs.lemmas.List.{length-map, map-append, nil_from_length}
use Rattle.lrreasons.specs.StoredForms.{trees_of}
use Rattle.lrreasons.proofs.Rows.{one_taken, none_taken}
use Rattle.lrreasons.proofs.brackets.take_last.Goals.{in-Some+in_ok-append, in_default}
use Rattle.lrreasons.proofs.brackets.take_last.Goals as goal

pub loop-preserved : goal.loop-preserved
loop-preserved c =
    let all = c.args.trees.now.items in
    let trees = c.loop.trees.items in
    let left = c.pop.new.self.items in
    let words = map string_bytes c.loop.words.items in
    let many = sym (length-map all (λ t. map string_bytes t.items)) in
    elim c.match-pop.branch [
      | in-Some+in_ok-append w ↦
          let t = w.in-Some.tree in
          let both = one_taken (λ t. map string_bytes t.items) (length all) c.loop.counter (trees_of all) trees left words t many w.in-Some.ensures.items c.loop.invariant.left c.loop.invariant.words in
          record {
            left = both.0;
            words = rw (w.words-is, w.in_ok-append.ensures.items, map-append string_bytes t.items c.loop.words.items) both.1;
          }
      | in_default w ↦
          let kept = rw w.in_default.is at c.pop.ensures.items in
          let empty = rw w.in_default.is at c.pop.ensures.cases in
          let none = nil_from_length trees (omega (arith, empty.0, c.loop.trees.ok.0)) in
          let both = none_taken (λ t. map string_bytes t.items) (length all) c.loop.counter (trees_of all) trees left words kept none c.loop.invariant.left many c.loop.invariant.words in
          record { left = both.0; words = rw w.words-is both.1 }
    ]

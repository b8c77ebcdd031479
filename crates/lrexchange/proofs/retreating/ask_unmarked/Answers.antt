-- what the mark hides
use Rattle.std.proofs.Common.{List, [], ◌∷◌, ◌++◌, None, refl, ap, ◌∙◌}
use Rattle.std.specs.Option.{option_map}
use Rattle.lrspec.specs.grammars.Grammar as math
use Rattle.lrdecided.proofs.CollectedInTurn.{added}
use Rattle.lrexchange.specs.Exchanges.{at}
use Rattle.lrexchange.specs.StoredPositions.{symbols_of, mark_of, position_of}
use Rattle.lrexchange.proofs.SamePositions.{same_position, the_ours}
use Rattle.lrexchange.proofs.retreating.ask_unmarked.Goals as goal

pub returns : goal.returns
returns c = λ t.
    let a = position_of c.args.position.now in
    let m = mark_of c.in-Some.mark in
    let before = symbols_of c.in-Some-before_last.before.now in
    let ys = before ++ m.symbol ∷ [] in
    let made = symbols_of c.in_ok-symbols.symbols.items in
    record {
      m = m;
      before = before;
      marked = ap (option_map mark_of) c.in-Some.is;
      behind = rw c.as_slice-symbols.ensures.value at c.in-Some-before_last.ensures;
      next = added position_of _ _ _ c.in_ok-push.ensures.items (at a.turn a.state a.theirs (the_ours ys None))
          (same_position a.turn a.turn a.state a.state (symbols_of c.in_ok-theirs.theirs.items) a.theirs (the_ours made None) (the_ours ys None) refl refl
          (ap symbols_of (c.in_ok-theirs.ensures.items ∙ c.as_slice.ensures.value)) (ap (λ (z : List math.Symbol). the_ours z None) c.in_ok-symbols.ensures));
    }

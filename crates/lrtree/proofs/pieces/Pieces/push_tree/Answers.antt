use Rattle.std.proofs.Common.{length, reverse, ap, ◌∙◌, length-append, arith}
use Rattle.std.proofs.lemmas.List.{with_items_is, length-reverse}
use Rattle.lrspec.specs.texts.TreeTexts.{tree_text}
use Rattle.lrtree.proofs.StoredPieces.{turned_again}
use Rattle.lrtree.proofs.pieces.Pieces.push_tree.Goals as goal

pub turn_behind-requires : goal.turn_behind-requires
turn_behind-requires g c =
    let (t, k) = c.requires.tree in
    let old = c.args.out.now in
    omega (
      arith,
      c.len-start.ensures,
      old.ok.0,
      ap length c.as_mut_slice.ensures.value,
      ap length (c.in_ok-push_turned.ensures t k),
      length-append old.items (reverse (tree_text c.args.grm.now t)),
    )

pub returns : goal.returns
returns g c = λ t k.
    let old = c.args.out.now.items in
    let text = tree_text c.args.grm.now t in
    let pushed = c.push_turned.new.out in
    let written = c.in_ok-push_turned.ensures t k in
    let turned =
    turned_again old text c.turn_behind.new.bytes c.len-start.result c.as_mut_slice.result.now (omega (arith, c.len-start.ensures, c.args.out.now.ok.0))
    (c.as_mut_slice.ensures.value ∙ written) c.turn_behind.ensures in
    with_items_is pushed c.turn_behind.new.bytes
    (omega (arith, ap length turned, length-append old text, ap length written, length-append old (reverse text), length-reverse text, pushed.ok.0)) ∙ turned

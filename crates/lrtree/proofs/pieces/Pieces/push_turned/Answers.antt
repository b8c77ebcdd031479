use Rattle.std.proofs.Common.{◌++◌, length, reverse, refl, sym, ap, ◌∙◌, arith}
use Rattle.std.specs.Option.{option_to_list}
use Rattle.std.proofs.lemmas.Bool.{eqb-true}
use Rattle.std.proofs.lemmas.List.{nil_from_length}
use Rattle.lrspec.specs.texts.TreeTexts.{tree_text}
use Rattle.lrtree.proofs.PieceSteps.{pieces_open, root_kept, root_there, root_begins, some_piece, node_ended, node_kept, node_there, node_begun, more_told, written_before, nothing_remains}
use Rattle.lrtree.proofs.pieces.Pieces.push_turned.Goals as goal

pub unwrap-root-requires : goal.unwrap-root-requires
unwrap-root-requires g c =
    let (t, k) = c.requires.tree in
    let kept = root_kept g.T.IndexStorage.number c.args.self.now.nodes.items c.args.grm.now c.requires.pieces k.rule t c.args.productions.items k.is_tree k.productions in
    c.pop.ensures.variant.1 (omega (arith, kept, c.args.productions.ok.0))

pub of-requires : goal.of-requires
of-requires g c =
    let (t, k) = c.requires.tree in
    root_there g.T.IndexStorage.number c.args.self.now.nodes.items c.args.grm.now c.requires.pieces k.rule t c.args.productions.items k.is_tree k.productions
    c.pop.new.self.items c.unwrap-root.result (c.pop.ensures.items ∙ ap (λ o. c.pop.new.self.items ++ option_to_list o) c.unwrap-root.ensures)

pub loop-pieces-init : goal.loop-pieces-init
loop-pieces-init g c = λ t k. (
  reverse (tree_text c.args.grm.now t),
  root_begins g.T.IndexStorage.number c.args.self.now.nodes.items c.args.grm.now c.requires.pieces k.rule t c.args.productions.items k.is_tree k.productions
      c.pop.new.self.items c.unwrap-root.result (c.pop.ensures.items ∙ ap (λ o. c.pop.new.self.items ++ option_to_list o) c.unwrap-root.ensures)
      c.new-open.result.items c.push.new.self.items c.of.result c.new-open.ensures.items c.in_ok-push.ensures.items c.of.ensures,
  refl,
)

pub unwrap-requires : goal.unwrap-requires
unwrap-requires g c =
    let (t, k) = c.requires.tree in
    let (rest, remains, so_far) = c.loop-pieces.invariant t k in
    let some =
    some_piece g.T.IndexStorage.number c.args.self.now.nodes.items c.args.grm.now c.requires.pieces c.loop-pieces.«open».items c.pop-in-loop-pieces.new.self.items
    c.in-Some.pieces c.in-Some.ensures.items c.loop-pieces.left.items rest remains in
    c.split_first.ensures.variant.1 some

pub unwrap-child-requires : goal.unwrap-child-requires
unwrap-child-requires g c =
    let (t, k) = c.requires.tree in
    let (rest, remains, so_far) = c.loop-pieces.invariant t k in
    let split = (rw c.unwrap.ensures at c.split_first.ensures.cases).0 in
    let kept =
    node_kept g.T.IndexStorage.number c.args.self.now.nodes.items c.args.grm.now c.requires.pieces c.loop-pieces.«open».items c.pop-in-loop-pieces.new.self.items
    c.in-Some.pieces c.in-Some.ensures.items c.loop-pieces.left.items rest remains c.unwrap.result.0.now c.unwrap.result.1.now split (more_told c.unwrap.result.1.now c.is_empty.result c.is_empty.ensures c.if-not-is_empty.true) in
    c.pop-then-not-is_empty.ensures.variant.1 (omega (arith, kept, c.loop-pieces.left.ok.0))

pub of-requires-then-not-is_empty : goal.of-requires-then-not-is_empty
of-requires-then-not-is_empty g c =
    let (t, k) = c.requires.tree in
    let (rest, remains, so_far) = c.loop-pieces.invariant t k in
    let split = (rw c.unwrap.ensures at c.split_first.ensures.cases).0 in
    node_there g.T.IndexStorage.number c.args.self.now.nodes.items c.args.grm.now c.requires.pieces c.loop-pieces.«open».items c.pop-in-loop-pieces.new.self.items
    c.in-Some.pieces c.in-Some.ensures.items c.loop-pieces.left.items rest remains c.unwrap.result.0.now c.unwrap.result.1.now split (more_told c.unwrap.result.1.now c.is_empty.result c.is_empty.ensures c.if-not-is_empty.true)
    c.pop-then-not-is_empty.new.self.items c.unwrap-child.result
    (c.pop-then-not-is_empty.ensures.items ∙ ap (λ o. c.pop-then-not-is_empty.new.self.items ++ option_to_list o) c.unwrap-child.ensures)

pub loop-pieces-preserved-in-Continue-branch-4 : goal.loop-pieces-preserved-in-Continue-branch-4
loop-pieces-preserved-in-Continue-branch-4 g c = λ t k.
    let (rest, remains, so_far) = c.loop-pieces.invariant t k in
    let split = (rw c.unwrap.ensures at c.split_first.ensures.cases).0 in
    let (less, comes, then) =
    node_begun g.T.IndexStorage.number c.args.self.now.nodes.items c.args.grm.now c.requires.pieces c.loop-pieces.«open».items c.pop-in-loop-pieces.new.self.items
    c.in-Some.pieces c.in-Some.ensures.items c.loop-pieces.left.items rest remains c.unwrap.result.0.now c.unwrap.result.1.now split (more_told c.unwrap.result.1.now c.is_empty.result c.is_empty.ensures c.if-not-is_empty.true)
    c.pop-then-not-is_empty.new.self.items c.unwrap-child.result
    (c.pop-then-not-is_empty.ensures.items ∙ ap (λ o. c.pop-then-not-is_empty.new.self.items ++ option_to_list o) c.unwrap-child.ensures)
    c.push-then-not-is_empty.new.self.items c.push-then-not-is_empty-2.new.self.items c.unwrap.result.1 c.of-then-not-is_empty.result refl
    c.in_ok-push-2.ensures.items c.in_ok-push-3.ensures.items c.of-then-not-is_empty.ensures in (
      less,
      then,
      written_before c.loop-pieces.out.items c.unwrap.result.0.now.items rest less (c.args.out.now.items ++ reverse (tree_text c.args.grm.now t)) c.extend_from_slice.new.self.items
          (c.in_ok-extend_from_slice.ensures.items ∙ ap (λ l. c.loop-pieces.out.items ++ l) c.as_slice.ensures.value) comes so_far,
    )

pub loop-pieces-preserved : goal.loop-pieces-preserved
loop-pieces-preserved g c = λ t k.
    let (rest, remains, so_far) = c.loop-pieces.invariant t k in
    let split = (rw c.unwrap.ensures at c.split_first.ensures.cases).0 in
    let (less, comes, then) =
    node_ended g.T.IndexStorage.number c.args.self.now.nodes.items c.args.grm.now c.requires.pieces c.loop-pieces.«open».items c.pop-in-loop-pieces.new.self.items
    c.in-Some.pieces c.in-Some.ensures.items c.loop-pieces.left.items rest remains c.unwrap.result.0.now c.unwrap.result.1.now split
    (nil_from_length c.unwrap.result.1.now (eqb-true (length c.unwrap.result.1.now) 0 (sym c.is_empty.ensures ∙ c.if-not-is_empty.false))) in (
      less,
      then,
      written_before c.loop-pieces.out.items c.unwrap.result.0.now.items rest less (c.args.out.now.items ++ reverse (tree_text c.args.grm.now t)) c.extend_from_slice.new.self.items
          (c.in_ok-extend_from_slice.ensures.items ∙ ap (λ l. c.loop-pieces.out.items ++ l) c.as_slice.ensures.value) comes so_far,
    )

pub returns : goal.returns
returns g c = λ t k.
    let (rest, remains, so_far) = c.loop-pieces.invariant t k in
    let none = nil_from_length c.loop-pieces.«open».items (omega (arith, c.in_default.ensures.cases.0, c.loop-pieces.«open».ok.0)) in
    nothing_remains c.args.grm.now (pieces_open c.loop-pieces.«open».items) _ rest c.loop-pieces.out.items (c.args.out.now.items ++ reverse (tree_text c.args.grm.now t)) (ap pieces_open none) remains so_far

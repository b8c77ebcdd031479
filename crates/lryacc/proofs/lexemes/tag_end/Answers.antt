use Rattle.std.proofs.Common.{◌≡◌, ◌+◌, ◌-◌, suc, slice_index, refl, ap, subst, sym, ◌∙◌, arith}
use Rattle.lryacc.specs.Tags.{ClosesTag}
use Rattle.lryacc.specs.Tags.IsInTag.{nothing}
use Rattle.lryacc.specs.TagsRead.{AreOpen}
use Rattle.lryacc.specs.TagsRead.AreOpen.{none}
use Rattle.lryacc.proofs.TagsByBytes.{arrow-passes, byte-passes, closes-one, none-open, opens-one}
use Rattle.lryacc.proofs.lexemes.tag_end.Goals as goal
use Rattle.lryacc.proofs.lexemes.tag_end.Goals.{then-byte-eq60, else-byte-eq60+then-byte-eq62+then-before-ne45+in-Some, else-byte-eq60+else-byte-eq62, else-byte-eq62-via-then-byte-eq62+else-before-ne45, else-byte-eq62-via-else-byte-eq62}

pub loop-at-init : goal.loop-at-init
loop-at-init c =
    let start : c.args.from ≡ c.args.from + 1 - 1 = omega arith in
    (none nothing, sym c.requires.first ∙ ap (slice_index c.args.text.now) start, omega arith)

pub loop-at-preserved : goal.loop-at-preserved
loop-at-preserved c =
    let text = c.args.text.now in
    let from = c.args.from + 1 in
    let at = c.loop-at.at in
    let depth = c.loop-at.depth in
    let tags = c.loop-at.invariant.0 in
    let was = c.loop-at.invariant.1 in
    let here : at ≡ at + 1 - 1 = omega arith in
    let same = ap (slice_index text) here in
    let few = c.loop-at.invariant.2 in
    elim c.if-byte-eq60.branch [
      | then-byte-eq60 w ↦
          let one : depth + 1 ≡ c.if-byte-eq60.depth = omega (arith, w.depth-is, w.saturating_add-depth.ensures) in
          (subst (AreOpen text from (at + 1)) one (opens-one text from at depth tags w.if-byte-eq60.true), same, omega arith)
      | else-byte-eq60+then-byte-eq62+then-before-ne45+in-Some w ↦
          let left = w.in-Some.left in
          let one : depth ≡ suc left = omega (arith, w.in-Some.ensures) in
          let no_arrow = λ (dash : slice_index text (at - 1) ≡ 45). w.if-before-ne45.true (was ∙ dash) in
          let closes : ClosesTag text at = record { is = w.if-byte-eq62.true; no_arrow = no_arrow } in (
            subst (AreOpen text from (at + 1)) (sym w.depth-is)
                (closes-one text from at left (subst (AreOpen text from at) one tags) closes),
            same,
            omega (arith, w.depth-is),
          )
      | else-byte-eq60+else-byte-eq62 w ↦
          let next : AreOpen text from (at + 1) depth = elim w.else-byte-eq62.branch [
            | else-byte-eq62-via-then-byte-eq62+else-before-ne45 v ↦
                arrow-passes text from at depth tags v.if-byte-eq62.true (sym was ∙ v.if-before-ne45.false)
            | else-byte-eq62-via-else-byte-eq62 v ↦ byte-passes text from at depth tags w.if-byte-eq60.false v.if-byte-eq62.false
          ] in
          (subst (AreOpen text from (at + 1)) (sym w.depth-is) next, same, omega (arith, w.depth-is))
    ]

pub returns-in-None-clause-is : goal.returns-in-None-clause-is
returns-in-None-clause-is c =
    let text = c.args.text.now in
    let from = c.args.from + 1 in
    let at = c.loop-at.at in
    let outer : c.loop-at.depth ≡ 0 = omega (arith, c.in-None.ensures) in
    let was = c.loop-at.invariant.1 in
    record {
      last = at;
      opens = c.requires.first;
      between = none-open text from at (subst (AreOpen text from at) outer c.loop-at.invariant.0);
      closes = record { is = c.if-byte-eq62.true; no_arrow = λ dash. c.if-before-ne45.true (was ∙ dash) };
      ends = refl;
    }

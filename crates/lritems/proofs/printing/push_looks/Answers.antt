use Rattle.std.proofs.Common.{◌<◌, length, arith, rules, refl, sym, ◌∙◌}
use Rattle.std.specs.Prelude.{codes}
use Rattle.lrspec.specs.texts.PrintedTexts.{token_text}
use Rattle.lritems.proofs.JoinedTexts.{set_bit_turn, unset_bit_turn}
use Rattle.lritems.proofs.printing.push_looks.Goals as goal
use Rattle.lritems.proofs.printing.push_looks.Goals.{then-get+in_ok-push_str+in_ok-push_token, else-get}

pub loop-token-preserved : goal.loop-token-preserved
loop-token-preserved g c =
    let v = c.args.ctx.now in
    let i = c.loop-token.token in
    let f = token_text c.args.grm.now in
    elim c.if-get.branch [
      | then-get+in_ok-push_str+in_ok-push_token w ↦
          let l : i < length v = omega arith in
          let n = rw w.unwrap.ensures at w.from_usize.ensures in
          rw (w.text-is, w.between-is)
          (search rules, set_bit_turn f (codes ", ") _ _ _ _ v i l (sym c.get.ensures.value ∙ w.if-get.true) c.loop-token.invariant.1 (rw (w.in_ok-push_token.ensures, w.in_ok-push_str.ensures.bytes, n.1) refl))
      | else-get w ↦
          let l : i < length v = omega arith in
          rw (w.text-is, w.between-is) (c.loop-token.invariant.0, unset_bit_turn f (codes ", ") _ _ _ v i l (sym c.get.ensures.value ∙ w.if-get.false) c.loop-token.invariant.1)
    ]

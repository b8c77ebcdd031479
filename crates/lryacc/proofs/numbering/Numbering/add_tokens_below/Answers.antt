use Rattle.std.proofs.Common.{refl}
use Rattle.lryacc.proofs.Numbered.{adds_again, levelled-below}
use Rattle.lryacc.proofs.numbering.Numbering.add_tokens_below.Goals as goal

pub loop-before-preserved : goal.loop-before-preserved
loop-before-preserved c =
    let added = c.in_ok-token.ensures.added in
    adds_again c.loop-before.invariant record {
      meaning = added.meaning;
      contents = added.contents;
      numbered = added.numbered;
      levelled = λ h.
          levelled-below _ _ _ _ c.loop-before.before c.in_ok-token.token (λ q. c.in_ok-insert.ensures.updates.0 q)
          record { precedence = _; here = c.in_ok-token.ensures.precedence; is = refl }
          (added.levelled h);
      end = added.end;
      rules = added.rules;
    }

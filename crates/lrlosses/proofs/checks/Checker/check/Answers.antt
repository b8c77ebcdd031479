use Rattle.std.proofs.Common.{refl}
use Rattle.lrlosses.proofs.checks.Checker.check.Goals as goal

pub returns-then-is_at : goal.returns-then-is_at
returns-then-is_at c =
    let known = c.in_ok-loss.ensures in
    let tokens = c.as_slice-tokens.ensures.value in
    let lost = rw (c.in-Some.is, tokens) at known.lost in
    let sentence = rw (c.in-Some.is, tokens) at known.sentence in
    let parts = rw (c.in-Some.is, tokens, c.is_at.ensures.action c.if-is_at.true) at known.parts in
    let stops = rw (c.in-Some.is, tokens) at known.stops in
    rw (← c.self.view_is) (record {
      lost = lost refl;
      of_text = sentence;
      parts = parts;
      state = c.is_at.ensures.state c.if-is_at.true;
      token = c.is_at.ensures.token c.if-is_at.true;
      stops = stops;
    })

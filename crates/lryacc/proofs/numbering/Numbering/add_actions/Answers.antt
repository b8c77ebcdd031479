use Rattle.lryacc.proofs.Numbered.{adds_again, adds_none}
use Rattle.lryacc.proofs.numbering.Numbering.add_actions.Goals.{in-Action+in_ok-add_action, in_default}
use Rattle.lryacc.proofs.numbering.Numbering.add_actions.Goals as goal

pub loop-at-preserved : goal.loop-at-preserved
loop-at-preserved c =
    elim c.match-part.branch [
      | in-Action+in_ok-add_action w ↦ adds_again c.loop-at.invariant (adds_again w.in_ok-add_action.ensures (adds_none w.self-is))
      | in_default w ↦ adds_again c.loop-at.invariant (adds_none w.self-is)
    ]

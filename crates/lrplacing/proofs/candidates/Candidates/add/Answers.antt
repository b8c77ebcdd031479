use Rattle.std.proofs.Common.{rules}
use Rattle.lrplacing.proofs.CandidateFacts.{listed_here, listed_there}
use Rattle.lrplacing.proofs.candidates.Candidates.add.Goals as goal

pub returns-clause-here : goal.returns-clause-here
returns-clause-here c =
    let u = c.in_ok-self-inside.ensures.update.0 c.push.new.self in
    rw (← c.self.view_is) (listed_here c.self.inside.lists.entries _ c.args.fingerprint c.args.state _ c.or_default.result.now c.push.new.self c.in_ok-self-inside.ensures.value c.or_default.ensures.value c.in_ok-push.ensures.items (search (rules, u.1)))

pub returns-clause-others : goal.returns-clause-others
returns-clause-others c = λ n apart.
    let u = c.in_ok-self-inside.ensures.update.0 c.push.new.self in
    rw (← c.self.view_is) (listed_there c.self.inside.lists.entries _ c.args.fingerprint n (λ h. search (rules, u.2 n h)) apart)

use Rattle.std.proofs.Common.{ap, ◌∙◌, ◌++◌, ◌∷◌, []}
use Rattle.lrpager.proofs.Beginnings.{draft_alone, start_candidates}
use Rattle.lrpager.proofs.pager.begin.Goals as goal

pub returns-clause-start : goal.returns-clause-start
returns-clause-start g c =
    let core = c.in_ok-core.core in
    let d = c.new-2.ensures in
    let states = draft_alone _ _ c.new-2.result core c.new-drafts.ensures.items c.in_ok-push.ensures.items d.core d.closed d.edges in
    record { core = core; states = states; is_start = c.in_ok-core.ensures.core; fits = c.in_ok-core.ensures.fits }

pub returns-clause-candidates : goal.returns-clause-candidates
returns-clause-candidates g c =
    let core = c.in_ok-core.core in
    let d = c.new-2.ensures in
    let states = draft_alone _ _ c.new-2.result core c.new-drafts.ensures.items c.in_ok-push.ensures.items d.core d.closed d.edges in
    let a = c.in_ok-add.ensures in
    let f = c.core_fingerprint.ensures in
    let none = c.in_ok-candidates.ensures in
    rw states
    (start_candidates core c.add.new.self f.upwards
    (rw f.fingerprint at (a.here ∙ ap (λ ks. ks ++ 0 ∷ []) (none c.core_fingerprint.result)))
    (λ n other. a.others n (rw f.fingerprint other) ∙ none n))

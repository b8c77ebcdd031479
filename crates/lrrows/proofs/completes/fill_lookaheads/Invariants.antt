-- the production stands at its lookaheads so far, where none stood
use Rattle.std.proofs.Common.{[], ◌∷◌, None, length, get_or, option_map}
use Rattle.std.specs.Option.{option_or}
use Rattle.lrrows.specs.StateRows.{first_at}
use Rattle.lrrows.proofs.FilledPlaces.{AreFilling}
use Rattle.lrrows.proofs.LookingTokens.{coming}
use Rattle.lrrows.proofs.completes.fill_lookaheads.Given as goal

abbrev pub invariant-loop-token : goal.invariant-loop-token
invariant-loop-token g l =
    let number = g.T.IndexStorage.number in
    let p = number l.fn.pidx.0 in
    AreFilling (λ q. number q.0) l.least (length l.fn.least) (coming l.token-iterator p)
    (λ t. option_or (option_map (λ q. number q.0) (get_or l.fn.least t None)) (first_at ((p, l.fn.ctx) ∷ []) t))

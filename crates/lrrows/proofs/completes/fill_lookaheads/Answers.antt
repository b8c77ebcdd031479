-- the production comes to one of its lookaheads after the other
use Rattle.std.proofs.Common.{◌≡◌, ◌∙◌, ℕ, Option, [], ◌∷◌, None, length, get_or, option_map, refl, ap}
use Rattle.std.specs.Option.{option_or}
use Rattle.lrgrammar.specs.Bits.{set_places}
use Rattle.lrrows.specs.StateRows.{first_at}
use Rattle.lrrows.proofs.FilledPlaces.{filled_at}
use Rattle.lrrows.proofs.LookingTokens.{coming, coming_looks, coming_turn}
use Rattle.lrrows.proofs.completes.fill_lookaheads.Goals as goal

pub loop-token-init : goal.loop-token-init
loop-token-init g c =
    let number = g.T.IndexStorage.number in
    let v = c.args.ctx.now in
    let p = number c.args.pidx.0 in
    let are : c.into_iter-token-iterator.result ≡ set_places v 0 (length v) =
    rw (c.into_iter-token-iterator.ensures.into_iter_gives, c.iter_set_bits-token-items.ensures.places, c.len.ensures.number)
    (refl {a = set_places v 0 (length v)}) in
    λ t l.
    ap (λ o. option_or (option_map (λ q. number q.0) (get_or c.args.least.now t None)) o)
    (ap (λ ts. coming ts p t) are ∙ coming_looks v p t)

pub loop-token-preserved : goal.loop-token-preserved
loop-token-preserved g c =
    let number = g.T.IndexStorage.number in
    let p = number c.args.pidx.0 in
    let whole : ℕ → Option ℕ =
    λ t. option_or (option_map (λ p. number p.0) (get_or c.args.least.now t None)) (first_at ((p, c.args.ctx.now) ∷ []) t) in
    coming_turn (λ p. number p.0) c.loop-token.least c.fill.new.places (length c.args.least.now) whole
    c.loop-token.auto.least c.in-Some.token c.args.pidx c.loop-token.token-iterator c.next.new.self c.in-Some.ensures.steps
    (record { here = c.fill.ensures.here; others = c.fill.ensures.others }) c.loop-token.invariant

pub returns : goal.returns
returns g c =
    let number = g.T.IndexStorage.number in
    let p = number c.args.pidx.0 in
    let whole : ℕ → Option ℕ =
    λ t. option_or (option_map (λ p. number p.0) (get_or c.args.least.now t None)) (first_at ((p, c.args.ctx.now) ∷ []) t) in
    filled_at (λ p. number p.0) c.loop-token.least (length c.args.least.now) (coming c.loop-token.token-iterator p) whole
    (λ t. rw c.in-None.ensures.steps.0 refl) c.loop-token.invariant

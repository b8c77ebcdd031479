-- each complete item brings its production to its lookaheads
use Rattle.std.proofs.Common.{◌≡◌, ℕ, ◌+◌, ◌∙◌, Bool, List, Bor, None, length, map, get_or}
use Rattle.std.proofs.Common.{drop, replicate, sym, ap}
use Rattle.std.proofs.lemmas.List.{get_or-replicate}
use Rattle.lrspec.specs.grammars.Grammar.{token_count}
use Rattle.lrgrammar.specs.declared.idx.PIdx.{PIdx}
use Rattle.lrgrammar.specs.declared.vob.Vob.{Vob}
use Rattle.lrrows.specs.StateRows.{first_at}
use Rattle.lrrows.proofs.FilledPlaces.{none_only, written_back, filling_none, filled_all}
use Rattle.lrrows.proofs.LookingTokens.{item_turn, next_shown, none_shown}
use Rattle.lrrows.proofs.completes.least_by_token.Goals as goal

pub loop-pidx-init : goal.loop-pidx-init
loop-pidx-init g c =
    let number = g.T.IndexStorage.number in
    let n = token_count c.args.grm.now in
    let many : length c.in_ok-least.least.items ≡ n =
    sym c.in_ok-least.least.ok.0 ∙ c.in_ok-least.ensures.len
    ∙ c.from.ensures ∙ c.tokens_len.ensures.value in
    let items : c.in_ok-least.least.items ≡ replicate n None =
    c.in_ok-least.ensures.items_if_clones_equal (none_only _ (λ x h. h))
    ∙ ap (λ m. replicate m None) (c.from.ensures ∙ c.tokens_len.ensures.value) in
    record {
      many = many;
      filling =
          filling_none (λ p. number p.0) n (first_at (map (λ x. (number x.0.0, x.1.now)) c.args.completes.now))
          c.in_ok-least.least.items
          (λ t l. ap (λ os. get_or os t None) items ∙ get_or-replicate n t None None l);
    }

pub loop-pidx-preserved : goal.loop-pidx-preserved
loop-pidx-preserved g c =
    let number = g.T.IndexStorage.number in
    let n = token_count c.args.grm.now in
    let shown : PIdx g.row.T.Denot × Bor Vob → ℕ × List Bool = λ x. (number x.0.0, x.1.now) in
    let items = c.args.completes.now in
    let i = c.loop-pidx.pidx-index in
    let old = c.loop-pidx.least in
    let new = c.fill_lookaheads.new.least in
    let same : length new ≡ length old.items =
    c.fill_lookaheads.auto.least ∙ ap length c.as_mut_slice.ensures.value in
    let back = written_back old.len new old.items old.ok.0 same in
    let many : length new ≡ n = same ∙ c.loop-pidx.invariant.many in
    rw back
    (record {
      many = many;
      filling =
          item_turn (λ p. number p.0) old.items new n (first_at (map shown items)) c.loop-pidx.invariant.many
          (shown c.loop-pidx-item.result) (map shown (drop i items)) (map shown (drop (i + 1) items))
          (next_shown shown items i c.loop-pidx-item.result c.loop-pidx-test.true
          c.loop-pidx-item.is)
          (rw c.as_mut_slice.ensures.value at c.fill_lookaheads.ensures) c.loop-pidx.invariant.filling;
    })

pub returns : goal.returns
returns g c =
    let number = g.T.IndexStorage.number in
    let shown : PIdx g.row.T.Denot × Bor Vob → ℕ × List Bool = λ x. (number x.0.0, x.1.now) in
    let items = c.args.completes.now in
    let left = map shown (drop c.loop-pidx.pidx-index items) in
    filled_all (λ p. number p.0) c.loop-pidx.least.items (token_count c.args.grm.now)
    (first_at left) (first_at (map shown items))
    (λ t. ap (λ xs. first_at xs t)
    (none_shown shown items c.loop-pidx.pidx-index c.loop-pidx-test.false))
    c.loop-pidx.invariant.filling c.loop-pidx.invariant.many

-- each token on which the state may do something brings the entry of its cell
use Rattle.std.proofs.Common.{◌≡◌, ℕ, ◌<◌, length, option_map, refl, sym, ap, ◌∙◌, arith}
use Rattle.std.proofs.lemmas.List.FromFn.{length-map-range_with_len, get_or-map-range_with_len}
use Rattle.lrspec.specs.grammars.Grammar.{Token, token_count}
use Rattle.lrspec.specs.merging.Graph.{closed_of, edge}
use Rattle.lrspec.specs.tables.Table.{cell_of, reductions}
use Rattle.lrgrammar.specs.Bits.{set_places}
use Rattle.lrgrammar.specs.declared.idx.StIdx.{StIdx}
use Rattle.lrsparse.proofs.RowSoFar.{row_ended}
use Rattle.lrrows.specs.StateRows.{action_row, first_of}
use Rattle.lrrows.specs.StoredActions.{action_number}
use Rattle.lrrows.proofs.RowTurns.{number_found, bit_there}
use Rattle.lrrows.proofs.LeastListed.{as_many, listed_at, some_first}
use Rattle.lrrows.proofs.UsedTokens.{all_left, row_begins, next_within, left_passed, left_more, left_none}
use Rattle.lrrows.proofs.cells.make_actions.Given as given
use Rattle.lrrows.proofs.cells.make_actions.Goals as goal
use Rattle.lrrows.proofs.cells.make_actions.Goals.{In-Some, After-index-least-token, After-cell_number-number}

-- the token at hand is the grammar's
below : (g : given.Over) (c : In-Some g) → c.in-Some.token < token_count c.args.grm.now
below g c = next_within _ _ _ _ _ _ c.in-Some.ensures.steps c.loop-token.invariant

-- the least production there, by its number
least : (g : given.Over) (c : After-index-least-token g) → c.in-Some.token < token_count c.args.grm.now
    → option_map (λ p. g.T.IndexStorage.number p.0) c.index-least-token.result
    ≡ first_of (reductions c.args.grm.now (closed_of c.args.sg.now (g.T.IndexStorage.number c.args.stidx.0)) c.in-Some.token)
least g c l =
    let a = closed_of c.args.sg.now (g.T.IndexStorage.number c.args.stidx.0) in
    ap (option_map (λ p. g.T.IndexStorage.number p.0)) c.index-least-token.is
    ∙ listed_at (option_map (λ p. g.T.IndexStorage.number p.0)) (λ u. first_of (reductions c.args.grm.now a u)) c.args.least.now
    (token_count c.args.grm.now) c.requires.least c.in-Some.token c.index-least-token.result l

-- the number that is found is that of its cell
found : (g : given.Over) (c : After-cell_number-number g) → c.in-Some.token < token_count c.args.grm.now
    → option_map (λ p. g.T.IndexStorage.number p.0) c.index-least-token.result
    ≡ first_of (reductions c.args.grm.now (closed_of c.args.sg.now (g.T.IndexStorage.number c.args.stidx.0)) c.in-Some.token)
    → c.cell_number-number.result ≡ action_number (cell_of c.args.grm.now c.args.sg.now (g.T.IndexStorage.number c.args.stidx.0) c.in-Some.token)
found g c l first =
    let number = g.T.IndexStorage.number in
    let grm = c.args.grm.now in
    let h = c.args.sg.now in
    let s = number c.args.stidx.0 in
    let t = c.in-Some.token in
    let target = option_map (λ (u : StIdx g.row.T.Denot). number u.0) c.index.result.now in
    let leads : target ≡ edge h s (Token t) =
    ap (option_map (λ u. number u.0)) c.index.ensures
    ∙ listed_at (option_map (λ u. number u.0)) (λ u. edge h s (Token u)) c.in_ok-targets.targets.items (token_count grm)
    c.in_ok-targets.ensures t c.index.result.now l in
    number_found grm h s t c.cell_number-number.result target c.has_token-accepts.result leads (c.has_token-accepts.ensures ∙ c.requires.accepts t)
    (c.cell_number-number.ensures (reductions grm (closed_of h s) t) (sym first))

pub loop-token-init : goal.loop-token-init
loop-token-init g c =
    let f = λ (u : ℕ). action_number (cell_of c.args.grm.now c.args.sg.now (g.T.IndexStorage.number c.args.stidx.0) u) in
    let v = c.args.used.now in
    let are : c.into_iter-token-iterator.result ≡ set_places v 0 (length v) =
    rw (c.into_iter-token-iterator.ensures.into_iter_gives, c.iter_set_bits-token-items.ensures.places, c.len.ensures.number)
    (refl {a = set_places v 0 (length v)}) in
    let left =
    all_left f v (token_count c.args.grm.now) c.requires.used (λ t l unset. ap action_number (c.requires.errs t l unset)) in
    rw (c.clear.ensures.items, are) (row_begins f _ _ left)

pub offset_bounds-least-token : goal.offset_bounds-least-token
offset_bounds-least-token g c =
    let number = g.T.IndexStorage.number in
    let l = below g (goal.at.offset_bounds-least-token g c).In-Some in
    omega (arith, l, as_many (option_map (λ p. number p.0)) _ c.args.least.now _ c.requires.least)

pub bounds-least-token : goal.bounds-least-token
bounds-least-token g c =
    let number = g.T.IndexStorage.number in
    let l = below g (goal.at.bounds-least-token g c).In-Some in
    omega (arith, l, as_many (option_map (λ p. number p.0)) _ c.args.least.now _ c.requires.least)

pub index-requires : goal.index-requires
index-requires g c =
    let number = g.T.IndexStorage.number in
    let l = below g (goal.at.index-requires g c).In-Some in
    omega (arith, l, as_many (option_map (λ u. number u.0)) _ c.in_ok-targets.targets.items _ c.in_ok-targets.ensures)

pub cell_number-number-requires-clause-token : goal.cell_number-number-requires-clause-token
cell_number-number-requires-clause-token g c = below g (goal.at.cell_number-number-requires-clause-token g c).In-Some

pub cell_number-number-requires-clause-small : goal.cell_number-number-requires-clause-small
cell_number-number-requires-clause-small g c =
    let l = below g (goal.at.cell_number-number-requires-clause-small g c).In-Some in
    omega (arith, l, c.requires.tokens)

pub cell_number-number-requires-clause-prod : goal.cell_number-number-requires-clause-prod
cell_number-number-requires-clause-prod g c =
    let number = g.T.IndexStorage.number in
    let at = goal.at.cell_number-number-requires-clause-prod g c in
    some_first (λ p. number p.0) c.args.grm.now (closed_of c.args.sg.now (number c.args.stidx.0)) c.in-Some.token c.index-least-token.result
    (least g at.After-index-least-token (below g at.In-Some))

pub has_token-accepts-requires : goal.has_token-accepts-requires
has_token-accepts-requires g c = bit_there (λ ctx. length ctx.now) c.args.accepted _ c.in-Some.token c.requires.bits (below g c)

pub loop-token-preserved-in-Continue-branch-2 : goal.loop-token-preserved-in-Continue-branch-2
loop-token-preserved-in-Continue-branch-2 g c =
    let at = goal.at.loop-token-preserved-in-Continue-branch-2 g c in
    let l = below g at.In-Some in
    rw c.in_ok-push.ensures.items
    (left_more _ _ c.in-Some.token c.cell_number-number.result _ _ _ c.in-Some.ensures.steps c.if-number-ne0.true
    (found g at.After-cell_number-number l (least g at.After-index-least-token l)) c.loop-token.invariant)

pub loop-token-preserved : goal.loop-token-preserved
loop-token-preserved g c =
    let at = goal.at.loop-token-preserved g c in
    let l = below g at.In-Some in
    left_passed _ _ c.in-Some.token _ _ _ c.in-Some.ensures.steps
    (sym (found g at.After-cell_number-number l (least g at.After-index-least-token l)) ∙ c.if-number-ne0.false) c.loop-token.invariant

pub returns-clause-entries : goal.returns-clause-entries
returns-clause-entries g c = (left_none _ _ _ _ c.in-None.ensures.steps.0 c.loop-token.invariant).are

pub returns-clause-row : goal.returns-clause-row
returns-clause-row g c =
    let n = token_count c.args.grm.now in
    let s = g.T.IndexStorage.number c.args.stidx.0 in
    let f = λ (u : ℕ). action_number (cell_of c.args.grm.now c.args.sg.now s u) in
    row_ended 0 f (action_row c.args.grm.now c.args.sg.now s) n c.loop-token.entries.items (length-map-range_with_len f 0 n)
    (λ t l. get_or-map-range_with_len f 0 n t t 0 l (omega arith)) (left_none f n _ _ c.in-None.ensures.steps.0 c.loop-token.invariant)

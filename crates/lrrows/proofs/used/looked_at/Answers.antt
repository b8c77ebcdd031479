-- each complete item brings its lookaheads
use Rattle.std.proofs.Common.{◌≡◌, ◌∙◌, ◌+◌, ◌||◌, ℕ, Bool, List, Bor, is_some, length, map, drop, option_map, sym, ap}
use Rattle.std.proofs.lemmas.List.{length-replicate}
use Rattle.std.proofs.lemmas.List.Elements.{All-get_or}
use Rattle.lrspec.specs.grammars.Grammar.{token_count}
use Rattle.lrspec.specs.tables.Table.{bit_or_none}
use Rattle.lrgrammar.specs.declared.idx.PIdx.{PIdx}
use Rattle.lrrows.specs.StateRows.{first_at}
use Rattle.lrrows.proofs.LookingTokens.{next_shown, none_shown}
use Rattle.lrrows.proofs.MarkedTokens.{begun_with, begun_without, looks_turn, looks_end}
use Rattle.lrrows.proofs.used.looked_at.Goals as goal
use Rattle.lrrows.proofs.used.looked_at.Goals.{in-Some, in_default}

pub loop-ctx-init : goal.loop-ctx-init
loop-ctx-init g c =
    let number = g.T.IndexStorage.number in
    let later : ℕ → Bool = λ t. is_some (first_at (map (λ x. (number x.0.0, x.1.now)) c.args.completes.now) t) in
    let many : length c.in_ok-looked.looked ≡ token_count c.args.grm.now =
    ap length c.in_ok-looked.ensures.bits ∙ length-replicate _ _ ∙ c.from.ensures ∙ c.tokens_len.ensures.value in
    elim c.match-accepted.branch [
      | in-Some w ↦
          rw w.looked-is
          record {
            bits = w.or.ensures.len ∙ many;
            each = λ t. ap (λ b. b || later t)
                (begun_with c.in_ok-looked.looked _ w.in-Some.ctx.now (option_map (λ x. x.now) c.args.accepted) _ c.in_ok-looked.ensures.bits
                (ap (option_map (λ x. x.now)) w.in-Some.is) w.or.ensures.each t);
          }
      | in_default w ↦
          rw w.looked-is
          record {
            bits = many;
            each = λ t. ap (λ b. b || later t)
                (begun_without c.in_ok-looked.looked (option_map (λ x. x.now) c.args.accepted) _ c.in_ok-looked.ensures.bits
                (ap (option_map (λ x. x.now)) w.in_default.is) t);
          }
    ]

pub or-requires-in-loop-ctx : goal.or-requires-in-loop-ctx
or-requires-in-loop-ctx g c =
    let h =
    All-get_or (λ e. length e.1.now ≡ token_count c.args.grm.now) c.args.completes.now c.loop-ctx.ctx-index c.loop-ctx-item.result
    c.loop-ctx-test.true c.requires.bits in
    (rw (← c.loop-ctx-item.is) at h) ∙ sym c.loop-ctx.invariant.bits

pub loop-ctx-preserved : goal.loop-ctx-preserved
loop-ctx-preserved g c =
    let number = g.T.IndexStorage.number in
    let shown : PIdx g.row.T.Denot × Bor (List Bool) → ℕ × List Bool = λ x. (number x.0.0, x.1.now) in
    let items = c.args.completes.now in
    let i = c.loop-ctx.ctx-index in
    record {
      bits = c.or-in-loop-ctx.ensures.len ∙ c.loop-ctx.invariant.bits;
      each =
          looks_turn c.loop-ctx.looked c.or-in-loop-ctx.new.self
          (λ t. bit_or_none (option_map (λ ctx. ctx.now) c.args.accepted) t || is_some (first_at (map shown items) t))
          (shown c.loop-ctx-item.result) (map shown (drop i items)) (map shown (drop (i + 1) items))
          (next_shown shown items i c.loop-ctx-item.result c.loop-ctx-test.true c.loop-ctx-item.is)
          c.or-in-loop-ctx.ensures.each c.loop-ctx.invariant.each;
    }

pub returns-clause-each : goal.returns-clause-each
returns-clause-each g c =
    let number = g.T.IndexStorage.number in
    let shown : PIdx g.row.T.Denot × Bor (List Bool) → ℕ × List Bool = λ x. (number x.0.0, x.1.now) in
    let items = c.args.completes.now in
    looks_end c.loop-ctx.looked
    (λ t. bit_or_none (option_map (λ ctx. ctx.now) c.args.accepted) t || is_some (first_at (map shown items) t))
    (map shown (drop c.loop-ctx.ctx-index items)) (none_shown shown items c.loop-ctx.ctx-index c.loop-ctx-test.false)
    c.loop-ctx.invariant.each

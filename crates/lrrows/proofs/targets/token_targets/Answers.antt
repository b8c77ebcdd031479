-- each edge on a token brings its target to the place of the token
use Rattle.std.proofs.Common.{◌≡◌, ◌∙◌, ◌∷◌, ℕ, Option, None, length}
use Rattle.std.proofs.Common.{get_or, replicate, refl, sym, ap}
use Rattle.std.proofs.lemmas.List.{get_or-replicate}
use Rattle.lrspec.specs.grammars.Grammar.{Token, Rule, token_count}
use Rattle.lrspec.specs.merging.Graph.{edge, edge_at}
use Rattle.lrgrammar.specs.declared.idx.StIdx.{StIdx}
use Rattle.lrgraphs.specs.GraphOf.{edges_of}
use Rattle.lrrows.proofs.EdgeTargets.{not_there, nowhere, token_passed, token_turn}
use Rattle.lrrows.proofs.FilledPlaces.{none_only, written_back, filling_none, filled_all}
use Rattle.lrrows.proofs.targets.token_targets.Goals as goal
use Rattle.lrrows.proofs.targets.token_targets.Goals.{then-from+in-None, else-from}

pub loop-symbol-init : goal.loop-symbol-init
loop-symbol-init g c =
    let number = g.T.IndexStorage.number in
    let n = token_count c.args.grm.now in
    let whole : ℕ → Option ℕ = λ t. edge c.args.sg.now (number c.args.stidx.0) (Token t) in
    let i = c.into_iter-symbol-iterator.ensures.into_iter_gives in
    let many : length c.in_ok-targets.targets.items ≡ n =
    sym c.in_ok-targets.targets.ok.0 ∙ c.in_ok-targets.ensures.len
    ∙ c.from.ensures ∙ c.tokens_len.ensures.value in
    let items : c.in_ok-targets.targets.items ≡ replicate n None =
    c.in_ok-targets.ensures.items_if_clones_equal (none_only _ (λ x h. h))
    ∙ ap (λ m. replicate m None) (c.from.ensures ∙ c.tokens_len.ensures.value) in
    record {
      many = many;
      filling =
          rw (i.0, c.edges-symbol-items.ensures.edges)
          (filling_none (λ u. number u.0) n whole c.in_ok-targets.targets.items
          (λ t l. ap (λ os. get_or os t None) items ∙ get_or-replicate n t None None l));
    }

pub loop-symbol-preserved-in-Token : goal.loop-symbol-preserved-in-Token
loop-symbol-preserved-in-Token g c =
    let number = g.T.IndexStorage.number in
    let n = token_count c.args.grm.now in
    let whole : ℕ → Option ℕ = λ t. edge c.args.sg.now (number c.args.stidx.0) (Token t) in
    let old = c.loop-symbol.targets in
    let new = c.fill.new.places in
    let same : length new ≡ length old.items =
    c.fill.auto.places ∙ ap length c.as_mut_slice.ensures.value in
    let back = written_back old.len new old.items old.ok.0 same in
    let many : length new ≡ n = same ∙ c.loop-symbol.invariant.many in
    let left = edges_of number (λ (u : StIdx g.row.T.Denot). number u.0) in
    let target = c.in-Some.target.now in
    let first : left c.loop-symbol.symbol-iterator ≡ (Token c.from-in-Token.result, number target.0) ∷ left c.next.new.self =
    rw (c.in-Some.ensures.steps, c.in-Token.is, c.from-in-Token.ensures) refl in
    rw back
    (record {
      many = many;
      filling =
          token_turn (λ u. number u.0) n (left c.loop-symbol.symbol-iterator) (left c.next.new.self) whole
          old.items new c.from-in-Token.result target c.loop-symbol.invariant.many
          (record {
            here = rw c.as_mut_slice.ensures.value at c.fill.ensures.here;
            others = rw c.as_mut_slice.ensures.value at c.fill.ensures.others;
          })
          first c.loop-symbol.invariant.filling;
    })

pub loop-symbol-preserved : goal.loop-symbol-preserved
loop-symbol-preserved g c =
    let number = g.T.IndexStorage.number in
    let n = token_count c.args.grm.now in
    let whole : ℕ → Option ℕ = λ t. edge c.args.sg.now (number c.args.stidx.0) (Token t) in
    let left = edges_of number (λ (u : StIdx g.row.T.Denot). number u.0) in
    let rule = number c.in_default.field-0.0 in
    let target = number c.in-Some.target.now.0 in
    let first : left c.loop-symbol.symbol-iterator ≡ (Rule rule, target) ∷ left c.next.new.self =
    rw (c.in-Some.ensures.steps, c.in_default.is) refl in
    record {
      many = c.loop-symbol.invariant.many;
      filling =
          token_passed (λ u. number u.0) n (left c.loop-symbol.symbol-iterator) (left c.next.new.self) whole
          c.loop-symbol.targets.items rule target first c.loop-symbol.invariant.filling;
    }

pub returns : goal.returns
returns g c =
    let number = g.T.IndexStorage.number in
    let n = token_count c.args.grm.now in
    let whole : ℕ → Option ℕ = λ t. edge c.args.sg.now (number c.args.stidx.0) (Token t) in
    elim c.if-from.branch [
      | then-from+in-None w ↦
          let left = edges_of number (λ (u : StIdx g.row.T.Denot). number u.0) w.loop-symbol.symbol-iterator in
          rw w.targets-is
          (filled_all (λ u. number u.0) w.loop-symbol.targets.items n (λ t. edge_at left (Token t)) whole
          (λ t. rw w.in-None.ensures.steps.0 refl) w.loop-symbol.invariant.filling w.loop-symbol.invariant.many)
      | else-from w ↦
          let many : length c.in_ok-targets.targets.items ≡ n =
          sym c.in_ok-targets.targets.ok.0 ∙ c.in_ok-targets.ensures.len
          ∙ c.from.ensures ∙ c.tokens_len.ensures.value in
          let items : c.in_ok-targets.targets.items ≡ replicate n None =
          c.in_ok-targets.ensures.items_if_clones_equal (none_only _ (λ x h. h))
          ∙ ap (λ m. replicate m None) (c.from.ensures ∙ c.tokens_len.ensures.value) in
          let past =
          not_there _ _ _ _ _ w.if-from.false c.from-2.ensures c.from-3.ensures
          c.all_states_len.ensures in
          rw w.targets-is
          (filled_all (λ u. number u.0) c.in_ok-targets.targets.items n whole whole
          (λ t. nowhere c.args.sg.now (number c.args.stidx.0) (Token t) past)
          (filling_none (λ u. number u.0) n whole c.in_ok-targets.targets.items
          (λ t l. ap (λ os. get_or os t None) items ∙ get_or-replicate n t None None l))
          many)
    ]

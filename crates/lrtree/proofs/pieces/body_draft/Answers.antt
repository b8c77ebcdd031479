use Rattle.std.proofs.Common.{◌≡◌, ℕ, ◌+◌, ◌-◌, ◌<◌, length, map, drop, sym, ap, ◌∙◌, subst, arith}
use Rattle.std.proofs.lemmas.List.{length-map, get_or-map}
use Rattle.lrgrammar.specs.Symbols.{symbol_of}
use Rattle.lrspec.specs.grammars.Grammar.{IsBodySymbol}
use Rattle.lrtree.specs.Pieces.{draft_of}
use Rattle.lrtree.specs.StoredPieces.{stored_draft}
use Rattle.lrtree.proofs.StoredPieces.{symbol_behind, symbol_written}
use Rattle.lrtree.proofs.pieces.body_draft.Goals as goal

pub push_symbol-requires : goal.push_symbol-requires
push_symbol-requires g c =
    let f = symbol_of g.T.IndexStorage.number in
    let xs = c.args.body.now in
    let k : ℕ = c.loop-place.place - 1 in
    let x = c.index-body-place.result in
    let l : k < length xs = omega (arith, c.loop-place-test.true, c.loop-place.invariant.0) in
    subst (IsBodySymbol c.args.grm.now) (get_or-map f xs k x (f x) l ∙ ap f (sym c.index-body-place.is))
    (symbol_behind c.args.grm.now (map f xs) k (f x) c.requires (omega (arith, l, length-map xs f)))

pub loop-place-preserved : goal.loop-place-preserved
loop-place-preserved g c =
    let f = symbol_of g.T.IndexStorage.number in
    let xs = c.args.body.now in
    let k : ℕ = c.loop-place.place - 1 in
    let x = c.index-body-place.result in
    let l : k < length xs = omega (arith, c.loop-place-test.true, c.loop-place.invariant.0) in
    let next : c.loop-place.place ≡ k + 1 = omega (arith, c.loop-place-test.true) in (
      omega (arith, c.loop-place.invariant.0),
      symbol_written c.args.grm.now (map f xs) k (length xs - c.loop-place.place) (f x) (stored_draft c.loop-place.draft) (stored_draft c.push_gap.new.self) (stored_draft c.push_symbol.new.self)
          (omega (arith, l, length-map xs f)) (ap f c.index-body-place.is ∙ sym (get_or-map f xs k x (f x) l)) (omega (arith, c.loop-place-test.true, length-map xs f))
          (c.loop-place.invariant.1 ∙ ap (λ i. draft_of c.args.grm.now (drop i (map f xs))) next) c.in_ok-push_gap.ensures c.in_ok-push_symbol.ensures,
    )

-- the item stands before the token, or does not
use Rattle.std.proofs.Common.{drop, ap, ◌∙◌, arith}
use Rattle.lrspec.specs.grammars.Grammar.{Token, body_of}
use Rattle.lrgrammar.specs.Symbols.{symbol_of, number_of}
use Rattle.lrclosing.proofs.SymbolsBehindDots.{sliced}
use Rattle.lrdecided.specs.StoredNodes.{symbols_of, side_of}
use Rattle.lrdecided.proofs.FoundMoves.{no_rest}
use Rattle.lrdecided.proofs.CollectedInTurn.{kept, added}
use Rattle.lrdecided.proofs.FoundStarts.{side_so}
use Rattle.lrdecided.proofs.starts.add_side.Goals as goal

pub returns-then-production-count-clause-added : goal.returns-then-production-count-clause-added
returns-then-production-count-clause-added c = λ b.
    absurd (no_rest c.args.grm.now c.args.item.0.0 c.args.item.1.0 (Token c.args.token.0) b.0
    (omega (arith, c.if-production-count.true, c.from-production.ensures, c.from-count.ensures, c.prods_len.ensures.value)) b.1)

pub returns-in_default-clause-added : goal.returns-in_default-clause-added
returns-in_default-clause-added c = λ b. absurd (c.in_default.ensures.none b)

pub returns-clause-kept : goal.returns-clause-kept
returns-clause-kept c = kept side_of _ _ _ c.in_ok-push.ensures.items

pub returns-clause-added : goal.returns-clause-added
returns-clause-added c = λ b.
    let p = c.args.item.0.0 in
    let d = c.args.item.1.0 in
    let left = sliced (symbol_of number_of) c.prod-body.result.now c.from-place.result (body_of c.args.grm.now p) c.prod-body.ensures.body in
    let same = ap symbols_of c.in_ok-symbols.ensures.items ∙ left ∙ ap (λ k. drop k (body_of c.args.grm.now p)) c.from-place.ensures in
    added side_of _ _ _ c.in_ok-push.ensures.items _ (side_so p d _ _ same)

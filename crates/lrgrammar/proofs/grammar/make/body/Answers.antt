use Rattle.std.proofs.Common.{◌≤◌, map, ap}
use Rattle.std.proofs.lemmas.Result.{IfOk-from_err}
use Rattle.lrspec.specs.texts.Parts.{shifted}
use Rattle.lrtext.specs.declared.parts.PartSymbol.TheVariants as symbol
use Rattle.lrtext.specs.StoredParts.{part_symbol_of}
use Rattle.lrgrammar.specs.PartNumbers.{part_number}
use Rattle.lrgrammar.specs.Symbols.{symbol_of}
use Rattle.lrgrammar.proofs.Turns.{maps_more, maps_end, all_along}
use Rattle.lrgrammar.proofs.grammar.make.body.Goals as goal

pub loop-symbol-preserved : goal.loop-symbol-preserved
loop-symbol-preserved g c =
    maps_more (symbol_of g.T.IndexStorage.number) shifted part_symbol_of c.deref-symbol-items.result.now c.args.prod.now.symbols.items c.loop-symbol.symbol-index _ c.loop-symbol.symbols.items c.push.new.self.items c.numbered.result c.deref-symbol-items.ensures.value c.loop-symbol-test.true c.numbered.ensures c.in_ok-push.ensures.items c.loop-symbol.invariant

pub loop-symbol-init : goal.loop-symbol-init
loop-symbol-init g c = ap (map (symbol_of g.T.IndexStorage.number)) c.new-symbols.ensures.items

pub numbered-requires : goal.numbered-requires
numbered-requires g c =
    all_along (λ s. part_number s ≤ g.T.IndexStorage.MAX) c.deref-symbol-items.result.now c.args.prod.now.symbols.items c.loop-symbol.symbol-index (symbol.Rule 0) c.deref-symbol-items.ensures.value c.loop-symbol-test.true c.requires

pub returns-in_err-push : goal.returns-in_err-push
returns-in_err-push g c = IfOk-from_err c.from_residual.result _ c.from_residual.ensures.0

pub returns : goal.returns
returns g c =
    maps_end (symbol_of g.T.IndexStorage.number) shifted part_symbol_of c.deref-symbol-items.result.now c.args.prod.now.symbols.items c.loop-symbol.symbol-index c.loop-symbol.symbols.items c.deref-symbol-items.ensures.value c.loop-symbol-test.false c.loop-symbol.invariant

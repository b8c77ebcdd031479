use Rattle.std.proofs.Common.{◌++◌, append-nil, sym, ap, ◌∙◌, arith}
use Rattle.std.specs.String.{string_bytes}
use Rattle.std.proofs.lemmas.List.{take_all}
use Rattle.lrgrammar.specs.Symbols.{symbol_of}
use Rattle.lritems.proofs.PrintedNames.{body_symbol_at, spaced_turn}
use Rattle.lritems.proofs.printing.push_spaced.Goals as goal

pub loop-symbol-init : goal.loop-symbol-init
loop-symbol-init g c = sym (append-nil (string_bytes c.args.text.now))

pub push_symbol-requires : goal.push_symbol-requires
push_symbol-requires g c = body_symbol_at c.args.grm.now (symbol_of g.T.IndexStorage.number) c.args.symbols.now _ _ c.requires c.loop-symbol-test.true c.symbol-item.is

pub loop-symbol-preserved : goal.loop-symbol-preserved
loop-symbol-preserved g c =
    let space = c.in_ok-push.ensures.bytes ∙ ap (λ t. string_bytes c.loop-symbol.text ++ t) (c.in_ok-push.ensures.ascii (omega arith)) in
    spaced_turn c.args.grm.now (symbol_of g.T.IndexStorage.number) c.args.symbols.now c.loop-symbol.symbol-index c.symbol-item.result
    (string_bytes c.args.text.now) (string_bytes c.loop-symbol.text) (string_bytes c.push.new.self) (string_bytes c.push_symbol.new.text)
    c.loop-symbol-test.true c.symbol-item.is c.loop-symbol.invariant space c.in_ok-push_symbol.ensures

pub returns : goal.returns
returns g c = rw (take_all c.loop-symbol.symbol-index c.args.symbols.now c.loop-symbol-test.false) at c.loop-symbol.invariant

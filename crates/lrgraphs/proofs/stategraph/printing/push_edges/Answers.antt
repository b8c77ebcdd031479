use Rattle.std.proofs.Common.{◌≡◌, ◌++◌, append_assoc}
use Rattle.std.specs.Prelude.{codes}
use Rattle.std.specs.Fmt.{decimal}
use Rattle.std.specs.String.{string_bytes}
use Rattle.lrspec.specs.grammars.Grammar.{IsBodySymbol}
use Rattle.lrspec.specs.texts.PrintedTexts.{symbol_text, edge_text}
use Rattle.lrgrammar.specs.Symbols.{symbol_of}
use Rattle.lrgraphs.proofs.PrintedStates.{pieces_more, holds_at_entry}
use Rattle.lrgraphs.proofs.stategraph.printing.push_edges.Goals as goal

pub push_symbol-requires : goal.push_symbol-requires
push_symbol-requires g c =
    let number = g.T.IndexStorage.number in
    holds_at_entry number (λ u. number u.0) (λ e. IsBodySymbol c.args.grm.now e.0) c.args.edges.now _ c.edge-item.result c.requires c.loop-edge-test.true c.edge-item.is

pub loop-edge-preserved : goal.loop-edge-preserved
loop-edge-preserved g c =
    let number = g.T.IndexStorage.number in
    let m = c.args.grm.now in
    let e = c.edge-item.result in
    let before : string_bytes c.push_str.new.self ≡ string_bytes c.loop-edge.text ++ c.args.parting.now = c.in_ok-push_str.ensures.bytes in
    let symbol : string_bytes c.push_symbol.new.text ≡ string_bytes c.push_str.new.self ++ symbol_text m (symbol_of number e.0) = c.in_ok-push_symbol.ensures in
    let arrow : string_bytes c.push_str-in-loop-edge.new.self ≡ string_bytes c.push_symbol.new.text ++ codes " -> " = c.in_ok-push_str-2.ensures.bytes in
    let target : string_bytes c.push_number.new.text ≡ string_bytes c.push_str-in-loop-edge.new.self ++ decimal (number e.1.0) = rw (c.from.ensures) at c.in_ok-push_number.ensures in
    let new : string_bytes c.push_number.new.text ≡ string_bytes c.loop-edge.text ++ (c.args.parting.now ++ edge_text m (symbol_of number e.0, number e.1.0)) = rw (target, arrow, symbol, before) (simp append_assoc) in
    pieces_more (λ f. c.args.parting.now ++ edge_text m f) (λ f. (symbol_of number f.0, number f.1.0)) _ _ _ c.args.edges.now _ e c.loop-edge-test.true c.edge-item.is c.loop-edge.invariant new

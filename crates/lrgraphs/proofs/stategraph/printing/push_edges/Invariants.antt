use Rattle.std.proofs.Common.{◌≡◌, ◌++◌, take}
use Rattle.std.specs.List.{flat_map}
use Rattle.std.specs.String.{string_bytes}
use Rattle.lrspec.specs.texts.PrintedTexts.{edge_text}
use Rattle.lrgraphs.specs.GraphOf.{edges_of}
use Rattle.lrgraphs.proofs.stategraph.printing.push_edges.Given as goal

abbrev pub invariant-loop-edge : goal.invariant-loop-edge
invariant-loop-edge g l =
    let number = g.T.IndexStorage.number in
    string_bytes l.text
    ≡ string_bytes l.fn.text
    ++ flat_map (λ e. l.parting ++ edge_text l.grm e) (edges_of number (λ u. number u.0) (take l.edge-index l.edges))

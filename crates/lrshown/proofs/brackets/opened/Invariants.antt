-- the names of those so far
use Rattle.std.proofs.Common.{◌≡◌, map, string_bytes}
use Rattle.lrshown.specs.BracketSteps.{fronts}
use Rattle.lrshown.proofs.brackets.opened.Given as goal

abbrev pub invariant-loop-number : goal.invariant-loop-number
invariant-loop-number l =
    string_bytes l.text ≡ fronts l.file l.shown.tree.nodes.items l.mark l.shown.cuts.items (map (λ n. n.now) l.yielded)

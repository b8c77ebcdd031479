use Rattle.std.proofs.Common.{◌≡◌, ◌++◌, ◌-◌, length}
use denote.Text.{Utf8}
use denote.Shadow.{shadow}
use Rattle.std.specs.Prelude.{codes}
use Rattle.std.specs.List.{join_by, range_with_len}
use Rattle.std.specs.String.{string_bytes}
use Rattle.lritems.proofs.JoinedTexts.{left_to_join}
use Rattle.lrgraphs.proofs.PrintedStates.{shown_state}
use Rattle.lrgraphs.proofs.stategraph.StateGraph.pp.Given as goal

abbrev pub invariant-loop-number : goal.invariant-loop-number
invariant-loop-number g l =
    let f = shown_state l.grm l.core_states l.self l.width in
    shadow (Utf8 l.between)
    × (string_bytes l.text ++ left_to_join f (codes "\n") l.between (range_with_len l.number (length l.self - l.number))
    ≡ join_by f (codes "\n") (range_with_len 0 (length l.self)))

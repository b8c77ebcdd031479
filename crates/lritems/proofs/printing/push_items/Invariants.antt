use Rattle.std.proofs.Common.{◌≡◌, ◌++◌}
use denote.Text.{Utf8}
use denote.Shadow.{shadow}
use Rattle.std.specs.List.{join_by}
use Rattle.std.specs.String.{string_bytes}
use Rattle.lrspec.specs.texts.PrintedTexts.{item_text}
use Rattle.lritems.specs.ItemsOf.{items_of}
use Rattle.lritems.proofs.JoinedTexts.{left_to_join}
use Rattle.lrclosing.proofs.WalksOverItems.{FoundAll}
use Rattle.lritems.proofs.printing.push_items.Given as goal

abbrev pub invariant-loop-key : goal.invariant-loop-key
invariant-loop-key g l =
    let number = g.T.IndexStorage.number in
    shadow (Utf8 l.between)
    × FoundAll number l.items.items.entries l.key-iterator
    × (string_bytes l.text ++ left_to_join (item_text l.grm) l.parting l.between (items_of number l.key-iterator)
    ≡ string_bytes l.fn.text ++ join_by (item_text l.grm) l.parting (items_of number l.items.items.entries))

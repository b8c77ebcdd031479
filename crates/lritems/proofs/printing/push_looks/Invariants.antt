use Rattle.std.proofs.Common.{◌≡◌, ◌++◌}
use denote.Text.{Utf8}
use denote.Shadow.{shadow}
use Rattle.std.specs.Prelude.{codes}
use Rattle.std.specs.String.{string_bytes}
use Rattle.lrspec.specs.texts.PrintedTexts.{token_text, looks_text}
use Rattle.lritems.proofs.JoinedTexts.{left_to_join, set_bits_from}
use Rattle.lritems.proofs.printing.push_looks.Given as goal

abbrev pub invariant-loop-token : goal.invariant-loop-token
invariant-loop-token g l =
    shadow (Utf8 l.between)
    × (string_bytes l.text ++ left_to_join (token_text l.grm) (codes ", ") l.between (set_bits_from l.ctx l.token) ≡ string_bytes l.fn.text ++ looks_text l.grm l.ctx)

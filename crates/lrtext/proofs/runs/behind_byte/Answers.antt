use Rattle.std.proofs.Common.{ap, ◌∙◌, arith}
use Rattle.std.specs.List.{slice_get}
use Rattle.lrtext.proofs.RunFacts.{first_boundary}
use Rattle.lrtext.proofs.runs.behind_byte.Goals as goal

-- the byte is ASCII, so the text may be cut behind it
pub split_at-requires : goal.split_at-requires
split_at-requires c = first_boundary c.args.text.now c.in_ok-first.field-0.now c.utf8.text (c.in_ok-first.ensures.value ∙ ap (λ l. slice_get l 0) c.as_bytes.ensures.value) (omega arith)

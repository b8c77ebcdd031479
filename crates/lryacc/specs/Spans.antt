-- places in a text
use Rattle.std.specs.Prelude.{ℕ, ◌≤◌, List, length}
use Rattle.lryacc.specs.declared.places.Span.{Span}

-- a span is one of bytes of the text
pub record IsInside (span : Span) (text : List ℕ) : Type 0 where
  pub ordered : span.start ≤ span.end
  pub ends : span.end ≤ length text

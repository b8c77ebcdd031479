-- states under construction as plain data
use Rattle.std.specs.Prelude.{ℕ}
use Rattle.lrplacing.specs.declared.draft.Draft.TheInside.{Inside}
use Rattle.lrplacing.specs.Construction.{Draft}
use Rattle.lrgraphs.specs.GraphOf.{edges_of}

-- a stored state under construction by numbers
abbrev pub draft_of : {T : Type 0} → (T → ℕ) → Inside T → Draft
draft_of number s = record {
  core = s.core;
  is_closed = s.is_closed;
  edges = edges_of number (λ k. k) s.edges.items;
}

-- how long a list of entries may be
use Rattle.std.proofs.Common.{ℕ, ◌<◌, ◌^◌, length, arith}
use Rattle.lrsparse.specs.declared.sparsevec.entries.Entries.{Entries}
use Rattle.lrsparse.specs.declared.sparsevec.entries.Entries.TheVariants.{Narrow, Wide}
use Rattle.lrsparse.specs.Listed.{listed}

pub listed_short : (list : Entries) → length (listed list) < 2 ^ 63
listed_short (Narrow list) = omega (arith, list.ok.0, list.ok.1, list.small)
listed_short (Wide list) = omega (arith, list.ok.0, list.ok.1, list.small)

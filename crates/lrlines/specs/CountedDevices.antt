-- a counted device as contracts see it
use Rattle.std.specs.Prelude.{ℕ}
use Rattle.lrlines.specs.declared.devices.Counted.{Counted}

-- the device itself
abbrev pub device_of : {D : Type 0} → Counted D → D
device_of c = c.device

-- how many calls have failed
abbrev pub failures_of : {D : Type 0} → Counted D → ℕ
failures_of c = c.failures

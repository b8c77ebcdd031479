-- Stored FIRST sets as plain lists.
use Rattle.lrgrammar.specs.declared.firsts.YaccFirsts.TheInside.{Inside}
use Rattle.lrgrammar.specs.Firsts.{Firsts}

-- stored FIRST sets as plain lists
abbrev pub firsts_view : {T : Type 0} → Inside T → Firsts
firsts_view f = record { nullable = f.nullable; tokens = f.firsts.items }

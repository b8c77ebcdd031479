-- the entries of a table's lists of conflicts, in one list
use Rattle.std.specs.Prelude.{◌≡◌, ℕ, List, map, ◌++◌, Option, None, Some}
use Rattle.lrspec.specs.tables.Table.{Lists}
use Rattle.lrverdicts.specs.declared.conflicts.Entry.{Entry}

-- an entry of a list: token, production, the other production if there is one, and state
abbrev pub Listing : Type 0
Listing = ℕ × ℕ × Option ℕ × ℕ

-- that of a shift/reduce conflict, which is token, production and state
abbrev pub shift_listing : ℕ × ℕ × ℕ → Listing
shift_listing e = (e.0, e.1, None, e.2)

-- that of a reduce/reduce conflict, which is token, both productions, and state
abbrev pub reduction_listing : ℕ × ℕ × ℕ × ℕ → Listing
reduction_listing e = (e.0, e.1, Some e.2, e.3)

-- the shift/reduce conflicts, and then the reduce/reduce ones
abbrev pub listed : Lists → List Listing
listed c = map shift_listing c.shift_reduce ++ map reduction_listing c.reduce_reduce

-- the same meets at both entries in the same state, perhaps at another token
pub record MeetsLike (e f : Entry) : Type 0 where
  pub state : e.state ≡ f.state
  pub production : e.production ≡ f.production
  pub other : e.other ≡ f.other

-- what an entry tells, without its place
abbrev pub told : Entry → Listing
told e = (e.token, e.production, e.other, e.state)

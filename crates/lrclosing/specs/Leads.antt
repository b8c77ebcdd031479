-- what productions pass on to those of the rules that come first in their bodies, and rows that stay from one closing to
-- the next
use Rattle.std.specs.Prelude.{◌≡◌, ℕ, ◌<◌, Bool, true, false, IsTrue, List, Option, None, Some, if◌then◌else◌, length, map, slice_get, slice_set, ◌↔◌}
use Rattle.std.specs.declared.alloc.Global.{Global}
use Rattle.std.specs.declared.vec.Vec.{Vec}
use Rattle.lrspec.specs.grammars.Grammar.{Rule, Grammar, token_count, rest, IsProductionOf}
use Rattle.lrspec.specs.grammars.First.{AllNullable, Begins}
use Rattle.lrspec.specs.grammars.ItemSets.{IsBefore}
use Rattle.lrbits.specs.Bits.{bit, union}
use Rattle.lrclosing.specs.Rows.{Rows, HasGrown}
use Rattle.lrclosing.specs.Visits.{HasNone}
use Rattle.lrclosing.specs.declared.closer.Lead.{Lead}
use Rattle.lrclosing.specs.declared.closer.Row.{Row}

-- the production `q` of the rule `a` begins with the rule of the lead, and passes on to its productions what the lead says
pub record IsLeadOf (g : Grammar) (a q : ℕ) (l : Lead) : Type 0 where
  pub is_production : IsProductionOf g q a
  pub is : IsBefore g q 0 (Rule l.rule)
  pub rule : l.rule < length g.rule_names
  pub bits : length l.begins ≡ token_count g
  pub begins : (t : ℕ) → IsTrue (bit l.begins t) ↔ Begins g (rest g q 1) t
  pub nullable : IsTrue l.inherits ↔ AllNullable g (rest g q 1)

-- the leads are those of the productions of `Q`, of the rule `a`, that begin with a rule
pub record AreLeadsAmong (Q : ℕ → Type 0) (g : Grammar) (a : ℕ) (ls : List Lead) : Type 0 where
  pub each : (k : ℕ) (l : Lead) → slice_get ls k ≡ Some l → (q : ℕ) × IsLeadOf g a q l
  pub all :
      (q b : ℕ) → Q q → IsBefore g q 0 (Rule b)
      → (k : ℕ) × (l : Lead) × (slice_get ls k ≡ Some l) × IsLeadOf g a q l

-- the leads are those of the productions of the rule `a` that begin with a rule
abbrev pub AreLeadsOf : Grammar → ℕ → List Lead → Type 0
AreLeadsOf g a ls = AreLeadsAmong (λ q. IsProductionOf g q a) g a ls

-- by rule, the leads of its productions
abbrev pub AreLeadsByRule : Grammar → List (Vec Lead Global) → Type 0
AreLeadsByRule g vs =
    (a : ℕ) (v : Vec Lead Global) → slice_get vs a ≡ Some v → AreLeadsOf g a v.items

-- the row of a rule, none where the rule isn't reached
abbrev pub row_in : Row → Option (List Bool)
row_in r = if r.is_reached then Some r.ctx else None

-- the rows of the rules
abbrev pub rows_in : List Row → Rows
rows_in rs = map row_in rs

-- by rule, whether its row is reached
abbrev pub reached_of : List Row → List Bool
reached_of rs = map (λ r. r.is_reached) rs

-- the row of a rule with the tokens of another one
abbrev pub joined_row : Row → Row → Row
joined_row v w = record { ctx = union v.ctx w.ctx; is_reached = v.is_reached }

-- the row of a rule has a bit for each token, none of which is set where the rule isn't reached
pub record IsRow (g : Grammar) (r : Row) : Type 0 where
  pub bits : length r.ctx ≡ token_count g
  pub empty : r.is_reached ≡ false → HasNone r.ctx

-- a row for each rule of the grammar
pub record AreKeptRows (g : Grammar) (rs : List Row) : Type 0 where
  pub len : length rs ≡ length g.rule_names
  pub each : (a : ℕ) (r : Row) → slice_get rs a ≡ Some r → IsRow g r

-- a row for each rule of the grammar, none of which is reached
pub record AreClearRows (g : Grammar) (rs : List Row) : Type 0 where
  pub are : AreKeptRows g rs
  pub clear : (a : ℕ) (r : Row) → slice_get rs a ≡ Some r → r.is_reached ≡ false

-- the rule of the lead has a row, and each row has as many bits as the lead
pub record IsLeadFor (rs : List Row) (l : Lead) : Type 0 where
  pub rule : l.rule < length rs
  pub bits : (a : ℕ) (r : Row) → slice_get rs a ≡ Some r → length r.ctx ≡ length l.begins

-- what the lead makes of the row `v` of its rule, where `w` is that of the rule that it is from
abbrev pub led_row : Lead → Row → Row → Row
led_row l v w = record {
  ctx = if l.inherits then union (union v.ctx l.begins) w.ctx else union v.ctx l.begins;
  is_reached = true;
}

-- the row of the lead's rule is written, with what the lead, which is from the rule `a`, makes of it
pub record IsLed (l : Lead) (a : ℕ) (changed : Bool) (old new : List Row) : Type 0 where
  pub row : Row
  pub own : Row
  pub row_is : slice_get old l.rule ≡ Some row
  pub own_is : slice_get old a ≡ Some own
  pub written : new ≡ slice_set old l.rule (led_row l row own)
  pub grown : HasGrown (length l.begins) changed (row_in row) (led_row l row own).ctx

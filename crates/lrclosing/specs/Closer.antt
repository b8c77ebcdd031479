-- a closer as plain data
use Rattle.std.specs.Prelude.{◌≡◌, ℕ, ◌<◌, ◌≤◌, Bool, IsTrue, List, [], Some, length, slice_get, vec_capacity, ◌⊎◌}
use Rattle.std.specs.List.{All, Contains}
use Rattle.std.specs.declared.alloc.Global.{Global}
use Rattle.std.specs.declared.vec.Vec.{Vec}
use Rattle.lrspec.specs.grammars.Grammar.{Grammar, token_count, IsProductionOf}
use Rattle.lrspec.specs.grammars.ItemSets.{Items}
use Rattle.lrbits.specs.Bits.{bit}
use Rattle.lrclosing.specs.Visits.{HasNone, IsRuleToDo, IsUnderway, set_count, visits_left}
use Rattle.lrclosing.specs.Rows.{Rows}
use Rattle.lrclosing.specs.Leads.{AreLeadsByRule, AreKeptRows, IsLeadFor, rows_in, reached_of}
use Rattle.lrclosing.specs.declared.closer.Lead.{Lead}
use Rattle.lrclosing.specs.declared.closer.Row.{Row}
use Rattle.lrclosing.specs.declared.closer.Closer.{Closer}

-- the list has the places of the set bits, each once, and room for all places
pub record AreReached (bits : List Bool) (ks : Vec ℕ Global) : Type 0 where
  pub each : (a : ℕ) → Contains ks.items a → IsTrue (bit bits a)
  pub all : (a : ℕ) → IsTrue (bit bits a) → Contains ks.items a
  pub count : length ks.items ≡ set_count bits
  pub room : length bits ≤ vec_capacity ks

-- what is set in `todo` is set in `bits`
abbrev pub AreWithin : List Bool → List Bool → Type 0
AreWithin todo bits = (a : ℕ) → IsTrue (bit todo a) → IsTrue (bit bits a)

-- none of the listed rules from the place `from` on is to be done
abbrev pub NoneToDoFrom : List ℕ → List Bool → ℕ → Type 0
NoneToDoFrom ks todo from = (k a : ℕ) → from ≤ k → slice_get ks k ≡ Some a → IsTrue (bit todo a) → ⊥

-- the rule that is listed at the place is to be done
abbrev pub IsPlaceToDo : List ℕ → List Bool → ℕ → Type 0
IsPlaceToDo ks todo k = (a : ℕ) × (slice_get ks k ≡ Some a) × IsTrue (bit todo a)

-- by rule, the rows of the last closing
abbrev pub rows_of : Closer → Rows
rows_of c = rows_in c.rows.items

-- the closer has by rule leads for its rows, a row, and whether that is to be done; and it lists those that are reached,
-- to which belong those that are to be done
pub record IsWhole (c : Closer) : Type 0 where
  pub leads_len : length c.leads.items ≡ length c.rows.items
  pub todo_len : length c.todo ≡ length c.rows.items
  pub leads :
      (a : ℕ) (v : Vec Lead Global) → slice_get c.leads.items a ≡ Some v
      → All (IsLeadFor c.rows.items) v.items
  pub reached : AreReached (reached_of c.rows.items) c.reached
  pub within : AreWithin c.todo (reached_of c.rows.items)

-- the closer is one of the grammar
pub record IsClosing (g : Grammar) (c : Closer) : Type 0 where
  pub leads_len : length c.leads.items ≡ length g.rule_names
  pub leads : AreLeadsByRule g c.leads.items
  pub rows : AreKeptRows g c.rows.items
  pub reached : AreReached (reached_of c.rows.items) c.reached
  pub within : AreWithin c.todo (reached_of c.rows.items)
  pub todo_len : length c.todo ≡ length g.rule_names

-- the closer is one of the grammar, between two closings
pub record IsCloserOf (g : Grammar) (c : Closer) : Type 0 where
  pub is : IsClosing g c
  pub done : HasNone c.todo

-- the rows of a closing on its way, where the productions of the rule `r` are to be done besides those of `todo`; and
-- then, where those of `After` are
pub record AreVisited
    (g : Grammar) (r : ℕ) (After : ℕ → Type 0) (old new : List Row) (todo after : List Bool)
    : Type 0 where
  pub rows : AreKeptRows g new
  pub len : length after ≡ length todo
  pub underway :
      (a : Items) → IsUnderway g a (rows_in old)
      (λ q. IsRuleToDo g todo q ⊎ IsProductionOf g q r) []
      → IsUnderway g a (rows_in new) After []
  pub left :
      visits_left (token_count g) (rows_in new) after ≤ visits_left (token_count g)
      (rows_in old) todo

-- the closer is still one of the grammar; the closure on whose way it was is still to come, by fewer visits
pub record IsNearer (g : Grammar) (old new : Closer) : Type 0 where
  pub is : IsClosing g new
  pub underway :
      (a : Items) → IsUnderway g a (rows_of old) (IsRuleToDo g old.todo) []
      → IsUnderway g a (rows_of new) (IsRuleToDo g new.todo) []
  pub left :
      visits_left (token_count g) (rows_of new) new.todo
      < visits_left (token_count g) (rows_of old) old.todo

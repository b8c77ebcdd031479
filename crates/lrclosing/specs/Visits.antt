-- visits of items, which pass on what the items look at, and how many are still to come
use Rattle.std.specs.Prelude.{◌≡◌, ℕ, ◌+◌, ◌*◌, Bool, true, false, IsTrue, List, [], ◌∷◌, Option, length, if◌then◌else◌, ◌⊎◌}
use Rattle.std.specs.Option.{IsSome}
use Rattle.lrspec.specs.grammars.Grammar.{Symbol, Rule, Grammar, rest, IsProductionOf}
use Rattle.lrspec.specs.grammars.First.{AllNullable, Begins}
use Rattle.lrspec.specs.grammars.ItemSets.{Items, item_at, HasItem, LooksIn, IsBefore, ClosedItem, ClosedLook}
use Rattle.lrbits.specs.Bits.{bit}
use Rattle.lrclosing.specs.Rows.{Rows, row_at, HasToken, room_of, AreRows}

-- no bit is set
abbrev pub HasNone : List Bool → Type 0
HasNone v = (i : ℕ) → IsTrue (bit v i) → ⊥

-- `new` is `old` with the bits of `Q` set
pub record AreMarked (Q : ℕ → Type 0) (old new : List Bool) : Type 0 where
  pub len : length new ≡ length old
  pub kept : (q : ℕ) → IsTrue (bit old q) → IsTrue (bit new q)
  pub set : (q : ℕ) → Q q → IsTrue (bit new q)
  pub from : (q : ℕ) → IsTrue (bit new q) → IsTrue (bit old q) ⊎ Q q

-- the bits of the productions of the rule `r` are set where something has changed
abbrev pub AreMarkedIf : Bool → Grammar → ℕ → List Bool → List Bool → Type 0
AreMarkedIf true g r old new = AreMarked (λ q. IsProductionOf g q r) old new
AreMarkedIf false g r old new = new ≡ old

-- the closure rule holds at an item that looks at `ctx`
pub record IsPassedOn
    (g : Grammar) (rows : Rows) (p d : ℕ) (ctx : Option (List Bool)) : Type 0 where
  pub row : (r : ℕ) (y : List Symbol) → rest g p d ≡ Rule r ∷ y → IsSome (row_at rows r)
  pub begins :
      (r t : ℕ) (y : List Symbol)
      → rest g p d ≡ Rule r ∷ y → Begins g y t
      → HasToken (row_at rows r) t
  pub inherit :
      (r t : ℕ) (y : List Symbol)
      → rest g p d ≡ Rule r ∷ y → AllNullable g y → HasToken ctx t
      → HasToken (row_at rows r) t

-- the item stands before the rule `r`, and passes the token `t` on, where it looks at `ctx`
abbrev pub PassesOn : Grammar → ℕ → ℕ → Option (List Bool) → ℕ → ℕ → Type 0
PassesOn g p d ctx r t =
    (y : List Symbol) × (rest g p d ≡ Rule r ∷ y)
    × (Begins g y t ⊎ (AllNullable g y × HasToken ctx t))

-- the production `q` is to be done, by one bit a production
abbrev pub IsToDo : List Bool → ℕ → Type 0
IsToDo todo q = IsTrue (bit todo q)

-- the production `q` is to be done, by one bit a rule
abbrev pub IsRuleToDo : Grammar → List Bool → ℕ → Type 0
IsRuleToDo g todo q = (r : ℕ) × IsProductionOf g q r × IsTrue (bit todo r)

-- an item that looks at `ctx` is visited: what it passes on is in the rows, and the productions of
-- each rule whose row has changed are to be done; `Todo` and `After` are what is to be done before and then
pub record IsVisited
    (g : Grammar) (p d : ℕ) (ctx : Option (List Bool)) (rows new : Rows) (Todo After : ℕ → Type 0)
    : Type 0 where
  pub passed : IsPassedOn g new p d ctx
  pub kept_row : (r : ℕ) → IsSome (row_at rows r) → IsSome (row_at new r)
  pub kept_token : (r t : ℕ) → HasToken (row_at rows r) t → HasToken (row_at new r) t
  pub from_row : (r : ℕ) → IsSome (row_at new r) → IsSome (row_at rows r) ⊎ IsBefore g p d (Rule r)
  pub from_token :
      (r t : ℕ) → HasToken (row_at new r) t → HasToken (row_at rows r) t ⊎ PassesOn g p d ctx r t
  pub kept_todo : (q : ℕ) → Todo q → After q
  pub from_todo :
      (q r : ℕ) → After q → IsProductionOf g q r
      → Todo q ⊎ IsSome (row_at new r)
  pub changed :
      (q r : ℕ) → IsProductionOf g q r → (row_at new r ≡ row_at rows r) ⊎ After q

-- a row for each rule, and a bit for each production of the grammar
pub record AreShaped (g : Grammar) (rows : Rows) (todo : List Bool) : Type 0 where
  pub of_rules : AreRows g rows
  pub of_productions : length todo ≡ length g.productions

-- on the way from `a` to its closure: the rows have nothing but what the closure gives, and the
-- closure rule holds at each item of `a` that isn't left to visit, and at each production that is
-- put in and isn't to be done; and each rule that has a row stands behind a dot
pub record IsUnderway
    (g : Grammar) (a : Items) (rows : Rows) (Todo : ℕ → Type 0) (left : Items) : Type 0 where
  pub items :
      (q r : ℕ) → IsProductionOf g q r → IsSome (row_at rows r) → ClosedItem g (HasItem a) q 0
  pub looks :
      (q r t : ℕ) → IsProductionOf g q r → HasToken (row_at rows r) t
      → ClosedLook g (HasItem a) (LooksIn a) q 0 t
  pub given :
      (p d : ℕ) → HasItem a p d → HasItem left p d ⊎ IsPassedOn g rows p d (item_at a p d)
  pub put_in : (q r : ℕ) → Todo q → IsProductionOf g q r → IsSome (row_at rows r)
  pub done :
      (q r : ℕ) → IsProductionOf g q r → IsSome (row_at rows r)
      → Todo q ⊎ IsPassedOn g rows q 0 (row_at rows r)
  pub behind : (r : ℕ) → IsSome (row_at rows r) → (p : ℕ) × (d : ℕ) × IsBefore g p d (Rule r)

-- how many bits are set
abbrev pub set_count : List Bool → ℕ
set_count [] = 0
set_count (b ∷ v) = (if b then 1 else 0) + set_count v

-- how much all rows can still gain, where there are `k` tokens
abbrev pub room : ℕ → Rows → ℕ
room k [] = 0
room k (o ∷ rows) = room_of k o + room k rows

-- how many visits of productions, or of rules, can still come at the most, with one bit for each: a
-- visit gives some row a token, after which any of them may be to be done, or leaves one less that is
abbrev pub visits_left : ℕ → Rows → List Bool → ℕ
visits_left k rows todo = room k rows * (length todo + 1) + set_count todo

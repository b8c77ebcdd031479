-- rows: for each rule the lookaheads that a closing gives to its productions at dot 0
use Rattle.std.specs.Prelude.{◌≡◌, ℕ, ◌+◌, ◌<◌, Bool, true, false, IsTrue, List, Option, None, Some, length, slice_index_or, ◌⊎◌}
use Rattle.std.specs.Option.{IsSome, IsSomeAnd}
use Rattle.lrspec.specs.grammars.Grammar.{Symbol, Rule, Grammar, token_count, IsProductionOf}
use Rattle.lrspec.specs.grammars.First.{AllNullable, Begins}
use Rattle.lrspec.specs.grammars.ItemSets.{Items, HasItem, LooksIn, IsContained, IsBefore, IsClosure}
use Rattle.lrbits.specs.Bits.{bit, unset}

-- for each rule one bit a token, None where the rule isn't put in
abbrev pub Rows : Type 0
Rows = List (Option (List Bool))

-- the row of the rule `r`
abbrev pub row_at : Rows → ℕ → Option (List Bool)
row_at rows r = slice_index_or rows r None

-- the bits are there, and that of the token `t` is set
abbrev pub HasToken : Option (List Bool) → ℕ → Type 0
HasToken o t = IsSomeAnd o (λ v. IsTrue (bit v t))

-- `new` is a row with what an item before its rule passes on, which looks at `ctx`: each token that
-- begins the rest `y` behind the rule, and where `y` is nullable those of `ctx`
pub record ArePassedOn
    (g : Grammar) (y : List Symbol) (ctx row : Option (List Bool)) (new : List Bool) : Type 0 where
  pub len : length new ≡ token_count g
  pub kept : (t : ℕ) → HasToken row t → IsTrue (bit new t)
  pub begins : (t : ℕ) → Begins g y t → IsTrue (bit new t)
  pub inherit : (t : ℕ) → AllNullable g y → HasToken ctx t → IsTrue (bit new t)
  pub from :
      (t : ℕ) → IsTrue (bit new t)
      → HasToken row t ⊎ Begins g y t ⊎ (AllNullable g y × HasToken ctx t)

-- how much a row can still gain: its bits that aren't set; where it isn't there all `k`, and one more
abbrev pub room_of : ℕ → Option (List Bool) → ℕ
room_of k None = k + 1
room_of k (Some v) = unset v

-- a row has changed, and can gain less; or it is as it was
abbrev pub HasGrown : ℕ → Bool → Option (List Bool) → List Bool → Type 0
HasGrown k true row new = room_of k (Some new) < room_of k row
HasGrown k false row new = row ≡ Some new

-- a row for each rule of the grammar, with a bit for each token
pub record AreRows (g : Grammar) (rows : Rows) : Type 0 where
  pub rules : length rows ≡ length g.rule_names
  pub bits : (r : ℕ) (v : List Bool) → row_at rows r ≡ Some v → length v ≡ token_count g

-- `new` is `old` with items at dot 0: those of the productions of `Item`, which look at the tokens
-- of `Look`
pub record AreAdded
    (Item : ℕ → Type 0) (Look : ℕ → ℕ → Type 0) (old new : Items) : Type 0 where
  pub contains : IsContained old new
  pub from_item : (p d : ℕ) → HasItem new p d → HasItem old p d ⊎ ((d ≡ 0) × Item p)
  pub from_look :
      (p d t : ℕ) → LooksIn new p d t → LooksIn old p d t ⊎ ((d ≡ 0) × Look p t)
  pub items : (p : ℕ) → Item p → HasItem new p 0
  pub looks : (p t : ℕ) → Look p t → LooksIn new p 0 t

-- the productions of `Q` are added, each with the bits of `ctx`
abbrev pub ArePut : (ℕ → Type 0) → List Bool → Items → Items → Type 0
ArePut Q ctx old new = AreAdded Q (λ q t. Q q × IsTrue (bit ctx t)) old new

-- the rule of the production `p` has a row
abbrev pub IsPutIn : Grammar → Rows → ℕ → Type 0
IsPutIn g rows p = (r : ℕ) × IsProductionOf g p r × IsSome (row_at rows r)

-- the rule of the production `p` has a row, with the token `t`
abbrev pub IsGiven : Grammar → Rows → ℕ → ℕ → Type 0
IsGiven g rows p t = (r : ℕ) × IsProductionOf g p r × HasToken (row_at rows r) t

-- the productions of each rule that has a row are added, each with the bits of that row
abbrev pub AreWithRows : Grammar → Rows → Items → Items → Type 0
AreWithRows g rows old new = AreAdded (IsPutIn g rows) (IsGiven g rows) old new

-- the rows are those of the closure of `a`: with what they give, `a` is its closure; and each rule
-- that has a row stands behind a dot
pub record AreClosingRows (g : Grammar) (a : Items) (rows : Rows) : Type 0 where
  pub shaped : AreRows g rows
  pub closure : (c : Items) → AreWithRows g rows a c → IsClosure g a c
  pub behind : (r : ℕ) → IsSome (row_at rows r) → (p : ℕ) × (d : ℕ) × IsBefore g p d (Rule r)

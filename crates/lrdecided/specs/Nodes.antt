-- how two ways to read stand to one another
use Rattle.std.specs.Prelude.{◌≡◌, ℕ, Bool, false, if◌then◌else◌, List, [], ◌++◌, Option, Some, Contains}
use Rattle.lrspec.specs.grammars.Grammar.{Symbol}

-- one of the ways
pub record Side : Type 0 where
  -- the item at whose dot it stands
  pub production : ℕ
  pub dot : ℕ
  -- the symbols that it derives from there on, and that the other way has not met yet
  pub symbols : List Symbol
  -- whether these are only the beginning of what it derives so
  pub is_cut : Bool

-- both ways
pub record Node : Type 0 where
  pub one : Side
  pub other : Side
  -- the states to which what both have before their dots may lead
  pub states : List ℕ
  -- the token that comes next, if it is known
  pub next : Option ℕ
  -- in how many tokens the texts still agree; without a number in all
  pub left : Option ℕ

-- the node with its ways exchanged
abbrev pub swap : Node → Node
swap a = record a { one = a.other; other = a.one }

-- the side with these symbols in place of its own
abbrev pub with_symbols : Side → List Symbol → Side
with_symbols x y = record x { symbols = y }

-- the side at the dot of an item in which it stood, with the symbols behind that, which are not known where it is cut
abbrev pub outside : Side → ℕ → ℕ → List Symbol → Side
outside x p d y = record {
  production = p;
  dot = d;
  symbols = if x.is_cut then x.symbols else x.symbols ++ y;
  is_cut = x.is_cut;
}

-- all that the side may be, the general one may be too: it has a beginning of its symbols, and is cut if that is not all
pub record SideCovers (general side : Side) : Type 0 where
  pub production : general.production ≡ side.production
  pub dot : general.dot ≡ side.dot
  pub beyond : List Symbol
  pub begins : side.symbols ≡ general.symbols ++ beyond
  pub all : general.is_cut ≡ false → (beyond ≡ []) × (side.is_cut ≡ false)

-- and so with nodes: the general one has all the states, and knows no other next token
pub record Covers (general node : Node) : Type 0 where
  pub one : SideCovers general.one node.one
  pub other : SideCovers general.other node.other
  pub states : (s : ℕ) → Contains node.states s → Contains general.states s
  pub next : (t : ℕ) → general.next ≡ Some t → node.next ≡ Some t
  pub left : general.left ≡ node.left

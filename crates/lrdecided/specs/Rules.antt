-- what shows that no two ways stand so
use Rattle.std.specs.Prelude.{◌≡◌, ◌≢◌, ℕ, suc, false, List, [], ◌∷◌, ◌++◌, Option, None, Some, Contains}
use Rattle.lrspec.specs.grammars.Grammar.{Symbol, Rule, Token, Grammar, end_token, body_of, rest, IsProductionOf}
use Rattle.lrspec.specs.grammars.First.{AllNullable, Begins}
use Rattle.lrspec.specs.grammars.ItemSets.{HasItem}
use Rattle.lrspec.specs.merging.Graph.{Graph, closed_of, edge}
use Rattle.lrdecided.specs.Agreements.{Spends}
use Rattle.lrdecided.specs.Nodes.{Side, Node, swap, with_symbols, outside, Covers}

-- no text of these symbols is empty or begins with the token
pub record CannotBegin (g : Grammar) (y : List Symbol) (t : ℕ) : Type 0 where
  pub not_empty : ¬ (AllNullable g y)
  pub not_first : ¬ (Begins g y t)

-- the side is at the beginning of the start item, and nothing comes any more
pub record IsAtEnd (g : Grammar) (x : Side) : Type 0 where
  pub production : x.production ≡ g.start_production
  pub dot : x.dot ≡ 0
  pub symbols : x.symbols ≡ []
  pub whole : x.is_cut ≡ false

-- no two ways stand so, as their next tokens tell
pub data IsImpossible (g : Grammar) : Node → Type 0 where
  -- no state is left
  nowhere : {a : Node} → a.states ≡ [] → IsImpossible g a
  -- the next token is known, and the one way can't go on with it
  known : {a : Node} (t : ℕ) → a.next ≡ Some t → CannotBegin g a.one.symbols t → IsImpossible g a
  -- the ways go on with no token in common
  apart :
      {a : Node} {l : Option ℕ} → Spends a.left l
      → ¬ (AllNullable g a.one.symbols) → ¬ (AllNullable g a.other.symbols)
      → ((t : ℕ) → Begins g a.one.symbols t → ¬ (Begins g a.other.symbols t))
      → IsImpossible g a
  -- the one way is at the end of its text, and the other is not
  ended :
      {a : Node} {l : Option ℕ} → Spends a.left l
      → IsAtEnd g a.one → CannotBegin g a.other.symbols (end_token g)
      → IsImpossible g a
  -- the one way is at the end of its text, where a token comes
  unended : {a : Node} (t : ℕ) → a.next ≡ Some t → t ≢ end_token g → IsAtEnd g a.one → IsImpossible g a
  -- the same with the ways exchanged
  swapped : {a : Node} → IsImpossible g (swap a) → IsImpossible g a

-- it is impossible, or comes to a listed node as the ways take the tokens that both have next
pub data IsSettled (g : Grammar) (nodes : List Node) : Node → Type 0 where
  impossible : {a : Node} → IsImpossible g a → IsSettled g nodes a
  listed : {a : Node} (b : Node) → Contains nodes b → Covers b a → IsSettled g nodes a
  take :
      {a : Node} {l : Option ℕ} (t : ℕ) (y z : List Symbol) → Spends a.left l
      → a.one.symbols ≡ Token t ∷ y → a.other.symbols ≡ Token t ∷ z
      → IsSettled g nodes
      (record a { one = with_symbols a.one y; other = with_symbols a.other z; next = None; left = l })
      → IsSettled g nodes a
  -- the same with the ways exchanged
  swapped : {a : Node} → IsSettled g nodes (swap a) → IsSettled g nodes a

-- a move from the node is always there, and each node to which it may lead is a member
pub data Proceeds (g : Grammar) (h : Graph) (Member : Node → Type 0) : Node → Type 0 where
  -- the first symbol of the one way is a rule: any of its bodies comes in its place
  expand :
      {a : Node} (r : ℕ) (y : List Symbol) → a.one.symbols ≡ Rule r ∷ y
      → ((q : ℕ) → IsProductionOf g q r
      → Member (record a { one = with_symbols a.one (body_of g q ++ y) }))
      → Proceeds g h Member a
  -- both go back over the symbol before their dots, to any state before
  back :
      {a : Node} (d e : ℕ) (states : List ℕ) → a.one.dot ≡ suc d → a.other.dot ≡ suc e
      → ((s u : ℕ) (x : Symbol) → Contains a.states u → edge h s x ≡ Some u → Contains states s)
      → Member
      (record {
        one = record a.one { dot = d };
        other = record a.other { dot = e };
        states = states;
        next = a.next;
        left = a.left;
      })
      → Proceeds g h Member a
  -- the one way, its dot before its body, goes out to any item of the states before its rule
  close :
      {a : Node} → a.one.dot ≡ 0 → a.one.production ≢ g.start_production
      → ((p d r : ℕ) (y : List Symbol) → IsProductionOf g a.one.production r → rest g p d ≡ Rule r ∷ y
      → (states : List ℕ)
      × ((s : ℕ) → Contains a.states s → HasItem (closed_of h s) p d → Contains states s)
      × Member (record a { one = outside a.one p d y; states = states }))
      → Proceeds g h Member a
  -- the same with the ways exchanged
  swapped : {a : Node} → Proceeds g h Member (swap a) → Proceeds g h Member a

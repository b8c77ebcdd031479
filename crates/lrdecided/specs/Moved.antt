-- nodes to which moves lead
use Rattle.std.specs.Prelude.{◌≡◌, ℕ, List, ◌∷◌, ◌++◌, Option, None, Some, Contains, drop}
use Rattle.lrspec.specs.grammars.Grammar.{Symbol, Rule, Grammar, body_of, rest, IsProductionOf}
use Rattle.lrspec.specs.grammars.ItemSets.{HasItem}
use Rattle.lrspec.specs.merging.Graph.{Graph, closed_of, edge}
use Rattle.lrdecided.specs.Nodes.{Side, Node, with_symbols, outside}
use Rattle.lrdecided.specs.Rules.{IsSettled, Proceeds}

-- the side with this body in place of its first symbol
abbrev pub expanded : Grammar → Side → ℕ → Side
expanded g x q = with_symbols x (body_of g q ++ drop 1 x.symbols)

-- the node with its one way so
abbrev pub expansion : Grammar → Node → ℕ → Node
expansion g a q = record a { one = expanded g a.one q }

-- the nodes of all bodies of the rule are among these
abbrev pub HasExpansions : Grammar → Node → ℕ → List Node → Type 0
HasExpansions g a r nodes = (q : ℕ) → IsProductionOf g q r → Contains nodes (expansion g a q)

-- each state from which an edge leads to one of the first states is one of the second
abbrev pub HasBefore : Graph → List ℕ → List ℕ → Type 0
HasBefore h states before =
    (s u : ℕ) (x : Symbol) → Contains states u → edge h s x ≡ Some u → Contains before s

-- each of the first states whose closed state has the item is one of the second
abbrev pub HasWithItem : Graph → ℕ → ℕ → List ℕ → List ℕ → Type 0
HasWithItem h p d states kept =
    (s : ℕ) → Contains states s → HasItem (closed_of h s) p d → Contains kept s

-- the nodes that were listed are listed
abbrev pub HasNodes : List Node → List Node → Type 0
HasNodes old new = (a : Node) → Contains old a → Contains new a

-- where the item stands before the rule, the node with its one way out there is among these
abbrev pub HasOutside : Graph → Grammar → Node → ℕ → ℕ → ℕ → List Node → Type 0
HasOutside h g a r p d nodes =
    (y : List Symbol) → rest g p d ≡ Rule r ∷ y
    → (states : List ℕ) × HasWithItem h p d a.states states
    × Contains nodes (record a { one = outside a.one p d y; states = states })

-- and so with all items
abbrev pub HasAllOutside : Graph → Grammar → Node → ℕ → List Node → Type 0
HasAllOutside h g a r nodes = (p d : ℕ) → HasOutside h g a r p d nodes

-- if there are nodes, a move from the node is always there, and leads to one of these
abbrev pub AreMoves : Grammar → Graph → Node → Option (List Node) → Type 0
AreMoves g h a None = Unit {0}
AreMoves g h a (Some nodes) = Proceeds g h (Contains nodes) a

-- what the node comes to, as the ways take tokens, and some of what they derive is forgotten: to nothing, as it is impossible,
-- or to a node
abbrev pub ComesTo : Grammar → Node → Option Node → Type 0
ComesTo g a None = (nodes : List Node) → IsSettled g nodes a
ComesTo g a (Some b) = (nodes : List Node) → Contains nodes b → IsSettled g nodes a

-- each of the nodes is impossible, or comes to a listed one
abbrev pub AreSettled : Grammar → List Node → List Node → Type 0
AreSettled g listed nodes = (a : Node) → Contains nodes a → IsSettled g listed a

-- a move from each listed node is always there, and leads to what is settled
abbrev pub AllProceed : Grammar → Graph → List Node → Type 0
AllProceed g h listed = (a : Node) → Contains listed a → Proceeds g h (IsSettled g listed) a

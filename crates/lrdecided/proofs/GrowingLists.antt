-- certificates in the making: what is settled stays so as nodes are added, and which nodes cover one that is cut
use Rattle.std.proofs.Common.{ℕ, true, List, ◌++◌, take, drop, refl, sym}
use Rattle.std.specs.Prelude.{Contains}
use Rattle.std.proofs.lemmas.List.{take-append-drop}
use Rattle.lrspec.specs.grammars.Grammar.{Grammar}
use Rattle.lrspec.specs.merging.Graph.{Graph}
use Rattle.lrspec.proofs.grammars.ListMembers.{among_from_contains, contains_from_among, among_front}
use Rattle.lrdecided.specs.Nodes as nodes
use Rattle.lrdecided.specs.Nodes.{Side, SideCovers}
use Rattle.lrdecided.specs.Rules as rule
use Rattle.lrdecided.specs.Rules.{IsSettled, Proceeds}

-- a listed node stays listed
listed_still : (listed more : List nodes.Node) (a : nodes.Node) → Contains listed a → Contains (listed ++ more) a
listed_still listed more a k = contains_from_among a (listed ++ more) (among_front a listed more (among_from_contains a listed k))

-- a settled node stays settled as more are listed
pub settled_still : {g : Grammar} {listed : List nodes.Node} {a : nodes.Node} (more : List nodes.Node) → IsSettled g listed a → IsSettled g (listed ++ more) a
settled_still more (rule.IsSettled.impossible i) = rule.IsSettled.impossible i
settled_still {listed = listed} more (rule.IsSettled.listed b is c) = rule.IsSettled.listed b (listed_still listed more b is) c
settled_still more (rule.IsSettled.take t y z s e f i) = rule.IsSettled.take t y z s e f (settled_still more i)
settled_still more (rule.IsSettled.swapped i) = rule.IsSettled.swapped (settled_still more i)

-- and a node proceeds to what all of that is
pub proceeds_still :
    {g : Grammar} {h : Graph} {Member Other : nodes.Node → Type 0} {a : nodes.Node} → ((b : nodes.Node) → Member b → Other b) → Proceeds g h Member a
    → Proceeds g h Other a
proceeds_still k (rule.Proceeds.expand r y e go) = rule.Proceeds.expand r y e (λ q i. k _ (go q i))
proceeds_still k (rule.Proceeds.back d e states i j before go) = rule.Proceeds.back d e states i j before (k _ go)
proceeds_still k (rule.Proceeds.close z differ go) =
    rule.Proceeds.close z differ (λ p d r y i e. let (states, kept, member) = go p d r y i e in (states, kept, k _ member))
proceeds_still k (rule.Proceeds.swapped p) = rule.Proceeds.swapped (proceeds_still k p)

-- and cut to a beginning of its symbols it covers the whole
pub side_cut : (n : ℕ) (a : Side) → SideCovers (record a { symbols = take n a.symbols; is_cut = true }) a
side_cut n a = record { production = refl; dot = refl; beyond = drop n a.symbols; begins = sym (take-append-drop n a.symbols); all = λ e. absurd cc }

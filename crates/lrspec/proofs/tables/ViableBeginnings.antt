-- where every rule has a tree, what the machine has shifted begins a sentence
use Rattle.std.proofs.Common.{◌≡◌, ℕ, zero, suc, List, [], ◌∷◌, ◌++◌, drop, refl, sym, ap, ◌∙◌, subst, append_assoc, append-nil}
use Rattle.lrspec.specs.grammars.Grammar.{Symbol, Rule, Grammar, IsGrammar, AreBodySymbols, IsProductionOf, body_of, rest}
use Rattle.lrspec.specs.grammars.Trees.{Forest, Node, Bare, And, leaves, forest_leaves, joined, IsForest, production, bare, and, IsSentence}
use Rattle.lrspec.specs.grammars.CanonicalItems as item
use Rattle.lrspec.specs.grammars.CanonicalItems.{Stands}
use Rattle.lrspec.specs.tables.Recognition.{HasTrees, BeginsSentence}
use Rattle.lrspec.specs.merging.Graph.{Graph, IsGraphOf}
use Rattle.lrspec.specs.tables.Machine.{top}
use Rattle.lrspec.proofs.grammars.BodyFacts.{rest_next}
use Rattle.lrspec.proofs.grammars.CanonicalClosures.{core_item_stands}
use Rattle.lrspec.proofs.tables.MachineStacks.{stack_leads, start_body}
use Rattle.lrspec.proofs.tables.MachineInvariant.{Holds}
use Rattle.lrspec.proofs.grammars.TreeFacts.{leaves_pushed, forest_split, forest_alone, forest_of_symbols}

-- what is left of symbols of bodies is made of such
symbols_behind : (g : Grammar) (d : ℕ) (b : List Symbol) → AreBodySymbols g b → AreBodySymbols g (drop d b)
symbols_behind g zero b k = k
symbols_behind g (suc d) [] k = k
symbols_behind g (suc d) (x ∷ b) k = symbols_behind g d b k.1

-- what stands behind a dot is made of symbols of bodies
pub rest_symbols : {g : Grammar} → IsGrammar g → (p d : ℕ) → AreBodySymbols g (rest g p d)
rest_symbols {g} m p d = symbols_behind g d (body_of g p) (m.symbols p)

-- a forest of no symbols has no tree
no_trees : {g : Grammar} {y : List Symbol} {ts : Forest} → IsForest g y ts → y ≡ [] → ts ≡ Bare
no_trees bare e = refl
no_trees (and t f) e = cc

-- what begins what begins a sentence begins a sentence
longer : {g : Grammar} (v w x : List ℕ) → v ≡ w ++ x → BeginsSentence g v → BeginsSentence g w
longer {g} v w x e (z, s) = (x ++ z, subst (λ l. IsSentence g l) (ap (λ l. l ++ z) e ∙ append_assoc w x z) s)

-- the leaves of each forest of the one list, and behind them those of each forest of the other, begin a sentence
abbrev Completes : Grammar → List Symbol → List Symbol → Type 0
Completes g v y = (ts us : Forest) → IsForest g v ts → IsForest g y us → BeginsSentence g (forest_leaves ts ++ forest_leaves us)

-- the start item after the empty list
by_start : {g : Grammar} (m : IsGrammar g) → Completes g [] (body_of g g.start_production)
by_start {g} m ts us f h =
    let none = no_trees f refl in
    let one = forest_alone (Rule m.start.0) h (start_body m) in
    let front : forest_leaves ts ≡ [] = ap forest_leaves none in
    let back : forest_leaves us ≡ leaves one.0 = ap forest_leaves one.2 ∙ append-nil (leaves one.0) in
    let all : leaves one.0 ≡ (forest_leaves ts ++ forest_leaves us) ++ [] =
    rw (append-nil (forest_leaves ts ++ forest_leaves us), front, back) refl in
    ([], record { rule = m.start.0; tree = one.0; start = start_body m; is_tree = one.1; leaves_are = all })

-- a production of the rule behind the dot, where the symbols behind the rule have a forest
by_expand :
    {g : Grammar} {v : List Symbol} (q r : ℕ) (y : List Symbol) (ys : Forest) → IsForest g y ys → IsProductionOf g q r
    → Completes g v (Rule r ∷ y) → Completes g v (body_of g q)
by_expand {g} q r y ys k i go ts us f h =
    longer (forest_leaves ts ++ (forest_leaves us ++ forest_leaves ys)) (forest_leaves ts ++ forest_leaves us) (forest_leaves ys)
    (sym (append_assoc (forest_leaves ts) (forest_leaves us) (forest_leaves ys))) (go ts (And (Node q us) ys) f (and (production i h) k))

-- a dot moved over a symbol
by_advance : {g : Grammar} (v : List Symbol) (x : Symbol) (y : List Symbol) → Completes g v (x ∷ y) → Completes g (v ++ x ∷ []) y
by_advance {g} v x y go ts us f h =
    let parts = forest_split v (x ∷ []) (v ++ x ∷ []) f refl in
    let one = forest_alone x parts.3 refl in
    let whole : ts ≡ joined parts.0 (And one.0 Bare) = parts.4 ∙ ap (joined parts.0) one.2 in
    let l : forest_leaves ts ≡ forest_leaves parts.0 ++ leaves one.0 = ap forest_leaves whole ∙ leaves_pushed parts.0 one.0 in
    rw (l, append_assoc (forest_leaves parts.0) (leaves one.0) (forest_leaves us)) (go parts.0 (And one.0 us) parts.2 (and one.1 h))

-- where every rule has a tree, each forest of the symbols after which an item stands can be completed
pub stands_completes : {g : Grammar} → IsGrammar g → HasTrees g → {v : List Symbol} {p d : ℕ} → Stands g v p d → Completes g v (rest g p d)
stands_completes m has item.Stands.begin = by_start m
stands_completes {g} m has (item.Stands.expand {p = p} {d = d} {r = r} {q = q} {y = y} s e i) =
    let ys = forest_of_symbols has y (subst (λ l. AreBodySymbols g l) e (rest_symbols m p d)).1 in
    by_expand q r y ys.0 ys.1 i (rw e at (stands_completes m has s))
stands_completes {g} m has (item.Stands.advance {w = w} {p = p} {d = d} {x = x} {y = y} s e) =
    rw (rest_next (body_of g p) d x y e) (by_advance w x y (rw e at (stands_completes m has s)))

-- where every rule has a tree, what was shifted is the beginning of a sentence
pub holds_begins :
    {g : Grammar} {h : Graph} {text : List ℕ} {n : ℕ} {ss left rs : List ℕ} {ts : Forest} → IsGrammar g → IsGraphOf g h
    → HasTrees g → Holds g h text n ss left rs ts → BeginsSentence g (forest_leaves ts)
holds_begins {g} {ss = ss} {ts = ts} m k has a =
    let c = k.hold.cores a.symbols (top ss) (stack_leads a.is_stack) in
    let stands = core_item_stands ((c.items c.some.0 c.some.1).0 c.some.2) in
    let ys = forest_of_symbols has (rest g c.some.0 c.some.1) (rest_symbols m c.some.0 c.some.1) in
    longer (forest_leaves ts ++ forest_leaves ys.0) (forest_leaves ts) (forest_leaves ys.0) refl
    (stands_completes m has stands ts ys.0 a.roots ys.1)

-- the states of a graph hold what stands after the lists that lead to them
use Rattle.std.proofs.Common.{◌≡◌, ℕ, ◌<◌, List, [], ◌∷◌, ◌++◌, length, Option, None, Some, refl, ◌↔◌}
use Rattle.std.specs.Option.{IsSome}
use Rattle.lrspec.specs.grammars.Grammar.{Symbol, Grammar, IsGrammar}
use Rattle.lrspec.specs.grammars.CanonicalItems as item
use Rattle.lrspec.specs.grammars.CanonicalItems.{Stands, Looks}
use Rattle.lrspec.specs.grammars.ItemSets.{HasItem, LooksIn, Fits, IsClosure}
use Rattle.lrspec.specs.grammars.StartState.{IsStartCore}
use Rattle.lrspec.specs.merging.Cores.{IsCoreItem, HasCoreAfter, IsRooted}
use Rattle.lrspec.specs.merging.Graph as graph
use Rattle.lrspec.specs.merging.Graph.{Graph, core_of, closed_of, edge, Leads, AreClosures, ContainGotos, AreReached, HoldWhatStands, IsGraphOf}
use Rattle.lrspec.proofs.grammars.Closures.{moved_mono}
use Rattle.lrspec.proofs.grammars.CanonicalClosures.{closed_of_looks, core_closes, start_core, start_core_looks, goto_core, moved_of_looks}
use Rattle.lrspec.proofs.merging.RootedCores.{rooted_sisters}

-- an edge that is there leads to a state
pub value_of_some : (o : Option ℕ) → IsSome o → (u : ℕ) × (o ≡ Some u)
value_of_some None h = absurd cc
value_of_some (Some u) h = (u, refl)

-- an edge that leads to a state is there
some_of_value : (o : Option ℕ) (u : ℕ) → o ≡ Some u → IsSome o
some_of_value o u e = rw e refl

-- a state to which a list leads is one of the graph, has the core after the list, and looks at least where it looks
record Holds (g : Grammar) (h : Graph) (w : List Symbol) (s : ℕ) : Type 0 where
  below : s < length h
  core : HasCoreAfter g w (core_of h s)
  looks : (p d t : ℕ) → IsCoreItem g w p d → Looks g w p d t → LooksIn (core_of h s) p d t

-- its closed state has exactly what stands after the list
held_items : {g : Grammar} {h : Graph} {w : List Symbol} {s : ℕ} → AreClosures g h → Holds g h w s → (p d : ℕ) → HasItem (closed_of h s) p d ↔ Stands g w p d
held_items {s = s} m k p d = core_closes k.core (m.closures s k.below) p d

-- and looks at least where that looks
held_looks : {g : Grammar} {h : Graph} {w : List Symbol} {s : ℕ} → AreClosures g h → Holds g h w s → (p d t : ℕ) → Looks g w p d t → LooksIn (closed_of h s) p d t
held_looks {s = s} m k p d t l = ((m.closures s k.below).looks p d t).1 (closed_of_looks (λ q e i. (k.core.items q e).1 i) k.looks l)

-- every list that leads to a state is one that it holds
held : {g : Grammar} {h : Graph} → IsGrammar g → AreClosures g h → ContainGotos g h → {w : List Symbol} {s : ℕ} → Leads h w s → Holds g h w s
held {g} {h} n m k graph.Leads.start = record {
  below = m.some;
  core = start_core m.start;
  looks = λ p d t i l. (start_core_looks (core_of h 0) n m.start p d t (((start_core m.start).items p d).1 i)).1 l;
}
held {g} {h} n m k (graph.Leads.follow {w = w} {s = s} {u = u} x l e) = follow w s u x e (held n m k l)
  where
    follow : (w : List Symbol) (s u : ℕ) (x : Symbol) → edge h s x ≡ Some u → Holds g h w s → Holds g h (w ++ x ∷ []) u
    follow w s u x e b =
        let goto = k.gotos s u x e in
        let before = (k.edges s x).0 (some_of_value (edge h s x) u e) in
        record {
          below = goto.below;
          core = goto_core (core_of h u) (closed_of h s) n (held_items m b) goto.items before;
          looks = λ p d t i l. goto.looks p d t (moved_mono (λ q e. held_looks m b q e t) (moved_of_looks n w x i l refl));
        }

-- a list leads only to states of the graph
pub leads_below :
    {g : Grammar} {h : Graph} → IsGrammar g → AreClosures g h → ContainGotos g h → {w : List Symbol} {s : ℕ} → Leads h w s → s < length h
leads_below n m k l = (held n m k l).below

-- a list after which an item stands leads to a state
leads_of_stands :
    {g : Grammar} {h : Graph} → IsGrammar g → AreClosures g h → ContainGotos g h → {w : List Symbol} {p d : ℕ} → Stands g w p d
    → (s : ℕ) × Leads h w s
leads_of_stands n m k item.Stands.begin = (0, graph.Leads.start)
leads_of_stands n m k (item.Stands.expand s e i) = leads_of_stands n m k s
leads_of_stands {g} {h} n m k (item.Stands.advance {w = w} {p = p} {d = d} {x = x} {y = y} s e) = step (leads_of_stands n m k s)
  where
    step : (v : ℕ) × Leads h w v → (u : ℕ) × Leads h (w ++ x ∷ []) u
    step l =
        let has = (held_items m (held n m k l.1) p d).1 s in
        let to = value_of_some (edge h l.0 x) ((k.edges l.0 x).1 (p, d, has, (y, e))) in
        (to.0, graph.Leads.follow x l.1 to.1)

-- every core is rooted
abbrev pub AreRooted : Grammar → Graph → Type 0
AreRooted g h = (s : ℕ) → s < length h → IsRooted g (core_of h s)

-- where closed states are closures, edges contain gotos and cores are rooted, states hold what stands
pub hold_what_stands : {g : Grammar} {h : Graph} → IsGrammar g → AreClosures g h → ContainGotos g h → AreRooted g h → HoldWhatStands g h
hold_what_stands n m k r = record {
  cores = λ w s l. (held n m k l).core;
  closed = λ w s p d l. held_items m (held n m k l) p d;
  looks = λ w s p d t l i. held_looks m (held n m k l) p d t i;
  leads = λ w p d s. leads_of_stands n m k s;
  rooted = r;
}

-- and where every state is reached, the graph is the grammar's
pub graph_of : {g : Grammar} {h : Graph} → IsGrammar g → AreClosures g h → ContainGotos g h → AreReached h → AreRooted g h → IsGraphOf g h
graph_of n m k reached r = record { closures = m; gotos = k; reached = reached; hold = hold_what_stands n m k r }

-- closed states are the closures of their cores, every item set fits the grammar, and the start state has the start
-- item, looking at the end token: of sisters nothing is said
pub record CloseCores (g : Grammar) (h : Graph) : Type 0 where
  pub fit_cores : (s : ℕ) → s < length h → Fits g (core_of h s)
  pub fit_closed : (s : ℕ) → s < length h → Fits g (closed_of h s)
  pub closures : (s : ℕ) → s < length h → IsClosure g (core_of h s) (closed_of h s)
  pub some : 0 < length h
  pub start : IsStartCore g (core_of h 0)

-- where cores are rooted, their sisters look at the same tokens
pub closures_of_rooted : {g : Grammar} {h : Graph} → IsGrammar g → CloseCores g h → AreRooted g h → AreClosures g h
closures_of_rooted n m r = record {
  fit_cores = m.fit_cores;
  fit_closed = m.fit_closed;
  closures = m.closures;
  sisters = λ s p q d b t l i j k look. rooted_sisters n (r s l).1 p q d b t i j k look;
  some = m.some;
  start = m.start;
}

-- so a graph with rooted cores is the grammar's, whatever is known of sisters
pub graph_of_rooted :
    {g : Grammar} {h : Graph} → IsGrammar g → CloseCores g h → ContainGotos g h → AreReached h → AreRooted g h → IsGraphOf g h
graph_of_rooted n m k reached r = graph_of n (closures_of_rooted n m r) k reached r

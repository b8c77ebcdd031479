-- stacks of the machine, and where their symbols lead
use Rattle.std.proofs.Common.{◌≡◌, ℕ, suc, ◌+◌, ◌<◌, ◌≤◌, ⊎_elim, List, [], ◌∷◌, ◌++◌, length, drop, refl, sym, ap, ◌∙◌, append_assoc, append-nil, length-append, drop-drop, subst, add-one, arith, Option, None, Some, Bool, true, false}
use Rattle.std.specs.Prelude.{slice_get, slice_index_or, IsTrue}
use Rattle.std.proofs.lemmas.Bool.{cases_lt}
use Rattle.std.proofs.lemmas.List.{get_or_past}
use Rattle.std.specs.Option.{IsSome, IsSomeAnd}
use Rattle.lrspec.specs.grammars.Grammar.{Symbol, Rule, Production, Grammar, IsGrammar, IsOfRule, IsProductionOf, body_or_none, body_of, end_token, token_count, rule_of, rule_or_zero}
use Rattle.lrspec.specs.grammars.CanonicalItems.{Stands}
use Rattle.lrspec.specs.grammars.ItemSets.{Items, item_at, LooksIn, Fits, IsBefore, ClosedLook}
use Rattle.lrspec.specs.grammars.ItemSets as closed
use Rattle.lrspec.specs.merging.Graph as graph
use Rattle.lrspec.specs.merging.Graph.{Graph, Leads, edge, closed_of, core_of, IsGraphOf}
use Rattle.lrspec.specs.tables.Table.{Table, IsTableOf, goto_of}
use Rattle.lrspec.specs.tables.Machine.{top}
use Rattle.lrspec.proofs.grammars.BodyFacts.{push_same, push_not_empty}
use Rattle.lrspec.proofs.grammars.CanonicalItemFacts.{start_looks_end}
use Rattle.lrspec.proofs.grammars.Closures.{has_of_looks}
use Rattle.lrspec.proofs.merging.StatesHoldWhatStands.{leads_below}

-- a stack, its top first, over the start state, with the symbols of the edges between its states
pub data IsStack (h : Graph) : List Symbol → List ℕ → Type 0 where
  bottom : IsStack h [] (0 ∷ [])
  push : {w : List Symbol} {ss : List ℕ} {u : ℕ} (x : Symbol) → IsStack h w ss → edge h (top ss) x ≡ Some u → IsStack h (w ++ x ∷ []) (u ∷ ss)

-- its top is where its symbols lead
pub stack_leads : {h : Graph} {w : List Symbol} {ss : List ℕ} → IsStack h w ss → Leads h w (top ss)
stack_leads bottom = graph.Leads.start
stack_leads (push x k e) = graph.Leads.follow x (stack_leads k) e

-- it has one state more than symbols
pub stack_length : {h : Graph} {w : List Symbol} {ss : List ℕ} → IsStack h w ss → length ss ≡ length w + 1
stack_length bottom = refl
stack_length (push {w = w} x k e) = let n = stack_length k in omega (arith, n, length-append w (x ∷ []))

-- a stack without its top is one of the symbols but the last
drop_one : {h : Graph} {v : List Symbol} {ss : List ℕ} (w : List Symbol) (x : Symbol) → IsStack h v ss → v ≡ w ++ x ∷ [] → IsStack h w (drop 1 ss)
drop_one w x bottom e = absurd (push_not_empty w x (sym e))
drop_one w x (push {w = v} y k e) i = rw (← (push_same v w y x i).0) k

-- without its last states it is a stack of the first symbols
pub stack_drop : {h : Graph} (w y : List Symbol) {ss : List ℕ} → IsStack h (w ++ y) ss → IsStack h w (drop (length y) ss)
stack_drop w [] k = rw append-nil at k
stack_drop {h} w (x ∷ y) {ss} k =
    let rest = stack_drop (w ++ x ∷ []) y (rw (append_assoc w (x ∷ []) y) k) in
    let one : drop (suc (length y)) ss ≡ drop 1 (drop (length y) ss) =
    ap (λ n. drop n ss) (sym (add-one (length y))) ∙ sym (drop-drop 1 (length y) ss) in
    subst (λ l. IsStack h w l) (sym one) (drop_one w x rest refl)

-- an edge that is there leads to a state
some_value : (o : Option ℕ) → IsSome o → (u : ℕ) × (o ≡ Some u)
some_value None k = cc
some_value (Some u) k = (u, refl)

-- its top is a state of the graph
pub stack_below : {g : Grammar} {h : Graph} {w : List Symbol} {ss : List ℕ} → IsGrammar g → IsGraphOf g h → IsStack h w ss → top ss < length h
stack_below m k st = leads_below m k.closures k.gotos (stack_leads st)

-- and has an edge on each symbol before which an item stands after the symbols
pub stack_edge :
    {g : Grammar} {h : Graph} {w : List Symbol} {ss : List ℕ} {p d : ℕ} (x : Symbol) → IsGraphOf g h → IsStack h w ss → Stands g w p d
    → IsBefore g p d x → (u : ℕ) × (edge h (top ss) x ≡ Some u)
stack_edge {h = h} {w} {ss} {p} {d} x k st s b =
    some_value (edge h (top ss) x) ((k.gotos.edges (top ss) x).1 (p, d, (k.hold.closed w (top ss) p d (stack_leads st)).1 s, b))

-- a production of a rule has that rule
rule_by : (o : Option Production) (r : ℕ) → IsOfRule o r → rule_or_zero o ≡ r
rule_by None r k = absurd k
rule_by (Some p) r k = k

-- the goto of the table on the rule of a production is the edge on that rule
pub goto_is :
    {g : Grammar} {h : Graph} {b : Table} → IsGrammar g → IsTableOf g h b → (s p r : ℕ) → s < length h → IsProductionOf g p r
    → goto_of b s (rule_of g p) ≡ edge h s (Rule r)
goto_is {g} {h} {b} m k s p r l i =
    let e : rule_of g p ≡ r = rule_by (slice_get g.productions p) r i in
    rw e (k.gotos s r l (m.rules p r i))

-- behind the last bit none is set
bit_past : (v : List Bool) (t : ℕ) → length v ≤ t → slice_index_or v t false ≡ true → ⊥
bit_past v t l k = let e : slice_index_or v t false ≡ false = get_or_past v t false l in cc

-- a bit that is set is one of the list
token_by_bits : (v : List Bool) (t n : ℕ) → length v ≡ n → slice_index_or v t false ≡ true → t < n
token_by_bits v t n e k =
    ⊎_elim (λ (l : t < length v). rw (← e) l) (λ (l : length v ≤ t). absurd (bit_past v t l k)) (cases_lt t (length v))

-- so an item looks at a token only where its bits have a place for it
fits_by :
    {g : Grammar} (a : Items) (p d t : ℕ) (o : Option (List Bool)) → Fits g a → item_at a p d ≡ o
    → IsSomeAnd o (λ v. IsTrue (slice_index_or v t false)) → (p < length g.productions) × (t < token_count g)
fits_by a p d t None f e k = absurd k
fits_by {g} a p d t (Some v) f e k = ((f p d v e).production, token_by_bits v t (token_count g) (f p d v e).bits k)

-- what an item set that fits looks at is a token, by an item of a production
pub look_fits : {g : Grammar} (a : Items) (p d t : ℕ) → Fits g a → LooksIn a p d t → (p < length g.productions) × (t < token_count g)
look_fits a p d t f k = fits_by a p d t (item_at a p d) f refl k

-- a closed item with its dot above 0 looks where the core does
look_moved :
    {g : Grammar} {Core : ℕ → ℕ → Type 0} {Look : ℕ → ℕ → ℕ → Type 0} {p d t : ℕ} (e : ℕ) → ClosedLook g Core Look p d t → d ≡ suc e
    → Look p d t
look_moved e (closed.ClosedLook.core k) i = k
look_moved e (closed.ClosedLook.begins c f h b) i = cc
look_moved e (closed.ClosedLook.inherit c f h n) i = cc

-- the body of the start production is the start rule alone
pub start_body : {g : Grammar} (m : IsGrammar g) → body_of g g.start_production ≡ Rule m.start.0 ∷ []
start_body m = ap body_or_none m.start.1

-- the complete start production looks at the end token alone
pub accepts_at_end :
    {g : Grammar} {h : Graph} → IsGrammar g → IsGraphOf g h → (s t : ℕ) → s < length h
    → LooksIn (closed_of h s) g.start_production (length (body_of g g.start_production)) t → t ≡ end_token g
accepts_at_end {g} {h} m k s t l i =
    let one : length (body_of g g.start_production) ≡ suc 0 = ap length (start_body m) in
    let core = look_moved 0 (((k.closures.closures s l).looks g.start_production (length (body_of g g.start_production)) t).0 i) one in
    let root = k.hold.rooted s l in
    let looks = (root.1.looks g.start_production (length (body_of g g.start_production)) t (has_of_looks (core_of h s) _ _ t core)).0 core in
    start_looks_end m (length (body_of g g.start_production)) looks.2

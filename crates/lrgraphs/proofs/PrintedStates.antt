-- states as they are printed: their edges, and one state after another
use Rattle.std.proofs.Common.{Ordering, Less, ◌≡◌, ℕ, ◌+◌, ◌<◌, List, [], ◌∷◌, ◌++◌, length, map, get_or, take, append_assoc, Some, refl, sym, ap, ◌∙◌, Result, Ok, Err}
use Rattle.std.specs.Prelude.{◌==◌, ◌-◌, Bool, true, false, if◌then◌else◌, OnOk, codes}
use Rattle.std.specs.List.{All, filter, flat_map, join_by, range_with_len}
use Rattle.std.specs.List.Sorted.{IsStrictlySortedBy}
use Rattle.std.specs.Map.{keys_of}
use Rattle.std.specs.Option.{IsSome}
use Rattle.std.specs.Ordering.{nat_cmp}
use Rattle.std.specs.declared.cmp.Ordering.TheVariants.{Greater}
use Rattle.std.proofs.lemmas.List.{flat_map_more, get_or-map, length-map, map-append, take_more}
use Rattle.std.proofs.lemmas.List.Elements.{All-append, All-filter, All-nil}
use Rattle.lrgrammar.specs.declared.idx.RIdx.{RIdx}
use Rattle.lrgrammar.specs.declared.idx.TIdx.{TIdx}
use Rattle.lrgrammar.specs.declared.idx.Symbol as stored
use Rattle.lrgrammar.specs.declared.idx.Symbol.TheVariants as kind
use Rattle.lrgrammar.specs.Symbols.{symbol_of}
use Rattle.lrspec.specs.grammars.Grammar.{Symbol, Grammar, IsGrammar, IsBodySymbol}
use Rattle.lrspec.specs.grammars.ItemSets.{Fits, Items}
use Rattle.lrspec.specs.merging.Graph.{Graph, IsGraphOf, core_of, closed_of, edge_at, edge, edges_of}
use Rattle.lrspec.specs.texts.PrintedTexts.{edge_text, edges_by_target, item_text, label, line_break, state_text}
use Rattle.lrspec.proofs.grammars.BodyFacts.{symbol_at_dot}
use Rattle.lrgrammar.proofs.Ranges.{range_first}
use Rattle.lritems.specs.ItemsOf.{set_of}
use Rattle.lritems.specs.declared.itemset.Itemset.{Itemset}
use Rattle.lritems.proofs.JoinedTexts.{left_to_join, joined_turn}
use Rattle.lrgraphs.specs.GraphOf as code
use Rattle.lrgrammar.specs.declared.idx.StIdx.{StIdx}
use Rattle.lrgraphs.specs.declared.stategraph.State.{State}
use Rattle.lrgraphs.proofs.DistinctSymbols.{edge_at_place, distinct_entries}
use Rattle.lrgraphs.proofs.EdgeFacts.{by_kinds}
use Rattle.lrgraphs.proofs.GraphFacts.{core_read, closed_read, edges_read}

-- ---- edges one after another

-- what is printed of the elements before a place, and of the one there
pub pieces_more :
    {X Y A : Type 0} (f : Y → List A) (g : X → Y) (old text new : List A) (xs : List X) (i : ℕ) (x : X) → i < length xs → x ≡ get_or xs i x
    → text ≡ old ++ flat_map f (map g (take i xs)) → new ≡ text ++ f (g x) → new ≡ old ++ flat_map f (map g (take (i + 1) xs))
pieces_more f g old text new xs i x l e t n =
    let more : take (i + 1) xs ≡ take i xs ++ x ∷ [] = take_more xs i x l ∙ ap (λ y. take i xs ++ y ∷ []) (sym e) in
    rw (n, t, more, map-append g (take i xs) (x ∷ [])) (flat_map_more f old (map g (take i xs)) (g x))

-- what holds of each of the edges of a map holds of the entry at a place
pub holds_at_entry :
    {T X : Type 0} (number : T → ℕ) (state : X → ℕ) (P : Symbol × ℕ → Type 0) (es : List (stored.Symbol T × X)) (i : ℕ) (e : stored.Symbol T × X)
    → All P (code.edges_of number state es) → i < length es → e ≡ get_or es i e → P (symbol_of number e.0, state e.1)
holds_at_entry number state P es i e h l at =
    let shown : Symbol × ℕ = (symbol_of number e.0, state e.1) in
    let here : P (get_or (code.edges_of number state es) i shown) = h i shown (rw length-map l) in
    let there : get_or (code.edges_of number state es) i shown ≡ shown =
    get_or-map (λ f. (symbol_of number f.0, state f.1)) es i e shown l ∙ ap (λ f. (symbol_of number f.0, state f.1)) (sym at) in
    rw there at here

-- ---- what edges lead to, and what they are on

-- each of the edges is the one that is found on its symbol
abbrev pub AreFound : List (Symbol × ℕ) → Type 0
AreFound es = All (λ e. edge_at es e.0 ≡ Some e.1) es

-- so is each entry of a map
pub entries_found :
    {T X : Type 0} (number : T → ℕ) (state : X → ℕ) (cmp : stored.Symbol T → stored.Symbol T → Ordering) (es : List (stored.Symbol T × X))
    → IsStrictlySortedBy cmp (keys_of es)
    → ((r s : RIdx T) → cmp (kind.Rule r) (kind.Rule s) ≡ nat_cmp (number r.0) (number s.0))
    → ((r : RIdx T) (t : TIdx T) → cmp (kind.Rule r) (kind.Token t) ≡ Less) → ((t : TIdx T) (r : RIdx T) → cmp (kind.Token t) (kind.Rule r) ≡ Greater)
    → ((t u : TIdx T) → cmp (kind.Token t) (kind.Token u) ≡ nat_cmp (number t.0) (number u.0))
    → AreFound (code.edges_of number state es)
entries_found number state cmp es sorted rr rt tr tt =
    edge_at_place (code.edges_of number state es) (distinct_entries number state cmp (by_kinds number cmp rr rt tr tt) es sorted)

module _ (g : Grammar) (h : Graph) (graph : IsGraphOf g h) (s : ℕ) where
  -- such edges of a state lead to states
  pub targets_below : AreFound (edges_of h s) → All (λ e. e.1 < length h) (edges_of h s)
  targets_below found k d l = (graph.gotos.gotos s (get_or (edges_of h s) k d).1 (get_or (edges_of h s) k d).0 (found k d l)).below

  -- and are on symbols that may stand in a body
  pub on_body_symbols : IsGrammar g → AreFound (edges_of h s) → All (λ e. IsBodySymbol g e.0) (edges_of h s)
  on_body_symbols shape found k d l =
      let x = (get_or (edges_of h s) k d).0 in
      let some : IsSome (edge h s x) = rw (found k d l) refl in
      let (p, e, has, before) = (graph.gotos.edges s x).0 some in
      symbol_at_dot shape p e x before

-- ---- edges by target

-- what holds of each edge holds of each edge by target
pub by_target_keeps : (P : Symbol × ℕ → Type 0) (n : ℕ) (es : List (Symbol × ℕ)) → All P es → All P (edges_by_target n es)
by_target_keeps P n es h = go (range_with_len 0 n)
  where
    go : (us : List ℕ) → All P (flat_map (λ u. filter (λ e. e.1 == u) es) us)
    go [] = All-nil P
    go (u ∷ us) = All-append P (filter (λ e. e.1 == u) es) (flat_map (λ v. filter (λ e. e.1 == v) es) us) (All-filter (λ e. e.1 == u) P es h) (go us)

-- the sorted edges of a state that was read: they are its edges by target, and on symbols that may stand in a body
module _
    {T : Type 0} (number : T → ℕ) (g : Grammar) (h : Graph) (ss : List (State T)) (s : ℕ) (state : State T) (es ds : List (stored.Symbol T × StIdx T))
    (graph : IsGraphOf g h) (is : code.graph_of number ss ≡ h) (l : s < length h) (at : state ≡ get_or ss s state)
    (found : AreFound (code.edges_of number (λ u. number u.0) state.edges.entries))
    (sort :
    (n : ℕ) → All (λ e. e.1 < n) (code.edges_of number (λ u. number u.0) state.edges.entries)
    → code.edges_of number (λ u. number u.0) es ≡ edges_by_target n (code.edges_of number (λ u. number u.0) state.edges.entries))
    (copied : ds ≡ es)
  where
    of_state : edges_of h s ≡ code.edges_of number (λ u. number u.0) state.edges.entries
    of_state = sym (edges_read number h ss s state is l at)

    pub sorted_by_target : code.edges_of number (λ u. number u.0) ds ≡ edges_by_target (length h) (edges_of h s)
    sorted_by_target =
        let below : All (λ e. e.1 < length h) (edges_of h s) = targets_below g h graph s (rw of_state found) in
        rw (copied, of_state) (sort (length h) (rw of_state at below))

    pub sorted_on_body_symbols : IsGrammar g → All (λ e. IsBodySymbol g e.0) (code.edges_of number (λ u. number u.0) ds)
    sorted_on_body_symbols shape =
        rw sorted_by_target (by_target_keeps (λ e. IsBodySymbol g e.0) (length h) (edges_of h s) (on_body_symbols g h graph s shape (rw of_state found)))

-- ---- a state

-- the pieces of a state one after another, where memory may be refused for the last
pub state_pieces :
    {X E : Type 0} (g : Grammar) (w s : ℕ) (a : Items) (es ds : List (Symbol × ℕ)) (r : Result X E) (old labelled listed new parting : List ℕ)
    → labelled ≡ old ++ label w s → listed ≡ labelled ++ join_by (item_text g) parting a → parting ≡ line_break w → ds ≡ es
    → OnOk r (new ≡ listed ++ flat_map (λ e. parting ++ edge_text g e) ds) → OnOk r (new ≡ old ++ state_text g w s a es)
state_pieces g w s a es ds (Ok x) old labelled listed new parting first items p same edges =
    rw (edges, items, first, p, same) (simp append_assoc)
state_pieces g w s a es ds (Err x) old labelled listed new parting first items p same edges = tt

-- ---- a graph

-- the items that are shown of a state: those of its core, or else of its closed state
abbrev pub shown_items : Bool → Graph → ℕ → Items
shown_items core h = if core then core_of h else closed_of h

-- what is shown of a state that was read
pub shown_read :
    {T : Type 0} (number : T → ℕ) (core : Bool) (h : Graph) (ss : List (State T)) (s : ℕ) (state : State T) (items : Itemset T)
    → code.graph_of number ss ≡ h → s < length h → state ≡ get_or ss s state → items ≡ (if core then state.core else state.closed)
    → set_of number items ≡ shown_items core h s
shown_read number true h ss s state items is l at e = ap (set_of number) e ∙ core_read number h ss s state is l at
shown_read number false h ss s state items is l at e = ap (set_of number) e ∙ closed_read number h ss s state is l at

-- the text of the state `s` with its number in `w` places
abbrev pub shown_state : Grammar → Bool → Graph → ℕ → ℕ → List ℕ
shown_state g core h w s = state_text g w s (shown_items core h s) (edges_by_target (length h) (edges_of h s))

-- the items that are shown fit the grammar
pub shown_fits : (g : Grammar) (core : Bool) (h : Graph) (s : ℕ) → IsGraphOf g h → s < length h → Fits g (shown_items core h s)
shown_fits g true h s graph l = graph.closures.fit_cores s l
shown_fits g false h s graph l = graph.closures.fit_closed s l

-- one state more is printed
pub state_turn :
    (g : Grammar) (core : Bool) (h : Graph) (w s : ℕ) (a : Items) (between old new whole : List ℕ) → s < length h → a ≡ shown_items core h s
    → old ++ left_to_join (shown_state g core h w) (codes "\n") between (range_with_len s (length h - s)) ≡ whole
    → new ≡ (old ++ between) ++ state_text g w s a (edges_by_target (length h) (edges_of h s))
    → new ++ left_to_join (shown_state g core h w) (codes "\n") (codes "\n") (range_with_len (s + 1) (length h - (s + 1))) ≡ whole
state_turn g core h w s a between old new whole l e turn add =
    joined_turn (shown_state g core h w) (codes "\n") between old new whole s (range_with_len (s + 1) (length h - (s + 1)))
    (rw (range_first s (length h) l) at turn) (rw e at add)

-- lists that grow one after another, and states that are collected so
use Rattle.std.proofs.Common.{◌≡◌, ◌≢◌, ℕ, zero, suc, Bool, true, false, ◌+◌, ◌<◌, ◌≤◌, List, [], ◌∷◌, ◌++◌, length, map, get_or, set, replicate, drop, Some, refl, sym, subst, ap, ◌∙◌, ◌⊎◌, inl, inr, ⊎_elim, arith}
use Rattle.std.specs.Prelude.{IsTrue, Contains, ◌↔◌}
use Rattle.std.specs.List.Sorted.{IsPermutation}
use Rattle.std.specs.declared.vec.Vec.{Vec}
use Rattle.std.specs.declared.alloc.Global.{Global}
use Rattle.std.proofs.lemmas.Bool.{cases_eq}
use Rattle.std.proofs.lemmas.List.{get_or_default, get_or-set_other, map-append}
use Rattle.std.proofs.lemmas.List.Elements.{Contains-append_left, Contains-push}
use Rattle.std.proofs.lemmas.List.Sorted.{IsPermutation-map, Contains-permutation}
use Rattle.lrspec.specs.grammars.Grammar as math
use Rattle.lrspec.specs.grammars.ItemSets.{HasItem}
use Rattle.lrspec.specs.merging.Graph.{Graph, closed_of, edge}
use Rattle.lrspec.proofs.grammars.ListMembers.{among_from_contains, contains_from_among}
use Rattle.lrbits.specs.Bits.{bit}
use Rattle.lrgrammar.specs.declared.idx.StIdx.{StIdx}
use Rattle.lrgrammar.specs.declared.idx.Symbol.{Symbol}
use Rattle.lrgrammar.specs.declared.idx.Symbol.TheVariants as code
use Rattle.lrgrammar.specs.Symbols.{symbol_of, number_of}
use Rattle.lrclosing.proofs.SymbolsBehindDots.{left_at, left_none}
use Rattle.lrsearches.specs.StoredWays.{row_of, IsRowOf, AreIncoming}
use Rattle.lrdecided.specs.StoredNodes.{states_of}
use Rattle.lrdecided.specs.StoredStates.{AreSeen, IsMarked, KeepsStates, HasSources}

-- an element of a list is the first, or behind it
pub first_or_behind : {X : Type 0} (y : X) (ys : List X) (x : X) → Contains (y ∷ ys) x → (x ≡ y) ⊎ Contains ys x
first_or_behind y ys x h = elim (among_from_contains x (y ∷ ys) h) [
  | inl e ↦ inl e
  | inr k ↦ inr (contains_from_among x ys k)
]

pub none_contained : {X : Type 0} (x : X) → Contains [] x → ⊥
none_contained x (k, l, e) = absurd (omega (arith, l))

-- a list with one more
module _ {X Y : Type 0} (f : X → Y) (old new : List X) (x : X) (pushed : new ≡ old ++ x ∷ []) where
  one_more : map f new ≡ map f old ++ f x ∷ []
  one_more = ap (map f) pushed ∙ map-append f old (x ∷ [])

  pub kept : (a : Y) → Contains (map f old) a → Contains (map f new) a
  kept a h = rw one_more (Contains-append_left (map f old) (f x ∷ []) a h)

  pub added : (a : Y) → f x ≡ a → Contains (map f new) a
  added a e = rw (one_more, e) (Contains-push (map f old) a)

-- states with one more
pub push_keeps : (old new : List (StIdx ℕ)) (x : StIdx ℕ) → new ≡ old ++ x ∷ [] → KeepsStates (states_of old) (states_of new)
push_keeps old new x e = kept (λ (s : StIdx ℕ). s.0) old new x e

pub push_has : (old new : List (StIdx ℕ)) (x : StIdx ℕ) → new ≡ old ++ x ∷ [] → Contains (states_of new) x.0
push_has old new x e = added (λ (s : StIdx ℕ). s.0) old new x e x.0 refl

-- the same states in another order
pub sorted_has : (old new : List (StIdx ℕ)) → IsPermutation old new → KeepsStates (states_of old) (states_of new)
sorted_has old new p s h = Contains-permutation (states_of old) (states_of new) s (IsPermutation-map (λ (x : StIdx ℕ). x.0) old new p) h

-- one more that was seen
pub seen_more : (seen : List Bool) (n : ℕ) (old new : List ℕ) → n < length seen → AreSeen seen old → KeepsStates old new → Contains new n → AreSeen (set seen n true) new
seen_more seen n old new l k keeps here s b = ⊎_elim
    (λ (e : s ≡ n). rw e here)
    (λ (d : s ≡ n → ⊥). keeps s (k s (sym (get_or-set_other seen n s true false d) ∙ b)))
    (cases_eq s n)

-- where a bit is set already, nothing changes
pub seen_same : (seen : List Bool) (n : ℕ) (states : List ℕ) → bit seen n ≡ true → AreSeen seen states → AreSeen (set seen n true) states
seen_same seen n states e k s b = ⊎_elim
    (λ (i : s ≡ n). k s (rw i e))
    (λ (d : s ≡ n → ⊥). k s (sym (get_or-set_other seen n s true false d) ∙ b))
    (cases_eq s n)

-- a turn for each edge of a row: the states from which those that are not left lead are listed
pub record AreAdding (row left : List (math.Symbol × ℕ)) (states : List ℕ) : Type 0 where
  pub sources : (x : math.Symbol) (s : ℕ) → Contains row (x, s) → Contains left (x, s) ⊎ Contains states s

pub begin_sources : (row : List (math.Symbol × ℕ)) (states : List ℕ) → AreAdding row row states
begin_sources row states = record { sources = λ x s h. inl h }

pub next_sources :
    (row left : List (math.Symbol × ℕ)) (v : math.Symbol) (r : ℕ) (old new : List ℕ) → AreAdding row ((v, r) ∷ left) old → KeepsStates old new → Contains new r
    → AreAdding row left new
next_sources row left v r old new k keeps here = record {
  sources = λ x s h. elim (k.sources x s h) [
    | inl i ↦ elim (first_or_behind (v, r) left (x, s) i) [
      | inl e ↦ let same : s ≡ r = ap (λ (p : math.Symbol × ℕ). p.1) e in inr (rw same here)
      | inr j ↦ inl j
    ]
    | inr i ↦ inr (keeps s i)
  ];
}

pub end_sources : (row left : List (math.Symbol × ℕ)) (states : List ℕ) → left ≡ [] → AreAdding row left states → HasSources row states
end_sources row left states e k x s h = elim (k.sources x s h) [ inl i ↦ absurd (none_contained (x, s) (rw e at i)) | inr i ↦ i ]

-- a turn for each state: from those that are not left each state before is listed
pub record HasBeforeSo (h : Graph) (states left before : List ℕ) : Type 0 where
  pub all : (s u : ℕ) (x : math.Symbol) → Contains states u → edge h s x ≡ Some u → Contains left u ⊎ Contains before s

pub begin_before : (h : Graph) (states before : List ℕ) → HasBeforeSo h states states before
begin_before h states before = record { all = λ s u x k e. inl k }

pub next_before :
    (h : Graph) (states left : List ℕ) (n : ℕ) (old new : List ℕ) → HasBeforeSo h states (n ∷ left) old → KeepsStates old new
    → ((s : ℕ) (x : math.Symbol) → edge h s x ≡ Some n → Contains new s) → HasBeforeSo h states left new
next_before h states left n old new k keeps here = record {
  all = λ s u x i e. elim (k.all s u x i e) [
    | inl j ↦ elim (first_or_behind n left u j) [
      | inl same ↦ inr (here s x (rw same at e))
      | inr l ↦ inl l
    ]
    | inr j ↦ inr (keeps s j)
  ];
}

pub end_before :
    (h : Graph) (states left before : List ℕ) → left ≡ [] → HasBeforeSo h states left before
    → (s u : ℕ) (x : math.Symbol) → Contains states u → edge h s x ≡ Some u → Contains before s
end_before h states left before e k s u x i f = elim (k.all s u x i f) [ inl j ↦ absurd (none_contained u (rw e at j)) | inr j ↦ j ]

-- the sources of the row of a state are the states before it
pub of_row :
    (h : Graph) (u : ℕ) (row : List (math.Symbol × ℕ)) (before : List ℕ) → IsRowOf h u row → HasSources row before
    → (s : ℕ) (x : math.Symbol) → edge h s x ≡ Some u → Contains before s
of_row h u row before is has s x e = has x s ((is x s).1 e)

-- a turn for each state: of those that are not left the ones with the item are kept
pub record HasKept (h : Graph) (p d : ℕ) (states left kept : List ℕ) : Type 0 where
  pub all : (s : ℕ) → Contains states s → HasItem (closed_of h s) p d → Contains left s ⊎ Contains kept s

pub begin_kept : (h : Graph) (p d : ℕ) (states kept : List ℕ) → HasKept h p d states states kept
begin_kept h p d states kept = record { all = λ s k i. inl k }

pub next_kept :
    (h : Graph) (p d : ℕ) (states left : List ℕ) (n : ℕ) (old new : List ℕ) → HasKept h p d states (n ∷ left) old → KeepsStates old new
    → (HasItem (closed_of h n) p d → Contains new n) → HasKept h p d states left new
next_kept h p d states left n old new k keeps here = record {
  all = λ s i has. elim (k.all s i has) [
    | inl j ↦ elim (first_or_behind n left s j) [
      | inl same ↦ inr (rw same (here (rw same at has)))
      | inr l ↦ inl l
    ]
    | inr j ↦ inr (keeps s j)
  ];
}

pub end_kept :
    (h : Graph) (p d : ℕ) (states left kept : List ℕ) → left ≡ [] → HasKept h p d states left kept
    → (s : ℕ) → Contains states s → HasItem (closed_of h s) p d → Contains kept s
end_kept h p d states left kept e k s i has = elim (k.all s i has) [ inl j ↦ absurd (none_contained s (rw e at j)) | inr j ↦ j ]

-- past the end of the bits nothing is marked
pub marked_past : (seen : List Bool) (n : ℕ) → IsMarked seen seen n true
marked_past seen n = λ was now k keeps here s b. keeps s (k s b)

-- the bit is set, and was not or was
pub marked : (seen new : List Bool) (n : ℕ) (b : Bool) → n < length seen → new ≡ set seen n true → IsTrue b ↔ (bit seen n ≢ true) → IsMarked seen new n b
marked seen new n true l e is = λ was now k keeps here. rw e (seen_more seen n was now l k keeps here)
marked seen new n false l e is = λ states k.
    let set_before : bit seen n ≡ true = was_set (bit seen n) refl in
    (rw e (seen_same seen n states set_before k), k n set_before)
  where
    was_set : (v : Bool) → bit seen n ≡ v → v ≡ true
    was_set true i = refl
    was_set false i = let no : false ≡ true = is.1 (λ t. let both : false ≡ true = sym i ∙ t in absurd cc) in no

-- what is left of a list at a place
pub left_there : {X Y : Type 0} (f : X → Y) (xs : List X) (i : ℕ) (d : X) → i < length xs → map f (drop i xs) ≡ f (get_or xs i d) ∷ map f (drop (i + 1) xs)
left_there f xs i d l = left_at f xs i (get_or xs i d) (get_or xs i d) l (get_or_default xs i d (get_or xs i d) l) refl

-- what stands in a row at a place
abbrev pub edge_at : List (Symbol ℕ × StIdx ℕ) → ℕ → Symbol ℕ × StIdx ℕ
edge_at row i = get_or row i (code.Rule (record { 0 = 0 }), record { 0 = 0 })

-- an edge by its numbers
abbrev pub edge_of : Symbol ℕ × StIdx ℕ → math.Symbol × ℕ
edge_of e = (symbol_of number_of e.0, e.1.0)

pub edge_left :
    (row : List (Symbol ℕ × StIdx ℕ)) (i : ℕ) → i < length row → row_of number_of (drop i row) ≡ edge_of (edge_at row i) ∷ row_of number_of (drop (i + 1) row)
edge_left row i l = left_there edge_of row i (code.Rule (record { 0 = 0 }), record { 0 = 0 }) l

pub edges_none : (row : List (Symbol ℕ × StIdx ℕ)) (i : ℕ) → length row ≤ i → row_of number_of (drop i row) ≡ []
edges_none row i l = left_none edge_of row i l

-- and of states
abbrev pub state_at : List (StIdx ℕ) → ℕ → StIdx ℕ
state_at ss i = get_or ss i (record { 0 = 0 })

pub state_left : (ss : List (StIdx ℕ)) (i : ℕ) → i < length ss → states_of (drop i ss) ≡ (state_at ss i).0 ∷ states_of (drop (i + 1) ss)
state_left ss i l = let shown : StIdx ℕ → ℕ = λ x. x.0 in left_there shown ss i (record { 0 = 0 }) l

pub states_none : (ss : List (StIdx ℕ)) (i : ℕ) → length ss ≤ i → states_of (drop i ss) ≡ []
states_none ss i l = let shown : StIdx ℕ → ℕ = λ x. x.0 in left_none shown ss i l

no_bit : (n i : ℕ) → get_or (replicate n false) i false ≡ false
no_bit zero i = refl
no_bit (suc n) zero = refl
no_bit (suc n) (suc i) = no_bit n i

-- no bit is set at first
pub none_seen : (n : ℕ) (seen : List Bool) (states : List ℕ) → seen ≡ replicate n false → AreSeen seen states
none_seen n seen states e s b = let no : false ≡ true = sym (no_bit n s) ∙ rw e at b in absurd cc

-- the row of a state
pub row_is :
    (h : Graph) (lists : List (Vec (Symbol ℕ × StIdx ℕ) Global)) (u n : ℕ) (row : Vec (Symbol ℕ × StIdx ℕ) Global)
    → AreIncoming number_of h lists → n ≡ u → u < length h → row ≡ get_or lists n row → IsRowOf h u (row_of number_of row.items)
row_is h lists u n row k same l e =
    let is : row ≡ get_or lists u row = rw same at e in
    subst (λ (v : Vec (Symbol ℕ × StIdx ℕ) Global). IsRowOf h u (row_of number_of v.items)) (sym is) (k.rows u row l)

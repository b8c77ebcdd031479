-- edges that lead into states, one after another
use Rattle.std.proofs.Common.{◌≡◌, ℕ, ◌+◌, ◌<◌, ◌≤◌, Bool, true, false, cond, List, [], ◌∷◌, ◌++◌, length, get_or, set, length-set, Some, refl, sym, ap, ◌∙◌, arith, ◌⊎◌, inl, inr}
use Rattle.std.specs.Prelude.{Contains, ◌↔◌, All}
use Rattle.std.specs.declared.vec.Vec.{Vec}
use Rattle.std.specs.declared.alloc.Global.{Global}
use Rattle.std.proofs.lemmas.Bool.{cases_eq}
use Rattle.std.proofs.lemmas.List.{get_or-set_other, map-append}
use Rattle.std.proofs.lemmas.List.Elements.{Contains-append_left, Contains-push, Contains-push_cases}
use Rattle.lrspec.specs.grammars.Grammar as math
use Rattle.lrspec.specs.merging.Graph.{Graph, same_symbol, edge, edge_at}
use Rattle.lrspec.proofs.grammars.ListMembers.{among_from_contains}
use Rattle.lrspec.proofs.merging.SameSymbols.{symbol_from_same}
use Rattle.lrgrammar.specs.declared.idx.StIdx.{StIdx}
use Rattle.lrgrammar.specs.declared.idx.Symbol.{Symbol}
use Rattle.lrgrammar.specs.Symbols.{symbol_of}
use Rattle.lrgrammar.proofs.ProductionLists.{one_more}
use Rattle.lrsearches.specs.StoredWays.{row_of, AreIncoming, AddsEdgesOf}

-- an edge is the first, or among those that are left
first_or_left :
    (x v : math.Symbol) (u w : ℕ) (left : List (math.Symbol × ℕ)) → edge_at ((x, u) ∷ left) v ≡ Some w → ((v ≡ x) × (u ≡ w)) ⊎ (edge_at left v ≡ Some w)
first_or_left x v u w left h = go (same_symbol v x) refl h
  where
    go : (b : Bool) → same_symbol v x ≡ b → cond b (Some u) (edge_at left v) ≡ Some w → ((v ≡ x) × (u ≡ w)) ⊎ (edge_at left v ≡ Some w)
    go true e k = inl (symbol_from_same v x e, cc)
    go false e k = inr k

module _ {T : Type 0} (number : T → ℕ) where
  abbrev Edge : Type 0
  Edge = Symbol T × StIdx T

  abbrev Row : Type 0
  Row = Vec Edge Global

  module _ (h : Graph) (s : ℕ) (old : List Row) where
    -- the edges of the state that are not left are added
    pub record AreAdding (new : List Row) (left : List (math.Symbol × ℕ)) : Type 0 where
      pub states : length new ≡ length old
      pub sound :
          (u : ℕ) (d : Row) (v : math.Symbol) (r : ℕ) → Contains (row_of number (get_or new u d).items) (v, r)
          → Contains (row_of number (get_or old u d).items) (v, r) ⊎ ((r ≡ s) × (edge h s v ≡ Some u))
      pub kept :
          (u : ℕ) (d : Row) (v : math.Symbol) (r : ℕ) → Contains (row_of number (get_or old u d).items) (v, r)
          → Contains (row_of number (get_or new u d).items) (v, r)
      pub added :
          (u : ℕ) (d : Row) (v : math.Symbol) → edge h s v ≡ Some u
          → (edge_at left v ≡ Some u) ⊎ Contains (row_of number (get_or new u d).items) (v, s)

    pub begin_adding : (left : List (math.Symbol × ℕ)) → ((v : math.Symbol) → edge_at left v ≡ edge h s v) → AreAdding old left
    begin_adding left whole = record {
      states = refl;
      sound = λ u d v r k. inl k;
      kept = λ u d v r k. k;
      added = λ u d v e. inl (whole v ∙ e);
    }

    -- one edge more
    pub next_adding :
        (new : List Row) (left : List (math.Symbol × ℕ)) (e : Edge) (u : ℕ) (was row : Row) → number e.1.0 ≡ s → edge h s (symbol_of number e.0) ≡ Some u
        → u < length new → was ≡ get_or new u was → row.items ≡ was.items ++ e ∷ [] → AreAdding new ((symbol_of number e.0, u) ∷ left)
        → AreAdding (set new u row) left
    next_adding new left e u was row from is within read more k = record {
      states = length-set new u row ∙ k.states;
      sound = λ w d v r i. elim (row_cases w d v r i) [
        | inl j ↦ k.sound w d v r j
        | inr j ↦ inr (j.1 ∙ from, rw (j.0, j.2) is)
      ];
      kept = λ w d v r i. row_keeps w d v r (k.kept w d v r i);
      added = λ w d v i. elim (k.added w d v i) [
        | inl j ↦ first v w d j
        | inr j ↦ inr (row_keeps w d v s j)
      ];
    }
      where
        next : List Row
        next = set new u row

        row_is : (d : Row) → row_of number (get_or next u d).items ≡ row_of number (get_or new u d).items ++ (symbol_of number e.0, number e.1.0) ∷ []
        row_is d = ap (row_of number) (one_more new u was row d e within read more) ∙ map-append (λ (x : Edge). (symbol_of number x.0, number x.1.0)) (get_or new u d).items (e ∷ [])

        row_cases :
            (w : ℕ) (d : Row) (v : math.Symbol) (r : ℕ) → Contains (row_of number (get_or next w d).items) (v, r)
            → Contains (row_of number (get_or new w d).items) (v, r) ⊎ ((v ≡ symbol_of number e.0) × (r ≡ number e.1.0) × (w ≡ u))
        row_cases w d v r i = elim (cases_eq w u) [
          | inl f ↦
              elim
              (Contains-push_cases (row_of number (get_or new u d).items) (symbol_of number e.0, number e.1.0) (v, r)
              (rw (f, row_is d) at i)) [
                | inl j ↦ inl (rw f j)
                | inr j ↦ inr (sym (ap (λ (p : math.Symbol × ℕ). p.0) j), sym (ap (λ (p : math.Symbol × ℕ). p.1) j), f)
              ]
          | inr f ↦ inl (rw (get_or-set_other new u w row d f) at i)
        ]

        row_keeps :
            (w : ℕ) (d : Row) (v : math.Symbol) (r : ℕ) → Contains (row_of number (get_or new w d).items) (v, r)
            → Contains (row_of number (get_or next w d).items) (v, r)
        row_keeps w d v r i = elim (cases_eq w u) [
          | inl f ↦ rw (f, row_is d) (Contains-append_left (row_of number (get_or new u d).items) ((symbol_of number e.0, number e.1.0) ∷ []) (v, r) (rw f at i))
          | inr f ↦ rw (get_or-set_other new u w row d f) i
        ]

        first :
            (v : math.Symbol) (w : ℕ) (d : Row) → edge_at ((symbol_of number e.0, u) ∷ left) v ≡ Some w
            → (edge_at left v ≡ Some w) ⊎ Contains (row_of number (get_or next w d).items) (v, s)
        first v w d i = elim (first_or_left (symbol_of number e.0) v u w left i) [
          | inl j ↦ inr (rw (j.0, ← j.1, ← from, row_is d) (Contains-push (row_of number (get_or new u d).items) (symbol_of number e.0, number e.1.0)))
          | inr j ↦ inl j
        ]

    pub end_adding : (new : List Row) (left : List (math.Symbol × ℕ)) → left ≡ [] → AreAdding new left → AddsEdgesOf number h s old new
    end_adding new left none k = record {
      states = k.states;
      edges = λ u d v r below. (
        λ i. k.sound u d v r i,
        λ i. elim i [
          | inl j ↦ k.kept u d v r j
          | inr j ↦ elim (k.added u d v j.1) [ inl l ↦ let no : edge_at [] v ≡ Some u = rw none at l in absurd cc | inr l ↦ rw j.0 l ]
        ],
      );
    }

  module _ (h : Graph) where
    -- the edges of the states below `n` are there
    pub record AreIncomingBelow (n : ℕ) (lists : List Row) : Type 0 where
      pub states : length lists ≡ length h
      pub edges :
          (u : ℕ) (d : Row) (v : math.Symbol) (r : ℕ) → u < length h
          → Contains (row_of number (get_or lists u d).items) (v, r) ↔ ((r < n) × (edge h r v ≡ Some u))

    pub begin_incoming : (lists : List Row) → length lists ≡ length h → All (λ es. es.items ≡ []) lists → AreIncomingBelow 0 lists
    begin_incoming lists count empty = record {
      states = count;
      edges = λ u d v r below. (
        λ i. let none : (get_or lists u d).items ≡ [] = empty u d (omega (arith, count, below)) in
            absurd (among_from_contains (v, r) [] (rw none at i)),
        λ i. absurd (omega (arith, i.0)),
      );
    }

    pub next_incoming : (n : ℕ) (old new : List Row) → AreIncomingBelow n old → AddsEdgesOf number h n old new → AreIncomingBelow (n + 1) new
    next_incoming n old new k a = record {
      states = a.states ∙ k.states;
      edges = λ u d v r below. (
        λ i. elim ((a.edges u d v r below).0 i) [
          | inl j ↦ let m = (k.edges u d v r below).0 j in (omega (arith, m.0), m.1)
          | inr j ↦ (omega (arith, j.0), rw j.0 j.1)
        ],
        λ i. (a.edges u d v r below).1 (elim (cases_eq r n) [
          | inl e ↦ inr (e, rw e at i.1)
          | inr e ↦ inl ((k.edges u d v r below).1 (omega (arith, i.0, e), i.1))
        ]),
      );
    }

    pub end_incoming : (n : ℕ) (lists : List Row) → length h ≤ n → ((s u : ℕ) (v : math.Symbol) → edge h s v ≡ Some u → s < length h) → AreIncomingBelow n lists → AreIncoming number h lists
    end_incoming n lists past within k = record {
      states = k.states;
      rows = λ u d below v s. (
        λ i. ((k.edges u d v s below).0 i).1,
        λ e. (k.edges u d v s below).1 (omega (arith, within s u v e, past), e),
      );
    }

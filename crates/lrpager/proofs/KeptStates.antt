-- what is kept of states: all of them are the graph, and complete items with edges are its outline
use Rattle.std.proofs.Common.{◌≡◌, ℕ, ◌<◌, Bool, true, false, cond, eq-eqb, List, [], ◌∷◌, ◌++◌, length, Option, None, Some, IsTrue, ◌↔◌, append_assoc, append-nil, refl, sym, ap, subst, ◌∙◌}
use Rattle.std.specs.Prelude.{◌==◌, ◌&&◌, filter, slice_get, option_map}
use Rattle.std.proofs.lemmas.Bool.{and_parts, eqb-true, ne_eqb}
use Rattle.std.proofs.lemmas.List.{length-map, map-id}
use Rattle.std.proofs.lemmas.List.Kept.{AllPairs-filter}
use Rattle.std.proofs.lemmas.Option.{slice_get-map}
use Rattle.lrspec.specs.grammars.Grammar.{Symbol, Grammar, body_of}
use Rattle.lrspec.specs.grammars.ItemSets.{Items, Precedes, AreUpwards, IsClosure, Fits, FitsAt, item_at}
use Rattle.lrspec.specs.merging.Graph.{State, Graph, closed_or_none, edges_or_none, closed_of, edges_of, edge_at}
use Rattle.lrgraphs.specs.Outlines.{IsOutlineOf}
use Rattle.lrplacing.specs.Construction.{Draft}
use Rattle.lrpager.specs.Collecting.{AreRenumbered}
use Rattle.lrpager.specs.Keeping.{is_complete, kept_closed, kept_core, kept_state, kept_states, IsKeptClosure, IsKeptState}
use Rattle.lrpager.specs.declared.pager.collecting.Kept.{Kept}
use Rattle.lrpager.specs.declared.pager.collecting.Kept.TheVariants.{Everything, Outline}

-- keeping all of a graph leaves it as it is
pub kept_all : (g : Grammar) (h : Graph) → kept_states Everything g h ≡ h
kept_all g h = map-id h

-- ---- complete items

-- the complete ones of the items are those with their dot behind the whole body
complete_item :
    (g : Grammar) (p d : ℕ) (a : Items)
    → item_at (filter (is_complete g) a) p d ≡ cond (d == length (body_of g p)) (item_at a p d) None
complete_item g p d [] = none (d == length (body_of g p))
  where
    none : (b : Bool) → item_at {X = List Bool} [] p d ≡ cond b (item_at [] p d) None
    none true = refl
    none false = refl
complete_item g p d (e ∷ a) = go (is_complete g e) refl ((p == e.0.0) && (d == e.0.1)) refl (complete_item g p d a)
  where
    end_is : (b : Bool) → is_complete g e ≡ b → ((p == e.0.0) && (d == e.0.1)) ≡ true → (d == length (body_of g p)) ≡ b
    end_is b is same =
        let (production, dot) = and_parts (p == e.0.0) (d == e.0.1) same in
        rw (eqb-true p e.0.0 production, eqb-true d e.0.1 dot) is

    go :
        (b : Bool) → is_complete g e ≡ b → (c : Bool) → ((p == e.0.0) && (d == e.0.1)) ≡ c
        → item_at (filter (is_complete g) a) p d ≡ cond (d == length (body_of g p)) (item_at a p d) None
        → item_at (cond b (e ∷ filter (is_complete g) a) (filter (is_complete g) a)) p d
        ≡ cond (d == length (body_of g p)) (cond c (Some e.1) (item_at a p d)) None
    go true is true same later = rw (same, end_is true is same) refl
    go true is false same later = rw same later
    go false is true same later = rw (end_is false is same) (rw (end_is false is same) at later)
    go false is false same later = later

-- so the complete items are there as they were
complete_kept : (g : Grammar) (p : ℕ) (a : Items) → item_at (filter (is_complete g) a) p (length (body_of g p)) ≡ item_at a p (length (body_of g p))
complete_kept g p a = complete_item g p (length (body_of g p)) a ∙ rw (eq-eqb (length (body_of g p)) (length (body_of g p)) refl) refl

-- and they fit the grammar where all do
complete_fits : (g : Grammar) (a : Items) → Fits g a → Fits g (filter (is_complete g) a)
complete_fits g a fits p d v e = go (d == length (body_of g p)) (sym (complete_item g p d a) ∙ e)
  where
    go : (b : Bool) → cond b (item_at a p d) None ≡ Some v → FitsAt g p d v
    go true h = fits p d v h
    go false h = cc

-- whether an item is complete, by a test of its dot
pub complete_by_test :
    (g : Grammar) (e : (ℕ × ℕ) × List Bool) (b : Bool) (n : ℕ) → IsTrue b ↔ (e.0.1 ≡ n) → true ≡ b → n ≡ length (body_of g e.0.0)
    → is_complete g e ≡ true
complete_by_test g e b n test is same = eq-eqb e.0.1 (length (body_of g e.0.0)) (test.0 (sym is) ∙ same)

pub incomplete_by_test :
    (g : Grammar) (e : (ℕ × ℕ) × List Bool) (b : Bool) (n : ℕ) → IsTrue b ↔ (e.0.1 ≡ n) → false ≡ b → n ≡ length (body_of g e.0.0)
    → is_complete g e ≡ false
incomplete_by_test g e b n test is same =
    ne_eqb e.0.1 (length (body_of g e.0.0)) (λ equal. let t : false ≡ true = is ∙ test.1 (equal ∙ sym same) in cc)

-- going over items: a complete one is put behind those before it, another is passed over
pub complete_turn :
    (g : Grammar) (before new left whole : Items) (e : (ℕ × ℕ) × List Bool) → is_complete g e ≡ true → new ≡ before ++ e ∷ []
    → before ++ filter (is_complete g) (e ∷ left) ≡ whole → new ++ filter (is_complete g) left ≡ whole
complete_turn g before new left whole e is pushed h =
    rw pushed (append_assoc before (e ∷ []) (filter (is_complete g) left) ∙ (rw is at h))

pub passed_turn :
    (g : Grammar) (before left whole : Items) (e : (ℕ × ℕ) × List Bool) → is_complete g e ≡ false
    → before ++ filter (is_complete g) (e ∷ left) ≡ whole → before ++ filter (is_complete g) left ≡ whole
passed_turn g before left whole e is h = rw is at h

-- at the end
pub all_passed : (g : Grammar) (before left whole : Items) → left ≡ [] → before ++ filter (is_complete g) left ≡ whole → before ≡ whole
all_passed g before left whole none h = sym (append-nil before) ∙ (rw none at h)

-- what is kept of items that come upwards comes upwards
pub kept_upwards : (kept : Kept) (g : Grammar) (a : Items) → AreUpwards a → AreUpwards (kept_closed kept g a)
kept_upwards Everything g a upwards = upwards
kept_upwards Outline g a upwards = AllPairs-filter (λ e f. Precedes e.0 f.0) (is_complete g) a upwards

-- a draft's core, what its core closes to and its edges, of which these are kept
pub kept_draft :
    (kept : Kept) (g : Grammar) (f : ℕ → ℕ) (d : Draft) (core given a closed : Items) (old new : List (Symbol × ℕ)) → a ≡ kept_core kept core
    → core ≡ d.core → IsKeptClosure kept g given closed → given ≡ d.core → AreRenumbered f old new → old ≡ d.edges
    → IsKeptState kept g f d (record { core = a; closed = closed; edges = new })
kept_draft kept g f d core given a closed old new kept_is core_is closure given_is renumbered old_is = record {
  whole = record { core = d.core; closed = closure.closed; edges = new };
  renumbered = record {
    core = refl;
    closed = subst (λ b. IsClosure g b closure.closed) given_is closure.closure;
    fits = closure.fits;
    edges = subst (λ es. AreRenumbered f es new) old_is renumbered;
  };
  kept_is = rw (kept_is, core_is, closure.kept_is) refl;
}

-- ---- outlines

closed_kept : (g : Grammar) (h : Graph) (s : ℕ) → closed_of (kept_states Outline g h) s ≡ filter (is_complete g) (closed_of h s)
closed_kept g h s = ap closed_or_none (slice_get-map (kept_state Outline g) h s) ∙ go (slice_get h s)
  where
    go : (o : Option State) → closed_or_none (option_map (kept_state Outline g) o) ≡ filter (is_complete g) (closed_or_none o)
    go None = refl
    go (Some t) = refl

edges_kept : (g : Grammar) (h : Graph) (s : ℕ) → edges_of (kept_states Outline g h) s ≡ edges_of h s
edges_kept g h s = ap edges_or_none (slice_get-map (kept_state Outline g) h s) ∙ go (slice_get h s)
  where
    go : (o : Option State) → edges_or_none (option_map (kept_state Outline g) o) ≡ edges_or_none o
    go None = refl
    go (Some t) = refl

-- keeping the complete items and the edges of a graph gives its outline
pub kept_outline : (g : Grammar) (h : Graph) → ((s : ℕ) → s < length h → Fits g (closed_of h s)) → IsOutlineOf g h (kept_states Outline g h)
kept_outline g h fits = record {
  length_is = length-map h (kept_state Outline g);
  fits = λ s l. subst (Fits g) (sym (closed_kept g h s)) (complete_fits g (closed_of h s) (fits s (rw length-map at l)));
  completes = λ s p. ap (λ a. item_at a p (length (body_of g p))) (closed_kept g h s) ∙ complete_kept g p (closed_of h s);
  edges = λ s x. ap (λ es. edge_at es x) (edges_kept g h s);
}

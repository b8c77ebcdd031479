-- what holds of the start state alone, and what closing a state keeps
use Rattle.std.proofs.Common.{◌≡◌, ◌≢◌, ℕ, zero, suc, ◌<◌, true, List, [], ◌∷◌, None, Some, length, refl, sym, ap, ◌∙◌, inl, inr, arith}
use Rattle.std.specs.Prelude.{slice_get}
use Rattle.std.proofs.lemmas.Bool.{cases_eq}
use Rattle.lrspec.specs.grammars.Grammar.{Symbol, Grammar, IsGrammar}
use Rattle.lrspec.specs.grammars.ItemSets.{Items, Fits}
use Rattle.lrspec.specs.grammars.StartState.{IsStartCore}
use Rattle.lrspec.proofs.grammars.Closures.{contained_itself}
use Rattle.lrspec.proofs.merging.RootedCores.{start_rooted}
use Rattle.lrspec.proofs.merging.SharingKept.{start_shared}
use Rattle.lrspec.specs.merging.Graph.{edge_at}
use Rattle.lrplacing.specs.Construction.{Draft, core_at, closed_at, edge_from, draft_core, draft_closed, draft_edges}
use Rattle.lrplacing.specs.Invariant.{HasSharing, LeadsToItems, HasChain, Holds, HasGotos}
use Rattle.lrpager.specs.Closing.{start_states, Closes}
use Rattle.lrplacing.proofs.GrowingItemSets.{same_itself}

module _ (core : Items) where
  start_alone : (k : ℕ) → closed_at (start_states core) k ≡ true → ⊥
  start_alone zero e = cc
  start_alone (suc k) e = cc

  start_chain_same : (k : ℕ) (a : Items) → slice_get (core ∷ []) k ≡ Some a → a ≡ core_at (start_states core) k
  start_chain_same zero a e = cc
  start_chain_same (suc k) a e = absurd (cc)

  start_edges : (k u : ℕ) (x : Symbol) → edge_from (start_states core) k x ≡ Some u → ⊥
  start_edges zero u x e = cc
  start_edges (suc k) u x e = cc

  start_core_at : (k : ℕ) → k < length (start_states core) → core_at (start_states core) k ≡ core
  start_core_at zero below = refl
  start_core_at (suc k) below = absurd (omega arith)

module _ {g : Grammar} (core : Items) where
  -- the start state has a chain, its core
  start_chain : IsGrammar g → IsStartCore g core → HasChain g (start_states core)
  start_chain n start = record {
    chain = core ∷ [];
    is_chain = (([] ∷ [], start_rooted core n start), tt, tt);
    length_is = refl;
    same = λ k a e. rw (start_chain_same core k a e) (same_itself (core_at (start_states core) k));
    contained = λ k a e. rw (start_chain_same core k a e) (contained_itself (core_at (start_states core) k));
  }

  -- at the start all holds
  pub start_holds : IsGrammar g → Fits g core → IsStartCore g core → Holds g (start_states core)
  start_holds n fits start = record {
    some = omega arith;
    start = start;
    fits = λ k below. rw (start_core_at core k below) fits;
    sharing = λ k below. rw (start_core_at core k below) start_sharing;
    edges = λ k u x e. absurd (start_edges core k u x e);
    cross = λ j k lt below. absurd (omega arith);
    chain = start_chain n start;
  }
    where
      start_sharing : HasSharing g core
      start_sharing = let (rooted, shared) = start_shared g core n start in ([] ∷ [], rooted, shared)

  -- and no goto is missing
  pub start_gotos : (k : ℕ) → HasGotos g (start_states core) k
  start_gotos k e = absurd (start_alone core k e)

module _ {old new : List Draft} {i : ℕ} (m : Closes old i new) where
  -- closing keeps every core
  pub closes_core : (k : ℕ) → core_at new k ≡ core_at old k
  closes_core k = elim (cases_eq k i) [ inl e ↦ rw e m.core | inr n ↦ ap draft_core (m.others k n) ]

  -- and adds no edge
  closes_edge : (k u : ℕ) (x : Symbol) → edge_from new k x ≡ Some u → edge_from old k x ≡ Some u
  closes_edge k u x e =
      elim (cases_eq k i) [
        | inl s ↦ let none : None ≡ Some u = sym (m.edges x) ∙ rw s at e in absurd (cc)
        | inr n ↦ rw (m.others k n) at e
      ]

  closes_chain : {g : Grammar} → HasChain g old → HasChain g new
  closes_chain h = record {
    chain = h.chain;
    is_chain = h.is_chain;
    length_is = h.length_is ∙ sym m.length_is;
    same = λ k a e. rw (closes_core k) (h.same k a e);
    contained = λ k a e. rw (closes_core k) (h.contained k a e);
  }

  closes_leads : {g : Grammar} (k u : ℕ) (x : Symbol) → LeadsToItems g old k x u → LeadsToItems g new k x u
  closes_leads k u x h = record {
    below = omega (arith, m.length_is, h.below);
    items = rw (closes_core k, closes_core u) h.items;
  }

  -- closing keeps all that holds
  pub closes_holds : {g : Grammar} → Holds g old → Holds g new
  closes_holds h = record {
    some = omega (arith, m.length_is, h.some);
    start = rw (closes_core 0) h.start;
    fits = λ k below. rw (closes_core k) (h.fits k (omega (arith, m.length_is)));
    sharing = λ k below. rw (closes_core k) (h.sharing k (omega (arith, m.length_is)));
    edges = λ k u x e. closes_leads k u x (h.edges k u x (closes_edge k u x e));
    cross = λ j k lt below same. rw (closes_core j, closes_core k) (h.cross j k lt (omega (arith, m.length_is)) (rw (closes_core j, closes_core k) at same));
    chain = closes_chain h.chain;
  }

  -- and the gotos of the other states
  pub closes_gotos : {g : Grammar} (k : ℕ) → k ≢ i → HasGotos g old k → HasGotos g new k
  closes_gotos k n h b p d x item before =
      let over = h (sym (ap draft_closed (m.others k n)) ∙ b) p d x (rw (closes_core k) at item) before in
      record { to = over.to; is = ap (λ o. edge_at (draft_edges o) x) (m.others k n) ∙ over.is; looks = rw (closes_core k, closes_core over.to) over.looks }

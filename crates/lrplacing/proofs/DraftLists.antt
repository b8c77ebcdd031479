-- lists of states under construction: what stands at a place, and after one was put there
use Rattle.std.proofs.Common.{◌≡◌, ℕ, zero, suc, ◌<◌, Bool, true, false, ◌&&◌, List, [], ◌∷◌, ◌++◌, length, get_or, set, None, Some, refl, sym, ap, subst, ◌∙◌, ◌+◌, inl, inr, Result, Ok, Err, arith}
use Rattle.std.specs.Prelude.{◌==◌, slice_get, if◌then◌else◌, OnOk}
use Rattle.std.proofs.lemmas.Option.{slice_get-get_or}
use Rattle.lrspec.specs.grammars.Grammar.{Symbol}
use Rattle.lrspec.specs.grammars.ItemSets.{Items}
use Rattle.lrspec.specs.merging.WeakCompatibility.{SameItems, Clash}
use Rattle.lrspec.specs.merging.Graph.{same_symbol, edge_at}
use Rattle.std.proofs.lemmas.Bool.{cases_lt, eqb-true, eq-eqb}
use Rattle.std.proofs.lemmas.List.{get_or_default, length_push}
use Rattle.lrplacing.specs.Construction.{Draft, draft_core, draft_closed, draft_edges, core_at, closed_at, edge_from, Stays}

-- what was put at a place stands there
set_there : (ss : List Draft) (k : ℕ) (s : Draft) → k < length ss → slice_get (set ss k s) k ≡ Some s
set_there [] k s l = absurd (omega arith)
set_there (t ∷ ts) zero s l = refl
set_there (t ∷ ts) (suc k) s l = set_there ts k s (omega arith)

module _ (ss : List Draft) (k : ℕ) (s : Draft) (l : k < length ss) where
  pub core_put : core_at (set ss k s) k ≡ s.core
  core_put = ap draft_core (set_there ss k s l)

  pub closed_put : closed_at (set ss k s) k ≡ s.is_closed
  closed_put = ap draft_closed (set_there ss k s l)

  pub edge_put : (y : Symbol) → edge_from (set ss k s) k y ≡ edge_at s.edges y
  edge_put y = ap (λ o. edge_at (draft_edges o) y) (set_there ss k s l)

  -- the state at a place
  module _ (e : s ≡ get_or ss k s) where
    found : slice_get ss k ≡ Some s
    found = slice_get-get_or ss k s l ∙ ap Some (sym e)

    pub core_found : core_at ss k ≡ s.core
    core_found = ap draft_core found

    pub closed_found : closed_at ss k ≡ s.is_closed
    closed_found = ap draft_closed found

    pub edge_found : (y : Symbol) → edge_from ss k y ≡ edge_at s.edges y
    edge_found y = ap (λ o. edge_at (draft_edges o) y) found

    -- what holds of the core at the place holds of that of the state
    pub of_read : (P : Items → Type 0) → P (core_at ss k) → P s.core
    of_read P h = subst P core_found h

module _ (ss : List Draft) (k : ℕ) (s : Draft) (l : k < length ss) where
  pub core_read : core_at ss k ≡ (get_or ss k s).core
  core_read = ap draft_core (slice_get-get_or ss k s l)

  pub closed_read : closed_at ss k ≡ (get_or ss k s).is_closed
  closed_read = ap draft_closed (slice_get-get_or ss k s l)

-- what was put at a place changed no other
pub elsewhere : (ss : List Draft) (k j : ℕ) (s : Draft) → (j ≡ k → ⊥) → slice_get (set ss k s) j ≡ slice_get ss j
elsewhere [] k j s n = refl
elsewhere (t ∷ ts) zero zero s n = absurd (n refl)
elsewhere (t ∷ ts) zero (suc j) s n = refl
elsewhere (t ∷ ts) (suc k) zero s n = refl
elsewhere (t ∷ ts) (suc k) (suc j) s n = elsewhere ts k j s (λ e. n (ap suc e))

apart_from_test : (j k : ℕ) → (j == k) ≡ false → j ≡ k → ⊥
apart_from_test j k t e = let s : (j == k) ≡ true = eq-eqb j k e in cc

-- a state was read at a place, and what was made of it was put there
module _ (ss : List Draft) (k : ℕ) (s new : Draft) (l : k < length ss) (e : s ≡ get_or ss k s) where
  -- what holds of the core that was read and of the one that was put holds of those at the place
  pub of_cores : (P : Items → Items → Type 0) → P s.core new.core → P (core_at ss k) (core_at (set ss k new) k)
  of_cores P h = subst (λ a. P a (core_at (set ss k new) k)) (sym (core_found ss k s l e)) (subst (P s.core) (sym (core_put ss k new l)) h)

  pub edges_kept : new.edges ≡ s.edges → (y : Symbol) → edge_from (set ss k new) k y ≡ edge_from ss k y
  edges_kept h y = edge_put ss k new l y ∙ ap (λ es. edge_at es y) h ∙ sym (edge_found ss k s l e y)

  -- where the core is as it was, and the state is closed or not as it was, each state is so still
  pub stays_put : new.core ≡ s.core → new.is_closed ≡ s.is_closed → (j : ℕ) → Stays ss (set ss k new) j
  stays_put h i j = go (j == k) refl
    where
      go : (b : Bool) → (j == k) ≡ b → Stays ss (set ss k new) j
      go true t =
          let same : j ≡ k = eqb-true j k t in
          rw same record {
            core = core_put ss k new l ∙ h ∙ sym (core_found ss k s l e);
            closed = closed_put ss k new l ∙ i ∙ sym (closed_found ss k s l e);
          }
      go false t =
          let other = elsewhere ss k j new (apart_from_test j k t) in
          record { core = ap draft_core other; closed = ap draft_closed other }

  -- an edge more on the symbol at that place
  pub edge_more :
      (x : Symbol) (to : ℕ) → ((y : Symbol) → edge_at new.edges y ≡ if same_symbol y x then Some to else edge_at s.edges y) → (j : ℕ) (y : Symbol)
      → edge_from (set ss k new) j y ≡ if ((j == k) && same_symbol y x) then Some to else edge_from ss j y
  edge_more x to h j y = go (j == k) refl
    where
      go : (b : Bool) → (j == k) ≡ b → edge_from (set ss k new) j y ≡ if (b && same_symbol y x) then Some to else edge_from ss j y
      go true t =
          let same : j ≡ k = eqb-true j k t in
          rw same (edge_put ss k new l y ∙ h y ∙ ap (λ o. if same_symbol y x then Some to else o) (sym (edge_found ss k s l e y)))
      go false t = ap (λ o. edge_at (draft_edges o) y) (elsewhere ss k j new (apart_from_test j k t))

-- a state put at the end stands there
pushed_there : (ss : List Draft) (s : Draft) → slice_get (ss ++ s ∷ []) (length ss) ≡ Some s
pushed_there [] s = refl
pushed_there (t ∷ ts) s = pushed_there ts s

pushed_elsewhere : (ss : List Draft) (s : Draft) (j : ℕ) → (j ≡ length ss → ⊥) → slice_get (ss ++ s ∷ []) j ≡ slice_get ss j
pushed_elsewhere [] s zero n = absurd (n refl)
pushed_elsewhere [] s (suc j) n = refl
pushed_elsewhere (t ∷ ts) s zero n = refl
pushed_elsewhere (t ∷ ts) s (suc j) n = pushed_elsewhere ts s j (λ e. n (ap suc e))

module _ (ss new : List Draft) (s : Draft) (e : new ≡ ss ++ s ∷ []) where
  there : slice_get new (length ss) ≡ Some s
  there = rw e (pushed_there ss s)

  pub length_pushed : length new ≡ length ss + 1
  length_pushed = ap length e ∙ length_push ss s

  pub others_pushed : (j : ℕ) → (j ≡ length ss → ⊥) → slice_get new j ≡ slice_get ss j
  others_pushed j n = rw e (pushed_elsewhere ss s j n)

  pub core_pushed : core_at new (length ss) ≡ s.core
  core_pushed = ap draft_core there

  pub closed_pushed : closed_at new (length ss) ≡ s.is_closed
  closed_pushed = ap draft_closed there

  pub edges_pushed : s.edges ≡ [] → (y : Symbol) → edge_from new (length ss) y ≡ None
  edges_pushed h y = ap (λ o. edge_at (draft_edges o) y) there ∙ ap (λ es. edge_at es y) h

-- what follows where memory was not refused
pub on_ok : {A E P Q : Type 0} (r : Result A E) → (P → Q) → OnOk r P → OnOk r Q
on_ok (Ok x) f h = f h
on_ok (Err x) f h = tt

-- one more place of a list at which a core clashes with the goto
pub clash_more :
    (ss : List Draft) (goto : Items) (ks : List ℕ) (n : ℕ) → n < length ks
    → ((i d : ℕ) → i < n → SameItems (core_at ss (get_or ks i d)) goto → Clash (core_at ss (get_or ks i d)) goto)
    → (SameItems (core_at ss (get_or ks n 0)) goto → Clash (core_at ss (get_or ks n 0)) goto) → (i d : ℕ) → i < n + 1
    → SameItems (core_at ss (get_or ks i d)) goto → Clash (core_at ss (get_or ks i d)) goto
clash_more ss goto ks n l before here i d b =
    elim (cases_lt i n) [
      | inl lt ↦ before i d lt
      | inr ge ↦ let same : i ≡ n = omega arith in rw (same, get_or_default ks n d 0 l) here
    ]

-- the edges of a state and the states of a stack, one after another
use Rattle.std.proofs.Common.{◌≡◌, ℕ, zero, suc, ◌+◌, ◌-◌, ◌<◌, Bool, true, false, List, [], ◌∷◌, length, map, get_or, refl, sym, ap, ◌∙◌, subst, ◌⊎◌, inl, inr, Some, arith}
use Rattle.std.specs.Prelude.{slice_get, if◌then◌else◌}
use Rattle.lrgrammar.specs.declared.idx.StIdx.{StIdx}
use Rattle.lrspec.specs.grammars.Grammar.{Symbol}
use Rattle.lrspec.specs.merging.Graph.{Graph, edge, edge_at, edges_of, same_symbol}
use Rattle.lrspec.proofs.merging.SameSymbols.{symbol_from_same}

module _ (h : Graph) (s u : ℕ) (P : Symbol → Type 0) where
  -- it holds of each symbol on which an edge leads from the state to the other, but for edges that are left
  abbrev pub EdgesLeft : List (Symbol × ℕ) → Type 0
  EdgesLeft left = (x : Symbol) → edge h s x ≡ Some u → P x ⊎ (edge_at left x ≡ Some u)

  pub begin_edges : (left : List (Symbol × ℕ)) → left ≡ edges_of h s → EdgesLeft left
  begin_edges left e x leads = inr (ap (λ es. edge_at es x) e ∙ leads)

  -- one that leads elsewhere
  pub pass_edge : (y : Symbol) (v : ℕ) (left rest : List (Symbol × ℕ)) → left ≡ (y, v) ∷ rest → ¬ (v ≡ u) → EdgesLeft left → EdgesLeft rest
  pass_edge y v left rest e other all x leads = elim (all x leads) [
    | inl p ↦ inl p
    | inr there ↦ inr (elsewhere (same_symbol x y) (rw e at there))
  ]
    where
      elsewhere : (b : Bool) → (if b then Some v else edge_at rest x) ≡ Some u → edge_at rest x ≡ Some u
      elsewhere true is = absurd (other (cc))
      elsewhere false is = is

  -- one of whose symbol it holds
  pub next_edge : (y : Symbol) (v : ℕ) (left rest : List (Symbol × ℕ)) → left ≡ (y, v) ∷ rest → P y → EdgesLeft left → EdgesLeft rest
  next_edge y v left rest e here all x leads = elim (all x leads) [
    | inl p ↦ inl p
    | inr there ↦ either (same_symbol x y) refl (rw e at there)
  ]
    where
      either : (b : Bool) → same_symbol x y ≡ b → (if b then Some v else edge_at rest x) ≡ Some u → P x ⊎ (edge_at rest x ≡ Some u)
      either true same is = inl (subst P (sym (symbol_from_same x y same)) here)
      either false same is = inr is

  pub all_edges : (left : List (Symbol × ℕ)) → left ≡ [] → EdgesLeft left → (x : Symbol) → edge h s x ≡ Some u → P x
  all_edges left e all x leads = elim (all x leads) [
    | inl p ↦ p
    | inr there ↦ none (rw e at there)
  ]
    where
      none : edge_at [] x ≡ Some u → P x
      none is = cc

-- a state of a stack
pub state_at : (states : List (StIdx ℕ)) (i s : ℕ) (d : StIdx ℕ) → slice_get (map (λ (t : StIdx ℕ). t.0) states) i ≡ Some s → (get_or states i d).0 ≡ s
state_at [] i s d e = cc
state_at (t ∷ ts) zero s d e = cc
state_at (t ∷ ts) (suc i) s d e = state_at ts i s d e

-- what holds of the states at a place and at the next one
pub states_at :
    (P : ℕ → ℕ → ℕ → Type 0) (states : List (StIdx ℕ)) (d e : StIdx ℕ) (i k s u : ℕ) → k ≡ i + 1
    → slice_get (map (λ (t : StIdx ℕ). t.0) states) i ≡ Some s → slice_get (map (λ (t : StIdx ℕ). t.0) states) (i + 1) ≡ Some u
    → P (get_or states (k - 1) d).0 (get_or states k e).0 (k - 1) → P s u i
states_at P states d e i k s u same at next holds =
    let below : i + 1 - 1 ≡ i = omega arith in
    let here = subst (λ n. P (get_or states (n - 1) d).0 (get_or states n e).0 (n - 1)) same holds in
    let there = subst (λ n. P (get_or states n d).0 (get_or states (i + 1) e).0 n) below here in
    let one = subst (λ n. P n (get_or states (i + 1) e).0 i) (state_at states i s d at) there in
    subst (λ n. P s n i) (state_at states (i + 1) u e next) one

-- and there are more than its place
pub state_within : (states : List (StIdx ℕ)) (i s : ℕ) → slice_get (map (λ (t : StIdx ℕ). t.0) states) i ≡ Some s → i < length states
state_within [] i s e = cc
state_within (t ∷ ts) zero s e = omega arith
state_within (t ∷ ts) (suc i) s e = let l = state_within ts i s e in omega (arith, l)

-- the start state alone: what holds of it, and of the states that a construction ends with
use Rattle.std.proofs.Common.{◌≡◌, ◌≢◌, ℕ, ◌≤◌, false, List, [], ◌∷◌, ◌++◌, length, Some, refl, ap, ◌∙◌, arith}
use Rattle.lrspec.specs.grammars.Grammar.{Symbol, Grammar, IsGrammar}
use Rattle.lrspec.specs.grammars.ItemSets.{Items, AreUpwards}
use Rattle.lrspec.proofs.merging.ReachedStates.{item_of_rooted, moved_symbol}
use Rattle.lrplacing.specs.Construction.{Draft, edge_from}
use Rattle.lrplacing.specs.Counts.{unclosed, weight}
use Rattle.lrplacing.specs.Invariant.{Holds, HasGotos}
use Rattle.lrpager.specs.Closing.{start_states, StartsWith}
use Rattle.lrplacing.specs.CandidatesOf.{CandidateLists, listed_at, AreCandidates}
use Rattle.lritems.specs.Fingerprints.{fingerprint_of}
use Rattle.lrpager.proofs.ClosedStates.{start_holds, start_gotos}
use Rattle.lrplacing.proofs.CountFacts.{start_counts}
use Rattle.lrplacing.proofs.CandidateLists.{candidates_made}

module _ {g : Grammar} {ss : List Draft} (s : StartsWith g ss) where
  pub begins_length : length ss ≡ 1
  begins_length = ap length s.states

  pub begins_holds : IsGrammar g → Holds g ss
  begins_holds shape = rw s.states (start_holds s.core shape s.fits s.is_start)

  pub begins_gotos : (k : ℕ) → HasGotos g ss k
  begins_gotos = rw s.states (start_gotos {g = g} s.core)

  -- it is to be closed
  pub begins_unclosed : (unclosed ss ≡ 1) × (1 ≤ weight g ss)
  begins_unclosed = rw s.states (start_counts g (start_states s.core) refl refl)

-- a state that is to be closed and has no edges, put where there was none
pub draft_alone :
    (ss new : List Draft) (d : Draft) (core : Items) → ss ≡ [] → new ≡ ss ++ d ∷ [] → d.core ≡ core → d.is_closed ≡ false → d.edges ≡ []
    → new ≡ start_states core
draft_alone ss new d core none is a b e =
    is ∙ ap (λ ds. ds ++ d ∷ []) none
    ∙ ap (λ x. record { core = x; is_closed = d.is_closed; edges = d.edges } ∷ []) a
    ∙ ap (λ x. record { core = core; is_closed = x; edges = d.edges } ∷ []) b
    ∙ ap (λ x. record { core = core; is_closed = false; edges = x } ∷ []) e

-- the start state is listed at its fingerprint
pub start_candidates :
    (core : Items) (ds : CandidateLists) → AreUpwards core → listed_at ds (fingerprint_of core) ≡ 0 ∷ []
    → ((n : ℕ) → n ≢ fingerprint_of core → listed_at ds n ≡ []) → AreCandidates (start_states core) ds
start_candidates core ds up here there =
    candidates_made [] (start_states core) [] ds core refl (λ j b. absurd (omega arith)) refl up here there
    (record { below = λ n k h. absurd (omega (arith, h.1)); listed = λ k a b u s. absurd (omega arith); upwards = λ n k b. absurd (omega arith) })

-- edges out of one state lead to one state by one symbol only
pub one_symbol :
    {g : Grammar} {ss : List Draft} → Holds g ss → (k u : ℕ) (x y : Symbol) → edge_from ss k x ≡ Some u → edge_from ss k y ≡ Some u → x ≡ y
one_symbol holds k u x y e f =
    let a = holds.edges k u x e in
    let b = holds.edges k u y f in
    let (ws, rooted, shared) = holds.sharing u a.below in
    let (p, d, h) = item_of_rooted (ws, rooted) in
    moved_symbol ((a.items p d).0 h) ((b.items p d).0 h)

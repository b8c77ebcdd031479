-- closing a state: what is put at its place, and what holds then
use Rattle.std.proofs.Common.{◌≡◌, ◌≢◌, ℕ, ◌+◌, ◌<◌, ◌≤◌, false, List, [], None, length, get_or, set, sym, ap, subst, ◌∙◌, arith, length-set}
use Rattle.std.specs.Prelude.{slice_get}
use Rattle.lrspec.specs.grammars.Grammar.{Symbol, Grammar, IsGrammar}
use Rattle.lrspec.specs.grammars.ItemSets.{Items, Fits, IsClosure}
use Rattle.lrspec.specs.merging.Graph.{edge_at}
use Rattle.lrplacing.specs.Construction.{Draft, core_at, closed_at, edge_from, with_closed, Stays, PlacesAll}
use Rattle.lrplacing.specs.Counts.{unclosed, weight}
use Rattle.lrplacing.specs.Invariant.{Holds, HasGotos, AllMayBePlaced}
use Rattle.lrplacing.specs.CandidatesOf.{CandidateLists, AreCandidates}
use Rattle.lritems.specs.Gotos.{AreGotosOf}
use Rattle.lrpager.specs.Closing.{Closes, ClosesTo}
use Rattle.lrplacing.proofs.DraftLists.{core_found, stays_put, edge_put}
use Rattle.lrplacing.proofs.DraftLists.{elsewhere as put_elsewhere}
use Rattle.lrplacing.proofs.ClosedLater.{elsewhere, length_with, core_with, edge_with, closed_with}
use Rattle.lrplacing.proofs.CandidateLists.{candidates_kept, same_cores}
use Rattle.lrpager.proofs.ClosedStates.{closes_holds}
use Rattle.lrpager.proofs.ClosedCounts.{closes_counted, closes_made}
use Rattle.lrplacing.proofs.PlacedGotos.{goto_may_be_placed}
use Rattle.lrplacing.proofs.PlacedWeight.{places_all_counted}
use Rattle.lrplacing.proofs.PlacedCounts.{places_all_made}
use Rattle.lrpager.proofs.ConstructionTurns.{closure_after, turn_holds, turn_gotos}
use Rattle.lrplacing.proofs.ChainGrowth.{places_chain}
use Rattle.lrplacing.proofs.PlacingTurns.{leaves_fit, gotos_at_hand, all_may_be_placed}

-- a copy of the core that was read at a place has the items of the one there
pub copied_core : (ss : List Draft) (i : ℕ) (s : Draft) {items : Items} → i < length ss → s ≡ get_or ss i s → items ≡ s.core → core_at ss i ≡ items
copied_core ss i s l at is = core_found ss i s l at ∙ sym is

-- the state `i` has no edges any more; all else stays
pub record IsCleared (old : List Draft) (i : ℕ) (new : List Draft) : Type 0 where
  pub length_is : length new ≡ length old
  pub stays : (j : ℕ) → Stays old new j
  pub others : (j : ℕ) → j ≢ i → slice_get new j ≡ slice_get old j
  pub edges : (y : Symbol) → edge_from new i y ≡ None

-- so it is where the state that was read at the place is put there without its edges
pub is_cleared :
    (old : List Draft) (i : ℕ) (s t : Draft) → i < length old → s ≡ get_or old i s → t.core ≡ s.core → t.is_closed ≡ s.is_closed → t.edges ≡ []
    → IsCleared old i (set old i t)
is_cleared old i s t l at core closed none = record {
  length_is = length-set old i t;
  stays = stays_put old i s t l at core closed;
  others = λ j n. put_elsewhere old i j t n;
  edges = λ y. edge_put old i t l y ∙ ap (λ es. edge_at es y) none;
}

-- candidates are those that they were where a state's edges are dropped
pub candidates_cleared : {old new : List Draft} {i : ℕ} {cs : CandidateLists} → IsCleared old i new → AreCandidates old cs → AreCandidates new cs
candidates_cleared c h = candidates_kept c.length_is (λ j b. same_cores (c.stays j).core) h

-- a state that has no edges any more and is noted as closed
closes_with : (old new : List Draft) (i : ℕ) → i < length old → closed_at old i ≡ false → IsCleared old i new → Closes old i (with_closed new i)
closes_with old new i l was c = record {
  length_is = length_with new i ∙ c.length_is;
  below = l;
  was = was;
  others = λ j n. elsewhere new i j n ∙ c.others j n;
  core = core_with new i i ∙ (c.stays i).core;
  edges = λ y. edge_with new i i y ∙ c.edges y;
  closed = closed_with new i (omega (arith, c.length_is, l));
}

-- the state that was read at the place, and the gotos of what its core closes to
pub closes_to :
    {g : Grammar} {old new : List Draft} {i : ℕ} {core c : Items} {gs : List (Symbol × Items)} → i < length old → closed_at old i ≡ false
    → core_at old i ≡ core → IsCleared old i new → IsClosure g core c → Fits g c → AreGotosOf g c gs → ClosesTo g old i (with_closed new i) gs
closes_to {g} {old} {new} {i} {core} {c} l was same cleared closure fits gotos = record {
  closed = c;
  closure = subst (λ a. IsClosure g a c) (sym same) closure;
  fits = fits;
  closes = closes_with old new i l was cleared;
  gotos = gotos;
}

-- candidates are those that they were where a state is noted as closed
pub candidates_with : (ss : List Draft) (i : ℕ) {cs : CandidateLists} → AreCandidates ss cs → AreCandidates (with_closed ss i) cs
candidates_with ss i h = candidates_kept (length_with ss i) (λ j b. same_cores (core_with ss i j)) h

module _
    {g : Grammar} {old mid : List Draft} {i : ℕ} {gs : List (Symbol × Items)} (shape : IsGrammar g) (m : ClosesTo g old i mid gs) (holds : Holds g old)
  where
    -- the invariant holds still
    pub closed_holds : Holds g mid
    closed_holds = closes_holds m.closes holds

    -- the gotos may be placed
    pub closed_gotos : AllMayBePlaced g mid i gs
    closed_gotos =
        let below : i < length mid = omega (arith, m.closes.length_is, m.closes.below) in
        all_may_be_placed g m.closed mid i gs (λ x a h. goto_may_be_placed shape closed_holds below (closure_after i m.closes m.closure) h) m.gotos.each

    module _ {new : List Draft} (p : PlacesAll i mid gs new) where
      -- what a whole turn keeps
      pub turned_holds : Holds g new
      turned_holds =
          turn_holds i shape (λ ss ts x a k h goes r. places_chain g ss ts i k x a h goes r) (leaves_fit i (λ ss ts k a w f. w.fits_kept g f)) m.closes
          m.closure (gotos_at_hand g m.closed gs m.gotos) p holds

      pub turned_gotos : ((k : ℕ) → HasGotos g old k) → (k : ℕ) → HasGotos g new k
      turned_gotos h = turn_gotos i m.closes m.closure (gotos_at_hand g m.closed gs m.gotos) p h

      pub turned_made : (n : ℕ) → length old ≤ n + unclosed old → length new ≤ n + 1 + unclosed new
      turned_made n h = places_all_made i p (n + 1) (closes_made g old mid i m.closes n h)

      pub turned_counted : (n : ℕ) → n + unclosed old ≤ weight g old → n + 1 + unclosed new ≤ weight g new
      turned_counted n h =
          places_all_counted g i p (λ x a k. ((gotos_at_hand g m.closed gs m.gotos).each x a k).fits) (n + 1) (closes_counted g old mid i m.closes n h)

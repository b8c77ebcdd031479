-- the gotos of what a core closes to: they may be placed, and where they are placed edges lead over them
use Rattle.std.proofs.Common.{◌≡◌, ◌≢◌, ℕ, ◌<◌, false, ◌&&◌, List, [], Some, length, refl, ap, ◌∙◌, inl, inr}
use Rattle.std.specs.Prelude.{◌==◌}
use Rattle.std.proofs.lemmas.Bool.{cases_lt, cases_Bool, ne_eqb, and_left, and_right}
use Rattle.lrspec.specs.grammars.Grammar.{Symbol, Grammar, IsGrammar}
use Rattle.lrspec.specs.grammars.ItemSets.{Items, HasItem, LooksIn, Fits, ClosedLook, IsClosure, IsGoto, IsBefore, Moved}
use Rattle.lrspec.proofs.grammars.ListMembers.{Among}
use Rattle.lrspec.specs.merging.Graph.{same_symbol}
use Rattle.lrspec.proofs.grammars.Closures.{closed_item_mono, closed_look_mono, moved_mono}
use Rattle.lrspec.proofs.merging.RootedCores.{followed}
use Rattle.lrspec.proofs.merging.SharingKept.{goto_shared}
use Rattle.lrplacing.specs.Construction.{Draft, core_at, edge_from, draft_core, PlacesOne}
use Rattle.lrplacing.specs.Invariant.{MayBePlaced, Holds, LeadsOver, HasGotos}
use Rattle.lrplacing.proofs.DraftFacts.{none_past, symbol_equal}
use Rattle.lrplacing.proofs.PlacedCores.{core_grown, goto_contained, edge_placed, closed_before, closed_grew_not}

-- a goto of what a core closes to, on a symbol before which that has an item
pub record IsGotoOf (g : Grammar) (c : Items) (x : Symbol) (a : Items) : Type 0 where
  pub goto : IsGoto g c x a
  pub fits : Fits g a
  pub some : (p : ℕ) × (d : ℕ) × HasItem c p d × IsBefore g p d x

-- it may be placed
pub goto_may_be_placed :
    {g : Grammar} {ss : List Draft} {i : ℕ} {c a : Items} {x : Symbol} → IsGrammar g → Holds g ss → i < length ss → IsClosure g (core_at ss i) c
    → IsGotoOf g c x a → MayBePlaced g ss i x a
goto_may_be_placed {ss = ss} {i = i} {c = c} {x = x} n h below closure m =
    let (ws, root, shared) = h.sharing i below in
    let (rooted, together) = goto_shared n root shared closure m.goto m.some in
    record {
      fits = m.fits;
      sharing = (followed ws x, rooted, together);
      items = λ p d. (
        λ j. moved_mono (λ q f. (closure.items q f).0) ((m.goto.items p d).0 j),
        λ j. (m.goto.items p d).1 (moved_mono (λ q f. (closure.items q f).1) j),
      );
    }

-- the gotos of what a core closes to: each is one of them, and there is one on every symbol before which that has an item
pub record AreGotosOf (g : Grammar) (c : Items) (gs : List (Symbol × Items)) : Type 0 where
  pub each : (x : Symbol) (a : Items) → Among (x, a) gs → IsGotoOf g c x a
  pub all : (p d : ℕ) (x : Symbol) → HasItem c p d → IsBefore g p d x → (a : Items) × Among (x, a) gs

-- the state to which the edge of the state `k` on `x` leads looks wherever `Look` does, with the dot moved over `x`
pub record LooksOver (g : Grammar) (ss : List Draft) (k : ℕ) (Look : ℕ → ℕ → ℕ → Type 0) (x : Symbol) : Type 0 where
  pub to : ℕ
  pub is : edge_from ss k x ≡ Some to
  pub looks : (p d t : ℕ) → Moved g x (λ q e. Look q e t) p d → LooksIn (core_at ss to) p d t

-- where `Look` does so wherever what the core of `k` closes to does, the goto of that is contained
pub leads_over_from :
    {g : Grammar} {ss : List Draft} {k : ℕ} {Look : ℕ → ℕ → ℕ → Type 0} {x : Symbol}
    → ((p d t : ℕ) → ClosedLook g (HasItem (core_at ss k)) (LooksIn (core_at ss k)) p d t → Look p d t) → LooksOver g ss k Look x
    → LeadsOver g ss k x
leads_over_from f h = record { to = h.to; is = h.is; looks = λ p d t m. h.looks p d t (moved_mono (λ q e l. f q e t l) m) }

module _ {old new : List Draft} {from : ℕ} {x : Symbol} {goto : Items} {k : ℕ} (m : PlacesOne old from x goto k new) where
  -- whatever its number a core looks where it looked
  core_looks_kept : (j p d t : ℕ) → LooksIn (core_at old j) p d t → LooksIn (core_at new j) p d t
  core_looks_kept j p d t l =
      elim (cases_lt j (length old)) [
        | inl lt ↦ (core_grown m j lt).looks p d t l
        | inr past ↦ let none : core_at old j ≡ [] = ap draft_core (none_past old j past) in absurd (rw none at l)
      ]

  -- an edge that isn't the placed one is kept
  pub edge_kept : (j : ℕ) (y : Symbol) → ((j == from) && same_symbol y x) ≡ false → edge_from new j y ≡ edge_from old j y
  edge_kept j y e = m.edges j y ∙ rw e refl

  looks_over_kept :
      {g : Grammar} {Look : ℕ → ℕ → ℕ → Type 0} (j : ℕ) (y : Symbol) → ((j == from) && same_symbol y x) ≡ false → LooksOver g old j Look y
      → LooksOver g new j Look y
  looks_over_kept j y e h = record {
    to = h.to;
    is = edge_kept j y e ∙ h.is;
    looks = λ p d t l. core_looks_kept h.to p d t (h.looks p d t l);
  }

  -- placing keeps the gotos of the other states
  pub places_gotos : {g : Grammar} (j : ℕ) → j ≢ from → HasGotos g old j → HasGotos g new j
  places_gotos {g} j n h c p d y item before =
      let back = closed_grew_not m j c in
      let over = h (closed_before m j c) p d y (closed_item_mono back.items item) before in
      let kept = looks_over_kept {g = g} {Look = ClosedLook g (HasItem (core_at old j)) (LooksIn (core_at old j))} j y (and_left (j == from) (same_symbol y x) (ne_eqb j from n))
      (record { to = over.to; is = over.is; looks = over.looks }) in
      leads_over_from (λ q e t l. closed_look_mono back.items back.looks l) kept

  -- the state to which the placed edge leads looks wherever the goto does
  pub looks_over_placed : {g : Grammar} {c : Items} → IsGoto g c x goto → LooksOver g new from (LooksIn c) x
  looks_over_placed n = record {
    to = k;
    is = edge_placed m;
    looks = λ p d t l. (goto_contained m).looks p d t ((n.looks p d t).1 l);
  }

  -- where that held of a goto it does so when a goto of the same state was placed
  pub looks_over_still : {g : Grammar} {c : Items} (y : Symbol) → IsGoto g c x goto → LooksOver g old from (LooksIn c) y → LooksOver g new from (LooksIn c) y
  looks_over_still y n h =
      elim (cases_Bool (same_symbol y x)) [
        | inl e ↦ rw (symbol_equal y x e) (looks_over_placed n)
        | inr e ↦ looks_over_kept from y (and_right (from == from) (same_symbol y x) e) h
      ]

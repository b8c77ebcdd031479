-- that a state is closed is noted only when its gotos were placed
use Rattle.std.proofs.Common.{◌≡◌, ◌≢◌, ℕ, zero, suc, ◌<◌, ◌+◌, Bool, true, false, List, [], ◌∷◌, length, get_or, set, Some, refl, sym, ap, ◌∙◌, ◌⊎◌, inl, inr, arith}
use Rattle.std.specs.Prelude.{slice_get, ◌==◌, ◌&&◌, ◌||◌, if◌then◌else◌, IsTrue, ◌↔◌}
use Rattle.std.proofs.lemmas.Bool.{cases_eq, false≢true}
use Rattle.lrspec.specs.grammars.Grammar.{Symbol}
use Rattle.lrspec.specs.grammars.ItemSets.{Items, LooksIn}
use Rattle.lrspec.specs.merging.Graph.{same_symbol}
use Rattle.lrplacing.specs.Construction.{Draft, draft_closed, core_at, closed_at, edge_from, with_closed, closed_unless, TellsGrowth, Stays, Gains, Grows, PlacesOne}

pub length_with : (ss : List Draft) (i : ℕ) → length (with_closed ss i) ≡ length ss
length_with [] i = refl
length_with (s ∷ ss) zero = refl
length_with (s ∷ ss) (suc i) = ap suc (length_with ss i)

pub elsewhere : (ss : List Draft) (i j : ℕ) → j ≢ i → slice_get (with_closed ss i) j ≡ slice_get ss j
elsewhere [] i j n = refl
elsewhere (s ∷ ss) zero zero n = absurd (n refl)
elsewhere (s ∷ ss) zero (suc j) n = refl
elsewhere (s ∷ ss) (suc i) zero n = refl
elsewhere (s ∷ ss) (suc i) (suc j) n = elsewhere ss i j (λ e. n (ap suc e))

pub core_with : (ss : List Draft) (i j : ℕ) → core_at (with_closed ss i) j ≡ core_at ss j
core_with [] i j = refl
core_with (s ∷ ss) zero zero = refl
core_with (s ∷ ss) zero (suc j) = refl
core_with (s ∷ ss) (suc i) zero = refl
core_with (s ∷ ss) (suc i) (suc j) = core_with ss i j

pub edge_with : (ss : List Draft) (i j : ℕ) (y : Symbol) → edge_from (with_closed ss i) j y ≡ edge_from ss j y
edge_with [] i j y = refl
edge_with (s ∷ ss) zero zero y = refl
edge_with (s ∷ ss) zero (suc j) y = refl
edge_with (s ∷ ss) (suc i) zero y = refl
edge_with (s ∷ ss) (suc i) (suc j) y = edge_with ss i j y

pub closed_with : (ss : List Draft) (i : ℕ) → i < length ss → closed_at (with_closed ss i) i ≡ true
closed_with [] i l = absurd (omega arith)
closed_with (s ∷ ss) zero l = refl
closed_with (s ∷ ss) (suc i) l = closed_with ss i (omega arith)

pub closed_elsewhere : (ss : List Draft) (i j : ℕ) → j ≢ i → closed_at (with_closed ss i) j ≡ closed_at ss j
closed_elsewhere ss i j n = ap draft_closed (elsewhere ss i j n)

pub length_unless : (grew : Bool) (ss : List Draft) (i : ℕ) → length (closed_unless grew ss i) ≡ length ss
length_unless true ss i = refl
length_unless false ss i = length_with ss i

pub core_unless : (grew : Bool) (ss : List Draft) (i j : ℕ) → core_at (closed_unless grew ss i) j ≡ core_at ss j
core_unless true ss i j = refl
core_unless false ss i j = core_with ss i j

-- the state is noted as closed
pub set_with :
    (ss : List Draft) (i : ℕ) (s t : Draft) → i < length ss → s ≡ get_or ss i s → t.core ≡ s.core → t.edges ≡ s.edges → t.is_closed ≡ true
    → set ss i t ≡ with_closed ss i
set_with [] i s t l e core edges closed = absurd (omega arith)
set_with (r ∷ ss) zero s t l e core edges closed =
    let is : t ≡ record { core = r.core; is_closed = true; edges = r.edges } = rw (← e, ← core, ← edges, ← closed) refl in
    ap (λ d. d ∷ ss) is
set_with (r ∷ ss) (suc i) s t l e core edges closed = ap (λ ds. r ∷ ds) (set_with ss i s t (omega arith) e core edges closed)

grows_by :
    {old new a b : List Draft} {k : ℕ} {goto : Items} → length a ≡ length old → length b ≡ length new → core_at a k ≡ core_at old k → core_at b k ≡ core_at new k
    → (((p d t : ℕ) → LooksIn (core_at new k) p d t → LooksIn (core_at old k) p d t) × (closed_at b k ≡ closed_at a k))
    ⊎ ((closed_at b k ≡ false) × Gains (core_at old k) (core_at new k)) → Grows old new k goto → Grows a b k goto
grows_by l m e f closed g = record {
  length_is = m ∙ g.length_is ∙ sym l;
  items = rw e g.items;
  fits = elim g.fits [ inl h ↦ inl (f ∙ h ∙ sym e) | inr w ↦ inr (rw e w) ];
  union = rw (e, f) g.union;
  fits_kept = λ n q. rw f (g.fits_kept n (rw e at q));
  closed = rw (e, f) closed;
}

module _
    {old new : List Draft} {from : ℕ} {x : Symbol} {goto : Items} {k : ℕ} (p : PlacesOne old from x goto k new) (below : from < length old)
    (unclosed : closed_at old from ≡ false)
  where
    longer : from < length new
    longer = elim p.how [ inl m ↦ omega (arith, m.length_is, below) | inr m ↦ omega (arith, m.length_is, below) ]

    -- the state is to be closed still
    pub still_unclosed : closed_at new from ≡ false
    still_unclosed =
        elim (cases_eq from k) [
          | inl e ↦ elim p.how [
            | inl m ↦ elim m.closed [ inl h ↦ rw e (h.1 ∙ rw e at unclosed) | inr h ↦ rw e h.0 ]
            | inr m ↦ rw e m.closed
          ]
          | inr n ↦ (p.others from n).closed ∙ unclosed
        ]

    edges_kept :
        (j : ℕ) (y : Symbol)
        → edge_from (with_closed new from) j y ≡ if ((j == from) && same_symbol y x) then Some k else edge_from (with_closed old from) j y
    edges_kept j y =
        edge_with new from j y ∙ p.edges j y ∙ ap (λ o. if ((j == from) && same_symbol y x) then Some k else o) (sym (edge_with old from j y))

    others_kept : (j : ℕ) → j ≢ k → Stays (with_closed old from) (with_closed new from) j
    others_kept j n = record {
      core = core_with new from j ∙ (p.others j n).core ∙ sym (core_with old from j);
      closed = elim (cases_eq j from) [
        | inl e ↦ rw e (closed_with new from longer ∙ sym (closed_with old from below))
        | inr m ↦ closed_elsewhere new from j m ∙ (p.others j n).closed ∙ sym (closed_elsewhere old from j m)
      ];
    }

    -- a goto that was placed elsewhere
    at_other : k ≢ from → PlacesOne (with_closed old from) from x goto k (with_closed new from)
    at_other n = record {
      taken = rw (length_with new from) p.taken;
      edges = edges_kept;
      others = others_kept;
      how = elim p.how [
        | inl m ↦ inl (grows_by (length_with old from) (length_with new from) (core_with old from k) (core_with new from k) (rw (closed_elsewhere new from k n, closed_elsewhere old from k n) m.closed) m)
        | inr m ↦ inr (record {
          length_is = length_with new from ∙ m.length_is ∙ ap (λ l. l + 1) (sym (length_with old from));
          last = m.last ∙ sym (length_with old from);
          core = core_with new from k ∙ m.core;
          closed = closed_elsewhere new from k n ∙ m.closed;
          clashes = λ j l s. rw (core_with old from j) (m.clashes j (rw (length_with old from) at l) (rw (core_with old from j) at s));
        })
      ];
    }

    module _ {grew : Bool} (how_grown : k < length old → TellsGrowth grew (core_at old k) (core_at new k)) where
      -- a goto that did not grow the state
      here_same : k ≡ from → grew ≡ false → PlacesOne (with_closed old from) from x goto k (with_closed new from)
      here_same e f = record {
        taken = rw (length_with new from) p.taken;
        edges = edges_kept;
        others = others_kept;
        how = elim p.how [
          | inl m ↦ inl (grows_by (length_with old from) (length_with new from) (core_with old from k) (core_with new from k) (inl ((how_grown (rw e below)).1 f, rw e (closed_with new from longer ∙ sym (closed_with old from below)))) m)
          | inr m ↦ absurd (omega (arith, m.last, e, below))
        ];
      }

      -- a goto that grew it
      here_grown : k ≡ from → grew ≡ true → PlacesOne (with_closed old from) from x goto k new
      here_grown e f = record {
        taken = p.taken;
        edges = λ j y. p.edges j y ∙ ap (λ o. if ((j == from) && same_symbol y x) then Some k else o) (sym (edge_with old from j y));
        others = λ j n. record {
          core = (p.others j n).core ∙ sym (core_with old from j);
          closed = (p.others j n).closed ∙ sym (closed_elsewhere old from j (λ h. n (h ∙ sym e)));
        };
        how = elim p.how [
          | inl m ↦ inl (grows_by (length_with old from) refl (core_with old from k) refl (inr (rw e still_unclosed, (how_grown (rw e below)).0 f)) m)
          | inr m ↦ absurd (omega (arith, m.last, e, below))
        ];
      }

      -- so a goto was placed among the states of which this one is closed, unless the state has grown
      pub placed_turn :
          (before now : Bool) → IsTrue now ↔ ((k ≡ from) × (grew ≡ true))
          → PlacesOne (closed_unless before old from) from x goto k (closed_unless (before || now) new from)
      placed_turn true now h = p
      placed_turn false true h = here_grown (h.0 refl).0 (h.0 refl).1
      placed_turn false false h =
          elim (cases_eq k from) [
            | inl e ↦ go grew refl e
            | inr m ↦ at_other m
          ]
        where
          go : (b : Bool) → grew ≡ b → k ≡ from → PlacesOne (with_closed old from) from x goto k (with_closed new from)
          go true f e = absurd (false≢true (h.1 (e, f)))
          go false f e = here_same e f

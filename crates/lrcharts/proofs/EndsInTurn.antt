-- the ends of a symbol, set one after another
use Rattle.std.proofs.Common.{◌≡◌, ℕ, ◌+◌, ◌-◌, ◌*◌, ◌<◌, ◌≤◌, Bool, true, List, [], ◌∷◌, length, refl, ◌∙◌, Some, ◌⊎◌, inl, inr, arith}
use Rattle.std.specs.Prelude.{IsTrue, Contains, ◌↔◌, slice_set, slice_get}
use Rattle.lrspec.specs.grammars.Grammar.{Symbol}
use Rattle.lrspec.proofs.grammars.ListMembers.{Among, among_from_contains, contains_from_among}
use Rattle.lrbits.specs.Bits.{bit}
use Rattle.lrcharts.specs.Charts.{HasSpan, Laid, KeepsBits, row_of, symbols_of}
use Rattle.lrgrammar.specs.Symbols.{number_of, symbol_of}
use Rattle.lrgrammar.specs.declared.idx.Symbol as code
use Rattle.lrcharts.specs.Charts as chart
use Rattle.lrcharts.specs.declared.charts.Chart.{Chart}
use Rattle.lrcharts.proofs.BitsInTurn.{set_here, set_keeps}

-- the bits of the places that are left are yet to be set
pub record AreAdding (c : Chart) (x : Symbol) (from start : ℕ) (old ends : List Bool) (left : List ℕ) : Type 0 where
  pub places : length ends ≡ c.places
  pub kept : KeepsBits old ends
  pub inside : (k : ℕ) → Among k left → (start ≡ from * 128) × (start ≤ k) × (k < start + c.places)
  pub done : (to : ℕ) → HasSpan c x from to → IsTrue (bit ends to) ⊎ Among (from * 128 + to) left

module _ (c : Chart) (x : Symbol) (from start end : ℕ) where
  pub begin_adding :
      (row old : List Bool) (left : List ℕ) → row ≡ row_of c x → length old ≡ c.places → (start < end → start ≡ from * 128) → end ≤ from * 128 + c.places
      → ((to : ℕ) → to < c.places → IsTrue (bit row (from * 128 + to)) → (start ≤ from * 128 + to) × (from * 128 + to < end))
      → ((k : ℕ) → Contains left k ↔ ((start ≤ k) × (k < end) × IsTrue (bit row k))) → AreAdding c x from start old old left
  begin_adding row old left is places begins ends all members = record {
    places = places;
    kept = λ i set. set;
    inside = λ k among.
        let m = (members k).0 (contains_from_among k left among) in
        let first = begins (omega (arith, m.0, m.1)) in (first, m.0, omega (arith, m.1, ends, first));
    done = λ to span.
        let set : IsTrue (bit row (from * 128 + to)) = rw is span.is_set in
        let within = all to span.last set in inr (among_from_contains (from * 128 + to) left ((members (from * 128 + to)).1 (within.0, within.1, set)));
  }

  pub next_adding :
      (old ends new : List Bool) (k : ℕ) (left rest : List ℕ) → left ≡ k ∷ rest → new ≡ slice_set ends (k - start) true → length new ≡ length ends
      → AreAdding c x from start old ends left → AreAdding c x from start old new rest
  next_adding old ends new k left rest e set same adding =
      let here = adding.inside k (rw e (inl refl)) in
      let kept : KeepsBits ends new = λ i is. rw set (set_keeps ends (k - start) i is) in record {
        places = same ∙ adding.places;
        kept = λ i is. kept i (adding.kept i is);
        inside = λ i among. adding.inside i (rw e (inr among));
        done = λ to span. elim (adding.done to span) [
          | inl is ↦ inl (kept to is)
          | inr among ↦ next to (rw e at among)
        ];
      }
    where
      next : (to : ℕ) → Among (from * 128 + to) (k ∷ rest) → IsTrue (bit new to) ⊎ Among (from * 128 + to) rest
      next to (inr among) = inr among
      next to (inl is) =
          let here = adding.inside k (rw e (inl refl)) in
          let place : k - start ≡ to = omega (arith, is, here.0) in
          let within : to < length ends = omega (arith, here.0, here.2, is, adding.places) in
          inl (rw (set, place) (set_here ends to within))

  pub all_added :
      (old ends : List Bool) (left : List ℕ) → left ≡ [] → AreAdding c x from start old ends left → (to : ℕ) → HasSpan c x from to → IsTrue (bit ends to)
  all_added old ends left e adding to span = elim (adding.done to span) [
    | inl is ↦ is
    | inr among ↦ absurd (none (rw e at among))
  ]
    where
      none : Among (from * 128 + to) [] → ⊥
      none among = among

-- where the first of some symbols is derived from nowhere, they lead nowhere
pub first_derived :
    {c : Chart} (xs : List (code.Symbol ℕ)) (x : code.Symbol ℕ) {i j : ℕ} → Some x ≡ slice_get xs 0 → ((to : ℕ) → ¬ (HasSpan c (symbol_of number_of x) i to))
    → ¬ (Laid c (symbols_of xs) i j)
first_derived [] x e none laid = cc
first_derived (y ∷ ys) x e none (chart.Laid.more {k = k} h l) = let same : y ≡ x = cc in none k (rw same at h)

-- the cells whose shifts precedences take away, one resolution after another
use Rattle.std.proofs.Common.{◌≡◌, ◌+◌, ◌<◌, ℕ, Bool, true, false, cond, List, length, map, take, get_or, refl, sym, ap, ◌∙◌, arith}
use Rattle.std.specs.Prelude.{◌==◌, ◌&&◌, ◌||◌, ◌≤◌, not}
use Rattle.std.specs.List.{list_any}
use Rattle.std.specs.BTreeMap.{is_at}
use Rattle.std.specs.BTreeSet.{BTreeSet, contains}
use Rattle.std.proofs.lemmas.Bool.Decides.{nat_tests}
use Rattle.std.proofs.lemmas.List.{take_more, take_all, map-append}
use Rattle.std.proofs.lemmas.List.Folds.{list_any-append}
use Rattle.lrfindings.specs.declared.cells.Resolved.{Resolved}
use Rattle.lrfindings.specs.declared.cells.Outcome.TheVariants.{Won}
use Rattle.lrfindings.specs.CellConflicts.{leaves_shift}
use Rattle.lrfindings.specs.Cells.{Cell, cell_cmp, has_cell}
use Rattle.lrfindings.specs.ReachedStates.{takes_away, is_taken_away}
use Rattle.lrfindings.specs.StoredCells.{resolution}

-- a cell is at its own place alone
cell_at : (c d : Cell) → is_at (cell_cmp c) d ≡ (c.0 == d.0) && (c.1 == d.1)
cell_at c d = grind (arith, nat_tests)

-- one resolution more
more : (s t : ℕ) (rs : List Resolved) (i : ℕ) (d : Resolved) → i < length rs
    → is_taken_away (map resolution (take (i + 1) rs)) s t ≡ is_taken_away (map resolution (take i rs)) s t || (takes_away s t (resolution (get_or rs i d)) || false)
more s t rs i d l =
    ap (λ l. list_any (takes_away s t) (map resolution l)) (take_more rs i d l)
    ∙ ap (list_any (takes_away s t)) (map-append resolution (take i rs) _)
    ∙ list_any-append (takes_away s t) (map resolution (take i rs)) _

module _ (rs : List Resolved) (i : ℕ) (cells : BTreeSet Cell) where
  -- the set has those of the resolutions so far
  abbrev pub AreTaken : Type 0
  AreTaken = (s t : ℕ) → has_cell cells s t ≡ is_taken_away (map resolution (take i rs)) s t

off : (a b : Bool) → (a && b && false) ≡ false
off true true = refl
off true false = refl
off false true = refl
off false false = refl

or_none : (b : Bool) → (b || (false || false)) ≡ b
or_none true = refl
or_none false = refl

either : (a b o : Bool) → cond (a && b) true o ≡ (o || ((a && b && true) || false))
either true true true = refl
either true true false = refl
either true false true = refl
either true false false = refl
either false true true = refl
either false true false = refl
either false false true = refl
either false false false = refl

-- a set without cells has those of no resolution
pub none_taken : (rs : List Resolved) (cells : BTreeSet Cell) → ((s t : ℕ) → has_cell cells s t ≡ false) → AreTaken rs 0 cells
none_taken rs cells empty s t = empty s t

-- all are those so far behind the last one
pub all_taken : (rs : List Resolved) (i : ℕ) (cells : BTreeSet Cell) → length rs ≤ i → AreTaken rs i cells → (s t : ℕ) → has_cell cells s t ≡ is_taken_away (map resolution rs) s t
all_taken rs i cells l are s t = are s t ∙ ap (λ l. is_taken_away (map resolution l) s t) (take_all i rs l)

module _ (rs : List Resolved) (i : ℕ) (d : Resolved) (l : i < length rs) (cells : BTreeSet Cell) (are : AreTaken rs i cells) where
  -- one at which the shift stands takes nothing away
  pub shift_passed : leaves_shift (Won (get_or rs i d).winner) ≡ true → AreTaken rs (i + 1) cells
  shift_passed stands s t =
      let r = get_or rs i d in
      are s t
      ∙ sym (more s t rs i d l
      ∙ ap (λ b. is_taken_away (map resolution (take i rs)) s t || ((((r.entry.state == s) && (r.entry.token == t)) && not b) || false)) stands
      ∙ ap (λ b. is_taken_away (map resolution (take i rs)) s t || (b || false)) (off (r.entry.state == s) (r.entry.token == t))
      ∙ or_none _)

  -- any other one takes its cell
  pub shift_taken :
      (new : BTreeSet Cell) → leaves_shift (Won (get_or rs i d).winner) ≡ false
      → ((q : Cell) → contains cell_cmp new q ≡ cond (is_at (cell_cmp ((get_or rs i d).entry.state, (get_or rs i d).entry.token)) q) true (contains cell_cmp cells q))
      → AreTaken rs (i + 1) new
  shift_taken new falls put s t =
      let r = get_or rs i d in
      put (s, t)
      ∙ ap (λ b. cond b true (has_cell cells s t)) (cell_at (r.entry.state, r.entry.token) (s, t))
      ∙ ap (cond ((r.entry.state == s) && (r.entry.token == t)) true) (are s t)
      ∙ either (r.entry.state == s) (r.entry.token == t) _
      ∙ sym (more s t rs i d l
      ∙ ap (λ b. is_taken_away (map resolution (take i rs)) s t || ((((r.entry.state == s) && (r.entry.token == t)) && not b) || false)) falls)

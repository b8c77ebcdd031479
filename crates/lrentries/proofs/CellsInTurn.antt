-- cells that are put into a set one after the other, and what it means that others are not in it
use Rattle.std.proofs.Common.{◌≡◌, ◌≢◌, ◌+◌, ◌<◌, ℕ, Bool, true, false, cond, List, length, take, get_or, refl, ap, ◌∙◌, arith}
use Rattle.std.specs.Prelude.{All}
use Rattle.std.specs.Ordering.{nat_cmp}
use Rattle.std.specs.declared.cmp.Ordering.TheVariants.{Equal}
use Rattle.std.specs.BTreeMap.{is_at}
use Rattle.std.specs.BTreeSet.{BTreeSet, contains}
use Rattle.std.proofs.lemmas.Bool.Decides.{nat_tests}
use Rattle.std.proofs.lemmas.List.Elements.{All-more, All-map}
use Rattle.lrfindings.specs.declared.cells.Resolved.{Resolved}
use Rattle.lrfindings.specs.declared.findings.Findings.{Findings}
use Rattle.lrfindings.specs.Cells.{Cell, cell_cmp}
use Rattle.lrentries.specs.Cells.{HasCell, LacksCell}
use Rattle.lrentries.specs.Losses.{cell_of, listed_cells, ResolvesPairs}

-- a number is in its own place
same_number : (n : ℕ) → nat_cmp n n ≡ Equal
same_number n = grind (arith, nat_tests)

-- and so is a cell
same_cell : (c : Cell) → is_at (cell_cmp c) c ≡ true
same_cell c = rw (same_number c.0, same_number c.1) refl

either : (b : Bool) → cond b true true ≡ true
either true = refl
either false = refl

module _ (s n : BTreeSet Cell) (key : Cell) (put : (q : Cell) → contains cell_cmp n q ≡ cond (is_at (cell_cmp key) q) true (contains cell_cmp s q)) where
  -- the set has the cell that was put in
  has_key : HasCell n key
  has_key = put key ∙ ap (λ b. cond b true (contains cell_cmp s key)) (same_cell key)

  -- and those that it had
  keeps : (q : Cell) → HasCell s q → HasCell n q
  keeps q has = put q ∙ ap (λ b. cond (is_at (cell_cmp key) q) true b) has ∙ either (is_at (cell_cmp key) q)

  -- it has the cells of one more
  pub put_more :
      (rs : List Resolved) (i : ℕ) (d : Resolved) → i < length rs → key ≡ cell_of (get_or rs i d).entry
      → All (λ r. HasCell s (cell_of r.entry)) (take i rs) → All (λ r. HasCell n (cell_of r.entry)) (take (i + 1) rs)
  put_more rs i d l is before =
      All-more (λ r. HasCell n (cell_of r.entry)) rs i d l (λ k e m. keeps _ (before k e m)) (rw is at has_key)

-- where a set has the cells in which precedences resolve something, and none of those of the conflicts, these are apart
pub apart :
    (cells : BTreeSet Cell) (f : Findings) → All (λ r. HasCell cells (cell_of r.entry)) f.resolved.items
    → All (λ e. LacksCell cells (cell_of e)) f.conflicts.items → ResolvesPairs f
apart cells f has lacks =
    All-map (λ c. All (λ d. c ≢ d) (listed_cells f)) (λ (r : Resolved). cell_of r.entry) f.resolved.items
    (λ k r l. All-map (λ d. cell_of (get_or f.resolved.items k r).entry ≢ d) cell_of f.conflicts.items
    (λ j e m. λ same. let one = has k r l in let other = lacks j e m in let both = ap (contains cell_cmp cells) same in cc))

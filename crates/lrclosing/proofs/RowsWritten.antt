-- rows that stay: what they are as rows, and one that is written
use Rattle.std.proofs.Common.{◌≡◌, ◌≢◌, ℕ, zero, suc, ◌<◌, ◌≤◌, Bool, true, false, List, [], ◌∷◌, ◌++◌, ◌+◌, None, Some, length, get_or, set, length-set, replicate, take, drop, refl, sym, ap, ◌∙◌, arith, ◌⊎◌, inl, inr, ⊎_elim}
use Rattle.std.specs.Prelude.{IsTrue, slice_get, if◌then◌else◌}
use Rattle.std.specs.Option.{IsSome}
use Rattle.std.proofs.lemmas.Option.{same_Some, slice_get-get_or}
use Rattle.std.proofs.lemmas.List.{length-append, length-replicate, take_all, drop_all}
use mathlib.Core.List.{append-nil}
use Rattle.lrspec.specs.grammars.Grammar.{Grammar, token_count}
use Rattle.lrbits.specs.Bits.{bit}
use Rattle.lrclosing.specs.declared.closer.Row.{Row}
use Rattle.lrclosing.specs.Rows.{row_at, HasToken, AreRows}
use Rattle.lrclosing.specs.Visits.{HasNone}
use Rattle.lrclosing.specs.Leads.{row_in, rows_in, IsRow, AreKeptRows}
use Rattle.lrclosing.proofs.VisitedItems.{clear_bits}
use Rattle.lrclosing.proofs.LeadsOfRule.{pushed_cases}

-- the row at a place
pub row_here : (rs : List Row) (a : ℕ) (r : Row) → slice_get rs a ≡ Some r → row_at (rows_in rs) a ≡ row_in r
row_here [] a r e = cc
row_here (x ∷ rs) zero r e = ap row_in (same_Some x r e)
row_here (x ∷ rs) (suc a) r e = row_here rs a r e

row_there : (rs : List Row) (a : ℕ) (v : List Bool) → row_at (rows_in rs) a ≡ Some v → (r : Row) × (slice_get rs a ≡ Some r) × (row_in r ≡ Some v)
row_there [] a v e = cc
row_there (x ∷ rs) zero v e = (x, refl, e)
row_there (x ∷ rs) (suc a) v e = row_there rs a v e

pub rows_set : (rs : List Row) (b : ℕ) (r : Row) → rows_in (set rs b r) ≡ set (rows_in rs) b (row_in r)
rows_set [] b r = refl
rows_set (x ∷ rs) zero r = refl
rows_set (x ∷ rs) (suc b) r = ap (λ l. row_in x ∷ l) (rows_set rs b r)

pub length_rows : (rs : List Row) → length (rows_in rs) ≡ length rs
length_rows [] = refl
length_rows (x ∷ rs) = ap suc (length_rows rs)

-- an element at a place, and after a write
pub some_at : {X : Type 0} (xs : List X) (a : ℕ) → a < length xs → (x : X) × (slice_get xs a ≡ Some x)
some_at [] a h = absurd (omega arith)
some_at (x ∷ xs) zero h = (x, refl)
some_at (x ∷ xs) (suc a) h = some_at xs a (omega arith)

pub written_here : {X : Type 0} (xs : List X) (b : ℕ) (x : X) → b < length xs → slice_get (set xs b x) b ≡ Some x
written_here [] b x h = absurd (omega arith)
written_here (z ∷ xs) zero x h = refl
written_here (z ∷ xs) (suc b) x h = written_here xs b x (omega arith)

pub written_there : {X : Type 0} (xs : List X) (b a : ℕ) (x : X) → a ≢ b → slice_get (set xs b x) a ≡ slice_get xs a
written_there [] b a x n = refl
written_there (z ∷ xs) zero zero x n = absurd (n refl)
written_there (z ∷ xs) zero (suc a) x n = refl
written_there (z ∷ xs) (suc b) zero x n = refl
written_there (z ∷ xs) (suc b) (suc a) x n = written_there xs b a x (λ e. n (ap suc e))

pub written_cases : {X : Type 0} (xs : List X) (b a : ℕ) (x y : X) → slice_get (set xs b x) a ≡ Some y → (x ≡ y) ⊎ (slice_get xs a ≡ Some y)
written_cases [] b a x y e = cc
written_cases (z ∷ xs) zero zero x y e = inl (same_Some x y e)
written_cases (z ∷ xs) zero (suc a) x y e = inr e
written_cases (z ∷ xs) (suc b) zero x y e = inr e
written_cases (z ∷ xs) (suc b) (suc a) x y e = written_cases xs b a x y e

-- a row that is written keeps the others
pub kept_written : (g : Grammar) (rs new : List Row) (b : ℕ) (r : Row) → AreKeptRows g rs → IsRow g r → new ≡ set rs b r → AreKeptRows g new
kept_written g rs new b r k i e = rw e (record {
  len = length-set rs b r ∙ k.len;
  each = λ a x h. ⊎_elim
      (λ (s : r ≡ x). rw s at i)
      (λ (s : slice_get rs a ≡ Some x). k.each a x s)
      (written_cases rs b a r x h);
})

-- a row of a rule that is reached
pub row_reached : (g : Grammar) (v : List Bool) → length v ≡ token_count g → IsRow g (record { ctx = v; is_reached = true })
row_reached g v e = record { bits = e; empty = λ h. absurd cc }

pub row_is_reached : (g : Grammar) (y : Row) → length y.ctx ≡ token_count g → y.is_reached ≡ true → IsRow g y
row_is_reached g y e h = record { bits = e; empty = λ k. let c : true ≡ false = sym h ∙ k in absurd cc }

-- one of a rule that isn't
pub row_not_reached : (g : Grammar) (v : List Bool) → v ≡ replicate (token_count g) false → IsRow g (record { ctx = v; is_reached = false })
row_not_reached g v e = record { bits = ap length e ∙ length-replicate (token_count g) false; empty = λ h. rw e (clear_bits (token_count g)) }

-- one row more
pub rows_more :
    (P : Row → Type 0) (rs new : List Row) (r : Row) → ((a : ℕ) (x : Row) → slice_get rs a ≡ Some x → P x) → new ≡ rs ++ r ∷ [] → P r → (a : ℕ) (x : Row)
    → slice_get new a ≡ Some x → P x
rows_more P rs new r k e i a x h =
    let s : slice_get (rs ++ r ∷ []) a ≡ Some x = rw e at h in
    ⊎_elim (λ (j : slice_get rs a ≡ Some x). k a x j) (λ (j : r ≡ x). rw j at i) (pushed_cases rs r x a s)

pub pushed_len : {X : Type 0} (xs new : List X) (x : X) (n : ℕ) → new ≡ xs ++ x ∷ [] → length xs ≡ n → length new ≡ n + 1
pushed_len xs new x n e l = rw e (omega (arith, length-append xs (x ∷ []), l))

-- a vector whose slice is written whole
pub written_whole : {X : Type 0} (n : ℕ) (old new : List X) → length new ≡ length old → n ≡ length old → take n (new ++ drop (length new) old) ≡ new
written_whole n old new e h =
    let past : drop (length new) old ≡ [] = drop_all (length new) old (omega (arith, e)) in
    let enough : length new ≤ n = omega (arith, e, h) in
    rw (past, append-nil new) (take_all n new enough)

-- an element that is read
pub read_at : {X : Type 0} (xs : List X) (i : ℕ) (d x : X) → x ≡ get_or xs i d → i < length xs → slice_get xs i ≡ Some x
read_at xs i d x e h = slice_get-get_or xs i d h ∙ ap (λ z. Some z) (sym e)

bits_of : (x v : List Bool) (b : Bool) (n : ℕ) → (if b then Some x else None) ≡ Some v → length x ≡ n → length v ≡ n
bits_of x v true n e h = let s : x ≡ v = same_Some x v e in rw s at h
bits_of x v false n e h = cc

-- they are rows of the grammar
pub are_rows : (g : Grammar) (rs : List Row) → AreKeptRows g rs → AreRows g (rows_in rs)
are_rows g rs k = record {
  rules = length_rows rs ∙ k.len;
  bits = λ r v e. let x = row_there rs r v e in bits_of x.0.ctx v x.0.is_reached (token_count g) x.2 ((k.each r x.0 x.1).bits);
}

not_reached : (x : List Bool) (b : Bool) → b ≡ false → (if b then Some x else None) ≡ None
not_reached x true e = cc
not_reached x false e = refl

-- rows that are clear are none
pub rows_clear : (rs : List Row) → ((a : ℕ) (r : Row) → slice_get rs a ≡ Some r → r.is_reached ≡ false) → (a : ℕ) → row_at (rows_in rs) a ≡ None
rows_clear [] c a = refl
rows_clear (x ∷ rs) c zero = not_reached x.ctx x.is_reached (c zero x refl)
rows_clear (x ∷ rs) c (suc a) = rows_clear rs (λ k r h. c (suc k) r h) a

-- a row that is there is its tokens
pub some_tokens : (x : List Bool) (b : Bool) → IsSome (if b then Some x else None) → (if b then Some x else None) ≡ Some x
some_tokens x true h = refl
some_tokens x false h = cc

-- the tokens of a row
pub token_in : (x : List Bool) (b : Bool) (t : ℕ) → (b ≡ false → HasNone x) → IsTrue (bit x t) → HasToken (if b then Some x else None) t
token_in x true t n h = h
token_in x false t n h = absurd (n refl t h)

pub token_out : (x : List Bool) (b : Bool) (t : ℕ) → HasToken (if b then Some x else None) t → IsTrue (bit x t)
token_out x true t h = h
token_out x false t h = absurd h

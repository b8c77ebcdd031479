-- the first of the listed items that looks at a token, as a loop goes along them
use Rattle.std.proofs.Common.{◌≡◌, ℕ, ◌+◌, ◌<◌, ◌≤◌, Bool, true, false, List, ◌∷◌, length, map}
use Rattle.std.proofs.Common.{get_or, drop, Option, None, Some, sym, ap, ◌∙◌}
use Rattle.std.specs.Prelude.{slice_index_or, if◌then◌else◌}
use Rattle.std.proofs.lemmas.List.{at_drop_more, at_drop_all}
use Rattle.lrrows.specs.StateRows.{first_at}

module _ {X : Type 0} (shown : X → ℕ × List Bool) (xs : List X) (i t : ℕ) where
  -- the next item where it looks at the token, or else the first of those behind it that does
  abbrev behind : X → Bool → Option ℕ
  behind x b = if b then Some (shown x).0 else first_at (map shown (drop (i + 1) xs)) t

  -- the next item is asked before those behind it
  item_asked :
      (x : X) (b : Bool) → i < length xs → x ≡ get_or xs i x
      → b ≡ slice_index_or (shown x).1 t false → first_at (map shown (drop i xs)) t ≡ behind x b
  item_asked x b l is bit =
      at_drop_more (λ ys. first_at (map shown ys) t) xs i x l
      ∙ ap (λ y. first_at (map shown (y ∷ drop (i + 1) xs)) t) (sym is)
      ∙ ap (behind x) (sym bit)

  -- it looks at the token
  pub item_looks :
      (x : X) (b : Bool) → i < length xs → x ≡ get_or xs i x
      → b ≡ slice_index_or (shown x).1 t false → b ≡ true
      → first_at (map shown (drop i xs)) t ≡ first_at (map shown xs) t
      → Some (shown x).0 ≡ first_at (map shown xs) t
  item_looks x b l is bit looks before =
      sym (item_asked x b l is bit ∙ ap (behind x) looks) ∙ before

  -- it doesn't
  pub item_passed :
      (x : X) (b : Bool) → i < length xs → x ≡ get_or xs i x
      → b ≡ slice_index_or (shown x).1 t false → b ≡ false
      → first_at (map shown (drop i xs)) t ≡ first_at (map shown xs) t
      → first_at (map shown (drop (i + 1) xs)) t ≡ first_at (map shown xs) t
  item_passed x b l is bit not_looks before =
      sym (item_asked x b l is bit ∙ ap (behind x) not_looks) ∙ before

  -- none of them does
  pub none_looks :
      length xs ≤ i → first_at (map shown (drop i xs)) t ≡ first_at (map shown xs) t
      → None ≡ first_at (map shown xs) t
  none_looks past before = sym (at_drop_all (λ ys. first_at (map shown ys) t) xs i past) ∙ before

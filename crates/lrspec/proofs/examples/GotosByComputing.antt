-- tests whether an item set fits the grammar, and is the goto of another
use Rattle.std.proofs.Common.{◌≡◌, ℕ, zero, suc, Bool, true, false, not, ◌&&◌, ◌||◌, List, [], ◌∷◌, length, refl, ◌↔◌}
use Rattle.std.specs.Prelude.{◌==◌, nat_lt, nat_le, slice_index_or}
use Rattle.std.specs.List.{list_all}
use Rattle.std.proofs.lemmas.Bool.{and_parts, eqb-true, ltb-true, leb-true}
use Rattle.lrspec.specs.grammars.Grammar.{Symbol, Grammar, token_count, body_of, rest}
use Rattle.lrspec.specs.grammars.ItemSets as set
use Rattle.lrspec.specs.grammars.ItemSets.{Items, item_at, HasItem, LooksIn, FitsAt, Fits, IsBefore, Moved, IsGoto}
use Rattle.lrspec.proofs.grammars.ListMembers.{Among}
use Rattle.lrspec.specs.merging.Graph.{same_symbol}
use Rattle.lrspec.proofs.grammars.Closures.{has_of_looks}
use Rattle.lrspec.proofs.merging.SameSymbols.{same_symbol_itself, symbol_from_same}
use Rattle.lrspec.proofs.examples.ItemEntries.{all_among, implied}
use Rattle.lrspec.proofs.examples.ItemSetEntries.{item_found, item_listed, look_listed}
use Rattle.lrspec.proofs.examples.ClosuresByComputing.{has_bits, some_of_bits, bit_of_bits}

-- whether the list begins with the symbol
abbrev pub begins_with : List Symbol → Symbol → Bool
begins_with [] x = false
begins_with (z ∷ y) x = same_symbol z x

begins_from_test : (z : List Symbol) (x : Symbol) → begins_with z x ≡ true → (y : List Symbol) × (z ≡ x ∷ y)
begins_from_test [] x e = absurd cc
begins_from_test (z ∷ y) x e = (y, rw (symbol_from_same z x e) refl)

module _ (g : Grammar) where
  -- whether the item with its bits fits the grammar
  abbrev pub fits_at : (ℕ × ℕ) × List Bool → Bool
  fits_at e = nat_lt e.0.0 (length g.productions) && (nat_le e.0.1 (length (body_of g e.0.0)) && (length e.1 == token_count g))

  -- whether each of the item set does
  abbrev pub fits : Items → Bool
  fits a = list_all fits_at a

  pub fits_from_test : (a : Items) → fits a ≡ true → Fits g a
  fits_from_test a test p d v h =
      let one = all_among fits_at ((p, d), v) a test (item_found a p d v h) in
      let (i, j) =
      and_parts (nat_lt p (length g.productions)) (nat_le d (length (body_of g p)) && (length v == token_count g)) one in
      let (k, l) = and_parts (nat_le d (length (body_of g p))) (length v == token_count g) j in
      record {
        production = ltb-true p (length g.productions) i;
        dot = leb-true d (length (body_of g p)) k;
        bits = eqb-true (length v) (token_count g) l;
      }

  module _ (c : Items) (x : Symbol) (b : Items) where
    -- whether the item, if it is before the symbol, is in the second with its dot moved, with all its bits
    abbrev pub goes : (ℕ × ℕ) × List Bool → Bool
    goes e = not (begins_with (rest g e.0.0 e.0.1) x) || has_bits (item_at b e.0.0 (suc e.0.1)) e.1

    -- whether the item at this dot came from one of the first
    abbrev pub came_at : ℕ → ℕ → Bool
    came_at p zero = false
    came_at p (suc d) = begins_with (rest g p d) x && has_bits (item_at c p d) []

    -- whether the second has the items of the goto, looking at least where they look
    abbrev pub has_goto : Bool
    has_goto = list_all goes c && list_all (λ e. came_at e.0.0 e.0.1) b

    -- whether the item at this dot looks where one of the first does
    abbrev pub looks_at : ℕ → ℕ → List Bool → Bool
    looks_at p zero v = false
    looks_at p (suc d) v = has_bits (item_at c p d) v

    -- whether it looks nowhere else
    abbrev pub is_goto : Bool
    is_goto = has_goto && list_all (λ e. looks_at e.0.0 e.0.1 e.1) b

    begins_before : (p d : ℕ) → IsBefore g p d x → begins_with (rest g p d) x ≡ true
    begins_before p d (y, e) = rw e (same_symbol_itself x)

    gone :
        has_goto ≡ true → (p d : ℕ) (v : List Bool) → Among ((p, d), v) c → IsBefore g p d x → has_bits (item_at b p (suc d)) v ≡ true
    gone test p d v i before =
        let all = (and_parts (list_all goes c) (list_all (λ e. came_at e.0.0 e.0.1) b) test).0 in
        implied (begins_with (rest g p d) x) (has_bits (item_at b p (suc d)) v) (all_among goes ((p, d), v) c all i) (begins_before p d before)

    came : (p d : ℕ) → came_at p d ≡ true → Moved g x (HasItem c) p d
    came p zero e = absurd cc
    came p (suc d) e =
        let (i, j) = and_parts (begins_with (rest g p d) x) (has_bits (item_at c p d) []) e in
        set.Moved.moved (some_of_bits (item_at c p d) [] j) (begins_from_test (rest g p d) x i)

    moved_item : has_goto ≡ true → {p d : ℕ} → Moved g x (HasItem c) p d → HasItem b p d
    moved_item test (set.Moved.moved {p = p} {d = d} h before) =
        let (v, i) = item_listed c p d h in some_of_bits (item_at b p (suc d)) v (gone test p d v i before)

    -- it has the items of the goto
    pub goto_items : has_goto ≡ true → (p d : ℕ) → HasItem b p d ↔ Moved g x (HasItem c) p d
    goto_items test p d = (
      λ h.
          let (v, i) = item_listed b p d h in
          let all = (and_parts (list_all goes c) (list_all (λ e. came_at e.0.0 e.0.1) b) test).1 in
          came p d (all_among (λ e. came_at e.0.0 e.0.1) ((p, d), v) b all i),
      moved_item test,
    )

    moved_look : has_goto ≡ true → (t : ℕ) {p d : ℕ} → Moved g x (λ q e. LooksIn c q e t) p d → LooksIn b p d t
    moved_look test t (set.Moved.moved {p = p} {d = d} l before) =
        let (v, i, k) = look_listed c p d t l in bit_of_bits (item_at b p (suc d)) v t (gone test p d v i before) k

    -- and looks at least where they look
    pub goto_looks : has_goto ≡ true → (p d t : ℕ) → Moved g x (λ q e. LooksIn c q e t) p d → LooksIn b p d t
    goto_looks test p d t m = moved_look test t m

    look_back :
        (t : ℕ) (v : List Bool) {p d : ℕ} → Moved g x (HasItem c) p d → looks_at p d v ≡ true → slice_index_or v t false ≡ true
        → Moved g x (λ q e. LooksIn c q e t) p d
    look_back t v (set.Moved.moved {p = p} {d = d} h before) e k = set.Moved.moved (bit_of_bits (item_at c p d) v t e k) before

    -- where it looks nowhere else, it is the goto
    pub goto_from_test : is_goto ≡ true → IsGoto g c x b
    goto_from_test test =
        let (i, j) = and_parts has_goto (list_all (λ e. looks_at e.0.0 e.0.1 e.1) b) test in
        record {
          items = goto_items i;
          looks = λ p d t. (
            λ l.
                let (v, m, k) = look_listed b p d t l in
                look_back t v ((goto_items i p d).0 (has_of_looks b p d t l)) (all_among (λ e. looks_at e.0.0 e.0.1 e.1) ((p, d), v) b j m) k,
            goto_looks i p d t,
          );
        }

-- an item set is seen to be the core after a list by computing over an enumeration of what stands
use Rattle.std.proofs.Common.{◌≡◌, ℕ, zero, suc, ◌+◌, Bool, true, false, not, ◌&&◌, ◌||◌, List, [], ◌∷◌, Option, None, Some, refl, sym, subst, inl, inr, arith}
use Rattle.std.specs.Prelude.{◌==◌, is_some, slice_index_or}
use Rattle.std.specs.List.{list_all}
use Rattle.std.specs.Option.{IsSomeAnd}
use Rattle.std.proofs.lemmas.Bool.{eqb-true, eq-eqb}
use Rattle.lrspec.specs.grammars.Grammar.{Symbol, Grammar}
use Rattle.lrspec.specs.grammars.CanonicalItems.{Stands, Looks}
use Rattle.lrspec.specs.grammars.ItemSets.{Items, item_at, HasItem, LooksIn}
use Rattle.lrspec.specs.merging.Cores as core
use Rattle.lrspec.specs.merging.Cores.{IsCoreItem, HasCoreAfter, IsRootedBy}
use Rattle.lrspec.proofs.grammars.ListMembers.{Among, contains_one, only_one}
use Rattle.lrspec.proofs.examples.ItemEntries.{Entry, same_list, all_among, entry_found, implied, is_asked}
use Rattle.lrspec.proofs.examples.ItemsByComputing.{is_enumeration, stands_listed, looks_listed}
use Rattle.lrspec.proofs.examples.ItemSetEntries.{item_listed, look_listed}

-- whether an item that stands is one of a core
abbrev pub is_in_core : Grammar → ℕ → ℕ → Bool
is_in_core g p zero = p == g.start_production
is_in_core g p (suc d) = true

core_item : {g : Grammar} {w : List Symbol} (p d : ℕ) → is_in_core g p d ≡ true → Stands g w p d → IsCoreItem g w p d
core_item {g} p zero e s = let start : p ≡ g.start_production = eqb-true p g.start_production e in rw start (core.IsCoreItem.start (rw start at s))
core_item p (suc d) e s = core.IsCoreItem.moved s

abbrev pub bit_at : Option (List Bool) → ℕ → Bool
bit_at None t = false
bit_at (Some v) t = slice_index_or v t false

looks_of_bit : (o : Option (List Bool)) (t : ℕ) → bit_at o t ≡ true → IsSomeAnd o (λ v. slice_index_or v t false ≡ true)
looks_of_bit None t e = cc
looks_of_bit (Some v) t e = e

-- whether the item set has what is listed after the list, but for what is in no core
abbrev pub has_listed : Grammar → List Symbol → Items → Entry → Bool
has_listed g w a e = not (same_list e.0 w && is_in_core g e.1 e.2) || is_some (item_at a e.1 e.2)

-- and looks where it looks
abbrev pub looks_listed_at : Grammar → List Symbol → Items → Entry → Bool
looks_listed_at g w a e = not (same_list e.0 w && is_in_core g e.1 e.2) || list_all (bit_at (item_at a e.1 e.2)) e.3

-- the item looks after the list at each token whose bit is set, the first bit being that of the token `t`
abbrev pub LooksAtBits : Grammar → List Symbol → ℕ → ℕ → ℕ → List Bool → Type 0
LooksAtBits g w p d t [] = Unit {0}
LooksAtBits g w p d t (true ∷ v) = Looks g w p d t × LooksAtBits g w p d (t + 1) v
LooksAtBits g w p d t (false ∷ v) = LooksAtBits g w p d (t + 1) v

-- each item stands after the list, is in a core, and looks there where its bits say
abbrev pub AllStand : Grammar → List Symbol → Items → Type 0
AllStand g w [] = Unit {0}
AllStand g w (e ∷ es) =
    Stands g w e.0.0 e.0.1 × (is_in_core g e.0.0 e.0.1 ≡ true) × LooksAtBits g w e.0.0 e.0.1 0 e.1 × AllStand g w es

bit_looks : (g : Grammar) (w : List Symbol) (p d a t : ℕ) (v : List Bool) → LooksAtBits g w p d a v → slice_index_or v t false ≡ true → Looks g w p d (a + t)
bit_looks g w p d a t [] h e = cc
bit_looks g w p d a zero (true ∷ v) h e = let here : a + 0 ≡ a = omega arith in rw here h.0
bit_looks g w p d a zero (false ∷ v) h e = cc
bit_looks g w p d a (suc t) (true ∷ v) h e = let later : a + suc t ≡ a + 1 + t = omega arith in rw later (bit_looks g w p d (a + 1) t v h.1 e)
bit_looks g w p d a (suc t) (false ∷ v) h e = let later : a + suc t ≡ a + 1 + t = omega arith in rw later (bit_looks g w p d (a + 1) t v h e)

item_stands :
    (g : Grammar) (w : List Symbol) (a : Items) (p d : ℕ) (v : List Bool) → AllStand g w a → Among {X = (ℕ × ℕ) × List Bool} ((p, d), v) a
    → Stands g w p d × (is_in_core g p d ≡ true) × LooksAtBits g w p d 0 v
item_stands g w [] p d v h i = absurd i
item_stands g w (e ∷ es) p d v h (inl i) =
    subst (λ k. Stands g w k.0.0 k.0.1 × (is_in_core g k.0.0 k.0.1 ≡ true) × LooksAtBits g w k.0.0 k.0.1 0 k.1) (sym i) (h.0, h.1, h.2)
item_stands g w (e ∷ es) p d v h (inr i) = item_stands g w es p d v h.3 i

same_list_of : (w v : List Symbol) → v ≡ w → same_list w w ≡ true → same_list v w ≡ true
same_list_of w v e h = rw e h

module _
    (g : Grammar) (most : Option ℕ) (null : ℕ → Bool) (begins : ℕ → List ℕ) (es : List Entry) (holds : is_enumeration g most null begins es ≡ true)
    (w : List Symbol) (a : Items) (asked : is_asked most w ≡ true) (itself : same_list w w ≡ true)
    (items : list_all (has_listed g w a) es ≡ true) (looks : list_all (looks_listed_at g w a) es ≡ true) (all : AllStand g w a)
  where
    both_true : (b c : Bool) → b ≡ true → c ≡ true → (b && c) ≡ true
    both_true true c e f = f
    both_true false c e f = cc

    has_standing : (p d : ℕ) → is_in_core g p d ≡ true → Stands g w p d → HasItem a p d
    has_standing p d c s =
        let (ts, e) = stands_listed g most null begins es holds s asked in
        implied (same_list w w && is_in_core g p d) (is_some (item_at a p d))
        (all_among (has_listed g w a) (w, p, d, ts) es items (entry_found es w p d ts e)) (both_true (same_list w w) (is_in_core g p d) itself c)

    core_listed : (p d : ℕ) → IsCoreItem g w p d → HasItem a p d
    core_listed p d (core.IsCoreItem.start s) = has_standing g.start_production 0 (eq-eqb g.start_production g.start_production refl) s
    core_listed p d (core.IsCoreItem.moved {p = q} {d = e} s) = has_standing q (suc e) refl s

    look_there : (p d t : ℕ) → is_in_core g p d ≡ true → Looks g w p d t → LooksIn a p d t
    look_there p d t c l =
        let (ts, e, i) = looks_listed g most null begins es holds l asked in
        looks_of_bit (item_at a p d) t (all_among (bit_at (item_at a p d)) t ts
        (implied (same_list w w && is_in_core g p d) (list_all (bit_at (item_at a p d)) ts)
        (all_among (looks_listed_at g w a) (w, p, d, ts) es looks (entry_found es w p d ts e)) (both_true (same_list w w) (is_in_core g p d) itself c)) i)

    stands_there : (p d : ℕ) → HasItem a p d → Stands g w p d × (is_in_core g p d ≡ true)
    stands_there p d h = let (v, i) = item_listed a p d h in let (s, c, l) = item_stands g w a p d v all i in (s, c)

    look_real : (p d t : ℕ) → LooksIn a p d t → Looks g w p d t
    look_real p d t h =
        let (v, i, e) = look_listed a p d t h in
        let (s, c, l) = item_stands g w a p d v all i in
        let here : 0 + t ≡ t = omega arith in
        rw here at (bit_looks g w p d 0 t v l e)

    -- the item set has the core after the list
    pub core_by_computing : ((p : ℕ) × (d : ℕ) × HasItem a p d) → HasCoreAfter g w a
    core_by_computing some = record {
      items = λ p d. (λ h. let (s, c) = stands_there p d h in core_item p d c s, core_listed p d);
      some = some;
    }

    -- and is rooted by it
    pub rooted_by_computing : ((p : ℕ) × (d : ℕ) × HasItem a p d) → IsRootedBy g (w ∷ []) a
    rooted_by_computing some = record {
      some = (w, contains_one w);
      cores = λ v i. rw (only_one w v i) (core_by_computing some);
      looks = λ p d t h. (
        λ l. (w, contains_one w, look_real p d t l),
        λ l. look_there p d t (stands_there p d h).1 (rw (only_one w l.0 l.1) at l.2),
      );
    }

-- the start core, gotos and unions of rooted item sets are rooted
use Rattle.std.proofs.Common.{◌≡◌, ℕ, List, [], ◌∷◌, ◌++◌, refl, inl, inr, ◌↔◌}
use Rattle.std.specs.Prelude.{Contains}
use Rattle.std.proofs.lemmas.List.Elements.{Contains-append_left, Contains-append_right, Contains-append_cases}
use Rattle.lrspec.specs.grammars.Grammar.{Symbol, Grammar, IsGrammar, IsProductionOf}
use Rattle.lrspec.specs.grammars.CanonicalItems as item
use Rattle.lrspec.specs.grammars.CanonicalItems.{Stands, Looks}
use Rattle.lrspec.specs.grammars.ItemSets as set
use Rattle.lrspec.specs.grammars.ItemSets.{Items, HasItem, LooksIn, ClosedLook, IsClosure, IsBefore, Moved, IsGoto}
use Rattle.lrspec.specs.grammars.StartState.{IsStartCore}
use Rattle.lrspec.specs.merging.Cores.{HasCoreAfter, IsRootedBy}
use Rattle.lrspec.specs.merging.WeakCompatibility.{SameItems, IsUnion}
use Rattle.lrspec.proofs.grammars.CanonicalItemFacts.{sister_looks}
use Rattle.lrspec.proofs.grammars.ListMembers.{Among, among_from_contains, contains_from_among, contains_one, only_one}
use Rattle.lrspec.proofs.grammars.Closures.{has_of_looks, moved_mono}
use Rattle.lrspec.proofs.grammars.LookaheadOrigins.{stands_of_closed}
use Rattle.lrspec.proofs.grammars.CanonicalClosures.{core_item_stands, closed_of_looks, core_closes, start_core, start_core_looks, goto_core, moved_of_looks, core_same}

-- the lists with one symbol more at the end of each
abbrev pub followed : List (List Symbol) → Symbol → List (List Symbol)
followed [] x = []
followed (w ∷ ws) x = (w ++ x ∷ []) ∷ followed ws x

among_followed : (ws : List (List Symbol)) (w : List Symbol) (x : Symbol) → Among w ws → Among (w ++ x ∷ []) (followed ws x)
among_followed [] w x h = absurd h
among_followed (v ∷ ws) w x (inl e) = inl (rw e refl)
among_followed (v ∷ ws) w x (inr h) = inr (among_followed ws w x h)

from_among_followed :
    (ws : List (List Symbol)) (v : List Symbol) (x : Symbol) → Among v (followed ws x)
    → (w : List Symbol) × Among w ws × (v ≡ w ++ x ∷ [])
from_among_followed [] v x h = absurd h
from_among_followed (w ∷ ws) v x (inl e) = (w, inl refl, e)
from_among_followed (w ∷ ws) v x (inr h) =
    let back = from_among_followed ws v x h in (back.0, inr back.1, back.2)

-- each of the lists is there with the symbol at its end
pub contains_followed :
    (ws : List (List Symbol)) (w : List Symbol) (x : Symbol) → Contains ws w → Contains (followed ws x) (w ++ x ∷ [])
contains_followed ws w x h =
    contains_from_among (w ++ x ∷ []) (followed ws x) (among_followed ws w x (among_from_contains w ws h))

-- and nothing else is
pub followed_from :
    (ws : List (List Symbol)) (v : List Symbol) (x : Symbol) → Contains (followed ws x) v
    → (w : List Symbol) × Contains ws w × (v ≡ w ++ x ∷ [])
followed_from ws v x h =
    let back = from_among_followed ws v x (among_from_contains v (followed ws x) h) in
    (back.0, contains_from_among back.0 ws back.1, back.2)

-- an item that looks at the token after one of the lists
abbrev pub LooksAfterOne : Grammar → List (List Symbol) → ℕ → ℕ → ℕ → Type 0
LooksAfterOne g ws p d t = (w : List Symbol) × Contains ws w × Looks g w p d t

-- the closure of a rooted item set has exactly what stands after each of its lists
pub rooted_closes :
    {g : Grammar} {ws : List (List Symbol)} {a c : Items} (w : List Symbol) → IsRootedBy g ws a → Contains ws w → IsClosure g a c
    → (p d : ℕ) → HasItem c p d ↔ Stands g w p d
rooted_closes w m h k p d = core_closes (m.cores w h) k p d

-- what the closure of a rooted item set looks at, it looks at after one of the lists
rooted_look :
    {g : Grammar} {ws : List (List Symbol)} {a : Items} → IsRootedBy g ws a → {p d t : ℕ} → ClosedLook g (HasItem a) (LooksIn a) p d t
    → LooksAfterOne g ws p d t
rooted_look {a = a} m (set.ClosedLook.core {p = p} {d = d} {t = t} l) = (m.looks p d t (has_of_looks a p d t l)).0 l
rooted_look m (set.ClosedLook.begins c e i b) =
    let core = m.cores m.some.0 m.some.1 in
    (m.some.0, m.some.1, item.Looks.expand (stands_of_closed (λ q e h. core_item_stands ((core.items q e).0 h)) c) e i b)
rooted_look m (set.ClosedLook.inherit c e i n) = let back = rooted_look m c in (back.0, back.1, item.Looks.inherit back.2 e i n)

-- and looks exactly where it looks after at least one of them
pub rooted_closes_looks :
    {g : Grammar} {ws : List (List Symbol)} {a c : Items} → IsRootedBy g ws a → IsClosure g a c → (p d t : ℕ)
    → LooksIn c p d t ↔ LooksAfterOne g ws p d t
rooted_closes_looks {g} {ws} {a} m k p d t = (
  λ l. rooted_look m ((k.looks p d t).0 l),
  λ l.
      let core = m.cores l.0 l.1 in
      (k.looks p d t).1 (closed_of_looks (λ q e h. (core.items q e).1 h) (λ q e u h j. (m.looks q e u ((core.items q e).1 h)).1 (l.0, l.1, j)) l.2),
)

-- the start item that looks at the end token is rooted by the empty list
pub start_rooted : {g : Grammar} (a : Items) → IsGrammar g → IsStartCore g a → IsRootedBy g ([] ∷ []) a
start_rooted {g} a m h = record {
  some = ([], contains_one []);
  cores = λ w i. rw (only_one [] w i) (start_core h);
  looks = λ p d t i. (
    λ l. ([], contains_one [], (start_core_looks a m h p d t i).0 l),
    λ l. (start_core_looks a m h p d t i).1 (rw (only_one [] l.0 l.1) at l.2),
  );
}

-- an item with its dot moved over a symbol looks after one of the longer lists where it looked after one of the lists
looks_moved_one :
    {g : Grammar} (ws : List (List Symbol)) {x : Symbol} {p d t : ℕ} → Moved g x (λ q e. LooksAfterOne g ws q e t) p d
    → LooksAfterOne g (followed ws x) p d t
looks_moved_one ws {x = x} (set.Moved.moved l b) = (l.0 ++ x ∷ [], contains_followed ws l.0 x l.1, item.Looks.advance l.2 b.1)

-- where the closure of a rooted item set has an item before a symbol, its goto on the symbol is rooted by the lists
-- with that symbol after them
pub goto_rooted :
    {g : Grammar} {ws : List (List Symbol)} {a b c : Items} {x : Symbol} → IsGrammar g → IsRootedBy g ws a → IsClosure g a c → IsGoto g c x b
    → ((p : ℕ) × (d : ℕ) × HasItem c p d × IsBefore g p d x) → IsRootedBy g (followed ws x) b
goto_rooted {g} {ws} {a} {b} {c} {x} m h k n i = record {
  some = (h.some.0 ++ x ∷ [], contains_followed ws h.some.0 x h.some.1);
  cores = cores;
  looks = λ p d t j. (
    λ l. looks_moved_one ws (moved_mono (λ q e. (rooted_closes_looks h k q e t).0) ((n.looks p d t).0 l)),
    λ l.
        let back = followed_from ws l.0 x l.1 in
        let core = cores l.0 l.1 in
        (n.looks p d t).1 (moved_mono (λ q e u. (rooted_closes_looks h k q e t).1 (back.0, back.1, u)) (moved_of_looks m back.0 x ((core.items p d).0 j) l.2 back.2)),
  );
}
  where
    cores : (v : List Symbol) → Contains (followed ws x) v → HasCoreAfter g v b
    cores v among = let back = followed_from ws v x among in rw back.2 (goto_core b c m (rooted_closes back.0 h back.1 k) n.items i)

-- the union of two rooted item sets with the same items is rooted by the lists of both
pub union_rooted :
    {g : Grammar} {ws vs : List (List Symbol)} {a b c : Items} → IsRootedBy g ws a → IsRootedBy g vs b → SameItems a b → IsUnion a b c
    → IsRootedBy g (ws ++ vs) c
union_rooted {g} {ws} {vs} {a} {b} {c} m n s u = record {
  some = (m.some.0, Contains-append_left ws vs m.some.0 m.some.1);
  cores = λ w h. elim (Contains-append_cases ws vs w h) [
    | inl k ↦ core_same (m.cores w k) a_is_c
    | inr k ↦ core_same (n.cores w k) b_is_c
  ];
  looks = λ p d t i. (
    λ l. elim ((u.looks p d t).0 l) [
      | inl k ↦ let back = (m.looks p d t ((u.items p d).0 i)).0 k in (back.0, Contains-append_left ws vs back.0 back.1, back.2)
      | inr k ↦ let back = (n.looks p d t ((b_is_c p d).1 i)).0 k in (back.0, Contains-append_right ws vs back.0 back.1, back.2)
    ],
    λ l. (u.looks p d t).1 (elim (Contains-append_cases ws vs l.0 l.1) [
      | inl k ↦ inl ((m.looks p d t ((u.items p d).0 i)).1 (l.0, k, l.2))
      | inr k ↦ inr ((n.looks p d t ((b_is_c p d).1 i)).1 (l.0, k, l.2))
    ]),
  );
}
  where
    a_is_c : SameItems a c
    a_is_c p d = ((u.items p d).1, (u.items p d).0)

    b_is_c : SameItems b c
    b_is_c p d = (λ i. (u.items p d).1 ((s p d).1 i), λ i. (s p d).0 ((u.items p d).0 i))

-- two items of a rooted item set whose productions are of one rule and whose dots are equal look at the same tokens
pub rooted_sisters :
    {g : Grammar} {ws : List (List Symbol)} {a : Items} → IsGrammar g → IsRootedBy g ws a → (p q d r t : ℕ) → IsProductionOf g p r
    → IsProductionOf g q r → HasItem a q d → LooksIn a p d t → LooksIn a q d t
rooted_sisters {a = a} n m p q d r t i j k l =
    let (w, among, look) = (m.looks p d t (has_of_looks a p d t l)).0 l in
    let stands = core_item_stands (((m.cores w among).items q d).0 k) in
    (m.looks q d t k).1 (w, among, sister_looks n d q r look stands i j)

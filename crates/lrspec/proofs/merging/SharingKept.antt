-- closures, gotos and unions of weakly compatible item sets keep sharing
use Rattle.std.proofs.Common.{◌≡◌, ℕ, suc, List, [], ◌∷◌, ◌++◌, sym, ap, ◌∙◌, ◌⊎◌, inl, inr, ⊎_elim}
use Rattle.std.specs.Prelude.{Contains}
use Rattle.std.proofs.lemmas.Bool.{cases_eq}
use Rattle.std.proofs.lemmas.List.Elements.{Contains-append_left, Contains-append_right}
use Rattle.lrspec.specs.grammars.Grammar.{Symbol, Grammar, IsGrammar}
use Rattle.lrspec.specs.grammars.CanonicalItems as item
use Rattle.lrspec.specs.grammars.CanonicalItems.{Stands, Looks}
use Rattle.lrspec.specs.grammars.ItemSets as set
use Rattle.lrspec.specs.grammars.ItemSets.{Items, item_at, HasItem, LooksIn, ClosedItem, ClosedLook, IsClosure, IsGoto, IsBefore, Moved}
use Rattle.lrspec.specs.grammars.StartState.{IsStartCore}
use Rattle.lrspec.specs.merging.Cores.{HasCoreAfter, IsRootedBy}
use Rattle.lrspec.specs.merging.WeakCompatibility.{Apart, Meet, Passes, IsWeaklyCompatible, IsUnion}
use Rattle.lrspec.specs.merging.Sharing.{IsShared}
use Rattle.lrspec.proofs.grammars.Closures.{has_of_looks}
use Rattle.lrspec.proofs.grammars.LookaheadOrigins.{IsUniversal, Feeds, IsFed, closure_origin, looks_of_universal, looks_of_fed}
use Rattle.lrspec.proofs.grammars.CanonicalClosures.{core_item_stands}
use Rattle.lrspec.proofs.merging.RootedCores.{followed, contains_followed, start_rooted, goto_rooted, union_rooted}

-- the items of the core after `w` stand after `w`
core_stands : {g : Grammar} {w : List Symbol} {a : Items} → HasCoreAfter g w a → (p d : ℕ) → HasItem a p d → Stands g w p d
core_stands k p d h = core_item_stands ((k.items p d).0 h)

-- both items look at one token after one of the lists
abbrev pub LookTogether : Grammar → List (List Symbol) → ℕ → ℕ → ℕ → ℕ → Type 0
LookTogether g ws p d q e = (w : List Symbol) × (u : ℕ) × Contains ws w × Looks g w p d u × Looks g w q e u

swapped : (g : Grammar) (ws : List (List Symbol)) (p d q e : ℕ) → LookTogether g ws p d q e → LookTogether g ws q e p d
swapped g ws p d q e h = (h.0, h.1, h.2, h.4, h.3)

module _ (g : Grammar) (ws : List (List Symbol)) (a : Items) (root : IsRootedBy g ws a) (shared : IsShared g ws a) where
  -- a token that is universal at both
  both_universal : (p d q e t : ℕ) → IsUniversal g (HasItem a) p d t → IsUniversal g (HasItem a) q e t → LookTogether g ws p d q e
  both_universal p d q e t f h =
      let (w, i) = root.some in
      let k = core_stands (root.cores w i) in
      (w, t, i, looks_of_universal k f, looks_of_universal k h)

  -- a token that is universal at the first and comes from a core item at the other
  one_universal : (p d q e t : ℕ) → IsUniversal g (HasItem a) p d t → IsFed g (LooksIn a) q e t → LookTogether g ws p d q e
  one_universal p d q e t f (k, m, l, h) =
      let (w, i, s) = (root.looks k m t (has_of_looks a k m t l)).0 l in
      (w, t, i, looks_of_universal (core_stands (root.cores w i)) f, looks_of_fed s h)

  one_feeder : (p d q e t k m : ℕ) → LooksIn a k m t → Feeds g k m p d → Feeds g k m q e → LookTogether g ws p d q e
  one_feeder p d q e t k m l f h =
      let (w, i, s) = (root.looks k m t (has_of_looks a k m t l)).0 l in
      (w, t, i, looks_of_fed s f, looks_of_fed s h)

  two_feeders :
      (p d q e t k m j n : ℕ) → Apart k m j n → LooksIn a k m t → LooksIn a j n t → Feeds g k m p d → Feeds g j n q e → LookTogether g ws p d q e
  two_feeders p d q e t k m j n x l r f h =
      let (w, u, i, s, z) = shared k m j n t x l r in
      (w, u, i, looks_of_fed s f, looks_of_fed z h)

  -- a token that comes from core items at both
  both_fed : (p d q e t : ℕ) → IsFed g (LooksIn a) p d t → IsFed g (LooksIn a) q e t → LookTogether g ws p d q e
  both_fed p d q e t (k, m, l, f) (j, n, r, h) =
      elim (cases_eq k j) [
        | inl x ↦ elim (cases_eq m n) [
          | inl y ↦ one_feeder p d q e t k m l f (rw (x, y) h)
          | inr y ↦ two_feeders p d q e t k m j n (λ i z. y z) l r f h
        ]
        | inr x ↦ two_feeders p d q e t k m j n (λ i z. x i) l r f h
      ]

  origins_meet :
      (p d q e t : ℕ) → IsUniversal g (HasItem a) p d t ⊎ IsFed g (LooksIn a) p d t
      → IsUniversal g (HasItem a) q e t ⊎ IsFed g (LooksIn a) q e t → LookTogether g ws p d q e
  origins_meet p d q e t (inl f) (inl h) = both_universal p d q e t f h
  origins_meet p d q e t (inl f) (inr h) = one_universal p d q e t f h
  origins_meet p d q e t (inr f) (inl h) = swapped g ws q e p d (one_universal q e p d t h f)
  origins_meet p d q e t (inr f) (inr h) = both_fed p d q e t f h

  -- closing keeps sharing
  pub shared_closure : (c : Items) → IsClosure g a c → IsShared g ws c
  shared_closure c m p d q e t x l r = origins_meet p d q e t (closure_origin m p d t l) (closure_origin m q e t r)

moved_together :
    {g : Grammar} (ws : List (List Symbol)) (c : Items) {x : Symbol} {p d q e : ℕ} (t : ℕ) → IsShared g ws c → Apart p d q e
    → Moved g x (λ q e. LooksIn c q e t) p d → Moved g x (λ q e. LooksIn c q e t) q e → LookTogether g (followed ws x) p d q e
moved_together ws c {x = x} t s h (set.Moved.moved {p = p} {d = d} l i) (set.Moved.moved {p = q} {d = e} r j) =
    let (w, u, k, m, n) = s p d q e t (λ y z. h y (ap suc z)) l r in
    (w ++ x ∷ [], u, contains_followed ws w x k, item.Looks.advance m i.1, item.Looks.advance n j.1)

-- moving keeps sharing
shared_goto : (g : Grammar) (ws : List (List Symbol)) (c b : Items) (x : Symbol) → IsShared g ws c → IsGoto g c x b → IsShared g (followed ws x) b
shared_goto g ws c b x s m p d q e t h l r = moved_together ws c t s h ((m.looks p d t).0 l) ((m.looks q e t).0 r)

together_first : (g : Grammar) (ws vs : List (List Symbol)) (p d q e : ℕ) → LookTogether g ws p d q e → LookTogether g (ws ++ vs) p d q e
together_first g ws vs p d q e (w, u, i, l, r) = (w, u, Contains-append_left ws vs w i, l, r)

together_second : (g : Grammar) (ws vs : List (List Symbol)) (p d q e : ℕ) → LookTogether g vs p d q e → LookTogether g (ws ++ vs) p d q e
together_second g ws vs p d q e (w, u, i, l, r) = (w, u, Contains-append_right ws vs w i, l, r)

module _ (g : Grammar) (ws vs : List (List Symbol)) (a b : Items) (fits : IsWeaklyCompatible a b) (first : IsShared g ws a) (second : IsShared g vs b) where
  -- items that share a token in one of the two
  met_within : (p d q e : ℕ) → Apart p d q e → Meet a p d a q e ⊎ Meet b p d b q e → LookTogether g (ws ++ vs) p d q e
  met_within p d q e x (inl (t, l, r)) = together_first g ws vs p d q e (first p d q e t x l r)
  met_within p d q e x (inr (t, l, r)) = together_second g ws vs p d q e (second p d q e t x l r)

  -- items that meet across share a token in one of the two
  met_across : (p d q e : ℕ) → Apart p d q e → Meet a p d b q e ⊎ Meet b p d a q e → Passes a b p d q e → LookTogether g (ws ++ vs) p d q e
  met_across p d q e x h (inl n) = absurd (⊎_elim (λ (k : Meet a p d b q e). n.0 k) (λ (k : Meet b p d a q e). n.1 k) h)
  met_across p d q e x h (inr m) = met_within p d q e x m

  item_of_either : (p d t : ℕ) → LooksIn a p d t ⊎ LooksIn b p d t → HasItem a p d
  item_of_either p d t (inl l) = has_of_looks a p d t l
  item_of_either p d t (inr l) = (fits.items p d).1 (has_of_looks b p d t l)

  met_in_union :
      (p d q e t : ℕ) → Apart p d q e → LooksIn a p d t ⊎ LooksIn b p d t → LooksIn a q e t ⊎ LooksIn b q e t
      → LookTogether g (ws ++ vs) p d q e
  met_in_union p d q e t x (inl l) (inl r) = met_within p d q e x (inl (t, l, r))
  met_in_union p d q e t x (inr l) (inr r) = met_within p d q e x (inr (t, l, r))
  met_in_union p d q e t x (inl l) (inr r) =
      met_across p d q e x (inl (t, l, r)) (fits.pairs p d q e x (item_of_either p d t (inl l)) (item_of_either q e t (inr r)))
  met_in_union p d q e t x (inr l) (inl r) =
      met_across p d q e x (inr (t, l, r)) (fits.pairs p d q e x (item_of_either p d t (inr l)) (item_of_either q e t (inl r)))

  -- a weakly compatible merge keeps sharing
  shared_union : (c : Items) → IsUnion a b c → IsShared g (ws ++ vs) c
  shared_union c m p d q e t x l r = met_in_union p d q e t x ((m.looks p d t).0 l) ((m.looks q e t).0 r)

-- the lists root the item set and share it
abbrev pub IsSharedBy : Grammar → List (List Symbol) → Items → Type 0
IsSharedBy g ws a = IsRootedBy g ws a × IsShared g ws a

-- the start core is rooted and shared by the empty list: it has one item
pub start_shared : (g : Grammar) (a : Items) → IsGrammar g → IsStartCore g a → IsSharedBy g ([] ∷ []) a
start_shared g a m h = (
  start_rooted a m h,
  λ p d q e t x l r. alone p d q e x ((h.item p d).0 (has_of_looks a p d t l)) ((h.item q e).0 (has_of_looks a q e t r)),
)
  where
    alone :
        (p d q e : ℕ) → Apart p d q e → (p ≡ g.start_production) × (d ≡ 0) → (q ≡ g.start_production) × (e ≡ 0)
        → LookTogether g ([] ∷ []) p d q e
    alone p d q e x i j = absurd (x (i.0 ∙ sym j.0) (i.1 ∙ sym j.1))

-- where the closure of a core that is rooted and shared has an item before a symbol, its goto on the symbol is rooted
-- and shared by the lists with that symbol after them
pub goto_shared :
    {g : Grammar} {ws : List (List Symbol)} {a b c : Items} {x : Symbol} → IsGrammar g → IsRootedBy g ws a → IsShared g ws a
    → IsClosure g a c → IsGoto g c x b → ((p : ℕ) × (d : ℕ) × HasItem c p d × IsBefore g p d x) → IsSharedBy g (followed ws x) b
goto_shared {g} {ws} {a} {b} {c} {x} m root shared k n i = (
  goto_rooted m root k n i,
  shared_goto g ws c b x (shared_closure g ws a root shared c k) n,
)

-- the union of two weakly compatible cores that are rooted and shared is so by the lists of both
pub union_shared :
    {g : Grammar} (ws vs : List (List Symbol)) {a b c : Items} → IsWeaklyCompatible a b → IsRootedBy g ws a → IsShared g ws a → IsRootedBy g vs b
    → IsShared g vs b → IsUnion a b c → IsSharedBy g (ws ++ vs) c
union_shared {g} ws vs {a} {b} {c} fits root shared other_root other_shared u = (
  union_rooted root other_root fits.items u,
  shared_union g ws vs a b fits shared other_shared c u,
)

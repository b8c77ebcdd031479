-- items that stand and look after a list, and where they stood and looked before
use Rattle.std.proofs.Common.{◌≡◌, ℕ, zero, suc, ◌<◌, ◌≤◌, List, [], ◌∷◌, ◌++◌, length, take, refl, sym, ap, ◌∙◌, append_assoc, append-nil, arith, ◌⊎◌, inl, inr}
use Rattle.lrspec.specs.grammars.Grammar.{Symbol, Rule, Grammar, IsGrammar, end_token, body_of, IsProductionOf}
use Rattle.lrspec.specs.grammars.CanonicalItems as item
use Rattle.lrspec.specs.grammars.CanonicalItems.{Stands, Looks}
use Rattle.lrspec.specs.grammars.ItemSets.{IsBefore}
use Rattle.lrspec.proofs.grammars.BodyFacts.{below_of_production, rule_unique, below_of_drop, take_next, drop_some, push_same, push_not_empty, split_next, start_rule, start_not_before}

-- an item that looks at a token stands
pub stands_of_looks : {g : Grammar} {w : List Symbol} {p d t : ℕ} → Looks g w p d t → Stands g w p d
stands_of_looks item.Looks.begin = item.Stands.begin
stands_of_looks (item.Looks.expand s e h b) = item.Stands.expand s e h
stands_of_looks (item.Looks.inherit l e h n) = item.Stands.expand (stands_of_looks l) e h
stands_of_looks (item.Looks.advance l e) = item.Stands.advance (stands_of_looks l) e

-- an item that stands is one of the grammar
pub stands_production : {g : Grammar} → IsGrammar g → {w : List Symbol} {p d : ℕ} → Stands g w p d → p < length g.productions
stands_production m item.Stands.begin = omega (arith, m.last)
stands_production {g = g} m (item.Stands.expand {r = r} {q = q} s e h) = below_of_production g q r h
stands_production m (item.Stands.advance s e) = stands_production m s

-- its dot is within the body
pub stands_dot : {g : Grammar} {w : List Symbol} {p d : ℕ} → Stands g w p d → d ≤ length (body_of g p)
stands_dot item.Stands.begin = omega arith
stands_dot (item.Stands.expand s e h) = omega arith
stands_dot {g = g} (item.Stands.advance {p = p} {d = d} {x = x} {y = y} s e) = below_of_drop (body_of g p) d x y e

-- an item moves over the symbol before which it stands
pub stands_moved : {g : Grammar} {w : List Symbol} {p d : ℕ} (x : Symbol) → Stands g w p d → IsBefore g p d x → Stands g (w ++ x ∷ []) p (suc d)
stands_moved x s b = item.Stands.advance s b.1

-- and keeps the tokens at which it looks
pub looks_moved : {g : Grammar} {w : List Symbol} {p d t : ℕ} (x : Symbol) → Looks g w p d t → IsBefore g p d x → Looks g (w ++ x ∷ []) p (suc d) t
looks_moved x l b = item.Looks.advance l b.1

-- an item with its dot above 0 came from one that stood before the last symbol
pub stands_back :
    {g : Grammar} {v : List Symbol} {p d : ℕ} (w : List Symbol) (x : Symbol) → Stands g v p (suc d) → v ≡ w ++ x ∷ []
    → Stands g w p d × IsBefore g p d x
stands_back {g} w x (item.Stands.advance {w = u} {p = p} {d = d} {x = z} {y = y} s e) k =
    let both = push_same u w z x k in (rw (← both.0) s, (y, rw (← both.1) e))

-- and it looked at the same tokens there
pub looks_back :
    {g : Grammar} {v : List Symbol} {p d t : ℕ} (w : List Symbol) (x : Symbol) → Looks g v p (suc d) t → v ≡ w ++ x ∷ []
    → Looks g w p d t × IsBefore g p d x
looks_back {g} w x (item.Looks.advance {w = u} {p = p} {d = d} {x = z} {y = y} l e) k =
    let both = push_same u w z x k in (rw (← both.0) l, (y, rw (← both.1) e))

-- no item with its dot above 0 stands after the empty list
pub stands_not_at_start : {g : Grammar} {v : List Symbol} {p d : ℕ} → Stands g v p (suc d) → v ≡ [] → ⊥
stands_not_at_start (item.Stands.advance {w = w} {x = x} s e) k = push_not_empty w x k

-- an item with its dot above 0 stands after a list with a last symbol, before which it stood
pub stands_last :
    {g : Grammar} {v : List Symbol} {p d : ℕ} → Stands g v p (suc d)
    → (w : List Symbol) × (x : Symbol) × (v ≡ w ++ x ∷ []) × Stands g w p d × IsBefore g p d x
stands_last (item.Stands.advance {w = w} {x = x} {y = y} s e) = (w, x, refl, s, (y, e))

-- and looked at the same tokens
pub looks_last :
    {g : Grammar} {v : List Symbol} {p d t : ℕ} → Looks g v p (suc d) t
    → (w : List Symbol) × (x : Symbol) × (v ≡ w ++ x ∷ []) × Looks g w p d t × IsBefore g p d x
looks_last (item.Looks.advance {w = w} {x = x} {y = y} l e) = (w, x, refl, l, (y, e))

-- the start item stands after the empty list alone
pub start_stands_first : {g : Grammar} → IsGrammar g → {w : List Symbol} {p d : ℕ} → Stands g w p d → p ≡ g.start_production → d ≡ 0 → w ≡ []
start_stands_first m item.Stands.begin e z = refl
start_stands_first {g} m (item.Stands.expand {p = p} {d = d} {r = r} {q = q} {y = y} s e h) i z = absurd (start_not_before m p d r (y, e) (rw i at h))
start_stands_first m (item.Stands.advance s e) i z = absurd cc

-- the start item looks at the end token alone, after the empty list
pub start_looks_first :
    {g : Grammar} → IsGrammar g → {w : List Symbol} {p d t : ℕ} → Looks g w p d t → p ≡ g.start_production → d ≡ 0
    → (w ≡ []) × (t ≡ end_token g)
start_looks_first m item.Looks.begin e z = (refl, refl)
start_looks_first {g} m (item.Looks.expand {p = p} {d = d} {r = r} {q = q} {y = y} s e h b) i z = absurd (start_not_before m p d r (y, e) (rw i at h))
start_looks_first {g} m (item.Looks.inherit {p = p} {d = d} {r = r} {q = q} {y = y} l e h n) i z = absurd (start_not_before m p d r (y, e) (rw i at h))
start_looks_first m (item.Looks.advance l e) i z = absurd cc

-- where an item stands, the symbols before its dot come last in the list, and it stands at dot 0 after what is before them
pub stands_split :
    {g : Grammar} {p : ℕ} (d : ℕ) {w : List Symbol} → Stands g w p d
    → (u : List Symbol) × (w ≡ u ++ take d (body_of g p)) × Stands g u p 0
stands_split zero {w} s = (w, sym (append-nil w), s)
stands_split {g} {p} (suc d) {w} s =
    let back = stands_last s in
    let front = stands_split d back.3 in
    (front.0, split_next (body_of g p) d front.0 back.0 w back.1 back.4.0 back.2 front.1 back.4.1, front.2)

-- and looked at the same tokens there
pub looks_split :
    {g : Grammar} {p t : ℕ} (d : ℕ) {w : List Symbol} → Looks g w p d t
    → (u : List Symbol) × (w ≡ u ++ take d (body_of g p)) × Looks g u p 0 t
looks_split zero {w} s = (w, sym (append-nil w), s)
looks_split {g} {p} (suc d) {w} s =
    let back = looks_last s in
    let front = looks_split d back.3 in
    (front.0, split_next (body_of g p) d front.0 back.0 w back.1 back.4.0 back.2 front.1 back.4.1, front.2)

-- the start production stands only after the symbols before its dot
pub start_stands_after :
    {g : Grammar} → IsGrammar g → {w : List Symbol} (d : ℕ) → Stands g w g.start_production d → w ≡ take d (body_of g g.start_production)
start_stands_after {g} m d s =
    let front = stands_split d s in
    front.1 ∙ ap (λ u. u ++ take d (body_of g g.start_production)) (start_stands_first m front.2 refl refl)

-- and looks at the end token alone
pub start_looks_end : {g : Grammar} → IsGrammar g → {w : List Symbol} {t : ℕ} (d : ℕ) → Looks g w g.start_production d t → t ≡ end_token g
start_looks_end m d l = (start_looks_first m (looks_split d l).2 refl refl).1

-- an item that stands at dot 0 stands behind each part of its body
pub stands_join :
    {g : Grammar} {u : List Symbol} {p : ℕ} (d : ℕ) → Stands g u p 0 → d ≤ length (body_of g p)
    → Stands g (u ++ take d (body_of g p)) p d
stands_join {u = u} zero s h = rw (append-nil u) s
stands_join {g} {u} {p} (suc d) s h =
    let at = drop_some (body_of g p) d h in
    let body : take (suc d) (body_of g p) ≡ take d (body_of g p) ++ at.0 ∷ [] = take_next (body_of g p) d at.0 at.1 at.2 in
    rw (body, ← append_assoc u (take d (body_of g p)) (at.0 ∷ [])) (item.Stands.advance (stands_join d s (omega arith)) at.2)

-- and looks at the same tokens
pub looks_join :
    {g : Grammar} {u : List Symbol} {p t : ℕ} (d : ℕ) → Looks g u p 0 t → d ≤ length (body_of g p)
    → Looks g (u ++ take d (body_of g p)) p d t
looks_join {u = u} zero s h = rw (append-nil u) s
looks_join {g} {u} {p} (suc d) s h =
    let at = drop_some (body_of g p) d h in
    let body : take (suc d) (body_of g p) ≡ take d (body_of g p) ++ at.0 ∷ [] = take_next (body_of g p) d at.0 at.1 at.2 in
    rw (body, ← append_assoc u (take d (body_of g p)) (at.0 ∷ [])) (item.Looks.advance (looks_join d s (omega arith)) at.2)

-- two items that stand after one list at equal dots have the same symbols before their dots, and stood at dot 0
-- after one list
pub stands_split_both :
    {g : Grammar} {p q : ℕ} (d : ℕ) {w : List Symbol} → Stands g w p d → Stands g w q d
    → (u : List Symbol) × (w ≡ u ++ take d (body_of g p)) × (take d (body_of g p) ≡ take d (body_of g q)) × Stands g u p 0 × Stands g u q 0
stands_split_both zero {w} s k = (w, sym (append-nil w), refl, s, k)
stands_split_both {g} {p} {q} (suc d) {w} s k =
    let back = stands_last s in
    let other = stands_back back.0 back.1 k back.2 in
    let front = stands_split_both d back.3 other.0 in
    let one : take (suc d) (body_of g p) ≡ take d (body_of g p) ++ back.1 ∷ [] = take_next (body_of g p) d back.1 back.4.0 back.4.1 in
    let two : take (suc d) (body_of g q) ≡ take d (body_of g q) ++ back.1 ∷ [] = take_next (body_of g q) d back.1 other.1.0 other.1.1 in
    (front.0, split_next (body_of g p) d front.0 back.0 w back.1 back.4.0 back.2 front.1 back.4.1, one ∙ (ap (λ l. l ++ back.1 ∷ []) front.2 ∙ sym two), front.3, front.4)

-- an item at dot 0 is the start item, or stands because of an item before its rule
pub stands_origin :
    {g : Grammar} {w : List Symbol} {q e : ℕ} → Stands g w q e → e ≡ 0
    → (q ≡ g.start_production) ⊎ ((p : ℕ) × (d : ℕ) × (r : ℕ) × Stands g w p d × IsBefore g p d (Rule r) × IsProductionOf g q r)
stands_origin item.Stands.begin z = inl refl
stands_origin (item.Stands.expand {p = p} {d = d} {r = r} {y = y} s e h) z = inr (p, d, r, s, (y, e), h)
stands_origin (item.Stands.advance s e) z = absurd cc

-- after a list where an item at dot 0 stands, every production of its rule does
pub sister_stands : {g : Grammar} → IsGrammar g → {w : List Symbol} {q : ℕ} (k r : ℕ) → Stands g w q 0 → IsProductionOf g q r → IsProductionOf g k r → Stands g w k 0
sister_stands {g} m {w} {q} k r s h i = elim (stands_origin s refl) [
  | inl e ↦
      let zero_is : r ≡ 0 = rule_unique g g.start_production r 0 (rw e at h) (start_rule m) in
      let same : k ≡ g.start_production = m.only k (rw zero_is at i) in
      rw same (rw e at s)
  | inr f ↦
      let rule_is : r ≡ f.2 = rule_unique g q r f.2 h f.5 in
      item.Stands.expand f.3 f.4.1 (rw rule_is at i)
]

-- and they look at the same tokens
sister_looks_start :
    {g : Grammar} → IsGrammar g → {w : List Symbol} {q e t : ℕ} (k r : ℕ) → Looks g w q e t → e ≡ 0 → IsProductionOf g q r → IsProductionOf g k r
    → Looks g w k 0 t
sister_looks_start {g} m k r item.Looks.begin z h i =
    let zero_is : r ≡ 0 = rule_unique g g.start_production r 0 h (start_rule m) in
    let same : k ≡ g.start_production = m.only k (rw zero_is at i) in
    rw same item.Looks.begin
sister_looks_start {g} m k r (item.Looks.expand {r = s} {q = q} st e j b) z h i =
    let rule_is : r ≡ s = rule_unique g q r s h j in item.Looks.expand st e (rw rule_is at i) b
sister_looks_start {g} m k r (item.Looks.inherit {r = s} {q = q} l e j n) z h i =
    let rule_is : r ≡ s = rule_unique g q r s h j in item.Looks.inherit l e (rw rule_is at i) n
sister_looks_start m k r (item.Looks.advance l e) z h i = absurd cc

-- where two productions of one rule stand at equal dots, they look at the same tokens
pub sister_looks :
    {g : Grammar} → IsGrammar g → {q t : ℕ} (d k r : ℕ) {w : List Symbol} → Looks g w q d t → Stands g w k d → IsProductionOf g q r → IsProductionOf g k r
    → Looks g w k d t
sister_looks m zero k r l s h i = sister_looks_start m k r l refl h i
sister_looks m (suc d) k r l s h i =
    let back = looks_last l in
    let other = stands_back back.0 back.1 s back.2 in
    rw back.2 (item.Looks.advance (sister_looks m d k r back.3 other.0 h i) other.1.1)

-- the reductions of an item set on a token, by its complete items
use Rattle.std.proofs.Common.{◌≡◌, ◌≢◌, ℕ, suc, zero, ◌+◌, ◌<◌, ◌≤◌, Bool, true, false, cond, not, eqb, List, [], ◌∷◌, ◌++◌, Option, None, Some, length, map, refl, sym, ap, ◌∙◌, inl, inr, ⊎_elim, get_or, arith, eq-eqb}
use Rattle.std.specs.Prelude.{filter, slice_index_or, ◌&&◌}
use Rattle.std.specs.List.{flat_map, cons_option, range_with_len}
use Rattle.std.proofs.lemmas.Bool.{cases_eq, and_parts, eqb-true}
use Rattle.std.proofs.lemmas.Bool.Decides.{eqb_tells}
use Rattle.lrspec.specs.grammars.Grammar.{Grammar, body_of}
use Rattle.lrspec.specs.grammars.ItemSets.{Items, item_at, Precedes, AreUpwards, Fits}
use Rattle.lrspec.specs.tables.Table.{bit_or_none, is_complete_at, reductions}
use Rattle.lrspec.proofs.grammars.ListMembers.{Among, contains_from_among}
use Rattle.lrrows.specs.StateRows.{complete_item, complete_items}

-- what is listed first under the number
abbrev pub listed_under : {V : Type 0} → List (ℕ × V) → ℕ → Option V
listed_under [] p = None
listed_under (c ∷ cs) p = cond (eqb p c.0) (Some c.1) (listed_under cs p)

-- the numbers under which a list has its elements come upwards from `k` on, and end below `b`
abbrev pub AreBetween : {V : Type 0} → ℕ → ℕ → List (ℕ × V) → Type 0
AreBetween k b [] = Unit {0}
AreBetween k b (c ∷ cs) = (k ≤ c.0) × (c.0 < b) × AreBetween (c.0 + 1) b cs

-- what an element gives, if there is one
abbrev pub given_by : {V Y : Type 0} → (ℕ × V → List Y) → ℕ → Option V → List Y
given_by f p None = []
given_by f p (Some v) = f (p, v)

other : (p q : ℕ) → p ≢ q → eqb p q ≡ false
other p q n = elim (eqb_tells p q) [ inl e ↦ absurd (n e.1) | inr e ↦ e.0 ]

module _ {V : Type 0} where
  nothing_below : (k b p : ℕ) (cs : List (ℕ × V)) → AreBetween k b cs → p < k → listed_under cs p ≡ None
  nothing_below k b p [] h l = refl
  nothing_below k b p (c ∷ cs) (i, j, h) l = rw (other p c.0 (omega arith)) (nothing_below (c.0 + 1) b p cs h (omega arith))

module _ {V Y : Type 0} where
  -- a walk over all numbers of a range gives what a walk over the elements under them does
  pub walked :
      (f : ℕ → List Y) (g : ℕ × V → List Y) (k n b : ℕ) (cs : List (ℕ × V)) → k + n ≡ b → AreBetween k b cs
      → ((p : ℕ) → k ≤ p → p < b → f p ≡ given_by g p (listed_under cs p)) → flat_map f (range_with_len k n) ≡ flat_map g cs
  walked f g k zero b [] m h e = refl
  walked f g k zero b (c ∷ cs) m (i, j, h) e = absurd (omega arith)
  walked f g k (suc n) b [] m h e =
      rw (e k (omega arith) (omega arith)) (walked f g (k + 1) n b [] (omega arith) tt (λ p l o. e p (omega arith) o))
  walked f g k (suc n) b (c ∷ cs) m (i, j, h) e =
      ⊎_elim
      (λ (s : k ≡ c.0).
      let here : f k ≡ g c = e k (omega arith) (omega arith) ∙ rw (eq-eqb k c.0 s, s) refl in
      let next : AreBetween (k + 1) b cs = rw s h in
      rw here (ap (λ ys. g c ++ ys) (walked f g (k + 1) n b cs (omega arith) next (λ p l o. e p (omega arith) o ∙ rw (other p c.0 (omega arith)) refl))))
      (λ (s : k ≢ c.0).
      let nothing : listed_under (c ∷ cs) k ≡ None = rw (other k c.0 s) (nothing_below (c.0 + 1) b k cs h (omega arith)) in
      let here : f k ≡ [] = e k (omega arith) (omega arith) ∙ rw nothing refl in
      rw here (walked f g (k + 1) n b (c ∷ cs) (omega arith) (omega arith, j, h) (λ p l o. e p (omega arith) o)))
      (cases_eq k c.0)

module _ {X : Type 0} where
  one_or_none : (b : Bool) (x : X) (xs : List X) → cond b (x ∷ xs) xs ≡ cond b (x ∷ []) [] ++ xs
  one_or_none true x xs = refl
  one_or_none false x xs = refl

  -- a filter as a walk
  filter_walks : (f : X → Bool) (xs : List X) → filter f xs ≡ flat_map (λ x. cond (f x) (x ∷ []) []) xs
  filter_walks f [] = refl
  filter_walks f (x ∷ xs) = one_or_none (f x) x (filter f xs) ∙ ap (λ ys. cond (f x) (x ∷ []) [] ++ ys) (filter_walks f xs)

module _ {X Y : Type 0} where
  mapped_or_none : (h : X → Y) (b : Bool) (x : X) (xs : List X) → map h (cond b (x ∷ xs) xs) ≡ cond b (h x ∷ []) [] ++ map h xs
  mapped_or_none h true x xs = refl
  mapped_or_none h false x xs = refl

  mapped_filter_walks : (h : X → Y) (f : X → Bool) (xs : List X) → map h (filter f xs) ≡ flat_map (λ x. cond (f x) (h x ∷ []) []) xs
  mapped_filter_walks h f [] = refl
  mapped_filter_walks h f (x ∷ xs) =
      mapped_or_none h (f x) x (filter f xs) ∙ ap (λ ys. cond (f x) (h x ∷ []) [] ++ ys) (mapped_filter_walks h f xs)

-- the lookaheads of the complete production `p`, if it is in the item set and is not the start production
abbrev pub complete_of : Grammar → Items → ℕ → Option (List Bool)
complete_of g a p = cond (eqb p g.start_production) None (item_at a p (length (body_of g p)))

complete_here :
    (m n : Bool) (q : ℕ) (v : List Bool) (cs : List (ℕ × List Bool)) (o : Option (List Bool)) → listed_under cs q ≡ cond n None o
    → listed_under (cons_option (cond (m && not n) (Some (q, v)) None) cs) q ≡ cond n None (cond m (Some v) o)
complete_here true true q v cs o h = h
complete_here true false q v cs o h = rw (eq-eqb q q refl) refl
complete_here false true q v cs o h = h
complete_here false false q v cs o h = h

complete_there :
    (m : Bool) (p q : ℕ) (v : List Bool) (cs : List (ℕ × List Bool)) → p ≢ q
    → listed_under (cons_option (cond m (Some (q, v)) None) cs) p ≡ listed_under cs p
complete_there true p q v cs n = rw (other p q n) refl
complete_there false p q v cs n = refl

turned : (m n : ℕ) → eqb m n ≡ eqb n m
turned m n =
    ⊎_elim (λ (e : m ≡ n). eq-eqb m n e ∙ sym (eq-eqb n m (sym e))) (λ (e : m ≢ n). other m n e ∙ sym (other n m (λ s. e (sym s)))) (cases_eq m n)

either_way : {X : Type 0} (b : Bool) (x : X) → x ≡ cond b x x
either_way true x = refl
either_way false x = refl

-- they are what the complete items list under the production
pub complete_listed : (g : Grammar) (a : Items) (p : ℕ) → listed_under (complete_items g a) p ≡ complete_of g a p
complete_listed g [] p = either_way (eqb p g.start_production) None
complete_listed g (e ∷ es) p =
    ⊎_elim
    (λ (s : p ≡ e.0.0).
    let n = length (body_of g e.0.0) in
    rw (s, eq-eqb e.0.0 e.0.0 refl, turned n e.0.1)
    (complete_here (eqb e.0.1 n) (eqb e.0.0 g.start_production) e.0.0 e.1 (complete_items g es) (item_at es e.0.0 n) (complete_listed g es e.0.0)))
    (λ (n : p ≢ e.0.0). complete_there _ p e.0.0 e.1 (complete_items g es) n ∙ complete_listed g es p ∙ rw (other p e.0.0 n) refl)
    (cases_eq p e.0.0)

first_before : (e f : (ℕ × ℕ) × List Bool) (es : Items) → AreUpwards (e ∷ es) → Among f es → Precedes e.0 f.0
first_before e f es up i = let (k, l, s) = contains_from_among f es i in rw s at (up 0 (suc k) f (omega arith) (omega arith))

without_first : (e : (ℕ × ℕ) × List Bool) (es : Items) → AreUpwards (e ∷ es) → AreUpwards es
without_first e es up i j d l m = up (suc i) (suc j) d (omega arith) (omega arith)

some_by_test : {X : Type 0} (b : Bool) (x y : X) → cond b (Some x) None ≡ Some y → (b ≡ true) × (x ≡ y)
some_by_test true x y e = (refl, cc)
some_by_test false x y e = cc

-- of two complete items in order the productions are in order
behind :
    (g : Grammar) (e f : (ℕ × ℕ) × List Bool) → Precedes e.0 f.0 → (p : ℕ) → e.0.0 ≡ p → e.0.1 ≡ length (body_of g e.0.0)
    → f.0.1 ≡ length (body_of g f.0.0) → p + 1 ≤ f.0.0
behind g e f (inl l) p s m n = omega arith
behind g e f (inr (i, l)) p s m n = let k : length (body_of g e.0.0) ≡ length (body_of g f.0.0) = ap (λ q. length (body_of g q)) i in absurd (omega arith)

pushed :
    (o : Option (ℕ × List Bool)) (k b : ℕ) (cs : List (ℕ × List Bool))
    → (o ≡ None → AreBetween k b cs) → ((c : ℕ × List Bool) → o ≡ Some c → AreBetween k b (c ∷ cs)) → AreBetween k b (cons_option o cs)
pushed None k b cs f h = f refl
pushed (Some c) k b cs f h = h c refl

complete_parts :
    (g : Grammar) (e : (ℕ × ℕ) × List Bool) (c : ℕ × List Bool) → complete_item g e ≡ Some c
    → (e.0.0 ≡ c.0) × (e.0.1 ≡ length (body_of g e.0.0))
complete_parts g e c h =
    let (k, m) = some_by_test (eqb e.0.1 (length (body_of g e.0.0)) && not (eqb e.0.0 g.start_production)) (e.0.0, e.1) c h in
    (ap (λ z. z.0) m, eqb-true e.0.1 (length (body_of g e.0.0)) (and_parts _ _ k).0)

-- the complete items of a set that comes upwards come upwards
complete_between :
    (g : Grammar) (k b : ℕ) (a : Items) → AreUpwards a
    → ((e : (ℕ × ℕ) × List Bool) → Among e a → e.0.1 ≡ length (body_of g e.0.0) → (k ≤ e.0.0) × (e.0.0 < b))
    → AreBetween k b (complete_items g a)
complete_between g k b [] up h = tt
complete_between g k b (e ∷ es) up h =
    let upwards = without_first e es up in
    pushed (complete_item g e) k b (complete_items g es)
    (λ _. complete_between g k b es upwards (λ f i s. h f (inr i) s))
    (λ c t.
    let (s, m) = complete_parts g e c t in
    let within = h e (inl refl) m in
    (omega arith, omega arith, complete_between g (c.0 + 1) b es upwards (λ f i l. (behind g e f (first_before e f es up i) c.0 s m l, (h f (inr i) l).1))))

-- an item of the set is found in it
found_by : (b : Bool) (v : List Bool) (o : Option (List Bool)) → ((w : List Bool) × (o ≡ Some w)) → (w : List Bool) × (cond b (Some v) o ≡ Some w)
found_by true v o h = (v, refl)
found_by false v o h = h

found : (e : (ℕ × ℕ) × List Bool) (a : Items) → Among e a → (v : List Bool) × (item_at a e.0.0 e.0.1 ≡ Some v)
found e [] i = absurd i
found e (f ∷ fs) (inl s) = (f.1, rw (eq-eqb e.0.0 f.0.0 (ap (λ z. z.0.0) s), eq-eqb e.0.1 f.0.1 (ap (λ z. z.0.1) s)) refl)
found e (f ∷ fs) (inr i) = found_by (eqb e.0.0 f.0.0 && eqb e.0.1 f.0.1) f.1 (item_at fs e.0.0 e.0.1) (found e fs i)

-- the complete items of a set that fits come upwards by productions of the grammar
pub complete_upwards :
    (g : Grammar) (a : Items) → AreUpwards a → Fits g a → AreBetween 0 (length g.productions) (complete_items g a)
complete_upwards g a up fits =
    complete_between g 0 (length g.productions) a up
    (λ e i m. let (v, s) = found e a i in let fit = fits e.0.0 e.0.1 v s in (omega arith, fit.production))

by_test :
    (b : Bool) (o : Option (List Bool)) (p t : ℕ)
    → cond (not b && bit_or_none o t) (p ∷ []) [] ≡ given_by (λ c. cond (get_or c.1 t false) (c.0 ∷ []) []) p (cond b None o)
by_test true o p t = refl
by_test false None p t = refl
by_test false (Some v) p t = refl

-- the reductions on a token are the productions of the complete items that look at it
pub reductions_are :
    (g : Grammar) (a : Items) (t : ℕ) → AreUpwards a → Fits g a
    → reductions g a t ≡ map (λ c. c.0) (filter (λ c. slice_index_or c.1 t false) (complete_items g a))
reductions_are g a t up fits =
    let cs = complete_items g a in
    let n = length g.productions in
    let f : ℕ → Bool = λ p. not (eqb p g.start_production) && is_complete_at g a t p in
    let given : ℕ × List Bool → List ℕ = λ c. cond (get_or c.1 t false) (c.0 ∷ []) [] in
    filter_walks f (range_with_len 0 n)
    ∙ walked (λ p. cond (f p) (p ∷ []) []) given 0 n n cs (omega arith) (complete_upwards g a up fits)
    (λ p l m. rw (complete_listed g a p) (by_test (eqb p g.start_production) (item_at a p (length (body_of g p))) p t))
    ∙ sym (mapped_filter_walks (λ c. c.0) (λ c. get_or c.1 t false) cs)

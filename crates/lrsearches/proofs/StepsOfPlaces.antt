-- the steps from a place
use Rattle.std.proofs.Common.{◌≡◌, ◌≢◌, ℕ, ◌+◌, ◌<◌, ◌≤◌, List, [], ◌∷◌, ◌++◌, map, length, get_or, drop, Option, None, Some, refl, sym, ap, ◌∙◌, ◌⊎◌, inl, inr, ⊎_elim}
use Rattle.std.specs.Prelude.{Contains, Bool, false, IsTrue, Result, Ok, Err, IfOk, slice_index_or}
use Rattle.std.specs.Option.{IsSomeAnd}
use Rattle.std.proofs.lemmas.Bool.{cases_lt}
use Rattle.std.proofs.lemmas.List.{length-map, get_or-map, drop_all}
use Rattle.lrclosing.proofs.SymbolsBehindDots.{left_at}
use Rattle.std.proofs.lemmas.Option.{slice_get_past}
use Rattle.std.proofs.lemmas.List.Elements.{Contains-append_left, Contains-push, Contains-push_cases}
use Rattle.lrspec.specs.grammars.Grammar.{Symbol, Grammar, IsGrammar}
use Rattle.lrspec.specs.grammars.ItemSets.{Items, item_at, Fits}
use Rattle.lrspec.specs.merging.Graph.{Graph, closed_of, edge}
use Rattle.lrspec.proofs.grammars.BodyFacts.{start_not_before}
use Rattle.lrspec.proofs.grammars.ListMembers.{Among, among_from_contains, contains_from_among}
use Rattle.lrsearches.specs.StoredWays.{IsRowOf, row_of}
use Rattle.std.specs.declared.vec.Vec.{Vec}
use Rattle.std.specs.declared.alloc.Global.{Global}
use Rattle.lrgrammar.specs.declared.idx.StIdx.{StIdx}
use Rattle.lrgrammar.specs.declared.idx.Symbol as code
use Rattle.lrgrammar.specs.Symbols.{symbol_of}
use Rattle.lrsearches.specs.declared.places.Candidate.TheVariants.{First, Second}
use Rattle.lrsearches.specs.declared.places.Step as made
use Rattle.lrsearches.specs.declared.places.Need as stored
use Rattle.lrsearches.specs.declared.places.Place as kept
use Rattle.lrsearches.specs.StoredPlaces.{place_of, needs_of, steps_of, step_with}
use Rattle.lrsearches.specs.Searches as search
use Rattle.lrsearches.specs.Searches.{Need, Met, Look, Place, Step, Closes, GoesBack, Steps, IsSettled, IsLooking, AreLooking, AreStepsOf, AreClosesOf, step_to_first, step_to_second}
use Rattle.lrsearches.proofs.NeedFacts.{back_unique}

-- what is made of an element is in the list of what is made
pub among_map : {X Y : Type 0} (f : X → Y) (x : X) (xs : List X) → Among x xs → Among (f x) (map f xs)
among_map f x [] h = absurd h
among_map f x (y ∷ ys) (inl e) = inl (ap f e)
among_map f x (y ∷ ys) (inr h) = inr (among_map f x ys h)

-- and that list has nothing else
pub from_map : {X Y : Type 0} (f : X → Y) (y : Y) (xs : List X) → Among y (map f xs) → (x : X) × Among x xs × (y ≡ f x)
from_map f y [] h = absurd h
from_map f y (x ∷ xs) (inl e) = (x, inl refl, e)
from_map f y (x ∷ xs) (inr h) = let (z, i, e) = from_map f y xs h in (z, inr i, e)

pub contains_map : {X Y : Type 0} (f : X → Y) (x : X) (xs : List X) → Contains xs x → Contains (map f xs) (f x)
contains_map f x xs h = contains_from_among (f x) (map f xs) (among_map f x xs (among_from_contains x xs h))

pub from_contains_map : {X Y : Type 0} (f : X → Y) (y : Y) (xs : List X) → Contains (map f xs) y → (x : X) × Contains xs x × (y ≡ f x)
from_contains_map f y xs h = let (x, i, e) = from_map f y xs (among_from_contains y (map f xs) h) in (x, contains_from_among x xs i, e)

-- an item at dot 0 does not go back
not_back : {x z : Need} (p : ℕ) → x ≡ Look p 0 → GoesBack x z → ⊥
not_back p e search.GoesBack.met = absurd cc
not_back p e search.GoesBack.look = absurd cc

-- and is settled only as the start item
not_settled : (g : Grammar) {x : Need} (p : ℕ) → x ≡ Look p 0 → p ≢ g.start_production → IsSettled g x → ⊥
not_settled g p e differ search.IsSettled.met = absurd cc
not_settled g p e differ search.IsSettled.moved = absurd cc
not_settled g p e differ search.IsSettled.start = differ cc

-- what is settled is not closed
settled_not_closed : (g : Grammar) {x z : Need} → IsGrammar g → (h : Graph) (t s : ℕ) → IsSettled g x → Closes g (closed_of h s) t x z → ⊥
settled_not_closed g grammar h t s i k = go i k refl
  where
    go : {x y z : Need} → IsSettled g x → Closes g (closed_of h s) t y z → x ≡ y → ⊥
    go search.IsSettled.met (search.Closes.begins p d a e j b) f = absurd cc
    go search.IsSettled.met (search.Closes.inherit p d a e j b) f = absurd cc
    go search.IsSettled.moved (search.Closes.begins p d a e j b) f = absurd cc
    go search.IsSettled.moved (search.Closes.inherit p d a e j b) f = absurd cc
    go search.IsSettled.start (search.Closes.begins {r = r} {q = q} {y = y} p d a e j b) f =
        let same : q ≡ g.start_production = cc in start_not_before grammar p d r (y, e) (rw same at j)
    go search.IsSettled.start (search.Closes.inherit {r = r} {q = q} {y = y} p d a e j b) f =
        let same : q ≡ g.start_production = cc in start_not_before grammar p d r (y, e) (rw same at j)

-- an edge leads from a state of the graph
pub edge_below : (h : Graph) (s u : ℕ) (v : Symbol) → edge h s v ≡ Some u → s < length h
edge_below h s u v e = elim (cases_lt s (length h)) [
  | inl l ↦ l
  | inr l ↦ let none : edge h s v ≡ None = rw (slice_get_past h s l) refl in absurd cc
]

-- an item that looks at a token in an item set that fits the grammar is of a production
pub looking_below : (g : Grammar) (c : Items) (t p d : ℕ) (x : Need) → Fits g c → IsLooking c t x → x ≡ Look p d → p < length g.productions
looking_below g c t p d x fits look e = some (item_at c p d) refl (rw e at look)
  where
    some : (o : Option (List Bool)) → item_at c p d ≡ o → IsSomeAnd o (λ v. IsTrue (slice_index_or v t false)) → p < length g.productions
    some None e l = absurd l
    some (Some v) e l = (fits p d v e).production

-- an edge that leads into a state stands at its place in the row of the state
pub row_at :
    {T : Type 0} (number : T → ℕ) (es : List (code.Symbol T × StIdx T)) (i : ℕ) (e : code.Symbol T × StIdx T) → i < length es → e ≡ get_or es i e
    → Contains (row_of number es) (symbol_of number e.0, number e.1.0)
row_at {T} number es i e l is =
    let shown : code.Symbol T × StIdx T → Symbol × ℕ = λ e. (symbol_of number e.0, number e.1.0) in
    (i, rw length-map l, get_or-map shown es i e (shown e) l ∙ ap shown (sym is))

-- the stored steps to needs are the steps to them
pub first_steps : {T : Type 0} (number : T → ℕ) (a : kept.Place T) (zs : List (stored.Need T)) → steps_of number (map (λ z. step_with a First z) zs) ≡ map (step_to_first (place_of number a)) (needs_of number zs)
first_steps number a [] = refl
first_steps number a (z ∷ zs) = rw (first_steps number a zs) refl

pub second_steps : {T : Type 0} (number : T → ℕ) (a : kept.Place T) (zs : List (stored.Need T)) → steps_of number (map (λ z. step_with a Second z) zs) ≡ map (step_to_second (place_of number a)) (needs_of number zs)
second_steps number a [] = refl
second_steps number a (z ∷ zs) = rw (second_steps number a zs) refl

-- the edges that are left at a place are the one there and those behind it
pub row_left :
    {T : Type 0} (number : T → ℕ) (es : List (code.Symbol T × StIdx T)) (i : ℕ) (e : code.Symbol T × StIdx T) → i < length es → e ≡ get_or es i e
    → row_of number (drop i es) ≡ (symbol_of number e.0, number e.1.0) ∷ row_of number (drop (i + 1) es)
row_left {T} number es i e l is =
    let shown : code.Symbol T × StIdx T → Symbol × ℕ = λ e. (symbol_of number e.0, number e.1.0) in left_at {Y = Symbol × ℕ} shown es i e e l is refl

-- none is left at the end
pub row_none : {T : Type 0} (number : T → ℕ) (es : List (code.Symbol T × StIdx T)) (i : ℕ) → length es ≤ i → row_of number (drop i es) ≡ []
row_none number es i l = rw (drop_all i es l) refl

-- the row of a state that is read
pub row_read :
    {T : Type 0} (number : T → ℕ) (h : Graph) (xs : List (Vec (code.Symbol T × StIdx T) Global)) (i u : ℕ) (was : Vec (code.Symbol T × StIdx T) Global)
    (es : List (code.Symbol T × StIdx T)) → es ≡ was.items → was ≡ get_or xs i was → i ≡ u → IsRowOf h u (row_of number (get_or xs u was).items)
    → IsRowOf h u (row_of number es)
row_read {T} number h xs i u was es a b c k =
    let same : es ≡ (get_or xs u was).items = a ∙ ap (λ (v : Vec (code.Symbol T × StIdx T) Global). v.items) b ∙ ap (λ j. (get_or xs j was).items) c in
    rw same k

module _ {T E : Type 0} (number : T → ℕ) (g : Grammar) (h : Graph) (t : ℕ) (a : kept.Place T) (zs : List (stored.Need T)) where
  -- so it is where steps are made
  pub first_made :
      (r : Result (Vec (made.Step T) Global) E) → AreStepsOf g h t (place_of number a) (map (step_to_first (place_of number a)) (needs_of number zs))
      → IfOk r (λ v. v.items ≡ map (λ z. step_with a First z) zs) → IfOk r (λ v. AreStepsOf g h t (place_of number a) (steps_of number v.items))
  first_made (Ok v) k e = rw (e, first_steps number a zs) k
  first_made (Err e) k h = h

  pub second_made :
      (r : Result (Vec (made.Step T) Global) E) → AreStepsOf g h t (place_of number a) (map (step_to_second (place_of number a)) (needs_of number zs))
      → IfOk r (λ v. v.items ≡ map (λ z. step_with a Second z) zs) → IfOk r (λ v. AreStepsOf g h t (place_of number a) (steps_of number v.items))
  second_made (Ok v) k e = rw (e, second_steps number a zs) k
  second_made (Err e) k h = h

module _ (g : Grammar) (h : Graph) (t : ℕ) (a : Place) where
  -- where the first candidate is closed, these are the steps
  pub steps_of_first :
      (p : ℕ) (zs : List Need) → a.first ≡ Look p 0 → p ≢ g.start_production → AreLooking h t a
      → AreClosesOf g (closed_of h a.state) t p zs → AreStepsOf g h t a (map (step_to_first a) zs)
  steps_of_first p zs e differ look k = record {
    sound = λ s i. let (z, j, f) = from_contains_map (step_to_first a) s zs i in
        rw f (search.Steps.first {s = a.state} {x = a.first} {y = a.second} {z = z} (rw e (k.sound z j)));
    looking = λ s i. let (z, j, f) = from_contains_map (step_to_first a) s zs i in rw f (k.looking z j, look.1);
    covered = record {
      firsts = λ z c l. ⊎_elim
          (λ (i : Contains zs z). search.IsCovered.seen (None, contains_map (step_to_first a) z zs i))
          (λ (i : Contains zs Met). search.IsCovered.first_met (None, contains_map (step_to_first a) Met zs i))
          (k.all z (rw e at c) l);
      seconds = λ z i c l. absurd (not_settled g p e differ i);
      backs = λ s v x y f i j l. absurd (not_back p e i);
    };
  }

  -- where the first is settled and the second is closed, these are
  pub steps_of_second :
      (q : ℕ) (zs : List Need) → IsGrammar g → IsSettled g a.first → a.second ≡ Look q 0 → AreLooking h t a
      → AreClosesOf g (closed_of h a.state) t q zs → AreStepsOf g h t a (map (step_to_second a) zs)
  steps_of_second q zs grammar settled e look k = record {
    sound = λ s i. let (z, j, f) = from_contains_map (step_to_second a) s zs i in
        rw f (search.Steps.second {s = a.state} {x = a.first} {y = a.second} {z = z} (rw e (k.sound z j)));
    looking = λ s i. let (z, j, f) = from_contains_map (step_to_second a) s zs i in rw f (look.0, k.looking z j);
    covered = record {
      firsts = λ z c l. absurd (settled_not_closed g grammar h t a.state settled c);
      seconds = λ z i c l. ⊎_elim
          (λ (i : Contains zs z). search.IsCovered.seen (None, contains_map (step_to_second a) z zs i))
          (λ (i : Contains zs Met). search.IsCovered.second_met (None, contains_map (step_to_second a) Met zs i))
          (k.all z (rw e at c) l);
      backs = λ s v x y f i j l. absurd (not_back q e j);
    };
  }

  -- the steps back over the edges that were looked at
  pub record AreBacks (x y : Need) (es : List Step) (left : List (Symbol × ℕ)) : Type 0 where
    pub sound : (e : Step) → Contains es e → Steps g h t a e.0 e.1
    pub looking : (e : Step) → Contains es e → AreLooking h t e.1
    pub passed :
        (s : ℕ) (v : Symbol) → edge h s v ≡ Some a.state → AreLooking h t (record { state = s; first = x; second = y })
        → Contains left (v, s) ⊎ Contains es (Some v, record { state = s; first = x; second = y })

  module _ (x y : Need) where
    pub begin_backs : (left : List (Symbol × ℕ)) → IsRowOf h a.state left → AreBacks x y [] left
    begin_backs left row = record {
      sound = λ e k. absurd (among_from_contains e [] k);
      looking = λ e k. absurd (among_from_contains e [] k);
      passed = λ s v e l. inl ((row v s).1 e);
    }

    -- an edge is the first, or among the others
    first_or_left : (v w : Symbol) (s u : ℕ) (left : List (Symbol × ℕ)) → Contains ((w, u) ∷ left) (v, s) → ((v ≡ w) × (s ≡ u)) ⊎ Contains left (v, s)
    first_or_left v w s u left k = elim (among_from_contains (v, s) ((w, u) ∷ left) k) [
      | inl e ↦ inl (ap (λ (p : Symbol × ℕ). p.0) e, ap (λ (p : Symbol × ℕ). p.1) e)
      | inr i ↦ inr (contains_from_among (v, s) left i)
    ]

    module _ (w : Symbol) (u : ℕ) (es : List Step) (left : List (Symbol × ℕ)) where
      -- over an edge behind which an item does not look at the token there is no step
      pub blind_back :
          (AreLooking h t (record { state = u; first = x; second = y }) → ⊥) → AreBacks x y es ((w, u) ∷ left) → AreBacks x y es left
      blind_back blind k = record {
        sound = k.sound;
        looking = k.looking;
        passed = λ s v e l. ⊎_elim
            (λ (i : Contains ((w, u) ∷ left) (v, s)).
            ⊎_elim
            (λ (m : (v ≡ w) × (s ≡ u)). absurd (blind (rw m.1 at l)))
            (λ (j : Contains left (v, s)). inl j)
            (first_or_left v w s u left i))
            (λ (i : Contains es (Some v, record { state = s; first = x; second = y })). inr i)
            (k.passed s v e l);
      }

      -- over another there is
      pub next_back :
          edge h u w ≡ Some a.state → GoesBack a.first x → GoesBack a.second y → AreLooking h t (record { state = u; first = x; second = y })
          → AreBacks x y es ((w, u) ∷ left) → AreBacks x y (es ++ (Some w, record { state = u; first = x; second = y }) ∷ []) left
      next_back f i j look k =
          let step : Step = (Some w, record { state = u; first = x; second = y }) in record {
            sound = λ e m. elim (Contains-push_cases es step e m) [ inl n ↦ k.sound e n | inr n ↦ rw (← n) (search.Steps.back f i j) ];
            looking = λ e m. elim (Contains-push_cases es step e m) [ inl n ↦ k.looking e n | inr n ↦ rw (← n) look ];
            passed = λ s v e l. ⊎_elim
                (λ (o : Contains ((w, u) ∷ left) (v, s)).
                ⊎_elim
                (λ (m : (v ≡ w) × (s ≡ u)).
                let here : Contains (es ++ step ∷ []) (Some v, record { state = s; first = x; second = y }) = rw (m.0, m.1) (Contains-push es step) in inr here)
                (λ (n : Contains left (v, s)). inl n)
                (first_or_left v w s u left o))
                (λ (n : Contains es (Some v, record { state = s; first = x; second = y })). inr (Contains-append_left es (step ∷ []) (Some v, record { state = s; first = x; second = y }) n))
                (k.passed s v e l);
          }

    -- where no edge is left, these are the steps
    pub end_backs :
        (es : List Step) (left : List (Symbol × ℕ)) → IsGrammar g → IsSettled g a.first → IsSettled g a.second → GoesBack a.first x → GoesBack a.second y
        → left ≡ [] → AreBacks x y es left → AreStepsOf g h t a es
    end_backs es left grammar one other i j none k = record {
      sound = k.sound;
      looking = k.looking;
      covered = record {
        firsts = λ z c l. absurd (settled_not_closed g grammar h t a.state one c);
        seconds = λ z i c l. absurd (settled_not_closed g grammar h t a.state other c);
        backs = λ s v m n e o q l.
            let first : m ≡ x = back_unique m x o i in
            let second : n ≡ y = back_unique n y q j in
            let look = rw (first, second) at l in
            ⊎_elim
            (λ (b : Contains left (v, s)). absurd (among_from_contains (v, s) [] (rw none at b)))
            (λ (b : Contains es (Some v, record { state = s; first = x; second = y })). rw (first, second) (search.IsCovered.seen (Some v, b)))
            (k.passed s v e look);
      };
    }

  -- there are no steps where one candidate does not go back
  pub no_backs :
      IsGrammar g → IsSettled g a.first → IsSettled g a.second → ((z : Need) → GoesBack a.first z → ⊥) ⊎ ((z : Need) → GoesBack a.second z → ⊥)
      → AreStepsOf g h t a []
  no_backs grammar one other none = record {
    sound = λ e k. absurd (among_from_contains e [] k);
    looking = λ e k. absurd (among_from_contains e [] k);
    covered = record {
      firsts = λ z c l. absurd (settled_not_closed g grammar h t a.state one c);
      seconds = λ z i c l. absurd (settled_not_closed g grammar h t a.state other c);
      backs = λ s v m n e o q l.
          ⊎_elim (λ (b : (z : Need) → GoesBack a.first z → ⊥). absurd (b m o)) (λ (b : (z : Need) → GoesBack a.second z → ⊥). absurd (b n q)) none;
    };
  }

-- a step leads to a state of the graph
pub step_below : {g : Grammar} {h : Graph} {t : ℕ} {a b : Place} {o : Option Symbol} → Steps g h t a o b → a.state < length h → b.state < length h
step_below (search.Steps.first c) l = l
step_below (search.Steps.second c) l = l
step_below {h = h} (search.Steps.back {s = s} {u = u} {v = v} e i j) l = edge_below h s u v e

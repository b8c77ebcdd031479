-- a closing on the way to its end
use Rattle.std.proofs.Common.{◌≡◌, ◌≢◌, ℕ, Bool, false, List, [], ◌∷◌, Option, None, Some, set, get_or-set_other, refl, sym, ◌∙◌, ◌⊎◌, inl, inr, ⊎_elim}
use Rattle.std.specs.Prelude.{IsTrue}
use Rattle.std.specs.Option.{IsSome}
use Rattle.std.proofs.lemmas.Bool.{cases_eq}
use Rattle.lrspec.specs.grammars.Grammar.{Symbol, Rule, Grammar, Production, rest, IsOfRule, IsProductionOf}
use Rattle.lrspec.specs.grammars.First.{AllNullable, Begins}
use Rattle.lrspec.specs.grammars.ItemSets as set
use Rattle.lrspec.specs.grammars.ItemSets.{Items, item_at, HasItem, LooksIn, IsBefore, ClosedItem, ClosedLook, IsClosure}
use Rattle.lrspec.proofs.grammars.Closures.{has_of_looks, closure_made}
use Rattle.lrbits.specs.Bits.{bit}
use Rattle.lrclosing.specs.Rows.{Rows, row_at, HasToken, AreWithRows}
use Rattle.lrclosing.specs.Visits.{IsToDo, IsPassedOn, IsVisited, IsUnderway}

-- a production is of one rule
pub one_rule : (o : Option Production) (r s : ℕ) → IsOfRule o r → IsOfRule o s → s ≡ r
one_rule None r s h k = absurd h
one_rule (Some p) r s h k = sym k ∙ h

no_token : (o : Option (List Bool)) (t : ℕ) → o ≡ None → HasToken o t → ⊥
no_token None t e h = h
no_token (Some v) t e h = cc

-- a row with a token is a row
pub some_of_token : (o : Option (List Bool)) (t : ℕ) → HasToken o t → IsSome o
some_of_token None t h = absurd h
some_of_token (Some v) t h = refl

-- what is none is no row
pub no_row : (o : Option (List Bool)) → o ≡ None → IsSome o → ⊥
no_row None e h = cc
no_row (Some v) e h = cc

-- at first all given items are left
pub begin_underway :
    (g : Grammar) (a : Items) (rows : Rows) (Todo : ℕ → Type 0) → ((r : ℕ) → row_at rows r ≡ None) → ((q : ℕ) → Todo q → ⊥) → IsUnderway g a rows Todo a
begin_underway g a rows Todo e n = record {
  items = λ q r i h. absurd (no_row (row_at rows r) (e r) h);
  looks = λ q r t i h. absurd (no_token (row_at rows r) t (e r) h);
  given = λ p d h. inl h;
  put_in = λ q r h i. absurd (n q h);
  done = λ q r i h. absurd (no_row (row_at rows r) (e r) h);
  behind = λ r h. absurd (no_row (row_at rows r) (e r) h);
}

-- one item is visited after others
module _
    (g : Grammar) (a : Items) (rows new : Rows) (Todo After : ℕ → Type 0) (p d : ℕ) (ctx : Option (List Bool)) (v : IsVisited g p d ctx rows new Todo After)
  where
    -- what was passed on still is
    still : (i e : ℕ) (o : Option (List Bool)) → IsPassedOn g rows i e o → IsPassedOn g new i e o
    still i e o k = record {
      row = λ r y h. v.kept_row r (k.row r y h);
      begins = λ r t y h b. v.kept_token r t (k.begins r t y h b);
      inherit = λ r t y h n l. v.kept_token r t (k.inherit r t y h n l);
    }

    next_items :
        ClosedItem g (HasItem a) p d → ((q r : ℕ) → IsProductionOf g q r → IsSome (row_at rows r) → ClosedItem g (HasItem a) q 0) → (q r : ℕ)
        → IsProductionOf g q r → IsSome (row_at new r) → ClosedItem g (HasItem a) q 0
    next_items item u q r i h = elim (v.from_row r h) [ inl k ↦ u q r i k | inr b ↦ set.ClosedItem.expand item b.1 i ]

    next_looks :
        ClosedItem g (HasItem a) p d → ((t : ℕ) → HasToken ctx t → ClosedLook g (HasItem a) (LooksIn a) p d t)
        → ((q r t : ℕ) → IsProductionOf g q r → HasToken (row_at rows r) t → ClosedLook g (HasItem a) (LooksIn a) q 0 t) → (q r t : ℕ)
        → IsProductionOf g q r → HasToken (row_at new r) t → ClosedLook g (HasItem a) (LooksIn a) q 0 t
    next_looks item look u q r t i h = elim (v.from_token r t h) [
      | inl k ↦ u q r t i k
      | inr k ↦ elim k.2 [
        | inl b ↦ set.ClosedLook.begins item k.1 i b
        | inr b ↦ set.ClosedLook.inherit (look t b.1) k.1 i b.0
      ]
    ]

    next_todo :
        ((q r : ℕ) → Todo q → IsProductionOf g q r → IsSome (row_at rows r)) → (q r : ℕ) → After q → IsProductionOf g q r
        → IsSome (row_at new r)
    next_todo u q r h i = elim (v.from_todo q r h i) [ inl k ↦ v.kept_row r (u q r k i) | inr k ↦ k ]

    -- a production that was to be done, or was done, or is visited now
    next_done :
        ((q r : ℕ) → IsProductionOf g q r → IsSome (row_at rows r)
        → Todo q ⊎ IsPassedOn g rows q 0 (row_at rows r) ⊎ IsPassedOn g new q 0 (row_at rows r))
        → (q r : ℕ) → IsProductionOf g q r → IsSome (row_at new r) → After q ⊎ IsPassedOn g new q 0 (row_at new r)
    next_done u q r i h = elim (v.changed q r i) [
      | inr k ↦ inl k
      | inl same ↦ elim (u q r i (rw same at h)) [
        | inl k ↦ inl (v.kept_todo q k)
        | inr k ↦ elim k [
          | inl j ↦ inr (rw same (still q 0 (row_at rows r) j))
          | inr j ↦ inr (rw same j)
        ]
      ]
    ]

    -- a rule that gets a row stands behind the dot of the item
    next_behind : ((r : ℕ) → IsSome (row_at rows r) → (q : ℕ) × (e : ℕ) × IsBefore g q e (Rule r)) → (r : ℕ) → IsSome (row_at new r) → (q : ℕ) × (e : ℕ) × IsBefore g q e (Rule r)
    next_behind u r h = elim (v.from_row r h) [ inl k ↦ u r k | inr b ↦ (p, d, b) ]

-- a given item is visited
pub next_given :
    (g : Grammar) (a : Items) (rows new : Rows) (Todo After : ℕ → Type 0) (p d : ℕ) (ctx : List Bool) (left more : Items) → IsUnderway g a rows Todo left
    → IsVisited g p d (Some ctx) rows new Todo After → item_at a p d ≡ Some ctx
    → ((i e : ℕ) → HasItem left i e → ((i ≡ p) × (e ≡ d)) ⊎ HasItem more i e) → IsUnderway g a new After more
next_given g a rows new Todo After p d ctx left more u v here split = record {
  items = next_items g a rows new Todo After p d (Some ctx) v item u.items;
  looks = next_looks g a rows new Todo After p d (Some ctx) v item look u.looks;
  given = λ i e h. ⊎_elim
      (λ (k : HasItem left i e). ⊎_elim
      (λ (s : (i ≡ p) × (e ≡ d)). inr (rw (s.0, s.1, here) v.passed))
      (λ (s : HasItem more i e). inl s)
      (split i e k))
      (λ (k : IsPassedOn g rows i e (item_at a i e)). inr (still g a rows new Todo After p d (Some ctx) v i e (item_at a i e) k))
      (u.given i e h);
  put_in = next_todo g a rows new Todo After p d (Some ctx) v u.put_in;
  done = next_done g a rows new Todo After p d (Some ctx) v (λ q r i h. elim (u.done q r i h) [ inl k ↦ inl k | inr k ↦ inr (inl k) ]);
  behind = next_behind g a rows new Todo After p d (Some ctx) v u.behind;
}
  where
    item : ClosedItem g (HasItem a) p d
    item = let h : HasItem a p d = rw here refl in set.ClosedItem.core h

    look : (t : ℕ) → HasToken (Some ctx) t → ClosedLook g (HasItem a) (LooksIn a) p d t
    look t h = let l : LooksIn a p d t = rw here h in set.ClosedLook.core l

-- productions of a rule that were to be done are visited, all of which pass the same on, and are to be done no more
pub next_productions :
    (g : Grammar) (a : Items) (rows new : Rows) (Todo Less After Is : ℕ → Type 0) (p r : ℕ) (left : Items) → IsUnderway g a rows Todo left
    → IsProductionOf g p r → IsSome (row_at rows r) → ((q : ℕ) → Is q → IsProductionOf g q r) → ((q : ℕ) → Is q → IsPassedOn g new q 0 (row_at rows r))
    → IsVisited g p 0 (row_at rows r) rows new Less After → ((q : ℕ) → Less q → Todo q) → ((q : ℕ) → Todo q → Is q ⊎ Less q) → IsUnderway g a new After left
next_productions g a rows new Todo Less After Is p r left u i o of passed v kept split = record {
  items = next_items g a rows new Less After p 0 (row_at rows r) v item u.items;
  looks = next_looks g a rows new Less After p 0 (row_at rows r) v item (λ x h. u.looks p r x i h) u.looks;
  given = λ j e h. ⊎_elim
      (λ (k : HasItem left j e). inl k)
      (λ (k : IsPassedOn g rows j e (item_at a j e)). inr (still g a rows new Less After p 0 (row_at rows r) v j e (item_at a j e) k))
      (u.given j e h);
  put_in = next_todo g a rows new Less After p 0 (row_at rows r) v (λ q s h j. u.put_in q s (kept q h) j);
  done = next_done g a rows new Less After p 0 (row_at rows r) v others;
  behind = next_behind g a rows new Less After p 0 (row_at rows r) v u.behind;
}
  where
    item : ClosedItem g (HasItem a) p 0
    item = u.items p r i o

    others :
        (q s : ℕ) → IsProductionOf g q s → IsSome (row_at rows s)
        → Less q ⊎ IsPassedOn g rows q 0 (row_at rows s) ⊎ IsPassedOn g new q 0 (row_at rows s)
    others q s j h = ⊎_elim
        (λ (k : Todo q). ⊎_elim
        (λ (x : Is q). let same : s ≡ r = one_rule _ r s (of q x) j in inr (inr (rw same (passed q x))))
        (λ (x : Less q). inl x)
        (split q k))
        (λ (k : IsPassedOn g rows q 0 (row_at rows s)). inr (inl k))
        (u.done q s j h)

-- a production that was to be done is visited, and is to be done no more
pub next_production :
    (g : Grammar) (a : Items) (rows new : Rows) (todo : List Bool) (After : ℕ → Type 0) (p r : ℕ) (left : Items) → IsUnderway g a rows (IsToDo todo) left
    → IsTrue (bit todo p) → IsProductionOf g p r → IsVisited g p 0 (row_at rows r) rows new (IsToDo (set todo p false)) After → IsUnderway g a new After left
next_production g a rows new todo After p r left u t i v =
    next_productions g a rows new (IsToDo todo) (IsToDo (set todo p false)) After (λ q. q ≡ p) p r left u i (u.put_in p r t i) (λ q e. rw e i) (λ q e. rw e v.passed) v kept split
  where
    kept : (q : ℕ) → IsTrue (bit (set todo p false) q) → IsTrue (bit todo q)
    kept q h = ⊎_elim
        (λ (e : q ≡ p). rw e t)
        (λ (n : q ≢ p). rw get_or-set_other at h)
        (cases_eq q p)

    split : (q : ℕ) → IsTrue (bit todo q) → (q ≡ p) ⊎ IsTrue (bit (set todo p false) q)
    split q h = ⊎_elim
        (λ (e : q ≡ p). inl e)
        (λ (n : q ≢ p). inr (rw get_or-set_other h))
        (cases_eq q p)

-- productions that pass on what they look at are to be done no more
pub fewer_underway :
    (g : Grammar) (a : Items) (rows : Rows) (Todo Less : ℕ → Type 0) (left : Items) → IsUnderway g a rows Todo left → ((q : ℕ) → Less q → Todo q)
    → ((q r : ℕ) → IsProductionOf g q r → Todo q → Less q ⊎ IsPassedOn g rows q 0 (row_at rows r)) → IsUnderway g a rows Less left
fewer_underway g a rows Todo Less left u kept split = record {
  items = u.items;
  looks = u.looks;
  given = u.given;
  put_in = λ q r h i. u.put_in q r (kept q h) i;
  done = λ q r i h. ⊎_elim
      (λ (k : Todo q). split q r i k)
      (λ (k : IsPassedOn g rows q 0 (row_at rows r)). inr k)
      (u.done q r i h);
  behind = u.behind;
}

-- where no item is left and no production is to be done, the given items with the rows are the closure
pub end_underway :
    (g : Grammar) (a c : Items) (rows : Rows) (Todo : ℕ → Type 0) → IsUnderway g a rows Todo [] → ((q : ℕ) → Todo q → ⊥) → AreWithRows g rows a c → IsClosure g a c
end_underway g a c rows Todo u n w =
    closure_made w.contains
    (record {
      items = λ p d r q y h e i. w.items q (r, i, row_behind p d r y h e);
      begins = λ p d r q t y h e i b. w.looks q t (r, i, begins p d r t y h e b);
      inherit = λ p d r q t y l e i z. w.looks q t (r, i, inherit p d r t y l e z);
    })
    (λ p d h. elim (w.from_item p d h) [
      | inl k ↦ set.ClosedItem.core k
      | inr k ↦ rw k.0 (u.items p k.1.0 k.1.1 k.1.2)
    ])
    (λ p d t h. elim (w.from_look p d t h) [
      | inl k ↦ set.ClosedLook.core k
      | inr k ↦ rw k.0 (u.looks p k.1.0 t k.1.1 k.1.2)
    ])
  where
    given : (p d : ℕ) → HasItem a p d → IsPassedOn g rows p d (item_at a p d)
    given p d h = ⊎_elim (λ (k : HasItem [] p d). cc) (λ (k : IsPassedOn g rows p d (item_at a p d)). k) (u.given p d h)

    done : (q r : ℕ) → IsProductionOf g q r → IsSome (row_at rows r) → IsPassedOn g rows q 0 (row_at rows r)
    done q r i h = ⊎_elim (λ (k : Todo q). absurd (n q k)) (λ (k : IsPassedOn g rows q 0 (row_at rows r)). k) (u.done q r i h)

    row_behind : (p d r : ℕ) (y : List Symbol) → HasItem c p d → rest g p d ≡ Rule r ∷ y → IsSome (row_at rows r)
    row_behind p d r y h e = elim (w.from_item p d h) [
      | inl k ↦ (given p d k).row r y e
      | inr k ↦ (done p k.1.0 k.1.1 k.1.2).row r y (rw k.0 at e)
    ]

    begins : (p d r t : ℕ) (y : List Symbol) → HasItem c p d → rest g p d ≡ Rule r ∷ y → Begins g y t → HasToken (row_at rows r) t
    begins p d r t y h e b = elim (w.from_item p d h) [
      | inl k ↦ (given p d k).begins r t y e b
      | inr k ↦ (done p k.1.0 k.1.1 k.1.2).begins r t y (rw k.0 at e) b
    ]

    inherit : (p d r t : ℕ) (y : List Symbol) → LooksIn c p d t → rest g p d ≡ Rule r ∷ y → AllNullable g y → HasToken (row_at rows r) t
    inherit p d r t y l e z = elim (w.from_look p d t l) [
      | inl k ↦ (given p d (has_of_looks a p d t k)).inherit r t y e z k
      | inr k ↦ (done p k.1.0 k.1.1 (some_of_token (row_at rows k.1.0) t k.1.2)).inherit r t y (rw k.0 at e) z k.1.2
    ]

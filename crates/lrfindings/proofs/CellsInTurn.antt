-- what is found at a token in a state, and in one state after another
use Rattle.std.proofs.Common.{◌≡◌, ◌∙◌, ℕ, zero, suc, ◌+◌, ◌<◌, Bool, true, false, IsTrue, ◌↔◌, is_some, Option, None, List, [], ◌∷◌, ◌++◌, length, eq-eqb, refl, sym, ap, append_assoc, arith}
use Rattle.std.specs.Prelude.{◌==◌}
use Rattle.std.specs.List.{flat_map, range_with_len}
use Rattle.std.proofs.lemmas.Bool.{eqb-true}
use Rattle.std.proofs.lemmas.List.{append-nil}
use Rattle.std.proofs.Math.Numerals.{add-one}
use Rattle.lrspec.specs.grammars.Grammar.{Grammar, Token}
use Rattle.lrspec.specs.grammars.ItemSets.{AreUpwards, Fits}
use Rattle.lrspec.specs.merging.Graph.{Graph, closed_of, edge}
use Rattle.lrspec.specs.tables.Table.{reductions}
use Rattle.lrrows.specs.StateRows.{complete_items}
use Rattle.lrrows.proofs.ReductionsOf.{reductions_are}
use Rattle.lrverdicts.specs.Listed.{Listing}
use Rattle.lrfindings.specs.declared.cells.Outcome.{Outcome}
use Rattle.lrfindings.specs.declared.cells.Precedences.{Precedences}
use Rattle.lrfindings.specs.CellConflicts.{Resolution, outcome, reductions_left, shift_stands, decided, resolved_of, conflicts_by, conflicts_at, made_by, made_at, resolved_by, resolved_at}
use Rattle.lrfindings.specs.StoredCells.{outcome_in, ArePrecedencesOf, looking_at}

-- the outcomes by precedences of a grammar are the grammar's
pub outcomes_are : (g : Grammar) (ps : Precedences) → ArePrecedencesOf g ps → (t p : ℕ) → outcome_in ps t p ≡ outcome g t p
outcomes_are g ps are t p = rw (are.tokens t, are.productions p) refl

-- by the same outcomes the same is left, and decided
module _ (o q : ℕ → Outcome) (same : (p : ℕ) → o p ≡ q p) where
  same_left : (ps : List ℕ) → reductions_left o ps ≡ reductions_left q ps
  same_left [] = refl
  same_left (p ∷ ps) = rw (same p, same_left ps) refl

  same_stands : (ps : List ℕ) → shift_stands o ps ≡ shift_stands q ps
  same_stands [] = refl
  same_stands (p ∷ ps) = rw (same p, same_stands ps) refl

  same_decided : (ps : List ℕ) → decided o ps ≡ decided q ps
  same_decided [] = refl
  same_decided (p ∷ ps) = rw (same p, same_decided ps) refl

  pub same_conflicts : (s t : ℕ) (b : Bool) (ps : List ℕ) → conflicts_by o s t b ps ≡ conflicts_by q s t b ps
  same_conflicts s t false ps = refl
  same_conflicts s t true ps = rw (same_left ps, same_stands ps) refl

  pub same_resolved : (s t : ℕ) (b : Bool) (ps : List ℕ) → resolved_by o s t b ps ≡ resolved_by q s t b ps
  same_resolved s t false ps = refl
  same_resolved s t true ps = ap (resolved_of s t) (same_decided ps)

  pub same_made : (b : Bool) (ps : List ℕ) → made_by o b ps ≡ made_by q b ps
  same_made false ps = refl
  same_made true ps = rw (same_left ps, same_stands ps) refl

-- without reductions none is made
pub none_made : (o : ℕ → Outcome) (b : Bool) → None ≡ made_by o b []
none_made o true = refl
none_made o false = refl

-- without reductions nothing is left, and nothing resolved
pub no_conflicts : (o : ℕ → Outcome) (s t : ℕ) (b : Bool) → conflicts_by o s t b [] ≡ []
no_conflicts o s t true = refl
no_conflicts o s t false = refl

pub none_resolved : (o : ℕ → Outcome) (s t : ℕ) (b : Bool) → resolved_by o s t b [] ≡ []
none_resolved o s t true = refl
none_resolved o s t false = refl

-- what the test of two numbers tells
pub same_by_test : (m n : ℕ) → IsTrue (m == n) ↔ (m ≡ n)
same_by_test m n = (eqb-true m n, eq-eqb m n)

-- no list is empty but the one without elements
pub nothing_listed : {X : Type 0} (xs : List X) (n : ℕ) (b : Bool) → b ≡ (n == 0) → b ≡ true → n ≡ length xs → xs ≡ []
nothing_listed [] n b test empty many = refl
nothing_listed (x ∷ xs) n b test empty many = let none : n ≡ 0 = eqb-true n 0 (sym test ∙ empty) in absurd (omega arith)

-- what looks at the token among the complete items of a state are the reductions of the cell
module _
    (g : Grammar) (h : Graph) (s t : ℕ) (cs : List (ℕ × List Bool)) (ps : List ℕ) (up : AreUpwards (closed_of h s)) (fits : Fits g (closed_of h s))
    (items : cs ≡ complete_items g (closed_of h s)) (looking : ps ≡ looking_at cs t)
  where
    are : ps ≡ reductions g (closed_of h s) t
    are = looking ∙ ap (λ cs. looking_at cs t) items ∙ sym (reductions_are g (closed_of h s) t up fits)

    -- what is left in the cell is left at its token
    pub conflicts_added :
        (o : ℕ → Outcome) (b : Bool) (before new : List Listing) → ((p : ℕ) → o p ≡ outcome g t p) → b ≡ is_some (edge h s (Token t))
        → new ≡ before ++ conflicts_by o s t b ps → new ≡ before ++ conflicts_at g h s t
    conflicts_added o b before new same shifts added =
        added ∙ ap (λ ls. before ++ ls) (same_conflicts o (outcome g t) same s t b ps ∙ rw (are, shifts) refl)

    pub resolved_added :
        (o : ℕ → Outcome) (b : Bool) (before new : List Resolution) → ((p : ℕ) → o p ≡ outcome g t p) → b ≡ is_some (edge h s (Token t))
        → new ≡ before ++ resolved_by o s t b ps → new ≡ before ++ resolved_at g h s t
    resolved_added o b before new same shifts added =
        added ∙ ap (λ ls. before ++ ls) (same_resolved o (outcome g t) same s t b ps ∙ rw (are, shifts) refl)

    -- what is made in the cell is made at its token
    pub made_there :
        (o : ℕ → Outcome) (b : Bool) (made : Option ℕ) → ((p : ℕ) → o p ≡ outcome g t p) → b ≡ is_some (edge h s (Token t))
        → made ≡ made_by o b ps → made ≡ made_at g h s t
    made_there o b made same shifts is = is ∙ same_made o (outcome g t) same b ps ∙ rw (are, shifts) refl

    pub none_made_at : ps ≡ [] → None ≡ made_at g h s t
    none_made_at none = rw (sym are ∙ none) (none_made (outcome g t) (is_some (edge h s (Token t))))

    -- without reductions nothing is left at the token, and nothing resolved
    pub no_conflicts_at : ps ≡ [] → conflicts_at g h s t ≡ []
    no_conflicts_at none = rw (sym are ∙ none) (no_conflicts (outcome g t) s t (is_some (edge h s (Token t))))

    pub none_resolved_at : ps ≡ [] → resolved_at g h s t ≡ []
    none_resolved_at none = rw (sym are ∙ none) (none_resolved (outcome g t) s t (is_some (edge h s (Token t))))

-- nothing is added
pub nothing_added : {X : Type 0} (before more : List X) → more ≡ [] → before ≡ before ++ more
nothing_added before more none = sym (ap (λ xs. before ++ xs) none ∙ append-nil before)

module _ {X : Type 0} (f : ℕ → List X) where
  -- what gives nothing at each place gives nothing
  pub nothing_given : (xs : List ℕ) → ((x : ℕ) → f x ≡ []) → flat_map f xs ≡ []
  nothing_given [] none = refl
  nothing_given (x ∷ xs) none = rw (none x) (nothing_given xs none)

  given_from : (a n k : ℕ) → k ≡ a + n → flat_map f (range_with_len a (suc n)) ≡ flat_map f (range_with_len a n) ++ f k
  given_from a zero k e = let same : k ≡ a = omega arith in rw same (append-nil (f a))
  given_from a (suc n) k e = rw (given_from (a + 1) n k (omega arith)) (sym (append_assoc (f a) (flat_map f (range_with_len (a + 1) n)) (f k)))

  -- what is given at one place more is added
  pub given_next :
      (k : ℕ) (before old new : List X) → old ≡ before ++ flat_map f (range_with_len 0 k) → new ≡ old ++ f k
      → new ≡ before ++ flat_map f (range_with_len 0 (k + 1))
  given_next k before old new given added =
      rw (add-one, given_from 0 k k (omega arith))
      (added ∙ ap (λ xs. xs ++ f k) given ∙ append_assoc before (flat_map f (range_with_len 0 k)) (f k))

  -- what is given at all places below `n` but those that are left stands in the list
  pub record AreGivenBefore (n : ℕ) (left : List ℕ) (xs : List X) : Type 0 where
    pub done : ℕ
    pub rest : ℕ
    pub all : done + rest ≡ n
    pub left_is : left ≡ range_with_len done rest
    pub given : xs ≡ flat_map f (range_with_len 0 done)

-- without complete items nothing is left in a state, and nothing resolved
module _
    (g : Grammar) (h : Graph) (s : ℕ) (cs : List (ℕ × List Bool)) (up : AreUpwards (closed_of h s)) (fits : Fits g (closed_of h s))
    (items : cs ≡ complete_items g (closed_of h s)) (none : cs ≡ [])
  where
    pub no_conflicts_in : (before : List Listing) (ts : List ℕ) → before ≡ before ++ flat_map (conflicts_at g h s) ts
    no_conflicts_in before ts =
        nothing_added before _
        (nothing_given (conflicts_at g h s) ts (λ t. no_conflicts_at g h s t cs (looking_at cs t) up fits items refl (ap (λ cs. looking_at cs t) none)))

    pub none_resolved_in : (before : List Resolution) (ts : List ℕ) → before ≡ before ++ flat_map (resolved_at g h s) ts
    none_resolved_in before ts =
        nothing_added before _
        (nothing_given (resolved_at g h s) ts (λ t. none_resolved_at g h s t cs (looking_at cs t) up fits items refl (ap (λ cs. looking_at cs t) none)))

first_of_range : (a n x : ℕ) (xs : List ℕ) → range_with_len a n ≡ x ∷ xs → (m : ℕ) × (n ≡ suc m) × (a ≡ x) × (range_with_len (a + 1) m ≡ xs)
first_of_range a zero x xs e = cc
first_of_range a (suc n) x xs e = (n, refl, cc, cc)

none_of_range : (a n : ℕ) → range_with_len a n ≡ [] → n ≡ 0
none_of_range a zero e = refl
none_of_range a (suc n) e = cc

module _ {X : Type 0} (f : ℕ → List X) (n : ℕ) where
  pub given_first : (left : List ℕ) (xs : List X) → left ≡ range_with_len 0 n → xs ≡ [] → AreGivenBefore f n left xs
  given_first left xs e none = record { done = 0; rest = n; all = omega arith; left_is = e; given = none }

  pub next_is_below : (left next : List ℕ) (x : ℕ) (xs : List X) → left ≡ x ∷ next → AreGivenBefore f n left xs → x < n
  next_is_below left next x xs e b =
      let (m, k, y, z) = first_of_range b.done b.rest x next (sym b.left_is ∙ e) in omega (arith, b.all)

  pub given_before_next :
      (left next : List ℕ) (x : ℕ) (xs new : List X) → left ≡ x ∷ next → new ≡ xs ++ f x → AreGivenBefore f n left xs
      → AreGivenBefore f n next new
  given_before_next left next x xs new e added b =
      let (m, k, y, z) = first_of_range b.done b.rest x next (sym b.left_is ∙ e) in
      let here : new ≡ xs ++ f b.done = added ∙ ap (λ a. xs ++ f a) (sym y) in
      record {
        done = b.done + 1;
        rest = m;
        all = omega (arith, b.all);
        left_is = sym z;
        given = given_next f b.done [] xs new b.given here;
      }

  pub all_given : (left : List ℕ) (xs : List X) → left ≡ [] → AreGivenBefore f n left xs → xs ≡ flat_map f (range_with_len 0 n)
  all_given left xs e b =
      let k = none_of_range b.done b.rest (sym b.left_is ∙ e) in
      let l : b.done ≡ n = omega (arith, b.all) in
      b.given ∙ ap (λ m. flat_map f (range_with_len 0 m)) l

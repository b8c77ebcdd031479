-- what a visit of an item makes of the rows
use Rattle.std.proofs.Common.{◌≡◌, ◌≢◌, ℕ, zero, suc, ◌+◌, ◌<◌, Bool, true, false, List, [], ◌∷◌, ◌++◌, Option, None, Some, length, get_or, set, length-set, get_or-set_same, get_or-set_other, length-drop, add-one, refl, sym, ap, ◌∙◌, arith, replicate, ◌⊎◌, inl, inr, ⊎_elim}
use Rattle.std.specs.Prelude.{IsTrue, IfSome}
use Rattle.std.specs.Option.{IsSome}
use Rattle.std.proofs.lemmas.Bool.{cases_eq}
use Rattle.std.proofs.lemmas.List.{length-replicate}
use Rattle.lrspec.specs.grammars.Grammar.{Symbol, Rule, Grammar, IsGrammar, rest, body_of, token_count, IsProductionOf}
use Rattle.lrspec.specs.grammars.First.{AllNullable}
use Rattle.lrspec.specs.grammars.ItemSets.{IsBefore}
use Rattle.lrspec.proofs.grammars.BodyFacts.{rest_next, symbol_at_dot}
use Rattle.lrbits.specs.Bits.{bit}
use Rattle.lrclosing.specs.Rows.{Rows, row_at, HasToken, ArePassedOn, HasGrown, AreRows}
use Rattle.lrclosing.specs.Visits.{HasNone, AreMarkedIf, IsToDo, IsPassedOn, PassesOn, IsVisited, AreShaped}
use Rattle.lrclosing.proofs.ClosingUnderway.{one_rule}

-- the rest of the body behind a rule
pub behind_rule : (g : Grammar) (p d r e : ℕ) → (b : IsBefore g p d (Rule r)) → e ≡ d + 1 → rest g p e ≡ b.0
behind_rule g p d r e b i = rw (i, add-one) (rest_next (body_of g p) d (Rule r) b.0 b.1)

-- a rule behind a dot is one of the grammar
pub rule_below : {g : Grammar} → IsGrammar g → (rows : Rows) → AreRows g rows → (p d r : ℕ) → IsBefore g p d (Rule r) → r < length rows
rule_below s rows a p d r b = let l = (symbol_at_dot s p d (Rule r) b).1 in omega (arith, l, a.rules)

-- what an item stands before is within the body
pub before_place : (g : Grammar) (p d : ℕ) (x : Symbol) → IsBefore g p d x → d < length (body_of g p)
before_place g p d x b = let e : length (rest g p d) ≡ suc (length b.0) = ap length b.1 in omega (arith, e, length-drop d (body_of g p))

-- an item with no rule behind its dot passes nothing on
pub passed_nothing : (g : Grammar) (p d : ℕ) (ctx : Option (List Bool)) (rows : Rows) → ((r : ℕ) → IsBefore g p d (Rule r) → ⊥) → IsPassedOn g rows p d ctx
passed_nothing g p d ctx rows n = record {
  row = λ r y h. absurd (n r (y, h));
  begins = λ r t y h b. absurd (n r (y, h));
  inherit = λ r t y h z l. absurd (n r (y, h));
}

pub visited_nothing :
    (g : Grammar) (p d : ℕ) (ctx : Option (List Bool)) (rows : Rows) (Todo : ℕ → Type 0) → ((r : ℕ) → IsBefore g p d (Rule r) → ⊥) → IsVisited g p d ctx rows rows Todo Todo
visited_nothing g p d ctx rows Todo n = record {
  passed = passed_nothing g p d ctx rows n;
  kept_row = λ r h. h;
  kept_token = λ r t h. h;
  from_row = λ r h. inl h;
  from_token = λ r t h. inl h;
  kept_todo = λ q h. h;
  from_todo = λ q r h i. inl h;
  changed = λ q r i. inl refl;
}

-- what is marked stays so
marked_kept : (c : Bool) (g : Grammar) (r : ℕ) (old new : List Bool) → AreMarkedIf c g r old new → (q : ℕ) → IsTrue (bit old q) → IsTrue (bit new q)
marked_kept true g r old new m q h = m.kept q h
marked_kept false g r old new m q h = rw m h

marked_from :
    (c : Bool) (g : Grammar) (r : ℕ) (old new : List Bool) → AreMarkedIf c g r old new → (q : ℕ) → IsTrue (bit new q) → IsTrue (bit old q) ⊎ IsProductionOf g q r
marked_from true g r old new m q h = m.from q h
marked_from false g r old new m q h = inl (rw m at h)

-- a row that has changed has its productions marked
grown_marked :
    (c : Bool) (g : Grammar) (k r : ℕ) (o : Option (List Bool)) (v old new : List Bool) → HasGrown k c o v → AreMarkedIf c g r old new → (q : ℕ) → IsProductionOf g q r
    → (o ≡ Some v) ⊎ IsTrue (bit new q)
grown_marked true g k r o v old new h m q i = inr (m.set q i)
grown_marked false g k r o v old new h m q i = inl h

-- the item stands before a rule, whose row is written
module _
    (g : Grammar) (p d b : ℕ) (y : List Symbol) (ctx own : Option (List Bool)) (rows : Rows) (v : List Bool) (Todo After : ℕ → Type 0)
    (before : rest g p d ≡ Rule b ∷ y) (below : b < length rows) (passed : ArePassedOn g y ctx (row_at rows b) v)
    (kept : (q : ℕ) → Todo q → After q) (from : (q : ℕ) → After q → Todo q ⊎ IsProductionOf g q b)
    (stays : (q : ℕ) → IsProductionOf g q b → (row_at rows b ≡ Some v) ⊎ After q) (from_own : (t : ℕ) → HasToken ctx t → HasToken own t)
    (to_own : (t : ℕ) → HasToken own t → HasToken ctx t ⊎ HasToken (row_at rows b) t)
  where
    new : Rows
    new = set rows b (Some v)

    here : row_at (set rows b (Some v)) b ≡ Some v
    here = get_or-set_same rows b (Some v) None below

    there : (r : ℕ) → r ≢ b → row_at (set rows b (Some v)) r ≡ row_at rows r
    there r n = get_or-set_other rows b r (Some v) None n

    has : (t : ℕ) → IsTrue (bit v t) → HasToken (row_at (set rows b (Some v)) b) t
    has t h = rw here h

    same : (r : ℕ) (z : List Symbol) → rest g p d ≡ Rule r ∷ z → (r ≡ b) × (z ≡ y)
    same r z e =
        let both : Rule r ∷ z ≡ Rule b ∷ y = sym e ∙ before in
        let rule : r ≡ b = cc in
        let behind : z ≡ y = cc in
        (rule, behind)

    passed_on : IsPassedOn g (set rows b (Some v)) p d own
    passed_on = record {
      row = λ r z e. rw ((same r z e).0, here) refl;
      begins = λ r t z e h. let s = same r z e in rw s.0 (has t (passed.begins t (rw s.1 at h)));
      inherit = λ r t z e n l.
          let s = same r z e in
          let m : AllNullable g y = rw s.1 at n in
          rw s.0 (has t (elim (to_own t l) [ inl j ↦ passed.inherit t m j | inr j ↦ passed.kept t j ]));
    }

    kept_token : (r t : ℕ) → HasToken (row_at rows r) t → HasToken (row_at (set rows b (Some v)) r) t
    kept_token r t h = ⊎_elim
        (λ (e : r ≡ b). let j : HasToken (row_at rows b) t = rw e at h in rw e (has t (passed.kept t j)))
        (λ (n : r ≢ b). rw (there r n) h)
        (cases_eq r b)

    kept_row : (r : ℕ) → IsSome (row_at rows r) → IsSome (row_at (set rows b (Some v)) r)
    kept_row r h = ⊎_elim (λ (e : r ≡ b). rw (e, here) refl) (λ (n : r ≢ b). rw (there r n) h) (cases_eq r b)

    from_row : (r : ℕ) → IsSome (row_at (set rows b (Some v)) r) → IsSome (row_at rows r) ⊎ IsBefore g p d (Rule r)
    from_row r h = ⊎_elim
        (λ (e : r ≡ b). inr (rw e (y, before)))
        (λ (n : r ≢ b). inl (rw (there r n) at h))
        (cases_eq r b)

    from_here : (t : ℕ) → IsTrue (bit v t) → HasToken (row_at rows b) t ⊎ PassesOn g p d own b t
    from_here t h = elim (passed.from t h) [
      | inl j ↦ inl j
      | inr j ↦ inr (y, before, elim j [ inl i ↦ inl i | inr i ↦ inr (i.0, from_own t i.1) ])
    ]

    from_token : (r t : ℕ) → HasToken (row_at (set rows b (Some v)) r) t → HasToken (row_at rows r) t ⊎ PassesOn g p d own r t
    from_token r t h = ⊎_elim
        (λ (e : r ≡ b).
        let j : HasToken (row_at (set rows b (Some v)) b) t = rw e at h in
        let i : IsTrue (bit v t) = rw here at j in
        rw e (from_here t i))
        (λ (n : r ≢ b). inl (rw (there r n) at h))
        (cases_eq r b)

    from_todo : (q r : ℕ) → After q → IsProductionOf g q r → Todo q ⊎ IsSome (row_at (set rows b (Some v)) r)
    from_todo q r h i = elim (from q h) [
      | inl j ↦ inl j
      | inr j ↦ inr (rw (one_rule _ b r j i, here) refl)
    ]

    changed : (q r : ℕ) → IsProductionOf g q r → (row_at (set rows b (Some v)) r ≡ row_at rows r) ⊎ After q
    changed q r i = ⊎_elim
        (λ (e : r ≡ b).
        let j : IsProductionOf g q b = rw e at i in
        elim (stays q j) [
          | inl s ↦ inl (rw e (here ∙ sym s))
          | inr s ↦ inr s
        ])
        (λ (n : r ≢ b). inl (there r n))
        (cases_eq r b)

    pub visited : IsVisited g p d own rows (set rows b (Some v)) Todo After
    visited = record {
      passed = passed_on;
      kept_row = kept_row;
      kept_token = kept_token;
      from_row = from_row;
      from_token = from_token;
      kept_todo = kept;
      from_todo = from_todo;
      changed = changed;
    }

-- a row is taken out and written
pub set_twice : {X : Type 0} (xs : List X) (i : ℕ) (x y : X) → set (set xs i x) i y ≡ set xs i y
set_twice [] i x y = refl
set_twice (z ∷ xs) zero x y = refl
set_twice (z ∷ xs) (suc i) x y = ap (λ l. z ∷ l) (set_twice xs i x y)

-- a row that is read
pub row_read :
    (rows : Rows) (i j : ℕ) (d o p : Option (List Bool)) → p ≡ o → o ≡ get_or rows i d → i ≡ j → j < length rows → p ≡ row_at rows j
row_read rows i j d o p e r s l = e ∙ r ∙ rw s (same rows j l)
  where
    same : (xs : Rows) (k : ℕ) → k < length xs → get_or xs k d ≡ get_or xs k None
    same [] k h = absurd (omega arith)
    same (x ∷ xs) zero h = refl
    same (x ∷ xs) (suc k) h = same xs k (omega arith)

-- a row that is read while another is taken out
pub row_beside :
    (rows : Rows) (i r j l : ℕ) (x d o p : Option (List Bool)) → p ≡ o → o ≡ get_or (set rows i x) j d → x ≡ None → i ≡ r → j ≡ l → l < length rows
    → p ≡ row_at (set rows r None) l
row_beside rows i r j l x d o p e h n s t b =
    row_read (set rows r None) j l d o p e (rw (n, s) at h) t (rw (length-set rows r None) b)

-- a row that was taken out and written
pub row_written :
    (rows new : Rows) (i r : ℕ) (x y : Option (List Bool)) → new ≡ set (set rows i x) r y → i ≡ r → new ≡ set rows r y
row_written rows new i r x y e s = (rw s at e) ∙ set_twice rows r x y

-- an item stands before a rule, whose row is taken out, extended and written
pub visited_by :
    (g : Grammar) (p d r e : ℕ) (ctx own taken : Option (List Bool)) (rows new : Rows) (v todo after : List Bool) (c : Bool) (k : ℕ) → IsBefore g p d (Rule r)
    → e ≡ d + 1 → taken ≡ row_at rows r → ArePassedOn g (rest g p e) ctx taken v → HasGrown k c taken v → AreMarkedIf c g r todo after
    → new ≡ set rows r (Some v) → r < length rows → ((t : ℕ) → HasToken ctx t → HasToken own t)
    → ((t : ℕ) → HasToken own t → HasToken ctx t ⊎ HasToken (row_at rows r) t) → IsVisited g p d own rows new (IsToDo todo) (IsToDo after)
visited_by g p d r e ctx own taken rows new v todo after c k before next t passed grown marked w below from_own to_own =
    let m : ArePassedOn g before.0 ctx (row_at rows r) v = rw (behind_rule g p d r e before next, t) at passed in
    rw w (visited g p d r before.0 ctx own rows v (IsToDo todo) (IsToDo after) before.1 below m (marked_kept c g r todo after marked) (marked_from c g r todo after marked)
    (grown_marked c g k r (row_at rows r) v todo after (rw t at grown) marked) from_own to_own)

-- the row of a production's own rule, while the row of a rule is taken out
module _ (rows : Rows) (b r : ℕ) (below : b < length rows) where
  pub from_taken : (t : ℕ) → HasToken (row_at (set rows b None) r) t → HasToken (row_at rows r) t
  from_taken t h = ⊎_elim
      (λ (e : r ≡ b). let j : HasToken (row_at (set rows b None) b) t = rw e at h in let i : HasToken None t = rw get_or-set_same at j in absurd i)
      (λ (n : r ≢ b). rw get_or-set_other at h)
      (cases_eq r b)

  pub to_taken : (t : ℕ) → HasToken (row_at rows r) t → HasToken (row_at (set rows b None) r) t ⊎ HasToken (row_at rows b) t
  to_taken t h = ⊎_elim
      (λ (e : r ≡ b). inr (rw e at h))
      (λ (n : r ≢ b). inl (rw get_or-set_other h))
      (cases_eq r b)

-- the bits of a row that is there
pub bits_if : (o : Option (List Bool)) (n : ℕ) → ((v : List Bool) → o ≡ Some v → length v ≡ n) → IfSome o (λ v. length v ≡ n)
bits_if None n h = tt
bits_if (Some v) n h = h v refl

-- no rule has a row, and no production is to be done
pub clear_rows : (n r : ℕ) → row_at (replicate n None) r ≡ None
clear_rows zero r = refl
clear_rows (suc n) zero = refl
clear_rows (suc n) (suc r) = clear_rows n r

-- one rule more
pub clear_more : (rows new : Rows) (n : ℕ) → rows ≡ replicate n None → new ≡ rows ++ (None ∷ []) → new ≡ replicate (n + 1) None
clear_more rows new n e h = h ∙ rw (e, add-one) (snoc n)
  where
    snoc : (k : ℕ) → replicate {A = Option (List Bool)} k None ++ (None ∷ []) ≡ replicate (suc k) None
    snoc zero = refl
    snoc (suc k) = ap (λ l. None ∷ l) (snoc k)

pub clear_bits : (n : ℕ) → HasNone (replicate n false)
clear_bits zero i h = cc
clear_bits (suc n) zero h = cc
clear_bits (suc n) (suc i) h = clear_bits n i h

pub shaped_clear :
    (g : Grammar) (n m : ℕ) (rows : Rows) (todo : List Bool) → rows ≡ replicate n None → todo ≡ replicate m false → n ≡ length g.rule_names
    → m ≡ length g.productions → AreShaped g rows todo
shaped_clear g n m rows todo e h s t = rw (e, h) (record {
  of_rules = record { rules = length-replicate n None ∙ s; bits = λ r v k. let c : None ≡ Some v = sym (clear_rows n r) ∙ k in absurd cc };
  of_productions = length-replicate m false ∙ t;
})

-- a production that is to be done no more keeps the shape
pub shaped_taken : (g : Grammar) (rows : Rows) (todo : List Bool) (p : ℕ) → AreShaped g rows todo → AreShaped g rows (set todo p false)
shaped_taken g rows todo p a = record { of_rules = a.of_rules; of_productions = length-set todo p false ∙ a.of_productions }

marked_len : (c : Bool) (g : Grammar) (r : ℕ) (old after : List Bool) → AreMarkedIf c g r old after → length after ≡ length old
marked_len true g r old after m = m.len
marked_len false g r old after m = ap length m

-- a row that is written keeps the shape
pub shaped_written :
    (g : Grammar) (rows new : Rows) (r : ℕ) (v todo after : List Bool) (c : Bool) → AreShaped g rows todo → new ≡ set rows r (Some v) → r < length rows
    → length v ≡ token_count g → AreMarkedIf c g r todo after → AreShaped g new after
shaped_written g rows new r v todo after c s w below l m = rw w (record {
  of_rules = record { rules = length-set rows r (Some v) ∙ s.of_rules.rules; bits = bits };
  of_productions = marked_len c g r todo after m ∙ s.of_productions;
})
  where
    bits : (q : ℕ) (u : List Bool) → row_at (set rows r (Some v)) q ≡ Some u → length u ≡ token_count g
    bits q u h = ⊎_elim
        (λ (e : q ≡ r).
        let k : row_at (set rows r (Some v)) r ≡ Some u = rw e at h in
        let j : Some v ≡ Some u = sym (get_or-set_same rows r (Some v) None below) ∙ k in
        let i : v ≡ u = cc in
        rw (← i) l)
        (λ (n : q ≢ r). s.of_rules.bits q u (sym (get_or-set_other rows r q (Some v) None n) ∙ h))
        (cases_eq q r)

-- the bits of a row, while another is taken out
pub bits_beside :
    (rows : Rows) (b r n : ℕ) → b < length rows → ((q : ℕ) (v : List Bool) → row_at rows q ≡ Some v → length v ≡ n)
    → IfSome (row_at (set rows b None) r) (λ v. length v ≡ n)
bits_beside rows b r n below f = ⊎_elim
    (λ (e : r ≡ b). rw (e, get_or-set_same rows b None None below) tt)
    (λ (d : r ≢ b). rw (get_or-set_other rows b r None None d) (bits_if (row_at rows r) n (f r)))
    (cases_eq r b)

-- what is passed on to a row with no bit set is passed on to none
pub passed_to_none :
    (g : Grammar) (y : List Symbol) (ctx : Option (List Bool)) (n : ℕ) (v row : List Bool) → v ≡ replicate n false → ArePassedOn g y ctx (Some v) row
    → ArePassedOn g y ctx None row
passed_to_none g y ctx n v row e a = record {
  len = a.len;
  kept = λ t h. absurd h;
  begins = a.begins;
  inherit = a.inherit;
  from = λ t h. elim (a.from t h) [ inl k ↦ absurd (clear_bits n t (rw e at k)) | inr k ↦ inr k ];
}

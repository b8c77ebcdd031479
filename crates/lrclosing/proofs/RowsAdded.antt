-- items that are added at dot 0, some after others
use Rattle.std.proofs.Common.{◌≡◌, ◌≢◌, ℕ, ◌+◌, ◌<◌, ◌≤◌, Bool, List, Option, None, Some, length, get_or, refl, arith, ◌⊎◌, inl, inr, ⊎_elim}
use Rattle.std.specs.Prelude.{IsTrue}
use Rattle.std.specs.Option.{IsSome}
use Rattle.std.proofs.lemmas.Bool.{cases_eq}
use Rattle.lrspec.specs.grammars.Grammar.{Grammar, IsProductionOf, productions_of, token_count}
use Rattle.lrspec.specs.grammars.ItemSets.{Items, item_at, HasItem, Fits}
use Rattle.lrspec.proofs.grammars.BodyFacts.{below_of_production}
use Rattle.lrspec.proofs.grammars.Closures.{contained_itself, contained_then}
use Rattle.lrbits.specs.Bits.{bit}
use Rattle.lrclosing.specs.ItemsOf.{HaveBits}
use Rattle.lrclosing.specs.Rows.{Rows, row_at, HasToken, AreAdded, ArePut, AreWithRows}
use Rattle.lrclosing.proofs.JoinedLookaheads.{some_of}
use Rattle.lrclosing.proofs.ProductionsOfRule.{IsAmongFirst, among_productions, production_among, among_next, among_more, among_here, among_none}

-- nothing is added
pub added_none : (I : ℕ → Type 0) (L : ℕ → ℕ → Type 0) (a : Items) → ((q : ℕ) → I q → ⊥) → ((q t : ℕ) → L q t → ⊥) → AreAdded I L a a
added_none I L a n m = record {
  contains = contained_itself a;
  from_item = λ p d h. inl h;
  from_look = λ p d t h. inl h;
  items = λ p h. absurd (n p h);
  looks = λ p t h. absurd (m p t h);
}

-- some are added after others
pub added_then :
    (I J K : ℕ → Type 0) (L M N : ℕ → ℕ → Type 0) (old mid new : Items) → AreAdded I L old mid → AreAdded J M mid new
    → ((q : ℕ) → K q → I q ⊎ J q) → ((q : ℕ) → I q → K q) → ((q : ℕ) → J q → K q)
    → ((q t : ℕ) → N q t → L q t ⊎ M q t) → ((q t : ℕ) → L q t → N q t) → ((q t : ℕ) → M q t → N q t) → AreAdded K N old new
added_then I J K L M N old mid new a b split left right cut first second = record {
  contains = contained_then old mid new a.contains b.contains;
  from_item = λ p d h. elim (b.from_item p d h) [
    | inl k ↦ elim (a.from_item p d k) [ inl j ↦ inl j | inr j ↦ inr (j.0, left p j.1) ]
    | inr k ↦ inr (k.0, right p k.1)
  ];
  from_look = λ p d t h. elim (b.from_look p d t h) [
    | inl k ↦ elim (a.from_look p d t k) [ inl j ↦ inl j | inr j ↦ inr (j.0, first p t j.1) ]
    | inr k ↦ inr (k.0, second p t k.1)
  ];
  items = λ p h. elim (split p h) [ inl k ↦ b.contains.items p 0 (a.items p k) | inr k ↦ b.items p k ];
  looks = λ p t h. elim (cut p t h) [ inl k ↦ b.contains.looks p 0 t (a.looks p t k) | inr k ↦ b.looks p t k ];
}

-- no production of a list is put in at first
pub put_no_more : (ps : List ℕ) (ctx : List Bool) (a : Items) → ArePut (IsAmongFirst 0 ps) ctx a a
put_no_more ps ctx a =
    added_none (IsAmongFirst 0 ps) (λ q t. IsAmongFirst 0 ps q × IsTrue (bit ctx t)) a (among_none ps) (λ q t h. among_none ps q h.0)

-- one production more
pub put_this :
    (ps : List ℕ) (i p : ℕ) (ctx : List Bool) (old mid new : Items) → ArePut (IsAmongFirst i ps) ctx old mid → ArePut (λ q. q ≡ p) ctx mid new
    → i < length ps → get_or ps i 0 ≡ p → ArePut (IsAmongFirst (i + 1) ps) ctx old new
put_this ps i p ctx old mid new a b l e =
    added_then (IsAmongFirst i ps) (λ q. q ≡ p) (IsAmongFirst (i + 1) ps) (λ q t. IsAmongFirst i ps q × IsTrue (bit ctx t)) (λ q t. (q ≡ p) × IsTrue (bit ctx t))
    (λ q t. IsAmongFirst (i + 1) ps q × IsTrue (bit ctx t)) old mid new a b
    (λ q h. among_next i ps p q e h) (λ q h. among_more i ps q h) (λ q h. among_here i ps p q l e h)
    (λ q t h. elim (among_next i ps p q e h.0) [ inl k ↦ inl (k, h.1) | inr k ↦ inr (k, h.1) ])
    (λ q t h. (among_more i ps q h.0, h.1)) (λ q t h. (among_here i ps p q l e h.0, h.1))

-- all productions of the rule at last
pub put_every :
    (g : Grammar) (ps : List ℕ) (r n : ℕ) (ctx : List Bool) (old new : Items) → ps ≡ productions_of g r → length ps ≤ n
    → ArePut (IsAmongFirst n ps) ctx old new → ArePut (λ q. IsProductionOf g q r) ctx old new
put_every g ps r n ctx old new e l a = record {
  contains = a.contains;
  from_item = λ p d h. elim (a.from_item p d h) [ inl k ↦ inl k | inr k ↦ inr (k.0, production_among g ps r n p e k.1) ];
  from_look = λ p d t h. elim (a.from_look p d t h) [ inl k ↦ inl k | inr k ↦ inr (k.0, (production_among g ps r n p e k.1.0, k.1.1)) ];
  items = λ p h. a.items p (among_productions g ps r n p e l h);
  looks = λ p t h. a.looks p t (among_productions g ps r n p e l h.0, h.1);
}

-- ---- the rows one after another

-- the rule of the production has a row, and comes before the rule `n`
abbrev pub IsPutInBelow : ℕ → Grammar → Rows → ℕ → Type 0
IsPutInBelow n g rows p = (r : ℕ) × (r < n) × IsProductionOf g p r × IsSome (row_at rows r)

-- the row has the token
abbrev pub IsGivenBelow : ℕ → Grammar → Rows → ℕ → ℕ → Type 0
IsGivenBelow n g rows p t = (r : ℕ) × (r < n) × IsProductionOf g p r × HasToken (row_at rows r) t

-- the rows of the first `n` rules are added
abbrev pub AreWithRowsBelow : ℕ → Grammar → Rows → Items → Items → Type 0
AreWithRowsBelow n g rows old new = AreAdded (IsPutInBelow n g rows) (IsGivenBelow n g rows) old new

pub rows_none : (g : Grammar) (rows : Rows) (a : Items) → AreWithRowsBelow 0 g rows a a
rows_none g rows a =
    added_none (IsPutInBelow 0 g rows) (IsGivenBelow 0 g rows) a
    (λ q h. let n : h.0 < 0 = h.1 in absurd (omega (arith, n)))
    (λ q t h. let n : h.0 < 0 = h.1 in absurd (omega (arith, n)))

-- a rule with no row adds nothing
pub rows_skip : (g : Grammar) (rows : Rows) (n : ℕ) (old new : Items) → AreWithRowsBelow n g rows old new → row_at rows n ≡ None → AreWithRowsBelow (n + 1) g rows old new
rows_skip g rows n old new a e =
    added_then (IsPutInBelow n g rows) (λ q. ⊥) (IsPutInBelow (n + 1) g rows) (IsGivenBelow n g rows) (λ q t. ⊥) (IsGivenBelow (n + 1) g rows) old new new
    a (added_none (λ q. ⊥) (λ q t. ⊥) new (λ q h. h) (λ q t h. h))
    (λ q h. ⊎_elim
    (λ (x : h.0 ≡ n). let k : IsSome (row_at rows n) = rw x at h.3 in absurd (no_row (row_at rows n) e k))
    (λ (x : h.0 ≢ n). let lt : h.0 < n = omega (arith, h.1, x) in inl (h.0, lt, h.2, h.3))
    (cases_eq h.0 n))
    (λ q h. let lt : h.0 < n + 1 = omega (arith, h.1) in (h.0, lt, h.2, h.3))
    (λ q h. absurd h)
    (λ q t h. ⊎_elim
    (λ (x : h.0 ≡ n). let k : HasToken (row_at rows n) t = rw x at h.3 in absurd (no_token (row_at rows n) t e k))
    (λ (x : h.0 ≢ n). let lt : h.0 < n = omega (arith, h.1, x) in inl (h.0, lt, h.2, h.3))
    (cases_eq h.0 n))
    (λ q t h. let lt : h.0 < n + 1 = omega (arith, h.1) in (h.0, lt, h.2, h.3))
    (λ q t h. absurd h)
  where
    no_row : (o : Option (List Bool)) → o ≡ None → IsSome o → ⊥
    no_row None e h = cc
    no_row (Some v) e h = cc

    no_token : (o : Option (List Bool)) (t : ℕ) → o ≡ None → HasToken o t → ⊥
    no_token None t e h = h
    no_token (Some v) t e h = cc

-- a rule with a row
pub rows_next :
    (g : Grammar) (rows : Rows) (n : ℕ) (v : List Bool) (old mid new : Items) → AreWithRowsBelow n g rows old mid → row_at rows n ≡ Some v
    → ArePut (λ q. IsProductionOf g q n) v mid new → AreWithRowsBelow (n + 1) g rows old new
rows_next g rows n v old mid new a e b =
    added_then (IsPutInBelow n g rows) (λ q. IsProductionOf g q n) (IsPutInBelow (n + 1) g rows) (IsGivenBelow n g rows)
    (λ q t. IsProductionOf g q n × IsTrue (bit v t)) (IsGivenBelow (n + 1) g rows) old mid new a b
    (λ q h. ⊎_elim
    (λ (x : h.0 ≡ n). inr (rw x at h.2))
    (λ (x : h.0 ≢ n). let lt : h.0 < n = omega (arith, h.1, x) in inl (h.0, lt, h.2, h.3))
    (cases_eq h.0 n))
    (λ q h. let lt : h.0 < n + 1 = omega (arith, h.1) in (h.0, lt, h.2, h.3))
    (λ q h. let lt : n < n + 1 = omega arith in (n, lt, h, rw e refl))
    (λ q t h. ⊎_elim
    (λ (x : h.0 ≡ n). let k : HasToken (row_at rows n) t = rw x at h.3 in inr (rw x at h.2, rw e at k))
    (λ (x : h.0 ≢ n). let lt : h.0 < n = omega (arith, h.1, x) in inl (h.0, lt, h.2, h.3))
    (cases_eq h.0 n))
    (λ q t h. let lt : h.0 < n + 1 = omega (arith, h.1) in (h.0, lt, h.2, h.3))
    (λ q t h. let lt : n < n + 1 = omega arith in (n, lt, h.0, rw e h.1))

-- all rows at last
pub rows_every :
    (g : Grammar) (rows : Rows) (n : ℕ) (old new : Items) → ((q r : ℕ) → IsProductionOf g q r → r < n) → AreWithRowsBelow n g rows old new → AreWithRows g rows old new
rows_every g rows n old new below a = record {
  contains = a.contains;
  from_item = λ p d h. elim (a.from_item p d h) [ inl k ↦ inl k | inr k ↦ inr (k.0, (k.1.0, k.1.2, k.1.3)) ];
  from_look = λ p d t h. elim (a.from_look p d t h) [ inl k ↦ inl k | inr k ↦ inr (k.0, (k.1.0, k.1.2, k.1.3)) ];
  items = λ p h. a.items p (h.0, below p h.0 h.1, h.1, h.2);
  looks = λ p t h. a.looks p t (h.0, below p h.0 h.1, h.1, h.2);
}

-- ---- what is put in fits

-- item sets that fit have one bit a token
pub bits_of_fits : (g : Grammar) (a : Items) → Fits g a → HaveBits (token_count g) a
bits_of_fits g a f p d v e = (f p d v e).bits

pub fits_of_put :
    (g : Grammar) (r : ℕ) (ctx : List Bool) (old new : Items) → Fits g old → ArePut (λ q. IsProductionOf g q r) ctx old new → HaveBits (token_count g) new → Fits g new
fits_of_put g r ctx old new f m b p d v e =
    ⊎_elim
    (λ (h : HasItem old p d).
    let o = some_of (item_at old p d) h in
    let k = f p d o.0 o.1 in
    record { production = k.production; dot = k.dot; bits = b p d v e })
    (λ (h : (d ≡ 0) × IsProductionOf g p r).
    record { production = below_of_production g p r h.1; dot = omega (arith, h.0); bits = b p d v e })
    (m.from_item p d (rw e refl))

-- what isn't some row is none
pub none_unless : (o : Option (List Bool)) → ((v : List Bool) → o ≡ Some v → ⊥) → o ≡ None
none_unless None n = refl
none_unless (Some v) n = absurd (n v refl)

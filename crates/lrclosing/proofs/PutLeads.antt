-- what a lead makes of a row
use Rattle.std.proofs.Common.{◌≡◌, ◌≢◌, ℕ, ◌<◌, Bool, true, false, ◌∷◌, List, [], Option, None, Some, length, length-set, get_or, set, refl, sym, ap, ◌∙◌, arith, ◌⊎◌, inl, inr, ⊎_elim}
use Rattle.std.specs.Prelude.{IsTrue, slice_get, if◌then◌else◌, ◌↔◌, ◌||◌, not}
use Rattle.std.specs.List.{All}
use Rattle.std.proofs.lemmas.Option.{get_or_from_slice_get, same_Some, slice_get-get_or}
use Rattle.lrspec.specs.grammars.Grammar.{Grammar, Symbol, rest, token_count}
use Rattle.lrbits.specs.Bits.{union}
use Rattle.lrbits.proofs.Unions.{length-union, union_same}
use Rattle.lrclosing.specs.declared.closer.Closer.{Closer}
use Rattle.lrclosing.specs.declared.closer.Row.{Row}
use Rattle.lrclosing.specs.declared.closer.Lead.{Lead}
use Rattle.lrclosing.specs.Rows.{row_at, ArePassedOn, HasGrown}
use Rattle.lrclosing.specs.Leads.{row_in, rows_in, joined_row, led_row, IsLeadOf, AreLeadsOf, IsLeadFor, IsRow, AreKeptRows, IsLed}
use Rattle.lrclosing.specs.Closer.{IsClosing, IsWhole}
use Rattle.lrclosing.proofs.PassedOn.{union_left, union_right, union_from, made_grown, grown_union, grown_before}
use Rattle.lrclosing.proofs.VisitedItems.{set_twice}
use Rattle.lrclosing.proofs.RowsWritten.{row_here, some_at, written_here, written_there, written_cases, token_in, token_out}

-- ---- rows that are written

-- a row that wasn't reached has grown
grown_reached :
    (k : ℕ) (c b : Bool) (x new : List Bool) → HasGrown k c (Some x) new → length new ≡ k → HasGrown k (c || not b) (if b then Some x else None) new
grown_reached k true true x new h e = h
grown_reached k false true x new h e = h
grown_reached k true false x new h e = made_grown k new e
grown_reached k false false x new h e = made_grown k new e

-- one place has one row
same_place : (rows : List Row) (b a : ℕ) (v w : Row) → slice_get rows b ≡ Some v → slice_get rows a ≡ Some w → b ≡ a → v ≡ w
same_place rows b a v w h k e = let z : slice_get rows a ≡ Some v = rw e at h in same_Some v w (sym z ∙ k)

-- what a union has already
union_had : (v w : List Bool) → union (union v w) v ≡ union v w
union_had [] w = refl
union_had (a ∷ v) [] = union_same (a ∷ v)
union_had (true ∷ v) (b ∷ w) = ap (λ x. true ∷ x) (union_had v w)
union_had (false ∷ v) (true ∷ w) = ap (λ x. true ∷ x) (union_had v w)
union_had (false ∷ v) (false ∷ w) = ap (λ x. false ∷ x) (union_had v w)

-- a lead that passes nothing on, or what the row has already
ctx_alone : (b : Bool) (v w m : List Bool) → (IsTrue b → v ≡ w) → (if b then union (union v m) w else union v m) ≡ union v m
ctx_alone true v w m h = let e : v ≡ w = h refl in rw (← e) (union_had v m)
ctx_alone false v w m h = refl

ctx_joined : (b : Bool) (v w m : List Bool) → IsTrue b → (if b then union (union v m) w else union v m) ≡ union (union v m) w
ctx_joined true v w m h = refl
ctx_joined false v w m h = cc

-- the row of a rule is read
read_row : (rows : List Row) (b : ℕ) (x : Row) → b < length rows → (v : Row) × (slice_get rows b ≡ Some v) × (get_or rows b x ≡ v)
read_row rows b x l = let v = some_at rows b l in (v.0, v.1, get_or_from_slice_get rows b v.0 x v.1)

-- what is written where the own row isn't passed on, or is the row itself
pub led_alone :
    (a : ℕ) (l : Lead) (rows : List Row) (x : Row) (u : List Bool) (c : Bool) → IsLeadFor rows l → a < length rows → (IsTrue l.inherits → l.rule ≡ a)
    → u ≡ union (get_or rows l.rule x).ctx l.begins → (IsTrue c ↔ (u ≢ (get_or rows l.rule x).ctx))
    → IsLed l a (c || not (get_or rows l.rule x).is_reached) rows (set rows l.rule (record { ctx = u; is_reached = true }))
led_alone a l rows x u c f below own e ch =
    let v = read_row rows l.rule x f.rule in
    let w = some_at rows a below in
    let s : u ≡ union v.0.ctx l.begins = rw v.2 at e in
    let d : IsTrue c ↔ (u ≢ v.0.ctx) = rw v.2 at ch in
    let same : IsTrue l.inherits → v.0.ctx ≡ w.0.ctx = λ y. ap (λ (r : Row). r.ctx) (same_place rows l.rule a v.0 w.0 v.1 w.1 (own y)) in
    let t : u ≡ (led_row l v.0 w.0).ctx = s ∙ sym (ctx_alone l.inherits v.0.ctx w.0.ctx l.begins same) in
    let len : length u ≡ length l.begins = ap length s ∙ length-union v.0.ctx l.begins ∙ f.bits l.rule v.0 v.1 in
    let first : HasGrown (length l.begins) c (Some v.0.ctx) u = grown_union (length l.begins) c v.0.ctx l.begins u s d in
    let grown : HasGrown (length l.begins) (c || not v.0.is_reached) (row_in v.0) u = grown_reached (length l.begins) c v.0.is_reached v.0.ctx u first len in
    record {
      row = v.0;
      own = w.0;
      row_is = v.1;
      own_is = w.1;
      written = ap (λ z. set rows l.rule (record { ctx = z; is_reached = true })) t;
      grown = rw v.2 (rw t at grown);
    }

-- and where it is passed on
pub led_joined :
    (a : ℕ) (l : Lead) (rows new : List Row) (x : Row) (u : List Bool) (c d : Bool) → IsLeadFor rows l → a < length rows → l.rule ≢ a → IsTrue l.inherits
    → u ≡ union (get_or rows l.rule x).ctx l.begins → (IsTrue c ↔ (u ≢ (get_or rows l.rule x).ctx))
    → ((v w : Row) → slice_get (set rows l.rule (record { ctx = u; is_reached = true })) l.rule ≡ Some v
    → slice_get (set rows l.rule (record { ctx = u; is_reached = true })) a ≡ Some w
    → new ≡ set (set rows l.rule (record { ctx = u; is_reached = true })) l.rule (joined_row v w))
    → ((v w : Row) → slice_get (set rows l.rule (record { ctx = u; is_reached = true })) l.rule ≡ Some v
    → slice_get (set rows l.rule (record { ctx = u; is_reached = true })) a ≡ Some w
    → (IsTrue d ↔ (union v.ctx w.ctx ≢ v.ctx)))
    → IsLed l a (d || (c || not (get_or rows l.rule x).is_reached)) rows new
led_joined a l rows new x u c d f below apart y e ch joined changed =
    let mid : Row = record { ctx = u; is_reached = true } in
    let v = read_row rows l.rule x f.rule in
    let w = some_at rows a below in
    let s : u ≡ union v.0.ctx l.begins = rw v.2 at e in
    let g : IsTrue c ↔ (u ≢ v.0.ctx) = rw v.2 at ch in
    let here : slice_get (set rows l.rule mid) l.rule ≡ Some mid = written_here rows l.rule mid f.rule in
    let there : slice_get (set rows l.rule mid) a ≡ Some w.0 = written_there rows l.rule a mid (λ z. apart (sym z)) ∙ w.1 in
    let t : union u w.0.ctx ≡ (led_row l v.0 w.0).ctx =
    ap (λ z. union z w.0.ctx) s ∙ sym (ctx_joined l.inherits v.0.ctx w.0.ctx l.begins y) in
    let n = length l.begins in
    let len : length u ≡ n = ap length s ∙ length-union v.0.ctx l.begins ∙ f.bits l.rule v.0 v.1 in
    let first : HasGrown n c (Some v.0.ctx) u = grown_union n c v.0.ctx l.begins u s g in
    let after : HasGrown n d (Some u) (union u w.0.ctx) = grown_union n d u w.0.ctx (union u w.0.ctx) refl (changed mid w.0 here there) in
    let grown : HasGrown n (d || (c || not v.0.is_reached)) (row_in v.0) (union u w.0.ctx) =
    grown_before n (c || not v.0.is_reached) d (row_in v.0) u (union u w.0.ctx) (grown_reached n c v.0.is_reached v.0.ctx u first len) after in
    record {
      row = v.0;
      own = w.0;
      row_is = v.1;
      own_is = w.1;
      written = joined mid w.0 here there ∙ set_twice rows l.rule mid (joined_row mid w.0)
          ∙ ap (λ z. set rows l.rule (record { ctx = z; is_reached = true })) t;
      grown = rw v.2 (rw t at grown);
    }

-- a lead of the list
pub lead_here : (rs : List Row) (ls : List Lead) (i : ℕ) (l : Lead) → l ≡ get_or ls i l → i < length ls → All (IsLeadFor rs) ls → IsLeadFor rs l
lead_here rs ls i l e t all = rw e (all i l t)

-- all rows have as many bits as the lead, also the one that is written
pub bits_alike :
    (rows : List Row) (l : Lead) (a : ℕ) (x : Row) (u : List Bool) (v w : Row) → IsLeadFor rows l → u ≡ union (get_or rows l.rule x).ctx l.begins
    → slice_get (set rows l.rule (record { ctx = u; is_reached = true })) l.rule ≡ Some v
    → slice_get (set rows l.rule (record { ctx = u; is_reached = true })) a ≡ Some w → length w.ctx ≡ length v.ctx
bits_alike rows l a x u v w f e h k = bits a w k ∙ sym (bits l.rule v h)
  where
    len : length u ≡ length l.begins
    len =
        let r = read_row rows l.rule x f.rule in
        let s : u ≡ union r.0.ctx l.begins = rw r.2 at e in
        ap length s ∙ length-union r.0.ctx l.begins ∙ f.bits l.rule r.0 r.1

    bits : (b : ℕ) (r : Row) → slice_get (set rows l.rule (record { ctx = u; is_reached = true })) b ≡ Some r → length r.ctx ≡ length l.begins
    bits b r at = ⊎_elim
        (λ (s : record { ctx = u; is_reached = true } ≡ r). rw (← s) len)
        (λ (s : slice_get rows b ≡ Some r). f.bits b r s)
        (written_cases rows l.rule b (record { ctx = u; is_reached = true }) r at)

pub led_length : (l : Lead) (a : ℕ) (c : Bool) (old new : List Row) → IsLed l a c old new → length new ≡ length old
led_length l a c old new led = ap length led.written ∙ length-set old l.rule (led_row l led.row led.own)

-- then each row has as many bits as it had
pub lead_for_led : (l m : Lead) (a : ℕ) (c : Bool) (old new : List Row) → IsLed l a c old new → IsLeadFor old m → IsLeadFor new m
lead_for_led l m a c old new led h = record {
  rule = omega (arith, h.rule, led_length l a c old new led);
  bits = λ b r at. ⊎_elim
      (λ (s : led_row l led.row led.own ≡ r). rw (← s) (led_len l.inherits led.row.ctx l.begins led.own.ctx ∙ h.bits l.rule led.row led.row_is))
      (λ (s : slice_get old b ≡ Some r). h.bits b r s)
      (written_cases old l.rule b (led_row l led.row led.own) r (rw led.written at at));
}
  where
    led_len : (b : Bool) (v m w : List Bool) → length (if b then union (union v m) w else union v m) ≡ length v
    led_len true v m w = length-union (union v m) w ∙ length-union v m
    led_len false v m w = length-union v m

-- ---- of a grammar

-- the leads of a rule are for the rows of its grammar
pub leads_for : (g : Grammar) (a : ℕ) (ls : List Lead) (rs : List Row) → AreLeadsOf g a ls → AreKeptRows g rs → All (IsLeadFor rs) ls
leads_for g a ls rs m k = λ i d l.
    let q = m.each i (get_or ls i d) (slice_get-get_or ls i d l) in
    record {
      rule = omega (arith, q.1.rule, k.len);
      bits = λ b r at. (k.each b r at).bits ∙ sym q.1.bits;
    }

-- a closer of a grammar is whole
pub closing_whole : (g : Grammar) (c : Closer) → IsClosing g c → IsWhole c
closing_whole g c i = record {
  leads_len = i.leads_len ∙ sym i.rows.len;
  todo_len = i.todo_len ∙ sym i.rows.len;
  leads = λ a v at. leads_for g a v.items c.rows.items (i.leads a v at) i.rows;
  reached = i.reached;
  within = i.within;
}

-- the row of the rule `b` is written, with what the production `q` of the rule `a` passes on to it
pub record IsPut (g : Grammar) (q a b : ℕ) (changed : Bool) (old new : List Row) : Type 0 where
  pub row : List Bool
  pub passed : ArePassedOn g (rest g q 1) (row_at (rows_in old) a) (row_at (rows_in old) b) row
  pub written : new ≡ set old b (record { ctx = row; is_reached = true })
  pub grown : HasGrown (token_count g) changed (row_at (rows_in old) b) row

-- the tokens of a lead alone
passed_alone :
    (g : Grammar) (a q : ℕ) (l : Lead) (v w : Row) → IsLeadOf g a q l → IsRow g v → l.inherits ≡ false
    → ArePassedOn g (rest g q 1) (row_in w) (row_in v) (union v.ctx l.begins)
passed_alone g a q l v w h i n =
    let e : length l.begins ≡ length v.ctx = h.bits ∙ sym i.bits in
    record {
      len = length-union v.ctx l.begins ∙ i.bits;
      kept = λ t k. union_left v.ctx l.begins t e (token_out v.ctx v.is_reached t k);
      begins = λ t k. union_right v.ctx l.begins t e ((h.begins t).1 k);
      inherit = λ t y k. let z : false ≡ true = sym n ∙ h.nullable.1 y in cc;
      from = λ t k. elim (union_from v.ctx l.begins t e k) [
        | inl x ↦ inl (token_in v.ctx v.is_reached t i.empty x)
        | inr x ↦ inr (inl ((h.begins t).0 x))
      ];
    }

-- and with those of the production
passed_joined :
    (g : Grammar) (a q : ℕ) (l : Lead) (v w : Row) → IsLeadOf g a q l → IsRow g v → IsRow g w → IsTrue l.inherits
    → ArePassedOn g (rest g q 1) (row_in w) (row_in v) (union (union v.ctx l.begins) w.ctx)
passed_joined g a q l v w h i j y =
    let e : length l.begins ≡ length v.ctx = h.bits ∙ sym i.bits in
    let f : length w.ctx ≡ length (union v.ctx l.begins) = j.bits ∙ sym i.bits ∙ sym (length-union v.ctx l.begins) in
    let u = union v.ctx l.begins in
    record {
      len = length-union u w.ctx ∙ length-union v.ctx l.begins ∙ i.bits;
      kept = λ t k. union_left u w.ctx t f (union_left v.ctx l.begins t e (token_out v.ctx v.is_reached t k));
      begins = λ t k. union_left u w.ctx t f (union_right v.ctx l.begins t e ((h.begins t).1 k));
      inherit = λ t n k. union_right u w.ctx t f (token_out w.ctx w.is_reached t k);
      from = λ t k. elim (union_from u w.ctx t f k) [
        | inr x ↦ inr (inr (h.nullable.0 y, token_in w.ctx w.is_reached t j.empty x))
        | inl x ↦ elim (union_from v.ctx l.begins t e x) [
          | inl z ↦ inl (token_in v.ctx v.is_reached t i.empty z)
          | inr z ↦ inr (inl ((h.begins t).0 z))
        ]
      ];
    }

-- what a lead of a production makes of a row is what the production passes on
pub put_by_lead :
    (g : Grammar) (q a : ℕ) (l : Lead) (c : Bool) (old new : List Row) → IsLeadOf g a q l → AreKeptRows g old → IsLed l a c old new
    → IsPut g q a l.rule c old new
put_by_lead g q a l c old new h k led =
    let i : IsRow g led.row = k.each l.rule led.row led.row_is in
    let j : IsRow g led.own = k.each a led.own led.own_is in
    let passed : ArePassedOn g (rest g q 1) (row_in led.own) (row_in led.row) (led_row l led.row led.own).ctx = elim (is_or_not l.inherits) [
      | inl y ↦ rw y (passed_joined g a q l led.row led.own h i j y)
      | inr n ↦ rw n (passed_alone g a q l led.row led.own h i n)
    ] in
    record {
      row = (led_row l led.row led.own).ctx;
      passed = rw (row_here old a led.own led.own_is, row_here old l.rule led.row led.row_is) passed;
      written = led.written;
      grown = rw (row_here old l.rule led.row led.row_is, ← h.bits) led.grown;
    }
  where
    is_or_not : (b : Bool) → (b ≡ true) ⊎ (b ≡ false)
    is_or_not true = inl refl
    is_or_not false = inr refl

-- as the row that it was, whether it was reached or not
pub as_row :
    (g : Grammar) (y : List Symbol) (ctx : Option (List Bool)) (r : Row) (new : List Bool) → IsRow g r → ArePassedOn g y ctx (Some r.ctx) new
    → ArePassedOn g y ctx (row_in r) new
as_row g y ctx r new i p = record {
  len = p.len;
  kept = λ t k. p.kept t (token_out r.ctx r.is_reached t k);
  begins = p.begins;
  inherit = p.inherit;
  from = λ t k. elim (p.from t k) [ inl z ↦ inl (token_in r.ctx r.is_reached t i.empty z) | inr z ↦ inr z ];
}

-- entries that a test finds closed have all items that stand
use Rattle.std.proofs.Common.{◌≡◌, ℕ, zero, suc, Bool, true, false, cond, not, ◌&&◌, ◌||◌, List, [], ◌∷◌, ◌++◌, length, refl, Option, Some, inl}
use Rattle.std.specs.Prelude.{slice_get}
use Rattle.std.specs.List.{list_all, range_with_len}
use Rattle.std.proofs.lemmas.Bool.{and_parts}
use Rattle.lrspec.specs.grammars.Grammar.{Symbol, Rule, Token, Production, Grammar, end_token, IsOfRule, is_of_rule, IsProductionOf, body_or_none, body_of, rest}
use Rattle.lrspec.specs.grammars.First.{Nullable, AllNullable, Begins}
use Rattle.lrspec.specs.grammars.First as first
use Rattle.lrspec.specs.grammars.CanonicalItems as item
use Rattle.lrspec.specs.grammars.CanonicalItems.{Stands, Looks}
use Rattle.lrspec.proofs.grammars.BodyFacts.{below_of_production}
use Rattle.lrspec.proofs.grammars.ListMembers.{Among, among_front, among_back, among_below}
use Rattle.lrspec.proofs.examples.ItemEntries.{all_among, Entry, tokens_at, entry_found, covers, covered, found_among, some_from_covers, rule_test, implied, is_asked, asked_before}

module _ (g : Grammar) (most : Option ℕ) (null : ℕ → Bool) (begins : ℕ → List ℕ) where
  -- whether the symbols are nullable rules, by the table
  abbrev pub all_null : List Symbol → Bool
  all_null [] = true
  all_null (Rule r ∷ y) = null r && all_null y
  all_null (Token t ∷ y) = false

  -- the tokens that begin the list, by the table
  abbrev pub first_tokens : List Symbol → List ℕ
  first_tokens [] = []
  first_tokens (Rule r ∷ y) = begins r ++ cond (null r) (first_tokens y) []
  first_tokens (Token t ∷ y) = t ∷ []

  -- whether the table holds what the production asks for
  abbrev pub test_production : Production → Bool
  test_production p = (not (all_null p.body) || null p.rule) && covers (Some (begins p.rule)) (first_tokens p.body)

  -- whether the entries hold the production at dot 0 with these tokens, if it is of the rule
  abbrev puts : List Entry → List Symbol → ℕ → List ℕ → ℕ → Bool
  puts es w r us q = not (is_of_rule (slice_get g.productions q) r) || covers (tokens_at es w q 0) us

  -- whether the entries hold every production that an item before the symbol puts in
  abbrev puts_in : List Entry → List Symbol → Symbol → List ℕ → Bool
  puts_in es w (Token t) us = true
  puts_in es w (Rule r) us = list_all (puts es w r us) (range_with_len 0 (length g.productions))

  -- what an item with this rest behind a rule puts in, where it looks at the tokens
  abbrev put : List Symbol → List ℕ → List ℕ
  put y ts = first_tokens y ++ cond (all_null y) ts []

  -- whether the entries hold the item moved over the symbol, if that list is asked for
  abbrev moves_on : List Entry → List Symbol → ℕ → ℕ → List ℕ → Symbol → Bool
  moves_on es w p d ts x = not (is_asked most (w ++ x ∷ [])) || covers (tokens_at es (w ++ x ∷ []) p (suc d)) ts

  -- whether the entries hold what the item with this rest asks for
  abbrev pub test_rest : List Entry → List Symbol → ℕ → ℕ → List ℕ → List Symbol → Bool
  test_rest es w p d ts [] = true
  test_rest es w p d ts (x ∷ y) = moves_on es w p d ts x && puts_in es w x (put y ts)

  abbrev pub test_entry : List Entry → Entry → Bool
  test_entry es e = test_rest es e.0 e.1 e.2 e.3 (rest g e.1 e.2)

  -- whether the entries hold the start item
  abbrev holds_start : List Entry → Bool
  holds_start es = covers (tokens_at es [] g.start_production 0) (end_token g ∷ [])

  -- whether the entries are closed under the rules
  abbrev pub is_enumeration : List Entry → Bool
  is_enumeration es = list_all test_production g.productions && (holds_start es && list_all (test_entry es) es)

  -- what the table holds of the body of a production
  abbrev IsHeld : ℕ → List Symbol → Type 0
  IsHeld r y = ((not (all_null y) || null r) ≡ true) × (covers (Some (begins r)) (first_tokens y) ≡ true)

  held_by :
      (ps : List Production) → list_all test_production ps ≡ true → (q r : ℕ) → IsOfRule (slice_get ps q) r
      → IsHeld r (body_or_none (slice_get ps q))
  held_by [] e q r h = absurd h
  held_by (p ∷ ps) e zero r h =
      let k = (and_parts (test_production p) (list_all test_production ps) e).0 in
      let both = and_parts (not (all_null p.body) || null p.rule) (covers (Some (begins p.rule)) (first_tokens p.body)) k in
      rw (← h) both
  held_by (p ∷ ps) e (suc q) r h = held_by ps (and_parts (test_production p) (list_all test_production ps) e).1 q r h

  module _ (es : List Entry) (holds : is_enumeration es ≡ true) where
    table_holds : list_all test_production g.productions ≡ true
    table_holds = (and_parts (list_all test_production g.productions) (holds_start es && list_all (test_entry es) es) holds).0

    entries_hold : (holds_start es ≡ true) × (list_all (test_entry es) es ≡ true)
    entries_hold =
        and_parts (holds_start es) (list_all (test_entry es) es)
        (and_parts (list_all test_production g.productions) (holds_start es && list_all (test_entry es) es) holds).1

    body_held : (p r : ℕ) → IsProductionOf g p r → IsHeld r (body_of g p)
    body_held p r h = held_by g.productions table_holds p r h

    mutual
      null_in : {r : ℕ} → Nullable g r → null r ≡ true
      null_in (first.Nullable.by_body {r = r} p h n) = implied (all_null (body_of g p)) (null r) (body_held p r h).0 (all_null_in n)

      all_null_in : {y : List Symbol} → AllNullable g y → all_null y ≡ true
      all_null_in first.AllNullable.none = refl
      all_null_in (first.AllNullable.more {r = r} {y = y} n m) = rw (null_in n) (all_null_in m)

    begins_in : {y : List Symbol} {t : ℕ} → Begins g y t → Among t (first_tokens y)
    begins_in first.Begins.here = inl refl
    begins_in (first.Begins.inside {r = r} {t = t} {y = y} p h b) =
        among_front t (begins r) (cond (null r) (first_tokens y) [])
        (covered (begins r) (first_tokens (body_of g p)) t (body_held p r h).1 (begins_in b))
    begins_in (first.Begins.past {r = r} {t = t} {y = y} n b) =
        among_back t (begins r) (cond (null r) (first_tokens y) []) (rw (null_in n) (begins_in b))

    entry_passes : (w : List Symbol) (p d : ℕ) (ts : List ℕ) → tokens_at es w p d ≡ Some ts → test_rest es w p d ts (rest g p d) ≡ true
    entry_passes w p d ts k = all_among (test_entry es) (w, p, d, ts) es entries_hold.1 (entry_found es w p d ts k)

    moves :
        (w : List Symbol) (p d : ℕ) (ts : List ℕ) (x : Symbol) (y : List Symbol) → tokens_at es w p d ≡ Some ts → rest g p d ≡ x ∷ y
        → is_asked most (w ++ x ∷ []) ≡ true → covers (tokens_at es (w ++ x ∷ []) p (suc d)) ts ≡ true
    moves w p d ts x y k e a =
        let passed = entry_passes w p d ts k in
        implied (is_asked most (w ++ x ∷ [])) (covers (tokens_at es (w ++ x ∷ []) p (suc d)) ts)
        (and_parts (moves_on es w p d ts x) (puts_in es w x (put y ts)) (rw e at passed)).0 a

    expands :
        (w : List Symbol) (p d : ℕ) (ts : List ℕ) (r q : ℕ) (y : List Symbol) → tokens_at es w p d ≡ Some ts → rest g p d ≡ Rule r ∷ y
        → IsProductionOf g q r → covers (tokens_at es w q 0) (put y ts) ≡ true
    expands w p d ts r q y k e h =
        let passed = entry_passes w p d ts k in
        let all = (and_parts (moves_on es w p d ts (Rule r)) (puts_in es w (Rule r) (put y ts)) (rw e at passed)).1 in
        let below = among_below (length g.productions) q (below_of_production g q r h) in
        let one = all_among (puts es w r (put y ts)) q (range_with_len 0 (length g.productions)) all below in
        implied (is_of_rule (slice_get g.productions q) r) (covers (tokens_at es w q 0) (put y ts)) one (rule_test (slice_get g.productions q) r h)

    -- what stands after a list that is asked for is listed
    pub stands_listed : {w : List Symbol} {p d : ℕ} → Stands g w p d → is_asked most w ≡ true → (ts : List ℕ) × (tokens_at es w p d ≡ Some ts)
    stands_listed item.Stands.begin a = some_from_covers (tokens_at es [] g.start_production 0) (end_token g ∷ []) entries_hold.0
    stands_listed (item.Stands.expand {w = w} {p = p} {d = d} {r = r} {q = q} {y = y} s e h) a =
        let (ts, k) = stands_listed s a in
        some_from_covers (tokens_at es w q 0) (put y ts) (expands w p d ts r q y k e h)
    stands_listed (item.Stands.advance {w = w} {p = p} {d = d} {x = x} {y = y} s e) a =
        let (ts, k) = stands_listed s (asked_before most w x a) in
        some_from_covers (tokens_at es (w ++ x ∷ []) p (suc d)) ts (moves w p d ts x y k e a)

    -- and so is where it looks
    pub looks_listed :
        {w : List Symbol} {p d t : ℕ} → Looks g w p d t → is_asked most w ≡ true → (ts : List ℕ) × (tokens_at es w p d ≡ Some ts) × Among t ts
    looks_listed item.Looks.begin a = found_among (tokens_at es [] g.start_production 0) (end_token g ∷ []) (end_token g) entries_hold.0 (inl refl)
    looks_listed (item.Looks.expand {w = w} {p = p} {d = d} {r = r} {q = q} {t = t} {y = y} s e h b) a =
        let (ts, k) = stands_listed s a in
        found_among (tokens_at es w q 0) (put y ts) t (expands w p d ts r q y k e h)
        (among_front t (first_tokens y) (cond (all_null y) ts []) (begins_in b))
    looks_listed (item.Looks.inherit {w = w} {p = p} {d = d} {r = r} {q = q} {t = t} {y = y} l e h n) a =
        let (ts, k, i) = looks_listed l a in
        found_among (tokens_at es w q 0) (put y ts) t (expands w p d ts r q y k e h)
        (among_back t (first_tokens y) (cond (all_null y) ts []) (rw (all_null_in n) i))
    looks_listed (item.Looks.advance {w = w} {p = p} {d = d} {t = t} {x = x} {y = y} l e) a =
        let (ts, k, i) = looks_listed l (asked_before most w x a) in
        found_among (tokens_at es (w ++ x ∷ []) p (suc d)) ts t (moves w p d ts x y k e a) i

-- walking through items from the outermost on, and what stands after the symbols before their dots
use Rattle.std.proofs.Common.{◌≡◌, ◌≢◌, ℕ, ◌+◌, ◌<◌, ◌≤◌, Bool, true, false, not, eqb, List, [], ◌∷◌, ◌++◌, length, map, take, drop, get_or, refl, sym, ap, ◌∙◌, append_assoc, append-nil, Option, Some, IsTrue, ◌↔◌, eqb-true, ne_eqb, arith}
use Rattle.std.proofs.lemmas.List.{take_more, take_all, map-append, take-map, take_at, take-append-drop, drop_more, drop_all, length-map, length_push, append_cancel_left, nil_from_length, same_from_push}
use Rattle.std.proofs.Math.ListN.{get_or-map}
use Rattle.lrgrammar.specs.declared.idx.Symbol as stored
use Rattle.lrgrammar.specs.declared.idx.PIdx.{PIdx}
use Rattle.lrgrammar.specs.declared.idx.RIdx.{RIdx}
use Rattle.lrgrammar.specs.declared.idx.SIdx.{SIdx}
use Rattle.lrgrammar.specs.Symbols.{symbol_of}
use Rattle.lrspec.specs.grammars.Grammar.{Symbol, Rule, Grammar, IsGrammar, body_of, rest, IsProductionOf}
use Rattle.lrspec.specs.grammars.CanonicalItems as item
use Rattle.lrspec.specs.grammars.CanonicalItems.{Stands}
use Rattle.lrspec.proofs.grammars.BodyFacts.{rule_unique, start_rule}
use Rattle.lrspec.proofs.grammars.CanonicalItemFacts.{stands_join}
use Rattle.lrambiguity.specs.Nesting as nest
use Rattle.lrambiguity.specs.Nesting.{Nests}
use Rattle.lrambiguity.specs.StoredItems.{items_of, Enters, IsFirstRule, GoesInto, GoesNowhere}

-- the last of items that stand in one another stands after their list
pub nests_stands : {g : Grammar} {is : List (ℕ × ℕ)} {w : List Symbol} → Nests g is w → (js : List (ℕ × ℕ)) (p d : ℕ) → is ≡ js ++ (p, d) ∷ [] → Stands g w p d
nests_stands {g} (nest.Nests.start e l) js p d k =
    let same = same_from_push [] js (g.start_production, e) (p, d) k in
    let production : g.start_production ≡ p = ap (λ (i : ℕ × ℕ). i.0) same.1 in
    let dot : e ≡ d = ap (λ (i : ℕ × ℕ). i.1) same.1 in
    rw (← production, ← dot) (stands_join e item.Stands.begin l)
nests_stands {g} (nest.Nests.inside is {w = w} p d q e r y n next of l) js q' e' k =
    let same = same_from_push (is ++ (p, d) ∷ []) js (q, e) (q', e') k in
    let production : q ≡ q' = ap (λ (i : ℕ × ℕ). i.0) same.1 in
    let dot : e ≡ e' = ap (λ (i : ℕ × ℕ). i.1) same.1 in
    rw (← production, ← dot) (stands_join e (item.Stands.expand (nests_stands n is p d refl) next of) l)

-- items by their numbers are some, and symbols none, where they are so as they are stored
some_items : {T : Type 0} (number : T → ℕ) (items : List (PIdx T × SIdx T)) → items ≢ [] → items_of number items ≢ []
some_items number [] some = λ e. some refl
some_items number (x ∷ items) some = λ e. cc

nothing_left : {T : Type 0} (number : T → ℕ) (left : List (stored.Symbol T)) → map (symbol_of number) left ≡ [] → left ≡ []
nothing_left number [] e = refl
nothing_left number (x ∷ left) e = absurd (cc)

-- what a test tells of whether a list is empty
pub none_told : {X : Type 0} (xs : List X) (r : Bool) → r ≡ eqb (length xs) 0 → IsTrue r ↔ (xs ≡ [])
none_told xs r e = (λ t. nil_from_length xs (eqb-true (length xs) 0 (sym e ∙ t)), λ none. e ∙ ap (λ l. eqb (length l) 0) none)

pub some_told : {X : Type 0} (xs : List X) (r : Bool) → r ≡ eqb (length xs) 0 → IsTrue (not r) ↔ (xs ≢ [])
some_told xs r e = (
  λ t none. let no : false ≡ true = sym (ap not ((none_told xs r e).1 none)) ∙ t in cc,
  λ some. ap not (e ∙ ne_eqb (length xs) 0 (λ zero. some (nil_from_length xs zero))),
)

-- items that stand in one another have a last one
nests_last : {g : Grammar} {is : List (ℕ × ℕ)} {w : List Symbol} → Nests g is w → (js : List (ℕ × ℕ)) × (p : ℕ) × (d : ℕ) × (is ≡ js ++ (p, d) ∷ [])
nests_last {g} (nest.Nests.start e l) = ([], g.start_production, e, refl)
nests_last (nest.Nests.inside is p d q e r y n next of l) = (is ++ (p, d) ∷ [], q, e, refl)

-- behind a dot the items stand in one another, with the symbols of the list before their dots
abbrev pub Goes : Grammar → List (ℕ × ℕ) → List Symbol → List Symbol → Type 0
Goes g [] behind list = list ≡ []
Goes g (i ∷ is) behind list = (left : List Symbol) × Enters g behind i.0 i.1 list left × Goes g is (rest g i.0 i.1) left

-- items that go on behind the last of others stand in one another with these, the first behind a dot before rule 0
goes_whole :
    {g : Grammar} {is : List (ℕ × ℕ)} {w : List Symbol} → IsGrammar g → Nests g is w → (js : List (ℕ × ℕ)) (p d : ℕ) → is ≡ js ++ (p, d) ∷ []
    → (ns : List (ℕ × ℕ)) (list : List Symbol) → Goes g ns (rest g p d) list → Goes g (is ++ ns) (Rule 0 ∷ []) (w ++ list)
goes_whole {g} shape (nest.Nests.start e l) js p d k ns list f =
    let same = same_from_push [] js (g.start_production, e) (p, d) k in
    let production : g.start_production ≡ p = ap (λ (i : ℕ × ℕ). i.0) same.1 in
    let dot : e ≡ d = ap (λ (i : ℕ × ℕ). i.1) same.1 in
    (list, record { rule = 0; others = []; is_rule = refl; of_rule = start_rule shape; within = l; begins = refl }, rw (← production, ← dot) at f)
goes_whole {g} shape (nest.Nests.inside is {w = w} p d q e r y n next of l) js q' e' k ns list f =
    let same = same_from_push (is ++ (p, d) ∷ []) js (q, e) (q', e') k in
    let production : q ≡ q' = ap (λ (i : ℕ × ℕ). i.0) same.1 in
    let dot : e ≡ e' = ap (λ (i : ℕ × ℕ). i.1) same.1 in
    let here : Goes g ns (rest g q e) list = rw (← production, ← dot) at f in
    rw (append_assoc (is ++ (p, d) ∷ []) ((q, e) ∷ []) ns, append_assoc w (take e (body_of g q)) list)
    (goes_whole shape n is p d refl ((q, e) ∷ ns) (take e (body_of g q) ++ list)
    (list, record { rule = r; others = y; is_rule = next; of_rule = of; within = l; begins = refl }, here))

-- so all items that stand in one another go there
goes_all : {g : Grammar} {is : List (ℕ × ℕ)} {w : List Symbol} → IsGrammar g → Nests g is w → Goes g is (Rule 0 ∷ []) w
goes_all {g} {is} {w} shape n =
    let last = nests_last n in
    let all : Goes g (is ++ []) (Rule 0 ∷ []) (w ++ []) = goes_whole shape n last.0 last.1 last.2 last.3 [] [] refl in
    rw (append-nil is, append-nil w) at all

module _ {T : Type 0} (number : T → ℕ) (g : Grammar) (list : List (stored.Symbol T)) (items : List (PIdx T × SIdx T)) where
  -- how far items have been walked through: they stand in one another with what is read of the list, the wanted rule stands
  -- first behind the last dot, and items that go there are those that all items tell
  pub record Walked (i : ℕ) (left : List (stored.Symbol T)) (wanted : Option (RIdx T)) : Type 0 where
    pub read : List Symbol
    pub behind : List Symbol
    pub split : map (symbol_of number) list ≡ read ++ map (symbol_of number) left
    pub told : IsFirstRule number wanted behind
    pub nested : items_of number (take i items) ≢ [] → Nests g (items_of number (take i items)) read
    pub goes_in :
        (q e r : ℕ) (y : List Symbol) → behind ≡ Rule r ∷ y → IsProductionOf g q r → e ≤ length (body_of g q)
        → Nests g (items_of number (take i items) ++ (q, e) ∷ []) (read ++ take e (body_of g q))
    pub only :
        Goes g (items_of number items) (Rule 0 ∷ []) (map (symbol_of number) list)
        → Goes g (items_of number (drop i items)) behind (map (symbol_of number) left)

  -- no items, and the rule of the start production is wanted
  pub walk_begun : (r : RIdx T) → IsGrammar g → IsProductionOf g g.start_production (number r.0) → Walked 0 list (Some r)
  walk_begun r shape of_start =
      let zero : number r.0 ≡ 0 = rule_unique g g.start_production (number r.0) 0 of_start (start_rule shape) in
      record {
        read = [];
        behind = Rule 0 ∷ [];
        split = refl;
        told = ([], ap (λ n. Rule n ∷ []) (sym zero));
        nested = λ some. absurd (some refl);
        goes_in = λ q e s y is of within.
            let rule : s ≡ 0 = cc in
            let start : q ≡ g.start_production = shape.only q (rw rule at of) in
            rw start (nest.Nests.start e (rw start at within));
        only = λ all. all;
      }

  -- the items so far and the next one, and that one and those behind it
  module _ (i : ℕ) (one : PIdx T × SIdx T) (l : i < length items) (is : one ≡ get_or items i one) where
    items_more : items_of number (take (i + 1) items) ≡ items_of number (take i items) ++ (number one.0.0, number one.1.0) ∷ []
    items_more =
        ap (items_of number) (take_more items i one l ∙ ap (λ x. take i items ++ x ∷ []) (sym is))
        ∙ map-append (λ (j : PIdx T × SIdx T). (number j.0.0, number j.1.0)) (take i items) (one ∷ [])

    items_left : items_of number (drop i items) ≡ (number one.0.0, number one.1.0) ∷ items_of number (drop (i + 1) items)
    items_left = ap (items_of number) (drop_more items i one l ∙ ap (λ x. x ∷ drop (i + 1) items) (sym is))

    -- one item more
    pub walk_on :
        (left now : List (stored.Symbol T)) (wanted inner : Option (RIdx T)) → Walked i left wanted
        → GoesInto number g wanted (number one.0.0) (number one.1.0) left now inner → Walked (i + 1) now inner
    walk_on left now wanted inner k a =
        let p = number one.0.0 in
        let d = number one.1.0 in
        let begun = take d (body_of g p) in
        let enters = a.enters k.behind k.told in
        let here : Nests g (items_of number (take i items) ++ (p, d) ∷ []) (k.read ++ begun) =
        k.goes_in p d enters.rule enters.others enters.is_rule enters.of_rule enters.within in
        record {
          read = k.read ++ begun;
          behind = rest g p d;
          split = k.split ∙ (ap (λ l. k.read ++ l) enters.begins ∙ sym (append_assoc k.read begun (map (symbol_of number) now)));
          told = a.told;
          nested = λ some. rw items_more here;
          goes_in = λ q e r y next of within.
              rw items_more (nest.Nests.inside (items_of number (take i items)) p d q e r y here next of within);
          only = λ all.
              let (behind, other, on) = rw items_left at (k.only all) in
              let same : behind ≡ map (symbol_of number) now = append_cancel_left begun behind (map (symbol_of number) now) (sym other.begins ∙ enters.begins) in
              rw same at on;
        }

    -- where the next item can't come, the items don't stand in one another
    pub walk_stuck :
        (left : List (stored.Symbol T)) (wanted : Option (RIdx T)) → IsGrammar g → Walked i left wanted
        → GoesNowhere number g wanted (number one.0.0) (number one.1.0) left → ¬ (Nests g (items_of number items) (map (symbol_of number) list))
    walk_stuck left wanted shape k nowhere n =
        let (behind, enters, on) = rw items_left at (k.only (goes_all shape n)) in
        nowhere k.behind behind k.told enters

  -- all items, of which there are some
  module _ (i : ℕ) (left : List (stored.Symbol T)) (wanted : Option (RIdx T)) (l : length items ≤ i) (k : Walked i left wanted) where
    pub walk_done : items ≢ [] → left ≡ [] → Nests g (items_of number items) (map (symbol_of number) list)
    walk_done some all =
        let whole : map (symbol_of number) list ≡ k.read = k.split ∙ (ap (λ l. k.read ++ map (symbol_of number) l) all ∙ append-nil k.read) in
        let nested : items_of number items ≢ [] → Nests g (items_of number items) k.read = rw (take_all i items l) at k.nested in
        rw whole (nested (some_items number items some))

    pub all_walked : IsGrammar g → Nests g (items_of number items) (map (symbol_of number) list) → left ≡ []
    all_walked shape n =
        let ended : map (symbol_of number) left ≡ [] = rw (drop_all i items l) at (k.only (goes_all shape n)) in
        nothing_left number left ended

  -- items that stand in one another are some
  pub items_there : Nests g (items_of number items) (map (symbol_of number) list) → items ≢ []
  items_there n = λ none.
      let last = nests_last n in
      let no : items_of number [] ≡ last.0 ++ (last.1, last.2) ∷ [] = ap (items_of number) (sym none) ∙ last.3 in
      absurd (omega (arith, length_push last.0 (last.1, last.2), ap length no))

module _ {T : Type 0} (number : T → ℕ) where
  -- the symbol behind a dot
  pub symbol_behind :
      (body : List (stored.Symbol T)) (d : ℕ) (x : stored.Symbol T) → d < length body → x ≡ get_or body d x
      → drop d (map (symbol_of number) body) ≡ symbol_of number x ∷ drop (d + 1) (map (symbol_of number) body)
  symbol_behind body d x l is =
      let symbol = symbol_of number in
      let there : d < length (map symbol body) = omega (arith, l, length-map body symbol) in
      let one : get_or (map symbol body) d (symbol x) ≡ symbol x = get_or-map symbol body d x ∙ ap symbol (sym is) in
      drop_more (map symbol body) d (symbol x) there ∙ ap (λ y. y ∷ drop (d + 1) (map symbol body)) one

  -- no symbol is behind the last one
  pub nothing_behind : (body : List (stored.Symbol T)) (d : ℕ) → length body ≤ d → drop d (map (symbol_of number) body) ≡ []
  nothing_behind body d l = drop_all d (map (symbol_of number) body) (omega (arith, l, length-map body (symbol_of number)))

  -- a list that begins with the symbols before a dot
  pub begun :
      (list body start left : List (stored.Symbol T)) (d : ℕ) (y : List Symbol) → map (symbol_of number) body ≡ y → start ≡ take d body
      → take (length start) list ≡ start → left ≡ drop (length start) list
      → map (symbol_of number) list ≡ take d y ++ map (symbol_of number) left
  begun list body start left d y is front same behind =
      let whole : list ≡ start ++ left = sym (take-append-drop (length start) list) ∙ (ap (λ l. l ++ drop (length start) list) same ∙ ap (λ l. start ++ l) (sym behind)) in
      let before : map (symbol_of number) start ≡ take d y = ap (map (symbol_of number)) front ∙ (sym (take-map (symbol_of number) d body) ∙ ap (take d) is) in
      ap (map (symbol_of number)) whole ∙ (map-append (symbol_of number) start left ∙ ap (λ l. l ++ map (symbol_of number) left) before)

  -- and has these first
  pub first_same :
      (list body start : List (stored.Symbol T)) (d : ℕ) (y left : List Symbol) → map (symbol_of number) body ≡ y → start ≡ take d body
      → map (symbol_of number) list ≡ take d y ++ left → map (symbol_of number) (take (length start) list) ≡ map (symbol_of number) start
  first_same list body start d y left is front begins =
      let before : map (symbol_of number) start ≡ take d y = ap (map (symbol_of number)) front ∙ (sym (take-map (symbol_of number) d body) ∙ ap (take d) is) in
      let count : length (take d y) ≡ length start = ap length (sym before) ∙ length-map start (symbol_of number) in
      sym (take-map (symbol_of number) (length start) list) ∙ (ap (take (length start)) begins ∙ (take_at (take d y) left (length start) count ∙ sym before))

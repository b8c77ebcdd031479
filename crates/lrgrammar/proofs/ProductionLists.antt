-- The productions of each rule in lists, one production more at a time.
use Rattle.std.proofs.Common.{◌≡◌, ◌≢◌, ◌==◌, ℕ, suc, ◌+◌, ◌<◌, cond, List, [], ◌∷◌, ◌++◌, filter, length, map, get_or, set, Some, refl, ap, sym, ◌∙◌, subst, ⊎_elim, arith}
use Rattle.std.specs.Prelude.{slice_get, All}
use Rattle.std.specs.Option.{option_map}
use Rattle.std.proofs.lemmas.Option.{slice_get-map, slice_get-get_or}
use Rattle.std.specs.List.{range_with_len}
use Rattle.std.specs.declared.vec.Vec.{Vec}
use Rattle.std.specs.declared.alloc.Global.{Global}
use Rattle.std.proofs.lemmas.Bool.{cases_eq, false_from_ne_true}
use Rattle.std.proofs.lemmas.Bool.Decides.{Decides-eqb}
use Rattle.std.proofs.lemmas.List.{map_push, append-nil, get_or-set_same, get_or_default}
use Rattle.std.proofs.lemmas.List.Elements.{filter-append}
use Rattle.lrspec.specs.grammars.Grammar.{Grammar, Symbol, Production, is_of_rule, body_of, body_or_none, IsOfRule, IsProductionOf}
use Rattle.lrgrammar.specs.declared.idx.PIdx.{PIdx}
use Rattle.lrgrammar.specs.StoredGrammar.{numbers_of, AreListsOf}
use Rattle.lrgrammar.proofs.Ranges.{range_more}

-- a list that is written with one element more
pub one_more : {X : Type 0} (lists : List (Vec X Global)) (i : ℕ) (was new d : Vec X Global) (x : X) → i < length lists → was ≡ get_or lists i was → new.items ≡ was.items ++ x ∷ [] → (get_or (set lists i new) i d).items ≡ (get_or lists i d).items ++ x ∷ []
one_more {X} lists i was new d x within is more =
    ap (λ (v : Vec X Global). v.items) (get_or-set_same lists i new d within) ∙ more ∙ ap (λ (v : Vec X Global). v.items ++ x ∷ []) (is ∙ get_or_default lists i was d within)

-- the places below `n` of the productions of the rule `r`
abbrev pub places_below : List Production → ℕ → ℕ → List ℕ
places_below ps r n = filter (λ p. is_of_rule (slice_get ps p) r) (range_with_len 0 n)

-- the lists of each rule hold its productions below `n`
pub record AreListsTo {T : Type 0} (number : T → ℕ) (ps : List Production) (rules : ℕ) (lists : List (Vec (PIdx T) Global)) (n : ℕ) : Type 0 where
  pub count : length lists ≡ rules
  pub each : (r : ℕ) (d : Vec (PIdx T) Global) → r < rules → numbers_of number (get_or lists r d).items ≡ places_below ps r n

places_more : (ps : List Production) (r n : ℕ) → places_below ps r (n + 1) ≡ places_below ps r n ++ cond (is_of_rule (slice_get ps n) r) (n ∷ []) []
places_more ps r n =
    let one : n + 1 ≡ suc n = omega arith in
    let here : 0 + n ≡ n = omega arith in
    ap (λ m. places_below ps r m) one ∙ ap (filter (λ p. is_of_rule (slice_get ps p) r)) (range_more 0 n ∙ ap (λ m. range_with_len 0 n ++ m ∷ []) here) ∙ filter-append (λ p. is_of_rule (slice_get ps p) r) (range_with_len 0 n) (n ∷ [])

places_mine : (ps : List Production) (r n : ℕ) (p : Production) → slice_get ps n ≡ Some p → p.rule ≡ r → places_below ps r (n + 1) ≡ places_below ps r n ++ n ∷ []
places_mine ps r n p at is =
    places_more ps r n ∙ ap (λ b. places_below ps r n ++ cond b (n ∷ []) []) (ap (λ o. is_of_rule o r) at ∙ (Decides-eqb p.rule r).1 is)

places_other : (ps : List Production) (r n : ℕ) (p : Production) → slice_get ps n ≡ Some p → (p.rule ≡ r → ⊥) → places_below ps r (n + 1) ≡ places_below ps r n
places_other ps r n p at is =
    places_more ps r n ∙ ap (λ b. places_below ps r n ++ cond b (n ∷ []) []) (ap (λ o. is_of_rule o r) at ∙ false_from_ne_true (p.rule == r) (λ t. is ((Decides-eqb p.rule r).0 t))) ∙ append-nil (places_below ps r n)

-- one production more, added to the list of its rule
pub lists_more : {T : Type 0} (number : T → ℕ) (ps : List Production) (rules : ℕ) (lists next : List (Vec (PIdx T) Global)) (n : ℕ) (p : Production) (rule : ℕ) (pidx : PIdx T) → AreListsTo number ps rules lists n → slice_get ps n ≡ Some p → p.rule ≡ rule → number pidx.0 ≡ n → length next ≡ length lists → ((d : Vec (PIdx T) Global) → (get_or next rule d).items ≡ (get_or lists rule d).items ++ pidx ∷ []) → ((k : ℕ) (d : Vec (PIdx T) Global) → k ≢ rule → get_or next k d ≡ get_or lists k d) → AreListsTo number ps rules next (n + 1)
lists_more {T} number ps rules lists next n p rule pidx are at of_rule is count added others =
    record {
      count = count ∙ are.count;
      each = λ r d l.
          ⊎_elim
          (λ (e : rule ≡ r). ap (λ k. numbers_of number (get_or next k d).items) (sym e) ∙ ap (numbers_of number) (added d) ∙ map_push (λ (x : PIdx T). number x.0) (get_or lists rule d).items pidx ∙ ap (λ m. numbers_of number (get_or lists rule d).items ++ m ∷ []) is ∙ ap (λ k. numbers_of number (get_or lists k d).items ++ n ∷ []) e ∙ ap (λ xs. xs ++ n ∷ []) (are.each r d l) ∙ sym (places_mine ps r n p at (of_rule ∙ e)))
          (λ (e : rule ≡ r → ⊥). ap (λ (v : Vec (PIdx T) Global). numbers_of number v.items) (others r d (λ h. e (sym h))) ∙ are.each r d l ∙ sym (places_other ps r n p at (λ h. e (sym of_rule ∙ h))))
          (cases_eq rule r);
    }

-- empty lists hold what is below 0
pub lists_none : {T : Type 0} (number : T → ℕ) (ps : List Production) (rules : ℕ) (lists : List (Vec (PIdx T) Global)) → length lists ≡ rules → All (λ (v : Vec (PIdx T) Global). v.items ≡ []) lists → AreListsTo number ps rules lists 0
lists_none number ps rules lists count empty =
    record { count = count; each = λ r d l. ap (numbers_of number) (empty r d (omega arith)) }

-- at the end they hold all
pub lists_all : {T : Type 0} (number : T → ℕ) (ps : List Production) (rules : ℕ) (lists : List (Vec (PIdx T) Global)) (n : ℕ) → n ≡ length ps → AreListsTo number ps rules lists n → AreListsOf number ps rules lists
lists_all number ps rules lists n e are =
    record { count = are.count; each = λ r d l. are.each r d l ∙ ap (λ m. places_below ps r m) e }

-- a production in hand, as the grammar has it
pub production_at : {X : Type 0} (f : X → Production) (xs : List X) (n : ℕ) (x : X) → n < length xs → x ≡ get_or xs n x → slice_get (map f xs) n ≡ Some (f x)
production_at f xs n x within is =
    slice_get-map f xs n ∙ ap (option_map f) (slice_get-get_or xs n x within) ∙ ap (λ y. Some (f y)) (sym is)

-- the body and the rule of a production in hand
pub body_at : {X : Type 0} (f : X → Production) (g : Grammar) (xs : List X) (n m : ℕ) (x : X) (ys zs : List Symbol) → n < length xs → x ≡ get_or xs n x → n ≡ m → map f xs ≡ g.productions → ys ≡ zs → (f x).body ≡ zs → ys ≡ body_of g m
body_at f g xs n m x ys zs within is at same left right =
    left ∙ sym right ∙ ap body_or_none (sym (production_at f xs n x within is)) ∙ ap (λ k. body_or_none (slice_get (map f xs) k)) at ∙ ap (λ ps. body_or_none (slice_get ps m)) same

pub rule_at : {X : Type 0} (f : X → Production) (g : Grammar) (xs : List X) (n m : ℕ) (x : X) → n < length xs → x ≡ get_or xs n x → n ≡ m → map f xs ≡ g.productions → IsProductionOf g m (f x).rule
rule_at f g xs n m x within is at same =
    subst (λ o. IsOfRule o (f x).rule) (sym (production_at f xs n x within is) ∙ ap (λ k. slice_get (map f xs) k) at ∙ ap (λ ps. slice_get ps m) same) refl

-- the same of equal productions and as many rules
pub lists_along : {T X : Type 0} (number : T → ℕ) (f : X → Production) (xs ys : List X) (n m : ℕ) (lists : List (Vec (PIdx T) Global)) → ys ≡ xs → n ≡ m → AreListsOf number (map f ys) n lists → AreListsOf number (map f xs) m lists
lists_along number f xs ys n m lists same count are =
    subst (λ k. AreListsOf number (map f xs) k lists) count (subst (λ zs. AreListsOf number (map f zs) n lists) same are)

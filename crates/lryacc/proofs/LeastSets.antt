-- the least sets of rules
use Rattle.std.proofs.Common.{◌≡◌, ◌≢◌, ◌&&◌, ◌<◌, ◌+◌, ℕ, suc, zero, List, [], ◌∷◌, Bool, true, false, Option, None, Some, All, IfSome, IsTrue, length, length-set, is_some, map, not, replicate, refl, ap, sym, ◌∙◌, subst, inl, inr, arith}
use Rattle.std.specs.List.{slice_get, slice_set}
use Rattle.std.proofs.lemmas.Bool.{cases_eq, false≢true}
use Rattle.std.proofs.lemmas.List.Elements.{All-head, All-tail}
use Rattle.lrgrammar.specs.declared.grammar.PartProd.{PartProd}
use Rattle.lrgrammar.specs.declared.grammar.PartSymbol.{PartSymbol}
use Rattle.lrgrammar.specs.declared.grammar.PartSymbol.TheVariants as part
use Rattle.lrgrammar.specs.StoredParts.{part_production_of, part_symbol_of}
use Rattle.lrspec.specs.grammars.Grammar.{Production, Symbol}
use Rattle.lrspec.specs.grammars.Grammar.Symbol.{Rule, Token}
use Rattle.lryacc.specs.UsefulRules.{AreProductive, AreReached, FindsAmong, FindsProductive, FindsReached, IsRuleAmong, IsWithin, has, has_all, has_symbol, is_useful}

-- both of two tests hold
first-of : (a b : Bool) → (a && b) ≡ true → a ≡ true
first-of true b e = refl
first-of false b e = absurd (false≢true e)

second-of : (a b : Bool) → (a && b) ≡ true → b ≡ true
second-of true b e = e
second-of false b e = absurd (false≢true e)

both-of : (a b : Bool) → a ≡ true → b ≡ true → (a && b) ≡ true
both-of true b e d = d
both-of false b e d = absurd (false≢true e)

-- what holds of all holds of one
at-all : {A B : Type 0} (P : B → Type 0) (f : A → B) (xs : List A) (i : ℕ) (x : A) → slice_get xs i ≡ Some x → All P (map f xs) → P (f x)
at-all P f [] i x e all = absurd (cc)
at-all P f (y ∷ xs) zero x e all =
    let same : y ≡ x = cc in
    subst (λ z. P (f z)) same (All-head P (f y) (map f xs) all)
at-all P f (y ∷ xs) (suc i) x e all = at-all P f xs i x e (All-tail P (f y) (map f xs) all)

-- ---- sets within others

has-set-other : (rules : List Bool) (rule r : ℕ) → r ≢ rule → has (slice_set rules rule true) r ≡ has rules r
has-set-other [] rule r other = refl
has-set-other (x ∷ xs) zero zero other = absurd (other refl)
has-set-other (x ∷ xs) zero (suc r) other = refl
has-set-other (x ∷ xs) (suc rule) zero other = refl
has-set-other (x ∷ xs) (suc rule) (suc r) other = has-set-other xs rule r (λ e. other (ap suc e))

within-set : (rules other : List Bool) (rule : ℕ) → IsTrue (has other rule) → IsWithin rules other → IsWithin (slice_set rules rule true) other
within-set rules other rule here within = λ r h. elim (cases_eq r rule) [
  | inl e ↦ subst (λ (k : ℕ). IsTrue (has other k)) (sym e) here
  | inr d ↦ within r (sym (has-set-other rules rule r d) ∙ h)
]

symbol-within : (rules other : List Bool) → IsWithin rules other → (symbol : Symbol) → has_symbol rules symbol ≡ true → has_symbol other symbol ≡ true
symbol-within rules other within (Rule rule) h = within rule h
symbol-within rules other within (Token token) h = refl

all-within : (rules other : List Bool) → IsWithin rules other → (symbols : List Symbol) → has_all rules symbols ≡ true → has_all other symbols ≡ true
all-within rules other within [] h = refl
all-within rules other within (symbol ∷ symbols) h =
    both-of (has_symbol other symbol) (has_all other symbols)
    (symbol-within rules other within symbol (first-of (has_symbol rules symbol) (has_all rules symbols) h))
    (all-within rules other within symbols (second-of (has_symbol rules symbol) (has_all rules symbols) h))

useful-within : (productive rules other : List Bool) → IsWithin rules other → (production : Production) → is_useful productive rules production ≡ true → is_useful productive other production ≡ true
useful-within productive rules other within production h =
    both-of (has other production.rule) (has_all productive production.body)
    (within production.rule (first-of (has rules production.rule) (has_all productive production.body) h))
    (second-of (has rules production.rule) (has_all productive production.body) h)

-- no rule is found
none-within : (n : ℕ) (other : List Bool) → length other ≡ n → IsWithin (replicate n false) other
none-within zero [] many rule h = refl
none-within zero (x ∷ xs) many rule h = absurd (omega arith)
none-within (suc n) [] many rule h = absurd (omega arith)
none-within (suc n) (x ∷ xs) many zero h = absurd (false≢true h)
none-within (suc n) (x ∷ xs) many (suc rule) h = none-within n xs (omega arith) rule h

length-none : (n : ℕ) → length (replicate n false) ≡ n
length-none zero = refl
length-none (suc n) = let rest = length-none n in omega arith

-- how many rules are lacking
abbrev pub lacking : List Bool → ℕ
lacking [] = 0
lacking (true ∷ xs) = lacking xs
lacking (false ∷ xs) = lacking xs + 1

-- one rule less is
pub fewer-lack : (rules : List Bool) (rule : ℕ) → has rules rule ≡ false → lacking (slice_set rules rule true) < lacking rules
fewer-lack [] rule gone = absurd (false≢true (sym gone))
fewer-lack (true ∷ xs) zero gone = absurd (false≢true (sym gone))
fewer-lack (false ∷ xs) zero gone = omega arith
fewer-lack (true ∷ xs) (suc rule) gone = fewer-lack xs rule gone
fewer-lack (false ∷ xs) (suc rule) gone = let rest = fewer-lack xs rule gone in omega arith

-- ---- rules that are productive

pub productive-none : (many : ℕ) (productions : List Production) (rules : List Bool) → rules ≡ replicate many false → AreProductive many productions rules
productive-none many productions rules none =
    subst (λ (found : List Bool). AreProductive many productions found) (sym none)
    record {
      many_rules = length-none many;
      within = λ other is closed. none-within many other is;
    }

pub finds_nothing : (productions : List Production) (old new : List Bool) → new ≡ old → FindsProductive productions old new
finds_nothing productions old new same =
    subst (λ (found : List Bool). FindsProductive productions old found) (sym same)
    record { many = refl; within = λ other is closed within. within }

pub finds_again : {productions : List Production} {old now new : List Bool} → FindsProductive productions old now → FindsProductive productions now new → FindsProductive productions old new
finds_again one other = record {
  many = other.many ∙ one.many;
  within = λ rules is closed within. other.within rules (is ∙ sym one.many) closed (one.within rules is closed within);
}

pub productive-more : {many : ℕ} {productions : List Production} {old new : List Bool} → AreProductive many productions old → FindsProductive productions old new → AreProductive many productions new
productive-more are finds = record {
  many_rules = finds.many ∙ are.many_rules;
  within = λ rules is closed. finds.within rules (is ∙ sym are.many_rules) closed (are.within rules is closed);
}

-- the rule of a production is found, all rules in whose body are
pub finds_rule_of : (prods : List PartProd) (at : ℕ) (prod : PartProd) (found : List Bool) → slice_get prods at ≡ Some prod → has_all found (map part_symbol_of prod.symbols.items) ≡ true → FindsProductive (map part_production_of prods) found (slice_set found prod.rule true)
finds_rule_of prods at prod found is all = record {
  many = length-set found prod.rule true;
  within = λ other many closed within.
      let P : Production → Type 0 = λ production. IsTrue (has_all other production.body) → IsTrue (has other production.rule) in
      within-set found other prod.rule
      (at-all P part_production_of prods at prod is closed (all-within found other within (map part_symbol_of prod.symbols.items) all))
      within;
}

-- ---- rules that are reached

pub reached-none : (productive : List Bool) (many : ℕ) (productions : List Production) (rules : List Bool) → rules ≡ replicate many false → AreReached productive many productions rules
reached-none productive many productions rules none =
    subst (λ (found : List Bool). AreReached productive many productions found) (sym none)
    record {
      many_rules = length-none many;
      within = λ other is closed. none-within many other is;
    }

pub reaches_nothing : (productive : List Bool) (productions : List Production) (old new : List Bool) → new ≡ old → FindsReached productive productions old new
reaches_nothing productive productions old new same =
    subst (λ (found : List Bool). FindsReached productive productions old found) (sym same)
    record { many = refl; within = λ other is closed within. within }

pub reaches_again : {productive : List Bool} {productions : List Production} {old now new : List Bool} → FindsReached productive productions old now → FindsReached productive productions now new → FindsReached productive productions old new
reaches_again one other = record {
  many = other.many ∙ one.many;
  within = λ rules is closed within. other.within rules (is ∙ sym one.many) closed (one.within rules is closed within);
}

pub reached-more : {productive : List Bool} {many : ℕ} {productions : List Production} {old new : List Bool} → AreReached productive many productions old → FindsReached productive productions old new → AreReached productive many productions new
reached-more are finds = record {
  many_rules = finds.many ∙ are.many_rules;
  within = λ rules is closed. finds.within rules (is ∙ sym are.many_rules) closed (are.within rules is closed);
}

-- rule 0 is found
pub reaches_first : (productive : List Bool) (productions : List Production) (found new : List Bool) → new ≡ slice_set found 0 true → FindsReached productive productions found new
reaches_first productive productions found new is =
    subst (λ (rules : List Bool). FindsReached productive productions found rules) (sym is)
    record {
      many = length-set found 0 true;
      within = λ other many closed within. within-set found other 0 closed.start within;
    }

-- rules in the body of a useful production are found
pub reaches_behind : (productive : List Bool) (prods : List PartProd) (at : ℕ) (prod : PartProd) (old new : List Bool) → slice_get prods at ≡ Some prod → is_useful productive old (part_production_of prod) ≡ true → FindsAmong (map part_symbol_of prod.symbols.items) old new → FindsReached productive (map part_production_of prods) old new
reaches_behind productive prods at prod old new is useful among = record {
  many = among.many;
  within = λ other many closed within.
      let P : Production → Type 0 = λ production. IsTrue (is_useful productive other production) → IsTrue (has_all other production.body) in
      among.within other
      (at-all P part_production_of prods at prod is closed.behind (useful-within productive old other within (part_production_of prod) useful))
      within;
}

-- ---- rules among symbols

pub among_again : {symbols : List Symbol} {old now new : List Bool} → FindsAmong symbols old now → FindsAmong symbols now new → FindsAmong symbols old new
among_again one other = record {
  many = other.many ∙ one.many;
  within = λ rules all within. other.within rules all (one.within rules all within);
}

pub among_rule : (symbols : List Symbol) (rule : ℕ) (found new : List Bool) → new ≡ slice_set found rule true → IsRuleAmong symbols rule → FindsAmong symbols found new
among_rule symbols rule found new is among =
    subst (λ (rules : List Bool). FindsAmong symbols found rules) (sym is)
    record {
      many = length-set found rule true;
      within = λ other all within. within-set found other rule (among.within other all) within;
    }

-- a symbol of several is in a set, if all are
symbol-at : (rules : List Bool) (symbols : List PartSymbol) (i : ℕ) (symbol : PartSymbol) → slice_get symbols i ≡ Some symbol → has_all rules (map part_symbol_of symbols) ≡ true → has_symbol rules (part_symbol_of symbol) ≡ true
symbol-at rules [] i symbol e all = absurd (cc)
symbol-at rules (s ∷ symbols) zero symbol e all =
    let same : s ≡ symbol = cc in
    subst (λ (p : PartSymbol). has_symbol rules (part_symbol_of p) ≡ true) same
    (first-of (has_symbol rules (part_symbol_of s)) (has_all rules (map part_symbol_of symbols)) all)
symbol-at rules (s ∷ symbols) (suc i) symbol e all =
    symbol-at rules symbols i symbol e (second-of (has_symbol rules (part_symbol_of s)) (has_all rules (map part_symbol_of symbols)) all)

pub rule-among : (symbols : List PartSymbol) (i rule : ℕ) → slice_get symbols i ≡ Some (part.Rule rule) → IsRuleAmong (map part_symbol_of symbols) rule
rule-among symbols i rule is = record {
  within = λ other all. symbol-at other symbols i (part.Rule rule) is all;
}

-- a set has all symbols where none is lacking
no-all : (all own : Bool) → own ≡ false → (all ≡ true → own ≡ true) → false ≡ all
no-all true own gone within = absurd (false≢true (sym gone ∙ within refl))
no-all false own gone within = refl

pub has_all-by : (found : List Bool) (symbols : List Symbol) (lacking : Option ℕ) → (lacking ≡ None → has_all found symbols ≡ true) → IfSome lacking (λ rule. has found rule ≡ false) → IfSome lacking (IsRuleAmong symbols) → not (is_some lacking) ≡ has_all found symbols
has_all-by found symbols None none gone among = sym (none refl)
has_all-by found symbols (Some rule) none gone among =
    no-all (has_all found symbols) (has found rule) gone (λ all. among.within found all)

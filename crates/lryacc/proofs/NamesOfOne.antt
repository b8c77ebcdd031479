-- names keep their numbers, and names of one number are those of one symbol
use Rattle.std.proofs.Common.{◌≡◌, ◌≢◌, ℕ, ◌<◌, ◌+◌, ◌⊎◌, List, length, length-set, Contains, Bool, true, false, cond, Option, None, Some, min, refl, ap, sym, ◌∙◌, subst, inl, inr, Result, Ok, Err, OnOk, arith}
use Rattle.std.proofs.Math.Nat.{min-eq_left, min-eq_right}
use Rattle.std.proofs.lemmas.Bool.{cases_eq, cases_lt}
use Rattle.std.specs.Bool.{Decides}
use Rattle.std.proofs.lemmas.Option.{same_Some}
use Rattle.std.proofs.lemmas.Slice.Eq.{bytes_eq-Decides}
use Rattle.std.specs.declared.alloc.Global.{Global}
use Rattle.std.specs.declared.vec.Vec.{Vec}
use Rattle.std.specs.BTreeMap.{IsEmpty, get, get_by, is_at}
use Rattle.std.specs.Cmp.Lexicographic.{slice_cmp}
use Rattle.std.specs.Map.{lookup, update}
use Rattle.std.specs.Option.{option_map}
use Rattle.std.specs.Ordering.{nat_cmp}
use Rattle.std.specs.Str.{bytes_eq}
use Rattle.std.specs.Vec.{with_item}
use Rattle.lryacc.specs.declared.contents.Statement.{Statement}
use Rattle.lryacc.specs.declared.contents.Statement.TheVariants as says
use Rattle.lryacc.specs.declared.dialects.Dialect.{Dialect}
use Rattle.lryacc.specs.declared.lexemes.Lexeme.{Lexeme}
use Rattle.lryacc.specs.declared.lexemes.LexemeKind.{LexemeKind}
use Rattle.lryacc.specs.declared.lexemes.LexemeKind.TheVariants as kind
use Rattle.lryacc.specs.declared.symbols.Symbol.{Symbol}
use Rattle.lryacc.specs.declared.symbols.Symbols.{Symbols}
use Rattle.lryacc.specs.NamedSymbols.{AddsName, AddsNames, AreApart, ArePair, ArePartnered, HaveNumbers, IsDeclared, KeepsNames, KeepsSymbols, Name, NameOne, Pairs, TakesOne, TakesSome, called, earlier, first_name, name_as, number_in, number_of, partner_in, symbol_number}

-- the same tables have the same numbers
pub number-same : (old new : Symbols) → KeepsNames old new → (name : Name) → number_in new name ≡ number_in old name
number-same old new keeps (Name.word bytes) = ap (λ m. get_by (λ key. slice_cmp nat_cmp bytes key.now) m) keeps.words
number-same old new keeps (Name.character byte) = ap (λ m. get nat_cmp m byte) keeps.characters

-- what has a number keeps it
pub number-kept : (old new : Symbols) → KeepsNames old new → (lexeme : Lexeme) (n : ℕ) → number_of old lexeme ≡ Some n → number_of new lexeme ≡ Some n
number-kept old new keeps lexeme n h =
    ap (λ t. number_in new (called t new.dialect lexeme)) keeps.text
    ∙ ap (λ d. number_in new (called old.text.now d lexeme)) keeps.dialect
    ∙ number-same old new keeps (called old.text.now old.dialect lexeme) ∙ h

pub names-kept : {old now new : Symbols} → KeepsNames old now → KeepsNames now new → KeepsNames old new
names-kept one other = record {
  text = other.text ∙ one.text;
  dialect = other.dialect ∙ one.dialect;
  words = other.words ∙ one.words;
  characters = other.characters ∙ one.characters;
}

-- names stay the same, seen from behind
pub names-turned : {old new : Symbols} → KeepsNames old new → KeepsNames new old
names-turned keeps = record {
  text = sym keeps.text;
  dialect = sym keeps.dialect;
  words = sym keeps.words;
  characters = sym keeps.characters;
}

pub kept-again : {old now new : Symbols} → KeepsSymbols old now → KeepsSymbols now new → KeepsSymbols old new
kept-again one other = record {
  names = names-kept one.names other.names;
  partners = other.partners ∙ one.partners;
}

pub apart-kept : (old new : Symbols) → KeepsNames old new → AreApart old → AreApart new
apart-kept old new keeps h = λ one other n e d. h one other n (sym (number-same old new keeps one) ∙ e) (sym (number-same old new keeps other) ∙ d)

-- what is known of a symbol is changed
number-with : (s : Symbols) (list : Vec Symbol Global) (name : Name) → number_in (record s { list = list }) name ≡ number_in s name
number-with s list (Name.word bytes) = refl
number-with s list (Name.character byte) = refl

pub item-numbers : (s : Symbols) (number : ℕ) (symbol : Symbol) → AddsNames s (record s { list = with_item s.list number symbol })
item-numbers s number symbol =
    let list = with_item s.list number symbol in
    record {
      text = refl;
      dialect = refl;
      partners = refl;
      numbers = λ h. record {
        below = λ name n e.
            let b : n < length s.list.items = h.below name n (sym (number-with s list name) ∙ e) in
            omega (arith, length-set s.list.items number symbol);
        apart = λ one other n e d. h.apart one other n (sym (number-with s list one) ∙ e) (sym (number-with s list other) ∙ d);
      };
    }

-- what holds behind a call holds in other words
pub ok-then : {A E P Q : Type 0} (r : Result A E) → (P → Q) → OnOk r P → OnOk r Q
ok-then (Ok a) f p = f p
ok-then (Err e) f p = p

pub ok-both : {A E P Q S : Type 0} (r : Result A E) → (P → Q → S) → OnOk r P → OnOk r Q → OnOk r S
ok-both (Ok a) f p q = f p q
ok-both (Err e) f p q = p

-- the name of a lexeme that is no byte in quotes is a word
pub as-word : (k : LexemeKind) (bytes : List ℕ) → ((byte : ℕ) → k ≢ kind.Character byte) → name_as k bytes ≡ Name.word bytes
as-word (kind.Character byte) bytes other = absurd (other byte refl)
as-word _ bytes other = refl

-- a map of words has what it had at other words
others-by : (now old : Option ℕ) (key bytes : List ℕ) (value : Option ℕ) (same : Bool) → Decides same (key ≡ bytes) → now ≡ cond same value old → (now ≡ old) ⊎ (bytes ≡ key)
others-by now old key bytes value true d e = inr (sym (d.0 refl))
others-by now old key bytes value false d e = inl e

pub word-others : (now old : List ℕ → Option ℕ) (key : List ℕ) (value : Option ℕ) → ((bytes : List ℕ) → now bytes ≡ update bytes_eq old key value bytes) → (bytes : List ℕ) → (now bytes ≡ old bytes) ⊎ (bytes ≡ key)
word-others now old key value updates bytes = others-by (now bytes) (old bytes) key bytes value (bytes_eq key bytes) (bytes_eq-Decides key bytes) (updates bytes)

pub other_name : (old new : Symbols) (lexeme : Lexeme) (key : List ℕ) → new.characters ≡ old.characters → called old.text.now old.dialect lexeme ≡ Name.word key → ((bytes : List ℕ) → (number_in new (Name.word bytes) ≡ number_in old (Name.word bytes)) ⊎ (bytes ≡ key)) → (name : Name) → (number_in new name ≡ number_in old name) ⊎ (name ≡ called old.text.now old.dialect lexeme)
other_name old new lexeme key same is others (Name.word bytes) = elim (others bytes) [
  | inl k ↦ inl k
  | inr k ↦ inr (ap Name.word k ∙ sym is)
]
other_name old new lexeme key same is others (Name.character byte) = inl (ap (λ m. get nat_cmp m byte) same)

-- a pair stays one
pair-kept : (old new : Symbols) → KeepsNames old new → (one other : Lexeme) (n m : ℕ) → ArePair old one other n m → ArePair new one other n m
pair-kept old new keeps one other n m h = record {
  first = number-kept old new keeps one n h.first;
  second = number-kept old new keeps other m h.second;
}

declared-kept : (old new : Symbols) → KeepsNames old new → (statements : List Statement) (n m : ℕ) → IsDeclared statements old n m → IsDeclared statements new n m
declared-kept old new keeps statements n m h = record {
  symbol = h.symbol;
  alias = h.alias;
  is = h.is;
  numbers = elim h.numbers [ inl p ↦ inl (pair-kept old new keeps h.symbol h.alias n m p) | inr p ↦ inr (pair-kept old new keeps h.symbol h.alias m n p) ];
}

pub partnered-kept : (statements : List Statement) (old new : Symbols) → KeepsSymbols old new → ArePartnered statements old → ArePartnered statements new
partnered-kept statements old new keeps h =
    let back : (n m : ℕ) → partner_in new n ≡ Some m → partner_in old n ≡ Some m =
    λ n m e. ap (λ ps. get nat_cmp ps n) (sym keeps.partners) ∙ e in
    record {
      by = λ n m e. declared-kept old new keeps.names statements n m (h.by n m (back n m e));
      apart = λ n m e. h.apart n m (back n m e);
      both = λ n m e. ap (λ ps. get nat_cmp ps m) keeps.partners ∙ h.both n m (back n m e);
    }

-- no name is another one of a symbol
no-partner : (s : Symbols) (n m : ℕ) {X : Type 0} → IsEmpty s.partners → partner_in s n ≡ Some m → X
no-partner s n m empty e =
    let nothing : None ≡ Some m = sym (ap (lookup (is_at (nat_cmp n))) empty) ∙ e in
    cc

pub partnered-none : (statements : List Statement) (s : Symbols) → IsEmpty s.partners → ArePartnered statements s
partnered-none statements s empty = record {
  by = λ n m e. no-partner s n m empty e;
  apart = λ n m e. no-partner s n m empty e;
  both = λ n m e. no-partner s n m empty e;
}

-- a declaration that gives no symbol another name
pub takes_other : (statement : Statement) {old new : Symbols} → KeepsSymbols old new → TakesOne statement old new
takes_other statement {old} {new} keeps = record {
  names = keeps.names;
  partnered = λ statements is h. partnered-kept statements old new keeps h;
}

-- one more declaration is taken in
pub takes_more : (statements : List Statement) (statement : Statement) {old now new : Symbols} → Contains statements statement → TakesSome statements old now → TakesOne statement now new → TakesSome statements old new
takes_more statements statement is some one = record {
  names = names-kept some.names one.names;
  partnered = λ h. one.partnered statements is (some.partnered h);
}

pub takes_rest : {statements : List Statement} {old now new : Symbols} → TakesSome statements old now → KeepsSymbols now new → TakesSome statements old new
takes_rest {statements} {old} {now} {new} some keeps = record {
  names = names-kept some.names keeps.names;
  partnered = λ h. partnered-kept statements now new keeps (some.partnered h);
}

-- ---- a name that had no number gets one

-- a symbol is pushed, and its name gets its number
pub record IsNew (old now new : Symbols) (lexeme : Lexeme) : Type 0 where
  pub keeps : KeepsSymbols old now
  pub more : length now.list.items ≡ length old.list.items + 1
  pub adds : AddsName now new lexeme (length old.list.items)

module _ (old now new : Symbols) (lexeme : Lexeme) (is : IsNew old now new lexeme) where
  -- the name
  abbrev own : Name
  own = called now.text.now now.dialect lexeme

  same : (name : Name) → number_in new name ≡ number_in now name → number_in new name ≡ number_in old name
  same name e = e ∙ number-same old now is.keeps.names name

  list_is : length new.list.items ≡ length old.list.items + 1
  list_is = ap (λ l. length l.items) is.adds.list ∙ is.more

  -- the number of the name
  own_number : (name : Name) (n : ℕ) → name ≡ own → number_in new name ≡ Some n → n ≡ length old.list.items
  own_number name n e h =
      let there : number_in new own ≡ Some n = ap (number_in new) (sym e) ∙ h in
      same_Some n (length old.list.items) (sym there ∙ is.adds.here)

  below_new : HaveNumbers old → (name : Name) (n : ℕ) → number_in new name ≡ Some n → n < length new.list.items
  below_new h name n e = elim (is.adds.others name) [
    | inl k ↦
        let b : n < length old.list.items = h.below name n (sym (same name k) ∙ e) in
        omega (arith, list_is)
    | inr k ↦
        let b : n ≡ length old.list.items = own_number name n k e in
        omega (arith, list_is)
  ]

  -- a name that was there has another number
  other_number : {X : Type 0} → HaveNumbers old → (one other : Name) (n : ℕ) → number_in new one ≡ number_in now one → other ≡ own → number_in new one ≡ Some n → number_in new other ≡ Some n → X
  other_number h one other n k e first second =
      let b : n < length old.list.items = h.below one n (sym (same one k) ∙ first) in
      let c : n ≡ length old.list.items = own_number other n e second in
      absurd (omega arith)

  apart_new : HaveNumbers old → (one other : Name) (n : ℕ) → number_in new one ≡ Some n → number_in new other ≡ Some n → one ≡ other
  apart_new h one other n first second = elim (is.adds.others one) [
    | inl k ↦ elim (is.adds.others other) [
      | inl m ↦ h.apart one other n (sym (same one k) ∙ first) (sym (same other m) ∙ second)
      | inr m ↦ other_number h one other n k m first second
    ]
    | inr k ↦ elim (is.adds.others other) [
      | inl m ↦ other_number h other one n m k second first
      | inr m ↦ k ∙ sym m
    ]
  ]

  pub new-names : AddsNames old new
  new-names = record {
    text = is.adds.text ∙ is.keeps.names.text;
    dialect = is.adds.dialect ∙ is.keeps.names.dialect;
    partners = is.adds.partners ∙ is.keeps.partners;
    numbers = λ h. record { below = below_new h; apart = apart_new h };
  }

-- ---- two names become those of one symbol

pub paired-names : {old new : Symbols} {one other : ℕ} → Pairs old new one other → KeepsNames old new
paired-names pairs = record {
  text = ap (λ (s : Symbols). s.text.now) pairs.same;
  dialect = ap (λ (s : Symbols). s.dialect) pairs.same;
  words = ap (λ (s : Symbols). s.names) pairs.same;
  characters = ap (λ (s : Symbols). s.characters) pairs.same;
}

module _ (statements : List Statement) (old new : Symbols) (symbol alias : Lexeme) (one other : ℕ) where
  -- what a declaration says of names that have no other one
  pub record IsPaired : Type 0 where
    pub is : Contains statements (says.Alias symbol alias)
    pub first : number_of old symbol ≡ Some one
    pub second : number_of old alias ≡ Some other
    pub apart : one ≢ other
    pub no_first : partner_in old one ≡ None
    pub no_second : partner_in old other ≡ None
    pub pairs : Pairs old new one other

  module _ (p : IsPaired) (h : ArePartnered statements old) where
    names : KeepsNames old new
    names = paired-names p.pairs

    pair : ArePair new symbol alias one other
    pair = record {
      first = number-kept old new names symbol one p.first;
      second = number-kept old new names alias other p.second;
    }

    stays : (n m : ℕ) → partner_in old n ≡ Some m → IsDeclared statements new n m
    stays n m e =
        declared-kept old new names statements n m (h.by n m e)

    -- which number it is
    data Which (n : ℕ) : Type 0 where
      is_one : n ≡ one → Which n
      is_other : n ≡ other → Which n
      is_third : n ≢ one → n ≢ other → Which n

    which : (n : ℕ) → Which n
    which n = elim (cases_eq n one) [
      | inl e ↦ is_one e
      | inr d ↦ elim (cases_eq n other) [ inl e ↦ is_other e | inr c ↦ is_third d c ]
    ]

    by_which : (n m : ℕ) → Which n → partner_in new n ≡ Some m → IsDeclared statements new n m
    by_which n m (is_one e) f =
        let found : partner_in new one ≡ Some m = ap (partner_in new) (sym e) ∙ f in
        let same : other ≡ m = same_Some other m (sym (p.pairs.first p.apart) ∙ found) in
        record { symbol = symbol; alias = alias; is = p.is; numbers = inl (subst (λ k. ArePair new symbol alias k m) (sym e) (subst (λ k. ArePair new symbol alias one k) same pair)) }
    by_which n m (is_other e) f =
        let found : partner_in new other ≡ Some m = ap (partner_in new) (sym e) ∙ f in
        let same : one ≡ m = same_Some one m (sym p.pairs.second ∙ found) in
        record { symbol = symbol; alias = alias; is = p.is; numbers = inr (subst (λ k. ArePair new symbol alias m k) (sym e) (subst (λ k. ArePair new symbol alias k other) same pair)) }
    by_which n m (is_third d c) f = stays n m (sym (p.pairs.others n d c) ∙ f)

    -- the other name of a third one is a third one
    third : (n m k : ℕ) → partner_in old n ≡ Some m → partner_in old k ≡ None → m ≢ k
    third n m k e none = λ is.
        let back : partner_in old m ≡ Some n = h.both n m e in
        let there : partner_in old k ≡ Some n = ap (partner_in old) (sym is) ∙ back in
        let no : None ≡ Some n = sym none ∙ there in
        cc

    both_which : (n m : ℕ) → Which n → partner_in new n ≡ Some m → partner_in new m ≡ Some n
    both_which n m (is_one e) f =
        let found : partner_in new one ≡ Some m = ap (partner_in new) (sym e) ∙ f in
        let same : other ≡ m = same_Some other m (sym (p.pairs.first p.apart) ∙ found) in
        ap (partner_in new) (sym same) ∙ p.pairs.second ∙ ap Some (sym e)
    both_which n m (is_other e) f =
        let found : partner_in new other ≡ Some m = ap (partner_in new) (sym e) ∙ f in
        let same : one ≡ m = same_Some one m (sym p.pairs.second ∙ found) in
        ap (partner_in new) (sym same) ∙ p.pairs.first p.apart ∙ ap Some (sym e)
    both_which n m (is_third d c) f =
        let there : partner_in old n ≡ Some m = sym (p.pairs.others n d c) ∙ f in
        p.pairs.others m (third n m one there p.no_first) (third n m other there p.no_second) ∙ h.both n m there

    apart_which : (n m : ℕ) → Which n → partner_in new n ≡ Some m → n ≢ m
    apart_which n m (is_one e) f = λ is.
        let found : partner_in new one ≡ Some m = ap (partner_in new) (sym e) ∙ f in
        let same : other ≡ m = same_Some other m (sym (p.pairs.first p.apart) ∙ found) in
        p.apart (sym e ∙ is ∙ sym same)
    apart_which n m (is_other e) f = λ is.
        let found : partner_in new other ≡ Some m = ap (partner_in new) (sym e) ∙ f in
        let same : one ≡ m = same_Some one m (sym p.pairs.second ∙ found) in
        p.apart (same ∙ sym is ∙ e)
    apart_which n m (is_third d c) f = h.apart n m (sym (p.pairs.others n d c) ∙ f)

    pub pair-partnered : ArePartnered statements new
    pair-partnered = record {
      by = λ n m e. by_which n m (which n) e;
      apart = λ n m e. apart_which n m (which n) e;
      both = λ n m e. both_which n m (which n) e;
    }

-- a declaration makes two names those of one symbol
pub pair_taken : (old now new : Symbols) (symbol alias : Lexeme) (one other : ℕ) → number_of old symbol ≡ Some one → number_of old alias ≡ Some other → one ≢ other → partner_in old one ≡ None → partner_in old other ≡ None → Pairs old now one other → KeepsSymbols now new → TakesOne (says.Alias symbol alias) old new
pair_taken old now new symbol alias one other e d apart first second pairs keeps = record {
  names = names-kept (paired-names pairs) keeps.names;
  partnered = λ statements is h.
      let p : IsPaired statements old now symbol alias one other = record { is = is; first = e; second = d; apart = apart; no_first = first; no_second = second; pairs = pairs } in
      partnered-kept statements now new keeps (pair-partnered statements old now symbol alias one other p h);
}

-- ---- names of one number

module _ (statements : List Statement) (s : Symbols) (apart : AreApart s) (partnered : ArePartnered statements s) where
  abbrev Same : Lexeme → Lexeme → Type 0
  Same one other = NameOne s.text.now s.dialect statements one other

  -- the other one of two ways
  turned : (one other : Lexeme) → Same one other → Same other one
  turned one other (inl e) = inl (sym e)
  turned one other (inr (inl a)) = inr (inr a)
  turned one other (inr (inr a)) = inr (inl a)

  called-one : (one other : Lexeme) (n : ℕ) → number_of s one ≡ Some n → number_of s other ≡ Some n → called s.text.now s.dialect one ≡ called s.text.now s.dialect other
  called-one one other n e d = apart (called s.text.now s.dialect one) (called s.text.now s.dialect other) n e d

  partners-one : (one other : Lexeme) (n m : ℕ) → number_of s one ≡ Some n → number_of s other ≡ Some m → partner_in s n ≡ Some m → Same one other
  partners-one one other n m e d p =
      let declared = partnered.by n m p in
      elim declared.numbers [
        | inl q ↦ inr (inl record {
          symbol = declared.symbol;
          alias = declared.alias;
          is = declared.is;
          symbol_is = called-one declared.symbol one n q.first e;
          alias_is = called-one declared.alias other m q.second d;
        })
        | inr q ↦ inr (inr record {
          symbol = declared.symbol;
          alias = declared.alias;
          is = declared.is;
          symbol_is = called-one declared.symbol other m q.first d;
          alias_is = called-one declared.alias one n q.second e;
        })
      ]

  -- the earlier one of two names is one of them
  earlier-is : (n p : ℕ) → (min p n ≡ n) ⊎ (min p n ≡ p)
  earlier-is n p = elim (cases_lt p n) [
    | inl l ↦ inr (min-eq_left (omega (arith, l)))
    | inr l ↦ inl (min-eq_right l)
  ]

  numbers-one : (one other : Lexeme) (n m : ℕ) (p q : Option ℕ) → number_of s one ≡ Some n → number_of s other ≡ Some m → partner_in s n ≡ p → partner_in s m ≡ q → earlier n p ≡ earlier m q → Same one other
  numbers-one one other n m None None e d f g same = inl (called-one one other n e (d ∙ ap Some (sym same)))
  numbers-one one other n m (Some p) None e d f g same = elim (earlier-is n p) [
    | inl k ↦ inl (called-one one other n e (d ∙ ap Some (sym same ∙ k)))
    | inr k ↦ partners-one one other n m e d (f ∙ ap Some (sym k ∙ same))
  ]
  numbers-one one other n m None (Some q) e d f g same = elim (earlier-is m q) [
    | inl k ↦ inl (called-one one other n e (d ∙ ap Some (sym k ∙ sym same)))
    | inr k ↦ turned other one (partners-one other one m n d e (g ∙ ap Some (sym k ∙ sym same)))
  ]
  numbers-one one other n m (Some p) (Some q) e d f g same = elim (earlier-is n p) [
    | inl k ↦ elim (earlier-is m q) [
      | inl l ↦ inl (called-one one other n e (d ∙ ap Some (sym l ∙ sym same ∙ k)))
      | inr l ↦ turned other one (partners-one other one m n d e (g ∙ ap Some (sym l ∙ sym same ∙ k)))
    ]
    | inr k ↦ elim (earlier-is m q) [
      | inl l ↦ partners-one one other n m e d (f ∙ ap Some (sym k ∙ same ∙ l))
      | inr l ↦
          let together : p ≡ q = sym k ∙ same ∙ l in
          let first : partner_in s p ≡ Some n = partnered.both n p f in
          let second : partner_in s p ≡ Some m = ap (partner_in s) together ∙ partnered.both m q g in
          inl (called-one one other n e (d ∙ ap Some (same_Some m n (sym second ∙ first))))
    ]
  ]

  found-one : (one other : Lexeme) (n : ℕ) (a b : Option ℕ) → number_of s one ≡ a → number_of s other ≡ b → option_map (first_name s) a ≡ Some n → option_map (first_name s) b ≡ Some n → Same one other
  found-one one other n None b e d f g = absurd (cc)
  found-one one other n (Some a) None e d f g = absurd (cc)
  found-one one other n (Some a) (Some b) e d f g =
      numbers-one one other a b (partner_in s a) (partner_in s b) e d refl refl (same_Some (first_name s a) (first_name s b) (f ∙ sym g))

  pub named-one : (one other : Lexeme) (n : ℕ) → symbol_number s one ≡ Some n → symbol_number s other ≡ Some n → Same one other
  named-one one other n e d = found-one one other n (number_of s one) (number_of s other) refl refl e d

-- the same of the text and the dialect that a file has
pub named-in : (text : List ℕ) (dialect : Dialect) (statements : List Statement) (s : Symbols) → s.text.now ≡ text → s.dialect ≡ dialect → AreApart s → ArePartnered statements s → (one other : Lexeme) (n : ℕ) → symbol_number s one ≡ Some n → symbol_number s other ≡ Some n → NameOne text dialect statements one other
named-in text dialect statements s is of apart partnered one other n e d =
    subst (λ (t : List ℕ). NameOne t dialect statements one other) is
    (subst (λ (l : Dialect). NameOne s.text.now l statements one other) of (named-one statements s apart partnered one other n e d))

-- the same name has the same number
pub by-name : (text : List ℕ) (dialect : Dialect) (s : Symbols) → s.text.now ≡ text → s.dialect ≡ dialect → (one other : Lexeme) → called text dialect one ≡ called text dialect other → symbol_number s one ≡ symbol_number s other
by-name text dialect s is of one other e =
    let here : called s.text.now s.dialect one ≡ called s.text.now s.dialect other =
    subst (λ (t : List ℕ). called t s.dialect one ≡ called t s.dialect other) (sym is)
    (subst (λ (d : Dialect). called text d one ≡ called text d other) (sym of) e) in
    ap (λ name. option_map (first_name s) (number_in s name)) here

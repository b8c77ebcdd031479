-- rules and tokens are numbered
use Rattle.std.proofs.Common.{◌≡◌, ℕ, zero, suc, ◌+◌, ◌*◌, ◌<◌, List, [], ◌∷◌, ◌++◌, get_or, length, map, Contains, Bool, true, false, cond, Option, None, Some, is_some, slice_get, refl, ap, sym, ◌∙◌, subst, inl, inr, codes, string_bytes, arith}
use Rattle.std.specs.BTreeMap.{IsEmpty, get, is_at}
use Rattle.std.specs.Map.{lookup}
use Rattle.std.specs.BTreeMap.{BTreeMap}
use Rattle.std.specs.declared.cmp.Ordering.{Ordering}
use Rattle.std.specs.declared.cmp.Ordering.TheVariants.{Less, Equal, Greater}
use Rattle.std.proofs.lemmas.Bool.{false≢true}
use Rattle.std.proofs.lemmas.Map.Lookups.{exact_unsigned}
use Rattle.std.proofs.lemmas.List.Elements.{Contains-push_cases}
use Rattle.std.proofs.lemmas.Option.{same_Some}
use Rattle.std.specs.Ordering.{nat_cmp, is_eq}
use Rattle.std.proofs.lemmas.List.{length-map, length_push, map-append}
use Rattle.lrgrammar.specs.declared.grammar.Precedence.{Precedence}
use Rattle.lrgrammar.specs.declared.grammar.PartToken.{PartToken}
use Rattle.lryacc.specs.declared.contents.Statement.{Statement}
use Rattle.lryacc.specs.declared.contents.Statement.TheVariants as says
use Rattle.lryacc.specs.declared.lexemes.Lexeme.{Lexeme}
use Rattle.lryacc.specs.declared.meaning.Meaning.{Meaning}
use Rattle.lryacc.specs.declared.numbering.Numbering.{Numbering}
use Rattle.lryacc.specs.BodyPrecedences.{HasLevel}
use Rattle.lryacc.specs.BodyProductions.{IsActionRule, Keeps}
use Rattle.lrgrammar.specs.declared.grammar.PartSymbol.{PartSymbol}
use Rattle.lrgrammar.specs.declared.grammar.PartSymbol.TheVariants.{Rule, Token}
use Rattle.std.specs.Option.{option_map, option_or}
use Rattle.lryacc.specs.NamedSymbols.{AreOneEach, HasEndToken, Names, IsRuleOf, IsTokenOf, first_name, symbol_number}
use Rattle.lryacc.specs.Numbered.{AddsNumbers, AreBefore, AreLevelled, AreNumbered, AreOwn, BeginsWithEnd, GivesToken, HasItsRule, HasRule, HaveRules, IsEndFirst, IsLevelled, IsNumbered, names_of, symbol_by}

-- what a list has it has behind more
pub has-more : {A : Type 0} (xs ys : List A) (n : ℕ) (x : A) → slice_get xs n ≡ Some x → slice_get (xs ++ ys) n ≡ Some x
has-more [] ys n x e = cc
has-more (y ∷ xs) ys zero x e = e
has-more (y ∷ xs) ys (suc n) x e = has-more xs ys n x e

-- the element that was added
pub has-added : {A : Type 0} (xs : List A) (x : A) → slice_get (xs ++ x ∷ []) (length xs) ≡ Some x
has-added [] x = refl
has-added (y ∷ xs) x = has-added xs x

-- an element that is come by
pub some-at : {A : Type 0} (xs : List A) (i : ℕ) (x : A) → i < length xs → x ≡ get_or xs i x → slice_get xs i ≡ Some x
some-at [] i x below is = absurd (omega arith)
some-at (y ∷ xs) zero x below is = ap Some (sym is)
some-at (y ∷ xs) (suc i) x below is = some-at xs i x (omega arith) is

pub element-at : {A : Type 0} (xs : List A) (i : ℕ) (d : A) → i < length xs → slice_get xs i ≡ Some (get_or xs i d)
element-at [] i d below = absurd (omega arith)
element-at (y ∷ xs) zero d below = refl
element-at (y ∷ xs) (suc i) d below = element-at xs i d (omega arith)

-- the same of what is read of each element
pub map-more : {A B : Type 0} (f : A → B) (old new : List A) (x : A) → new ≡ old ++ x ∷ [] → (n : ℕ) (y : B) → slice_get (map f old) n ≡ Some y → slice_get (map f new) n ≡ Some y
map-more f old new x e n y h =
    let all = ap (map f) e ∙ map-append f old (x ∷ []) in
    ap (λ xs. slice_get xs n) all ∙ has-more (map f old) (f x ∷ []) n y h

has-map : {A B : Type 0} (f : A → B) (xs : List A) (x : A) → slice_get (map f (xs ++ x ∷ [])) (length xs) ≡ Some (f x)
has-map f [] x = refl
has-map f (y ∷ xs) x = has-map f xs x

pub map-added : {A B : Type 0} (f : A → B) (old new : List A) (x : A) → new ≡ old ++ x ∷ [] → slice_get (map f new) (length old) ≡ Some (f x)
map-added f old new x e =
    let all = ap (map f) e in
    ap (λ xs. slice_get xs (length old)) all ∙ has-map f old x

-- keys that are equal are the same
equal_from_is_eq : (r : Ordering) → is_eq r ≡ true → r ≡ Equal
equal_from_is_eq Less e = absurd (false≢true e)
equal_from_is_eq Equal e = refl
equal_from_is_eq Greater e = absurd (false≢true e)

pub same_key : (key q : ℕ) → is_at (nat_cmp key) q ≡ true → key ≡ q
same_key key q e = exact_unsigned key q (equal_from_is_eq (nat_cmp key q) e)

put-at : (P : ℕ → ℕ → Type 0) (old new : ℕ → Option ℕ) (key value q v : ℕ) (at : Bool) → is_at (nat_cmp key) q ≡ at → new q ≡ cond at (Some value) (old q) → P key value → ((q v : ℕ) → old q ≡ Some v → P q v) → new q ≡ Some v → P q v
put-at P old new key value q v true here is put there e =
    let same : value ≡ v = same_Some value v (sym is ∙ e) in
    subst (λ (n : ℕ). P n v) (same_key key q here) (subst (λ (w : ℕ). P key w) same put)
put-at P old new key value q v false here is put there e = there q v (sym is ∙ e)

-- two lists stay of the same length
pub lengths-more : {A B C D : Type 0} (f : A → B) (g : C → D) (xs xs' : List A) (ys ys' : List C) (x : A) (y : C) → xs' ≡ xs ++ x ∷ [] → ys' ≡ ys ++ y ∷ [] → length (map f xs) ≡ length (map g ys) → length (map f xs') ≡ length (map g ys')
lengths-more f g xs xs' ys ys' x y d e same =
    omega (arith, length-map xs f, length-map xs' f, length-map ys g, length-map ys' g, ap length d, ap length e, length_push xs x, length_push ys y, same)

-- a map has what it had, and what was put in
pub all-put : (P : ℕ → ℕ → Type 0) (old new : ℕ → Option ℕ) (key value : ℕ) → ((q : ℕ) → new q ≡ cond (is_at (nat_cmp key) q) (Some value) (old q)) → P key value → ((q v : ℕ) → old q ≡ Some v → P q v) → (q v : ℕ) → new q ≡ Some v → P q v
all-put P old new key value puts put there q v e =
    put-at P old new key value q v (is_at (nat_cmp key) q) refl (puts q) put there e

-- what is put in is that of no other
pub own-put : (old new : ℕ → Option ℕ) (key value : ℕ) → ((q : ℕ) → new q ≡ cond (is_at (nat_cmp key) q) (Some value) (old q)) → AreBefore old value → AreOwn old → AreOwn new
own-put old new key value puts before own = λ q other v e d.
    let key_alone : (p : ℕ) → new p ≡ Some value → key ≡ p =
    λ p f. all-put (λ n w. w ≡ value → key ≡ n) old new key value puts (λ _. refl)
    (λ n w g same. let less : w < value = before n w g in absurd (omega arith)) p value f refl in
    let others : (n w : ℕ) → old n ≡ Some w → (p : ℕ) → new p ≡ Some w → n ≡ p =
    λ n w g p f. all-put (λ m u. u ≡ w → n ≡ m) old new key value puts
    (λ same. let less : w < value = before n w g in absurd (omega arith))
    (λ m u k same. own n m w g (k ∙ ap Some same)) p w f refl in
    all-put (λ n w. (p : ℕ) → new p ≡ Some w → n ≡ p) old new key value puts key_alone others q v e other d

-- a place at which a list has something is within it
pub place-within : {A : Type 0} (xs : List A) (n : ℕ) (x : A) → slice_get xs n ≡ Some x → n < length xs
place-within [] n x e = absurd (cc)
place-within (y ∷ xs) zero x e = omega arith
place-within (y ∷ xs) (suc n) x e =
    let less = place-within xs n x e in
    omega (arith, less)

-- names with more rules and tokens
abbrev pub with_more : Names → List (List ℕ) → List (List ℕ) → List (Option Precedence) → List ℕ → (ℕ → Option PartSymbol) → Names
with_more a rules tokens precedences starts symbol = record a { rules = rules; tokens = tokens; precedences = precedences; starts = starts; symbol = symbol }

pub rule-more : (a : Names) (rules tokens : List (List ℕ)) (precedences : List (Option Precedence)) (starts : List ℕ) (symbol : ℕ → Option PartSymbol) (number rule : ℕ) → Keeps a.rules rules → IsRuleOf a number rule → IsRuleOf (with_more a rules tokens precedences starts symbol) number rule
rule-more a rules tokens precedences starts symbol number rule keeps h = record {
  is_rule = h.is_rule;
  behind = h.behind;
  name = h.name;
  same = h.same;
  text = h.text;
  here = keeps rule h.text h.here;
  is = h.is;
}

pub token-more : (a : Names) (rules tokens : List (List ℕ)) (precedences : List (Option Precedence)) (starts : List ℕ) (symbol : ℕ → Option PartSymbol) (number token : ℕ) → Keeps a.tokens tokens → Keeps a.precedences precedences → IsTokenOf a number token → IsTokenOf (with_more a rules tokens precedences starts symbol) number token
token-more a rules tokens precedences starts symbol number token keeps levels (inl h) = inl record {
  name = h.name;
  same = h.same;
  text = h.text;
  here = keeps token h.text h.here;
  is = h.is;
  precedence = levels token _ h.precedence;
}
token-more a rules tokens precedences starts symbol number token keeps levels (inr h) = inr record {
  end = h.end;
  is = keeps token (codes "$end") h.is;
  precedence = levels token _ h.precedence;
}

pub action-more : (a : Names) (rules tokens : List (List ℕ)) (precedences : List (Option Precedence)) (starts : List ℕ) (symbol : ℕ → Option PartSymbol) (start rule : ℕ) → Keeps a.rules rules → Keeps a.starts starts → IsActionRule a start rule → IsActionRule (with_more a rules tokens precedences starts symbol) start rule
action-more a rules tokens precedences starts symbol start rule keeps keeps_starts h = record {
  place = keeps_starts rule start h.place;
  text = h.text;
  here = keeps rule h.text h.here;
  is = h.is;
}

-- rules and tokens that were numbered stay so where others are added
pub numbered-more : (a : Names) (rules tokens : List (List ℕ)) (precedences : List (Option Precedence)) (starts : List ℕ) (symbol : ℕ → Option PartSymbol) (r t s : ℕ → Option ℕ) → Keeps a.rules rules → Keeps a.tokens tokens → Keeps a.precedences precedences → Keeps a.starts starts → (length a.starts ≡ length a.rules → length starts ≡ length rules) → AreNumbered a r t s → AreNumbered (with_more a rules tokens precedences starts symbol) r t s
numbered-more a rules tokens precedences starts symbol r t s keeps_rules keeps_tokens keeps_levels keeps_starts placed h = record {
  of_rules = λ number rule e. rule-more a rules tokens precedences starts symbol number rule keeps_rules (h.of_rules number rule e);
  of_tokens = λ number token e. token-more a rules tokens precedences starts symbol number token keeps_tokens keeps_levels (h.of_tokens number token e);
  rules_apart = h.rules_apart;
  tokens_apart = h.tokens_apart;
  of_actions = λ start rule e. action-more a rules tokens precedences starts symbol start rule keeps_rules keeps_starts (h.of_actions start rule e);
  placed = placed h.placed;
  accept = keeps_rules 0 (codes "$accept") h.accept;
}

-- rules and tokens of numbers stand in the grammar
pub rules-before : (a : Names) (r t s : ℕ → Option ℕ) (next : ℕ) → length a.rules ≡ next → AreNumbered a r t s → AreBefore r next
rules-before a r t s next is h = λ number rule e.
    let of = h.of_rules number rule e in
    let within = place-within a.rules rule of.text of.here in
    omega (arith, within, is)

token-text : (a : Names) (number token : ℕ) → IsTokenOf a number token → (text : List ℕ) × (slice_get a.tokens token ≡ Some text)
token-text a number token (inl h) = (h.text, h.here)
token-text a number token (inr h) = (codes "$end", h.is)

token-within : (a : Names) (number token : ℕ) → IsTokenOf a number token → token < length a.tokens
token-within a number token (inl h) = place-within a.tokens token h.text h.here
token-within a number token (inr h) = place-within a.tokens token (codes "$end") h.is

pub tokens-before : (a : Names) (r t s : ℕ → Option ℕ) (next : ℕ) → next ≡ length a.tokens → AreNumbered a r t s → AreBefore t next
tokens-before a r t s next is h = λ number token e.
    let within = token-within a number token (h.of_tokens number token e) in
    omega (arith, within, is)

-- a token has a number
pub numbered-token : (a : Names) (symbol : ℕ → Option PartSymbol) (r t t' s : ℕ → Option ℕ) (number token : ℕ) → ((q : ℕ) → t' q ≡ cond (is_at (nat_cmp number) q) (Some token) (t q)) → IsTokenOf a number token → AreBefore t token → AreNumbered a r t s → AreNumbered (with_more a a.rules a.tokens a.precedences a.starts symbol) r t' s
numbered-token a symbol r t t' s number token puts is before h =
    let now = with_more a a.rules a.tokens a.precedences a.starts symbol in
    let kept = numbered-more a a.rules a.tokens a.precedences a.starts symbol r t s (λ _ _ e. e) (λ _ _ e. e) (λ _ _ e. e) (λ _ _ e. e) (λ e. e) h in
    let own = token-more a a.rules a.tokens a.precedences a.starts symbol number token (λ _ _ e. e) (λ _ _ e. e) is in
    record {
      of_rules = kept.of_rules;
      of_tokens = all-put (IsTokenOf now) t t' number token puts own kept.of_tokens;
      rules_apart = h.rules_apart;
      tokens_apart = own-put t t' number token puts before h.tokens_apart;
      of_actions = kept.of_actions;
      placed = h.placed;
      accept = h.accept;
    }

-- a rule has a number
pub numbered-rule : (a : Names) (r r' t s : ℕ → Option ℕ) (number rule : ℕ) → ((q : ℕ) → r' q ≡ cond (is_at (nat_cmp number) q) (Some rule) (r q)) → IsRuleOf a number rule → AreBefore r rule → AreNumbered a r t s → AreNumbered a r' t s
numbered-rule a r r' t s number rule puts is before h = record {
  of_rules = all-put (IsRuleOf a) r r' number rule puts is h.of_rules;
  of_tokens = h.of_tokens;
  rules_apart = own-put r r' number rule puts before h.rules_apart;
  tokens_apart = h.tokens_apart;
  of_actions = h.of_actions;
  placed = h.placed;
  accept = h.accept;
}

-- a rule is that of an action
pub numbered-action : (a : Names) (r t s s' : ℕ → Option ℕ) (start rule : ℕ) → ((q : ℕ) → s' q ≡ cond (is_at (nat_cmp start) q) (Some rule) (s q)) → IsActionRule a start rule → AreNumbered a r t s → AreNumbered a r t s'
numbered-action a r t s s' start rule puts is h = record {
  of_rules = h.of_rules;
  of_tokens = h.of_tokens;
  rules_apart = h.rules_apart;
  tokens_apart = h.tokens_apart;
  of_actions = all-put (IsActionRule a) s s' start rule puts is h.of_actions;
  placed = h.placed;
  accept = h.accept;
}

-- ---- the symbols of numbers

pub rule_symbol : (r t : ℕ → Option ℕ) (number rule : ℕ) → r number ≡ Some rule → symbol_by r t number ≡ Some (Rule rule)
rule_symbol r t number rule is = ap (λ own. option_or (option_map Rule own) (option_map Token (t number))) is

one-by : (r t : ℕ → Option ℕ) (n m : ℕ) (symbol : PartSymbol) (a b c d : Option ℕ) → AreOwn r → AreOwn t → r n ≡ a → r m ≡ b → t n ≡ c → t m ≡ d → option_or (option_map Rule a) (option_map Token c) ≡ Some symbol → option_or (option_map Rule b) (option_map Token d) ≡ Some symbol → n ≡ m
one-by r t n m symbol (Some x) (Some y) c d rules tokens e f g h p q =
    let same : x ≡ y = cc in
    rules n m y (e ∙ ap Some same) f
one-by r t n m symbol (Some x) None c None rules tokens e f g h p q = absurd (cc)
one-by r t n m symbol (Some x) None c (Some y) rules tokens e f g h p q = absurd (cc)
one-by r t n m symbol None (Some y) None d rules tokens e f g h p q = absurd (cc)
one-by r t n m symbol None (Some y) (Some x) d rules tokens e f g h p q = absurd (cc)
one-by r t n m symbol None None None d rules tokens e f g h p q = absurd (cc)
one-by r t n m symbol None None (Some x) None rules tokens e f g h p q = absurd (cc)
one-by r t n m symbol None None (Some x) (Some y) rules tokens e f g h p q =
    let same : x ≡ y = cc in
    tokens n m y (g ∙ ap Some same) h

-- each is that of one number
pub one-each : (r t : ℕ → Option ℕ) → AreOwn r → AreOwn t → AreOneEach (symbol_by r t)
one-each r t rules tokens = λ n m symbol e d. one-by r t n m symbol (r n) (r m) (t n) (t m) rules tokens refl refl refl refl e d

-- ---- token 0

pub end-more : (a : Names) (rules tokens : List (List ℕ)) (precedences : List (Option Precedence)) (starts : List ℕ) (symbol : ℕ → Option PartSymbol) (t : ℕ → Option ℕ) → Keeps a.tokens tokens → Keeps a.precedences precedences → IsEndFirst a t → IsEndFirst (with_more a rules tokens precedences starts symbol) t
end-more a rules tokens precedences starts symbol t keeps levels h = record {
  some = (h.some.0, keeps 0 h.some.0 h.some.1);
  no_other = h.no_other;
  given = h.given;
  unnamed = λ none. keeps 0 (codes "$end") (h.unnamed none);
  no_level = λ none. levels 0 None (h.no_level none);
}

-- it has nothing
pub none-some : (found : Option ℕ) → is_some found ≡ false → found ≡ None
none-some None is = refl
none-some (Some n) is = absurd (false≢true (sym is))

-- what another number has stays
pub stays : (t t' : ℕ → Option ℕ) (number token n v : ℕ) (at : Bool) → t number ≡ None → is_at (nat_cmp number) n ≡ at → t' n ≡ cond (is_at (nat_cmp number) n) (Some token) (t n) → t n ≡ Some v → t' n ≡ Some v
stays t t' number token n v true none here puts is =
    let same : number ≡ n = same_key number n here in
    let no : None ≡ Some v = sym none ∙ ap t same ∙ is in
    absurd (cc)
stays t t' number token n v false none here puts is =
    puts ∙ ap (λ b. cond b (Some token) (t n)) here ∙ is

-- another symbol is given another token
pub end-put : (a : Names) (symbol : ℕ → Option PartSymbol) (t t' : ℕ → Option ℕ) (number token : ℕ) → ((q : ℕ) → t' q ≡ cond (is_at (nat_cmp number) q) (Some token) (t q)) → t number ≡ None → 0 < token → IsEndFirst a t → IsEndFirst (with_more a a.rules a.tokens a.precedences a.starts symbol) t'
end-put a symbol t t' number token puts none behind h = record {
  some = h.some;
  no_other = λ n e. all-put (λ q v. v ≡ 0 → a.end ≡ Some q) t t' number token puts
      (λ same. absurd (omega (arith, same, behind)))
      (λ q v d same. h.no_other q (d ∙ ap Some same)) n 0 e refl;
  given = λ n e. stays t t' number token n 0 (is_at (nat_cmp number) n) none refl (puts n) (h.given n e);
  unnamed = h.unnamed;
  no_level = h.no_level;
}

-- what the end of a file has
first-of : (r t : ℕ → Option ℕ) (n token : ℕ) (own other : Option ℕ) → r n ≡ own → t n ≡ other → option_or (option_map Rule own) (option_map Token other) ≡ Some (Token token) → t n ≡ Some token
first-of r t n token (Some x) other is of e = absurd (cc)
first-of r t n token None None is of e = absurd (cc)
first-of r t n token None (Some x) is of e =
    let same : x ≡ token = cc in
    of ∙ ap Some same

pub token-by : (r t : ℕ → Option ℕ) (n token : ℕ) → symbol_by r t n ≡ Some (Token token) → t n ≡ Some token
token-by r t n token e = first-of r t n token (r n) (t n) refl refl e

pub has-end_token : (a : Names) (r t s : ℕ → Option ℕ) → a.symbol ≡ symbol_by r t → AreNumbered a r t s → IsEndFirst a t → HasEndToken a
has-end_token a r t s is h first = record {
  no_other = λ n e. first.no_other n (token-by r t n 0 (ap (λ f. f n) (sym is) ∙ e));
  is_first = λ n token end e.
      let one = token-by r t n token (ap (λ f. f n) (sym is) ∙ e) in
      same_Some token 0 (sym one ∙ first.given n end);
  named = λ n end. h.of_tokens n 0 (first.given n end);
  unnamed = first.unnamed;
  no_level = first.no_level;
}

-- the first token is that of the end of the file
pub end-given : (a : Names) (r t s : ℕ → Option ℕ) (number : ℕ) → a.end ≡ Some number → t number ≡ Some 0 → AreNumbered a r t s → IsEndFirst a t
end-given a r t s number end is h = record {
  some = token-text a number 0 (h.of_tokens number 0 is);
  no_other = λ n e. end ∙ ap Some (h.tokens_apart number n 0 is e);
  given = λ n e. ap t (same_Some n number (sym e ∙ end)) ∙ is;
  unnamed = λ none. let no : None ≡ Some number = sym none ∙ end in absurd (cc);
  no_level = λ none. let no : None ≡ Some number = sym none ∙ end in absurd (cc);
}

-- or it has no symbol
pub end-unnamed : (a : Names) (t : ℕ → Option ℕ) → a.end ≡ None → slice_get a.tokens 0 ≡ Some (codes "$end") → slice_get a.precedences 0 ≡ Some None → AreBefore t 0 → IsEndFirst a t
end-unnamed a t none named level before = record {
  some = (codes "$end", named);
  no_other = λ n e. let less : 0 < 0 = before n 0 e in absurd (omega arith);
  given = λ n e. let no : None ≡ Some n = sym none ∙ e in absurd (cc);
  unnamed = λ _. named;
  no_level = λ _. level;
}

-- a list that has a first element is not empty
pub some-first : {A : Type 0} (xs : List A) (x : A) → slice_get xs 0 ≡ Some x → 0 < length xs
some-first [] x e = absurd (cc)
some-first (y ∷ xs) x e = omega arith

-- nothing is numbered
none-at : (m : BTreeMap ℕ ℕ) (q v : ℕ) {X : Type 0} → IsEmpty m → get nat_cmp m q ≡ Some v → X
none-at m q v empty e =
    let nothing : None ≡ Some v = sym (ap (lookup (is_at (nat_cmp q))) empty) ∙ e in
    cc

pub numbered-none : (a : Names) (r t s : BTreeMap ℕ ℕ) → IsEmpty r → IsEmpty t → IsEmpty s → length a.starts ≡ length a.rules → slice_get a.rules 0 ≡ Some (codes "$accept") → AreNumbered a (get nat_cmp r) (get nat_cmp t) (get nat_cmp s)
numbered-none a r t s no_rule no_token no_action placed accept = record {
  of_rules = λ number rule e. none-at r number rule no_rule e;
  of_tokens = λ number token e. none-at t number token no_token e;
  rules_apart = λ number other rule e d. none-at r number rule no_rule e;
  tokens_apart = λ number other token e d. none-at t number token no_token e;
  of_actions = λ start rule e. none-at s start rule no_action e;
  placed = placed;
  accept = accept;
}

-- tokens keep their levels where others are added
pub levelled-more : (old new : List (Option Precedence)) (below : ℕ → Option ℕ) (without : Option ℕ) → Keeps old new → AreLevelled old below without → AreLevelled new below without
levelled-more old new below without keeps h = record {
  of_below = λ before token e.
      let one = h.of_below before token e in
      record { precedence = one.precedence; here = keeps token (Some one.precedence) one.here; is = one.is };
  of_without = λ token e. keeps token None (h.of_without token e);
}

-- a token is below a line
pub levelled-below : (all : List (Option Precedence)) (below below' : ℕ → Option ℕ) (without : Option ℕ) (before token : ℕ) → ((q : ℕ) → below' q ≡ cond (is_at (nat_cmp before) q) (Some token) (below q)) → HasLevel all (before * 2 + 1) token → AreLevelled all below without → AreLevelled all below' without
levelled-below all below below' without before token puts is h = record {
  of_below = all-put (λ n t. HasLevel all (n * 2 + 1) t) below below' before token puts is h.of_below;
  of_without = h.of_without;
}

-- a token is without a level
pub levelled-without : (all : List (Option Precedence)) (below : ℕ → Option ℕ) (without : Option ℕ) (token : ℕ) → slice_get all token ≡ Some None → AreLevelled all below without → AreLevelled all below (Some token)
levelled-without all below without token is h = record {
  of_below = h.of_below;
  of_without = λ other e.
      let same : token ≡ other = same_Some token other e in
      subst (λ (n : ℕ). slice_get all n ≡ Some None) same is;
}

-- none has a level
pub levelled-none : (all : List (Option Precedence)) (below : BTreeMap ℕ ℕ) → IsEmpty below → AreLevelled all (get nat_cmp below) None
levelled-none all below none = record {
  of_below = λ before token e. none-at below before token none e;
  of_without = λ token e. absurd (cc);
}

-- nothing was added
pub adds_none : {old new : Numbering} → new ≡ old → AddsNumbers old new
adds_none same = record {
  meaning = ap (λ (n : Numbering). n.meaning.now) same;
  contents = ap (λ (n : Numbering). n.contents.now) same;
  numbered = λ h. subst IsNumbered (sym same) h;
  levelled = λ h. subst IsLevelled (sym same) h;
  end = λ h. subst BeginsWithEnd (sym same) h;
  rules = λ number rule e. ap (λ (n : Numbering). get nat_cmp n.rules number) same ∙ e;
}

-- more is added, and then more
pub adds_again : {old now new : Numbering} → AddsNumbers old now → AddsNumbers now new → AddsNumbers old new
adds_again one other = record {
  meaning = other.meaning ∙ one.meaning;
  contents = other.contents ∙ one.contents;
  numbered = λ h. other.numbered (one.numbered h);
  levelled = λ h. other.levelled (one.levelled h);
  end = λ h. other.end (one.end h);
  rules = λ number rule e. other.rules number rule (one.rules number rule e);
}

-- a token is added, and given to a symbol
pub gives-next : (old now new : Numbering) (number token : ℕ) → AddsNumbers old now → now.tokens ≡ old.tokens → token ≡ length (names_of old).tokens → IsTokenOf (names_of now) number token → GivesToken now new number token → AddsNumbers old new
gives-next old now new number token added same last is gives = record {
  meaning = gives.meaning ∙ added.meaning;
  contents = gives.contents ∙ added.contents;
  numbered = λ h.
      let before : AreBefore (get nat_cmp old.tokens) token = tokens-before (names_of old) _ _ _ token last h in
      gives.numbered is (subst (λ (m : BTreeMap ℕ ℕ). AreBefore (get nat_cmp m) token) (sym same) before) (added.numbered h);
  levelled = λ h. gives.levelled (added.levelled h);
  end = λ h.
      let within = place-within (names_of old).tokens 0 h.some.0 h.some.1 in
      gives.end (omega (arith, within, last)) (added.end h);
  rules = λ n rule e. ap (λ (m : BTreeMap ℕ ℕ). get nat_cmp m n) gives.rules ∙ added.rules n rule e;
}

-- the first token is the one that is called `$end`, where the file has no end token
pub end-first-unnamed : (old new : Numbering) (number : ℕ) (name : List ℕ) → AddsNumbers old new → old.grammar.parts.tokens.items ≡ [] → old.meaning.now.end ≡ None → new.tokens ≡ old.tokens → number ≡ length (names_of old).tokens → slice_get (names_of new).tokens number ≡ Some name → name ≡ codes "$end" → slice_get (names_of new).precedences number ≡ Some None → IsNumbered old → BeginsWithEnd new
end-first-unnamed old new number name added empty none same last here is level h =
    let first : number ≡ 0 = last ∙ ap (λ (tokens : List PartToken). length (map (λ (token : PartToken). string_bytes token.name) tokens)) empty in
    let before : AreBefore (get nat_cmp old.tokens) number = tokens-before (names_of old) (get nat_cmp old.rules) (get nat_cmp old.tokens) (get nat_cmp old.actions) number last h in
    end-unnamed (names_of new) (get nat_cmp new.tokens)
    (ap (λ (m : Meaning). option_map (first_name m.symbols) m.end) added.meaning ∙ ap (option_map (first_name old.meaning.now.symbols)) none)
    (ap (slice_get (names_of new).tokens) (sym first) ∙ here ∙ ap Some is)
    (ap (slice_get (names_of new).precedences) (sym first) ∙ level)
    (subst (λ (m : BTreeMap ℕ ℕ). AreBefore (get nat_cmp m) 0) (sym same) (subst (AreBefore (get nat_cmp old.tokens)) first before))

-- or that of the end of the file
pub end-first-given : (old new : Numbering) (number : ℕ) → AddsNumbers old new → option_map (first_name old.meaning.now.symbols) old.meaning.now.end ≡ Some number → get nat_cmp new.tokens number ≡ Some 0 → IsNumbered old → BeginsWithEnd new
end-first-given old new number added end is h =
    end-given (names_of new) (get nat_cmp new.rules) (get nat_cmp new.tokens) (get nat_cmp new.actions) number
    (ap (λ (m : Meaning). option_map (first_name m.symbols) m.end) added.meaning ∙ end) is (added.numbered h)

-- ---- rules of declarations

pub rule-kept : (old new : Numbering) (lexeme : Lexeme) → AddsNumbers old new → HasRule old lexeme → HasRule new lexeme
rule-kept old new lexeme added h = λ number e.
    let was = h number (ap (λ (m : Meaning). symbol_number m.symbols lexeme) (sym added.meaning) ∙ e) in
    (was.0, added.rules number was.0 was.1)

pub have_rules-kept : (statements : List Statement) (old new : Numbering) → AddsNumbers old new → HaveRules statements old → HaveRules statements new
have_rules-kept statements old new added h = λ lexeme is. rule-kept old new lexeme added (h lexeme is)

pub have-none : (numbering : Numbering) → HaveRules [] numbering
have-none numbering = λ lexeme is. let no : is.0 < 0 = is.1 in absurd (omega arith)

-- an element of a list is one of the same list
pub among-same : (xs ys : List Statement) (x : Statement) → xs ≡ ys → Contains xs x → Contains ys x
among-same xs ys x same among = subst (λ (zs : List Statement). Contains zs x) same among

-- one declaration more
pub have-more : (statements more : List Statement) (statement : Statement) (old new : Numbering) → more ≡ statements ++ statement ∷ [] → AddsNumbers old new → HasItsRule new statement → HaveRules statements old → HaveRules more new
have-more statements more statement old new is added one h = λ lexeme among.
    elim (Contains-push_cases statements statement (says.Rule lexeme) (subst (λ (xs : List Statement). Contains xs (says.Rule lexeme)) is among)) [
      | inl k ↦ rule-kept old new lexeme added (h lexeme k)
      | inr k ↦ one lexeme k
    ]

pub given-some : (found : Option ℕ) → is_some found ≡ true → (n : ℕ) × (found ≡ Some n)
given-some None is = absurd (false≢true is)
given-some (Some n) is = (n, refl)

-- the symbols of declared rules are rules
pub declared-rules : (numbering : Numbering) (statements : List Statement) → HaveRules statements numbering → (lexeme : Lexeme) (number : ℕ) → Contains statements (says.Rule lexeme) → (names_of numbering).number lexeme ≡ Some number → (rule : ℕ) × ((names_of numbering).symbol number ≡ Some (Rule rule))
declared-rules numbering statements h lexeme number is named =
    let has = h lexeme is number named in
    (has.0, rule_symbol (get nat_cmp numbering.rules) (get nat_cmp numbering.tokens) number has.0 has.1)

-- symbols are put into precedence lines
use Rattle.std.proofs.Common.{◌≡◌, ℕ, ◌<◌, List, [], ◌∷◌, ◌++◌, Bool, true, false, Contains, Option, None, Some, is_some, length, min, refl, ap, sym, ◌∙◌, subst, inl, inr, arith}
use Rattle.std.proofs.Math.Nat.{min-eq_left, min-eq_right}
use Rattle.std.proofs.lemmas.Bool.{cases_lt, false≢true}
use Rattle.std.proofs.lemmas.List.{append_assoc, append-nil}
use Rattle.std.proofs.lemmas.List.Elements.{Contains-push_cases}
use Rattle.std.proofs.lemmas.Option.{same_Some}
use Rattle.std.specs.BTreeMap.{IsEmpty, get, is_at}
use Rattle.std.specs.Map.{lookup}
use Rattle.std.specs.Option.{option_and_then, option_map, option_or}
use Rattle.std.specs.Ordering.{nat_cmp}
use Rattle.lryacc.specs.declared.contents.LevelKind.{LevelKind}
use Rattle.lryacc.specs.declared.contents.Statement.{Statement}
use Rattle.lryacc.specs.declared.contents.Statement.TheVariants as says
use Rattle.lryacc.specs.declared.lexemes.Lexeme.{Lexeme}
use Rattle.lryacc.specs.declared.meaning.Meaning.{Meaning}
use Rattle.lryacc.specs.declared.places.Span.{Span}
use Rattle.lryacc.specs.EndTokens.{KeepsLines}
use Rattle.lryacc.specs.Levels.{IsInLine, has_default_after, levels_of, line_of, own_line}
use Rattle.lryacc.specs.LinesTaken.{BeginsLine, StandsInLine, HasLines, PutsInLine, TakesLines}
use Rattle.lryacc.specs.NamedSymbols.{ArePartnered, KeepsNames, earlier, first_name, number_of, partner_in, symbol_number}
use Rattle.lryacc.proofs.NamesOfOne.{names-turned, number-kept}

-- lines that declarations begin, and then others
levels-append : (xs ys : List Statement) → levels_of (xs ++ ys) ≡ levels_of xs ++ levels_of ys
levels-append [] ys = refl
levels-append (says.Level kind ∷ xs) ys = ap (λ (ks : List LevelKind). kind ∷ ks) (levels-append xs ys)
levels-append (_ ∷ xs) ys = levels-append xs ys

-- what declarations say of bodies without `%prec`, and then others
default-append : (before : Bool) (xs ys : List Statement) → has_default_after before (xs ++ ys) ≡ has_default_after (has_default_after before xs) ys
default-append before [] ys = refl
default-append before (says.DefaultPrecedence is_on ∷ xs) ys = default-append is_on xs ys
default-append before (_ ∷ xs) ys = default-append before xs ys

-- the same lines are those of the same symbols
own-same : (old new : Meaning) → new.lines ≡ old.lines → (number : ℕ) → own_line new number ≡ own_line old number
own-same old new same number = ap (λ m. option_map (λ (place : ℕ × Span). place.0) (get nat_cmp m number)) same

-- a symbol stands in a line, whatever is declared behind that
longer : (some : List Statement) (last : Statement) (old new : Meaning) → KeepsNames old.symbols new.symbols → (number line : ℕ) → IsInLine some (number_of old.symbols) number line → IsInLine (some ++ last ∷ []) (number_of new.symbols) number line
longer some last old new keeps number line h = record {
  before = h.before;
  symbol = h.symbol;
  behind = h.behind ++ last ∷ [];
  is = ap (λ (xs : List Statement). xs ++ last ∷ []) h.is ∙ append_assoc h.before (says.InLevel h.symbol ∷ h.behind) (last ∷ []);
  same = number-kept old.symbols new.symbols keeps h.symbol number h.same;
  line_is = h.line_is;
}

-- whether a declaration begins a line, whether it puts a symbol into one, and whether it decides of bodies without `%prec`
abbrev pub begins : Statement → Bool
begins (says.Level kind) = true
begins _ = false

abbrev pub puts : Statement → Bool
puts (says.InLevel symbol) = true
puts _ = false

abbrev pub decides : Statement → Bool
decides (says.DefaultPrecedence is_on) = true
decides _ = false

no-default : (before : Bool) (statement : Statement) → decides statement ≡ false → has_default_after before (statement ∷ []) ≡ before
no-default before (says.DefaultPrecedence is_on) other = absurd (false≢true (sym other))
no-default before _ other = refl

default-other : (so_far : List Statement) (statement : Statement) → decides statement ≡ false → has_default_after true so_far ≡ has_default_after true (so_far ++ statement ∷ [])
default-other so_far statement other =
    sym (default-append true so_far (statement ∷ []) ∙ no-default (has_default_after true so_far) statement other)

no-level : (statement : Statement) → begins statement ≡ false → levels_of (statement ∷ []) ≡ []
no-level (says.Level kind) other = absurd (false≢true (sym other))
no-level _ other = refl

levels-other : (so_far : List Statement) (statement : Statement) → begins statement ≡ false → levels_of so_far ≡ levels_of (so_far ++ statement ∷ [])
levels-other so_far statement other =
    sym (levels-append so_far (statement ∷ []) ∙ ap (λ (ks : List LevelKind). levels_of so_far ++ ks) (no-level statement other) ∙ append-nil (levels_of so_far))

-- a symbol that was put into a line among some declarations, and one behind them that puts none there
some-other : (so_far : List Statement) (statement : Statement) (old new : Meaning) → puts statement ≡ false → KeepsNames old.symbols new.symbols → ((number line : ℕ) → own_line old number ≡ Some line → own_line new number ≡ Some line) → HasLines so_far old → (number : ℕ) (symbol : Lexeme) → Contains (so_far ++ statement ∷ []) (says.InLevel symbol) → number_of new.symbols symbol ≡ Some number → StandsInLine new number
some-other so_far statement old new other keeps first h number symbol is named = elim (Contains-push_cases so_far statement (says.InLevel symbol) is) [
  | inl k ↦
      let was = h.some number symbol k (number-kept new.symbols old.symbols (names-turned keeps) symbol number named) in
      (was.0, first number was.0 was.1)
  | inr k ↦ absurd (false≢true (sym other ∙ ap puts k))
]

-- a declaration that says nothing of lines
pub takes_no_line : (statement : Statement) {old new : Meaning} → begins statement ≡ false → puts statement ≡ false → decides statement ≡ false → KeepsNames old.symbols new.symbols → KeepsLines old new → TakesLines (statement ∷ []) old new
takes_no_line statement {old} {new} no_level no_symbol no_decision keeps lines =
    let own = own-same old new lines.lines in
    record {
      lines = λ so_far h. record {
        levels = ap (λ levels. levels.items) lines.levels ∙ h.levels ∙ levels-other so_far statement no_level;
        has_default = lines.has_default ∙ h.has_default ∙ default-other so_far statement no_decision;
        given = λ number line e. longer so_far statement old new keeps number line (h.given number line (sym (own number) ∙ e));
        some = some-other so_far statement old new no_symbol keeps (λ number line e. own number ∙ e) h;
      };
    }

-- one that decides of bodies without `%prec`
pub takes_default : (is_on : Bool) {old new : Meaning} → KeepsNames old.symbols new.symbols → new.levels ≡ old.levels → new.lines ≡ old.lines → new.has_default_precedence ≡ is_on → TakesLines (says.DefaultPrecedence is_on ∷ []) old new
takes_default is_on {old} {new} keeps levels lines decided =
    let own = own-same old new lines in
    record {
      lines = λ so_far h. record {
        levels = ap (λ levels. levels.items) levels ∙ h.levels ∙ levels-other so_far (says.DefaultPrecedence is_on) refl;
        has_default = decided ∙ sym (default-append true so_far (says.DefaultPrecedence is_on ∷ []));
        given = λ number line e. longer so_far (says.DefaultPrecedence is_on) old new keeps number line (h.given number line (sym (own number) ∙ e));
        some = some-other so_far (says.DefaultPrecedence is_on) old new refl keeps (λ number line e. own number ∙ e) h;
      };
    }

-- one that begins a line
pub takes_level : (kind : LevelKind) {old new : Meaning} → KeepsNames old.symbols new.symbols → BeginsLine kind old new → TakesLines (says.Level kind ∷ []) old new
takes_level kind {old} {new} keeps begun =
    let own = own-same old new begun.lines in
    record {
      lines = λ so_far h. record {
        levels = begun.levels ∙ ap (λ (ks : List LevelKind). ks ++ kind ∷ []) h.levels ∙ sym (levels-append so_far (says.Level kind ∷ []));
        has_default = begun.has_default ∙ h.has_default ∙ default-other so_far (says.Level kind) refl;
        given = λ number line e. longer so_far (says.Level kind) old new keeps number line (h.given number line (sym (own number) ∙ e));
        some = some-other so_far (says.Level kind) old new refl keeps (λ number line e. own number ∙ e) h;
      };
    }

-- one that puts a symbol into a line
pub takes_in_line : (lexeme : Lexeme) {old new : Meaning} → KeepsNames old.symbols new.symbols → PutsInLine lexeme old new → TakesLines (says.InLevel lexeme ∷ []) old new
takes_in_line lexeme {old} {new} keeps here = record {
  lines = λ so_far h. record {
    levels = ap (λ levels. levels.items) here.levels ∙ h.levels ∙ levels-other so_far (says.InLevel lexeme) refl;
    has_default = here.has_default ∙ h.has_default ∙ default-other so_far (says.InLevel lexeme) refl;
    given = λ number line e. elim (here.given number line e) [
      | inl o ↦ longer so_far (says.InLevel lexeme) old new keeps number line (h.given number line o)
      | inr k ↦ record {
        before = so_far;
        symbol = lexeme;
        behind = [];
        is = refl;
        same = number-kept old.symbols new.symbols keeps lexeme number k.0;
        line_is = k.1 ∙ ap (length {A = LevelKind}) h.levels;
      }
    ];
    some = λ number symbol is named.
        let back = number-kept new.symbols old.symbols (names-turned keeps) symbol number named in
        elim (Contains-push_cases so_far (says.InLevel lexeme) (says.InLevel symbol) is) [
          | inl k ↦ let was = h.some number symbol k back in (was.0, here.first number was.0 was.1)
          | inr k ↦
              let same : symbol ≡ lexeme = cc in
              here.some number (subst (λ (l : Lexeme). number_of old.symbols l ≡ Some number) same back)
        ];
  };
}

-- one declaration more
pub takes_more_lines : (some more : List Statement) (statement : Statement) {old now new : Meaning} → more ≡ some ++ statement ∷ [] → TakesLines some old now → TakesLines (statement ∷ []) now new → TakesLines more old new
takes_more_lines some more statement {old} {now} {new} is takes one = record {
  lines = λ so_far h.
      subst (λ (xs : List Statement). HasLines (so_far ++ xs) new) (sym is)
      (subst (λ (xs : List Statement). HasLines xs new) (append_assoc so_far some (statement ∷ [])) (one.lines (so_far ++ some) (takes.lines so_far h)));
}

-- none
pub takes_no_lines : (meaning : Meaning) → TakesLines [] meaning meaning
takes_no_lines meaning = record {
  lines = λ so_far h. subst (λ (xs : List Statement). HasLines xs meaning) (sym (append-nil so_far)) h;
}

lines-kept : (statements : List Statement) (old new : Meaning) → KeepsNames old.symbols new.symbols → KeepsLines old new → HasLines statements old → HasLines statements new
lines-kept statements old new keeps lines h =
    let own = own-same old new lines.lines in
    record {
      levels = ap (λ levels. levels.items) lines.levels ∙ h.levels;
      has_default = lines.has_default ∙ h.has_default;
      given = λ number line e.
          let was = h.given number line (sym (own number) ∙ e) in
          record { before = was.before; symbol = was.symbol; behind = was.behind; is = was.is; same = number-kept old.symbols new.symbols keeps was.symbol number was.same; line_is = was.line_is };
      some = λ number symbol is named.
          let was = h.some number symbol is (number-kept new.symbols old.symbols (names-turned keeps) symbol number named) in
          (was.0, own number ∙ was.1);
    }

-- nothing is said of lines behind them
pub takes_lines_rest : (statements : List Statement) {old now new : Meaning} → TakesLines statements old now → KeepsNames now.symbols new.symbols → KeepsLines now new → TakesLines statements old new
takes_lines_rest statements {old} {now} {new} takes keeps lines = record {
  lines = λ so_far h. lines-kept (so_far ++ statements) now new keeps lines (takes.lines so_far h);
}

-- at first no line is there
pub no-lines : (meaning : Meaning) → meaning.levels.items ≡ [] → IsEmpty meaning.lines → meaning.has_default_precedence ≡ true → HasLines [] meaning
no-lines meaning none empty has_default =
    let own : (number : ℕ) → own_line meaning number ≡ None = λ number. ap (λ found. option_map (λ (place : ℕ × Span). place.0) found) (ap (lookup (is_at (nat_cmp number))) empty) in
    record {
      levels = none;
      has_default = has_default;
      given = λ number line e. let no : None ≡ Some line = sym (own number) ∙ e in absurd (cc);
      some = λ number symbol is named. let no : is.0 < 0 = is.1 in absurd (omega arith);
    }

-- ---- a symbol is put into the last line

-- it stands in one
pub puts_again : (lexeme : Lexeme) (old new : Meaning) (number line : ℕ) → KeepsLines old new → number_of old.symbols lexeme ≡ Some number → own_line old number ≡ Some line → PutsInLine lexeme old new
puts_again lexeme old new number line lines named is =
    let own = own-same old new lines.lines in
    record {
      levels = lines.levels;
      has_default = lines.has_default;
      given = λ n l e. inl (sym (own n) ∙ e);
      some = λ n e.
          let same : number ≡ n = same_Some number n (sym named ∙ e) in
          (line, own n ∙ ap (own_line old) (sym same) ∙ is);
      first = λ n l e. own n ∙ e;
    }

some-line : (found : Option (ℕ × Span)) → is_some found ≡ true → (line : ℕ) × (option_map (λ (place : ℕ × Span). place.0) found ≡ Some line)
some-line None is = absurd (false≢true is)
some-line (Some place) is = (place.0, refl)

pub puts_some : (lexeme : Lexeme) (old new : Meaning) (number : ℕ) → KeepsLines old new → number_of old.symbols lexeme ≡ Some number → is_some (get nat_cmp old.lines number) ≡ true → PutsInLine lexeme old new
puts_some lexeme old new number lines named is =
    let line = some-line (get nat_cmp old.lines number) is in
    puts_again lexeme old new number line.0 lines named line.1

-- ---- the line of a symbol

module _ (statements : List Statement) (meaning : Meaning) (partnered : ArePartnered statements meaning.symbols) (held : HasLines statements meaning) where
  abbrev first : ℕ → ℕ
  first = first_name meaning.symbols

  first-none : (n : ℕ) → partner_in meaning.symbols n ≡ None → first n ≡ n
  first-none n none = ap (earlier n) none

  first-of : (n p : ℕ) → partner_in meaning.symbols n ≡ Some p → first n ≡ min p n
  first-of n p is = ap (earlier n) is

  -- both names of a symbol have one number
  first-both : (n p : ℕ) → partner_in meaning.symbols n ≡ Some p → first p ≡ first n
  first-both n p is =
      let back = first-of p n (partnered.both n p is) in
      let here = first-of n p is in
      omega (arith, back, here)

  first-again-by : (n : ℕ) (other : Option ℕ) → partner_in meaning.symbols n ≡ other → first (first n) ≡ first n
  first-again-by n None is = ap first (first-none n is)
  first-again-by n (Some p) is = elim (cases_lt p n) [
    | inl l ↦
        let same : first n ≡ p = first-of n p is ∙ min-eq_left (omega (arith, l)) in
        ap first same ∙ first-both n p is
    | inr l ↦ ap first (first-of n p is ∙ min-eq_right l)
  ]

  first-again : (n : ℕ) → first (first n) ≡ first n
  first-again n = first-again-by n (partner_in meaning.symbols n) refl

  -- the number by which a lexeme is found
  data IsFound (lexeme : Lexeme) (number : ℕ) : Type 0 where
    found : (n : ℕ) → number_of meaning.symbols lexeme ≡ Some n → first n ≡ number → IsFound lexeme number

  is-found : (lexeme : Lexeme) (number : ℕ) (own : Option ℕ) → number_of meaning.symbols lexeme ≡ own → option_map first own ≡ Some number → IsFound lexeme number
  is-found lexeme number None is e = absurd (cc)
  is-found lexeme number (Some n) is e = found n is (same_Some (first n) number e)

  -- a symbol stands in the line of either of its names
  in-own : (number n line : ℕ) → first n ≡ number → own_line meaning n ≡ Some line → IsInLine statements (symbol_number meaning.symbols) number line
  in-own number n line same e =
      let was = held.given n line e in
      record {
        before = was.before;
        symbol = was.symbol;
        behind = was.behind;
        is = was.is;
        same = ap (option_map first) was.same ∙ ap Some same;
        line_is = was.line_is;
      }

  in-other : (number line : ℕ) → first number ≡ number → (own other : Option ℕ) → own_line meaning number ≡ own → partner_in meaning.symbols number ≡ other → option_or own (option_and_then (own_line meaning) other) ≡ Some line → IsInLine statements (symbol_number meaning.symbols) number line
  in-other number line canonical (Some l) other is partner e =
      in-own number number line canonical (is ∙ e)
  in-other number line canonical None None is partner e = absurd (cc)
  in-other number line canonical None (Some p) is partner e =
      in-own number p line (first-both number p partner ∙ canonical) e

  pub in-line : (lexeme : Lexeme) (number line : ℕ) → symbol_number meaning.symbols lexeme ≡ Some number → line_of meaning number ≡ Some line → IsInLine statements (symbol_number meaning.symbols) number line
  in-line lexeme number line named e = elim (is-found lexeme number (number_of meaning.symbols lexeme) refl named) [
    | found n is same ↦
        let canonical : first number ≡ number = ap first (sym same) ∙ first-again n ∙ same in
        in-other number line canonical (own_line meaning number) (partner_in meaning.symbols number) refl refl e
  ]

  -- a symbol that a declaration puts into a line has one
  line-or : (own other : Option ℕ) (line : ℕ) → other ≡ Some line → (l : ℕ) × (option_or own other ≡ Some l)
  line-or (Some l) other line is = (l, refl)
  line-or None other line is = (line, is)

  line-own : (number line : ℕ) → own_line meaning number ≡ Some line → (l : ℕ) × (line_of meaning number ≡ Some l)
  line-own number line is =
      (line, ap (λ own. option_or own (option_and_then (own_line meaning) (partner_in meaning.symbols number))) is)

  line-by : (number n line : ℕ) (other : Option ℕ) → first n ≡ number → own_line meaning n ≡ Some line → partner_in meaning.symbols n ≡ other → (l : ℕ) × (line_of meaning number ≡ Some l)
  line-by number n line None same is partner =
      line-own number line (ap (own_line meaning) (sym same ∙ first-none n partner) ∙ is)
  line-by number n line (Some p) same is partner = elim (cases_lt p n) [
    | inl l ↦
        let here : number ≡ p = sym same ∙ first-of n p partner ∙ min-eq_left (omega (arith, l)) in
        let back : partner_in meaning.symbols number ≡ Some n = ap (partner_in meaning.symbols) here ∙ partnered.both n p partner in
        line-or (own_line meaning number) (option_and_then (own_line meaning) (partner_in meaning.symbols number)) line (ap (option_and_then (own_line meaning)) back ∙ is)
    | inr l ↦
        let here : number ≡ n = sym same ∙ first-of n p partner ∙ min-eq_right l in
        line-own number line (ap (own_line meaning) here ∙ is)
  ]

  pub has-line : (lexeme : Lexeme) (number : ℕ) → Contains statements (says.InLevel lexeme) → symbol_number meaning.symbols lexeme ≡ Some number → (line : ℕ) × (line_of meaning number ≡ Some line)
  has-line lexeme number declared named = elim (is-found lexeme number (number_of meaning.symbols lexeme) refl named) [
    | found n is same ↦
        let own = held.some n lexeme declared is in
        line-by number n own.0 (partner_in meaning.symbols n) same own.1 refl
  ]

-- the bodies of a file, as they stand among its lexemes
use Rattle.std.specs.Prelude.{◌≡◌, ℕ, zero, suc, ◌+◌, ◌-◌, ◌<◌, ◌≤◌, ◌&&◌, ◌||◌, not, if◌then◌else◌, Bool, true, false, List, [], ◌∷◌, ◌++◌, Option, None, Some, IfSome, codes, slice_get, unwrap_or, vec_len}
use Rattle.std.specs.Option.{option_map}
use Rattle.std.specs.Str.{bytes_eq}
use Rattle.lryacc.specs.declared.contents.Alternative.{Alternative}
use Rattle.lryacc.specs.declared.contents.BodyPart.{BodyPart}
use Rattle.lryacc.specs.declared.contents.BodyPart.TheVariants as part
use Rattle.lryacc.specs.declared.dialects.Dialect.{Dialect}
use Rattle.lryacc.specs.declared.dialects.Dialect.TheVariants.{Bison}
use Rattle.lryacc.specs.declared.faults.Halt.{Halt}
use Rattle.lryacc.specs.declared.faults.Halt.TheVariants as halt
use Rattle.lryacc.specs.declared.lexemes.Lexeme.{Lexeme}
use Rattle.lryacc.specs.declared.lexemes.LexemeKind.{LexemeKind}
use Rattle.lryacc.specs.declared.lexemes.LexemeKind.TheVariants as kind
use Rattle.lryacc.specs.declared.places.Span.{Span}
use Rattle.lryacc.specs.declared.reader.Reader.{Reader}
use Rattle.lryacc.specs.declared.rules.Body.{Body}
use Rattle.lryacc.specs.Delimiters.{delimiter_at, delimiter_of, delimiters_before}
use Rattle.lryacc.specs.NamedSymbols.{is_bison, text_at}

-- symbols: names, characters and texts, and for grmtools names in quotes
abbrev pub is_symbol : LexemeKind → Bool
is_symbol kind.Name = true
is_symbol (kind.Character byte) = true
is_symbol kind.Text = true
is_symbol kind.QuotedName = true
is_symbol _ = false

-- code that is a part of a body
abbrev pub is_action : LexemeKind → Bool
is_action kind.Action = true
is_action kind.Predicate = true
is_action _ = false

-- what stands among the parts of a body, and is neither one itself nor a directive
abbrev pub is_aside : LexemeKind → Bool
is_aside kind.BracketName = true
is_aside kind.Tag = true
is_aside kind.Equals = true
is_aside kind.Number = true
is_aside _ = false

-- whether a directive is `%prec`
abbrev pub is_prec : List ℕ → Lexeme → Bool
is_prec text directive = bytes_eq (text_at text directive.span) (codes "%prec")

-- the directives that stand in bodies
abbrev pub is_in_bodies : Dialect → List ℕ → Bool
is_in_bodies dialect word =
    bytes_eq word (codes "%prec") || (bytes_eq word (codes "%empty")
    || is_bison dialect && (bytes_eq word (codes "%dprec") || (bytes_eq word (codes "%merge")
    || (bytes_eq word (codes "%expect") || (bytes_eq word (codes "%expect-rr")
    || bytes_eq word (codes "%expect_rr"))))))

-- from where one place begins to where another ends; that alone where there is none before
abbrev pub reach : Option Span → Span → Span
reach None place = place
reach (Some first) place = record { start = first.start; end = place.end }

-- the place that a body reaches over with one lexeme more, if it is no aside
abbrev pub reach_to : Option Span → Option Lexeme → Option Span
reach_to so_far None = so_far
reach_to so_far (Some lexeme) =
    if is_aside lexeme.kind then so_far else Some (reach so_far lexeme.span)

-- the place that a body reaches over with so many lexemes more, from one on
unfoldable pub reach_over : List Lexeme → ℕ → Option Span → ℕ → Option Span
reach_over lexemes from so_far zero = so_far
reach_over lexemes from so_far (suc count) =
    reach_to (reach_over lexemes from so_far count) (slice_get lexemes (from + count))

-- the lexemes from one place on, up to another, are those of a body, which has these parts, and this symbol for its precedence
pub data IsBody (text : List ℕ) (lexemes : List Lexeme) (from : ℕ)
    : ℕ → List BodyPart → Option Lexeme → Type 0 where
  -- nothing was read
  begins : IsBody text lexemes from from [] None
  -- a symbol is a part
  symbol : {at : ℕ} {parts : List BodyPart} {precedence : Option Lexeme} (lexeme : Lexeme)
      → IsBody text lexemes from at parts precedence
      → slice_get lexemes at ≡ Some lexeme → is_symbol lexeme.kind ≡ true
      → IsBody text lexemes from (at + 1) (parts ++ part.Symbol lexeme ∷ []) precedence
  -- so is code
  action : {at : ℕ} {parts : List BodyPart} {precedence : Option Lexeme} (lexeme : Lexeme)
      (name : Option Lexeme) → IsBody text lexemes from at parts precedence
      → slice_get lexemes at ≡ Some lexeme → is_action lexeme.kind ≡ true
      → IsBody text lexemes from (at + 1) (parts ++ part.Action lexeme name ∷ []) precedence
  -- names in brackets, tags, `=` and numbers are not
  aside : {at : ℕ} {parts : List BodyPart} {precedence : Option Lexeme} (lexeme : Lexeme)
      → IsBody text lexemes from at parts precedence
      → slice_get lexemes at ≡ Some lexeme → is_aside lexeme.kind ≡ true
      → IsBody text lexemes from (at + 1) parts precedence
  -- nor are the directives other than `%prec` that stand in bodies
  directive : {at : ℕ} {parts : List BodyPart} {precedence : Option Lexeme} (lexeme : Lexeme)
      → IsBody text lexemes from at parts precedence
      → slice_get lexemes at ≡ Some lexeme → lexeme.kind ≡ kind.Directive
      → is_in_bodies Bison (text_at text lexeme.span) ≡ true → is_prec text lexeme ≡ false
      → IsBody text lexemes from (at + 1) parts precedence
  -- nor is `%prec`, which stands there once at most, and the symbol right behind it, which is that of the precedence
  prec : {at : ℕ} {parts : List BodyPart} (lexeme symbol : Lexeme)
      → IsBody text lexemes from at parts None
      → slice_get lexemes at ≡ Some lexeme → lexeme.kind ≡ kind.Directive
      → is_prec text lexeme ≡ true
      → slice_get lexemes (at + 1) ≡ Some symbol → is_symbol symbol.kind ≡ true
      → IsBody text lexemes from (at + 1 + 1) parts (Some symbol)

-- the lexemes that a reader goes over, from one place on up to another, are those of the body in hand
abbrev pub IsBodyUpTo : Reader → ℕ → ℕ → Body → Type 0
IsBodyUpTo reader from at body =
    IsBody reader.text.now reader.lexemes.now from at body.parts.items body.precedence

-- the file is the same, and so are the bodies that were read of it; faults that were told stay so
pub record IsSameFile (old new : Reader) : Type 0 where
  pub text : new.text.now ≡ old.text.now
  pub lexemes : new.lexemes.now ≡ old.lexemes.now
  pub dialect : new.dialect ≡ old.dialect
  pub bodies : new.contents.alternatives.items ≡ old.contents.alternatives.items
  pub faults : vec_len old.contents.faults ≤ vec_len new.contents.faults

-- where reading stops for a fault, one was told
abbrev pub IsTold : Halt → Reader → Type 0
IsTold halt.Fault reader = 0 < vec_len reader.contents.faults
IsTold halt.Memory reader = Unit {0}

-- no fault was told
abbrev pub IsWhole : Reader → Type 0
IsWhole reader = vec_len reader.contents.faults ≡ 0

-- how many delimiters a reader has gone over
abbrev pub delimiters_read : Reader → ℕ
delimiters_read reader = delimiters_before reader.lexemes.now reader.at

-- the reader stands where it was
pub record Stays (old new : Reader) : Type 0 where
  pub file : IsSameFile old new
  pub at : new.at ≡ old.at
  pub count : delimiters_read new ≡ delimiters_read old

-- the reader goes on, and goes over no delimiter
pub record PassesNoDelimiter (old new : Reader) : Type 0 where
  pub file : IsSameFile old new
  pub on : old.at ≤ new.at
  pub count : delimiters_read new ≡ delimiters_read old

-- the reader goes over one lexeme
pub record Passes (old new : Reader) : Type 0 where
  pub file : IsSameFile old new
  pub at : new.at ≡ old.at + 1
  pub count : delimiters_read new
      ≡ delimiters_read old + delimiter_at (slice_get old.lexemes.now old.at)

-- the reader takes a lexeme of that kind
pub record TakesKind (old new : Reader) (kind : LexemeKind) (lexeme : Lexeme) : Type 0 where
  pub passes : Passes old new
  pub here : slice_get old.lexemes.now old.at ≡ Some lexeme
  pub is : lexeme.kind ≡ kind
  pub count : delimiters_read new ≡ delimiters_read old + delimiter_of kind

-- the reader goes over a lexeme of that kind
pub record SkipsKind (old new : Reader) (kind : LexemeKind) : Type 0 where
  pub passes : Passes old new
  pub here : option_map (λ lexeme. lexeme.kind) (slice_get old.lexemes.now old.at) ≡ Some kind
  pub count : delimiters_read new ≡ delimiters_read old + delimiter_of kind

-- the reader takes a symbol
pub record TakesSymbol (old new : Reader) (lexeme : Lexeme) : Type 0 where
  pub passes : Passes old new
  pub here : slice_get old.lexemes.now old.at ≡ Some lexeme
  pub is : is_symbol lexeme.kind ≡ true
  pub count : delimiters_read new ≡ delimiters_read old

-- the body reaches on over the lexemes that the reader goes over
abbrev pub ReachesOn : Reader → Reader → Body → Body → Type 0
ReachesOn old new before after =
    after.span ≡ reach_over old.lexemes.now old.at before.span (new.at - old.at)

-- the reader goes on in a body
pub record ReadsOn (old new : Reader) (before after : Body) : Type 0 where
  pub file : IsSameFile old new
  pub on : old.at < new.at
  pub parts : (from : ℕ) → IsBodyUpTo old from old.at before → IsBodyUpTo old from new.at after
  pub reach : ReachesOn old new before after

-- the body stops here
pub record Stops (old new : Reader) (before after : Body) : Type 0 where
  pub reader : Stays old new
  pub parts : after.parts.items ≡ before.parts.items
  pub precedence : after.precedence ≡ before.precedence
  pub span : after.span ≡ before.span

-- whether the body goes on
abbrev pub GoesOn : Reader → Reader → Body → Body → Bool → Type 0
GoesOn old new before after true = ReadsOn old new before after
GoesOn old new before after false = Stops old new before after

-- the reader takes the symbol behind the one `%prec` of a body
pub record TakesPrecedence (old new : Reader) (before after : Body) : Type 0 where
  pub lexeme : Lexeme
  pub taken : TakesSymbol old new lexeme
  pub none : before.precedence ≡ None
  pub is : after.precedence ≡ Some lexeme
  pub span : after.span ≡ Some (reach before.span lexeme.span)

-- the reader goes over what belongs to another directive of a body, if anything does
pub record ReadsBehind (old new : Reader) : Type 0 where
  pub on : old.at < new.at + 1
  pub parts : (from at : ℕ) (parts : List BodyPart) (precedence : Option Lexeme)
      (directive : Lexeme) → IsBody old.text.now old.lexemes.now from at parts precedence
      → slice_get old.lexemes.now at ≡ Some directive → directive.kind ≡ kind.Directive
      → is_in_bodies Bison (text_at old.text.now directive.span) ≡ true
      → is_prec old.text.now directive ≡ false
      → old.at ≡ at + 1 → IsBody old.text.now old.lexemes.now from new.at parts precedence
  pub asides : (so_far : Option Span)
      → reach_over old.lexemes.now old.at so_far (new.at - old.at) ≡ so_far

-- the reader goes over the rest of a body
pub record ReadsBody (old new : Reader) (before after : Body) : Type 0 where
  pub parts : (from : ℕ) → IsBodyUpTo old from old.at before → IsBodyUpTo old from new.at after
  pub on : old.at ≤ new.at
  pub reach : ReachesOn old new before after

-- the marks behind which bodies begin
abbrev pub is_mark : LexemeKind → Bool
is_mark kind.Colon = true
is_mark kind.Bar = true
is_mark _ = false

-- a place right behind a mark
pub record IsBehindMark (lexemes : List Lexeme) (at : ℕ) (mark : Lexeme) : Type 0 where
  pub before : ℕ
  pub next : at ≡ before + 1
  pub here : slice_get lexemes before ≡ Some mark
  pub is : is_mark mark.kind ≡ true

-- whether a lexeme is the name of a rule
abbrev pub is_rule_name : LexemeKind → Bool
is_rule_name kind.RuleName = true
is_rule_name _ = false

-- the last name of a rule before a place
pub record IsRuleBefore (lexemes : List Lexeme) (at : ℕ) (rule : Lexeme) : Type 0 where
  pub place : ℕ
  pub before : place < at
  pub here : slice_get lexemes place ≡ Some rule
  pub is : is_rule_name rule.kind ≡ true
  pub last : (between : ℕ) → place < between → between < at
      → IfSome (slice_get lexemes between) (λ lexeme. is_rule_name lexeme.kind ≡ false)

-- the reader stands right behind a mark, and the last name of a rule before that is this one
pub record BeginsBody (reader : Reader) (rule mark : Lexeme) : Type 0 where
  pub behind : IsBehindMark reader.lexemes.now reader.at mark
  pub rule_is : IsRuleBefore reader.lexemes.now reader.at rule

-- the reader takes a `|`, and goes over no other delimiter before it
pub record TakesBar (old new : Reader) (bar : Lexeme) : Type 0 where
  pub before : Reader
  pub over : PassesNoDelimiter old before
  pub taken : TakesKind before new kind.Bar bar

-- whether a lexeme of this kind, which is this word, ends bodies: `|` and `;`; for Bison also the name of a rule, `%%`, and a
-- directive that stands in no body
abbrev pub ends_bodies : Dialect → List ℕ → LexemeKind → Bool
ends_bodies dialect word kind.Bar = true
ends_bodies dialect word kind.Semicolon = true
ends_bodies Bison word kind.RuleName = true
ends_bodies Bison word kind.Separator = true
ends_bodies Bison word kind.Directive = not (is_in_bodies Bison word)
ends_bodies dialect word _ = false

-- bodies end at a place: nothing stands there, or what ends them
abbrev pub IsBodyEnd : List ℕ → List Lexeme → Dialect → ℕ → Type 0
IsBodyEnd text lexemes dialect at =
    IfSome (slice_get lexemes at) (λ lexeme.
    ends_bodies dialect (text_at text lexeme.span) lexeme.kind ≡ true)

-- the place of a body that reaches over this: that, or the end of the mark before it if it reaches over nothing
abbrev pub place_of : Option Span → Lexeme → Span
place_of reached mark =
    unwrap_or reached (record { start = mark.span.end; end = mark.span.end })

-- a body that was read from a place on, behind a mark: its rule is the one whose name stands last before that, its parts are the
-- symbols and the actions among the lexemes that follow one another up to the end of the file, or up to one that ends bodies of
-- the dialect, and the symbol of its precedence is the one behind `%prec` there; it stands where these lexemes do but for asides
pub record IsReadFrom (text : List ℕ) (lexemes : List Lexeme) (dialect : Dialect) (mark : Lexeme)
    (from : ℕ) (body : Alternative) : Type 0 where
  pub rule : IsRuleBefore lexemes from body.rule
  pub to : ℕ
  pub parts : IsBody text lexemes from to body.parts.items body.precedence
  pub ends : IsBodyEnd text lexemes dialect to
  pub place : body.span ≡ place_of (reach_over lexemes from None (to - from)) mark

-- the body in hand is added to what was read, as one of a rule
pub record EndsBody (old new : Reader) (rule mark : Lexeme) (read : Body) : Type 0 where
  pub text : new.text.now ≡ old.text.now
  pub lexemes : new.lexemes.now ≡ old.lexemes.now
  pub dialect : new.dialect ≡ old.dialect
  pub at : new.at ≡ old.at
  pub body : Alternative
  pub rule_is : body.rule ≡ rule
  pub parts_are : body.parts.items ≡ read.parts.items
  pub precedence_is : body.precedence ≡ read.precedence
  pub place : body.span ≡ place_of read.span mark
  pub bodies : new.contents.alternatives.items ≡ old.contents.alternatives.items ++ body ∷ []

-- a body of a rule is read here, behind a mark, and added to what was read; the reader goes over no delimiter
pub record AddsBody (old new : Reader) (rule mark : Lexeme) : Type 0 where
  pub text : new.text.now ≡ old.text.now
  pub lexemes : new.lexemes.now ≡ old.lexemes.now
  pub dialect : new.dialect ≡ old.dialect
  pub on : old.at ≤ new.at
  pub count : delimiters_read new ≡ delimiters_read old
  pub body : Alternative
  pub rule_is : body.rule ≡ rule
  pub read : IsReadFrom old.text.now old.lexemes.now old.dialect mark old.at body
  pub bodies : new.contents.alternatives.items ≡ old.contents.alternatives.items ++ body ∷ []

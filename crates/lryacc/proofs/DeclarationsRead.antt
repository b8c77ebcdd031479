-- declarations are read
use Rattle.std.proofs.Common.{◌≡◌, ℕ, suc, ◌+◌, ◌-◌, arith, add-one, Bool, true, false, List, [], ◌∷◌, ◌++◌, append_assoc, append-nil, take, drop, take-append-drop, Option, None, Some, Result, Ok, Err, OnOk, length, refl, ap, sym, ◌∙◌, subst}
use Rattle.std.specs.Prelude.{IfSome, MatchBool, MatchOption, codes, if◌then◌else◌, nat_eq, slice_get}
use Rattle.std.specs.Option.{option_map}
use Rattle.std.specs.Str.{bytes_eq}
use Rattle.std.proofs.lemmas.Slice.Eq.{bytes_eq-Decides}
use Rattle.std.proofs.lemmas.List.Elements.{filter-append}
use Rattle.std.proofs.lemmas.Option.{slice_get_within}
use Rattle.lryacc.specs.declared.contents.Statement.{Statement}
use Rattle.lryacc.specs.declared.contents.Statement.TheVariants.{Alias, Code}
use Rattle.lryacc.specs.declared.declarations.Said.{Said}
use Rattle.lryacc.specs.declared.declarations.Said.TheVariants as said
use Rattle.lryacc.specs.declared.dialects.Dialect.{Dialect}
use Rattle.lryacc.specs.declared.dialects.Dialect.TheVariants.{Bison, Grmtools}
use Rattle.lryacc.specs.declared.directives.Form.{Form}
use Rattle.lryacc.specs.declared.directives.Form.TheVariants as form
use Rattle.lryacc.specs.declared.lexemes.Lexeme.{Lexeme}
use Rattle.lryacc.specs.declared.lexemes.LexemeKind.{LexemeKind}
use Rattle.lryacc.specs.declared.lexemes.LexemeKind.TheVariants as kind
use Rattle.lryacc.specs.declared.reader.Reader.{Reader}
use Rattle.lryacc.specs.Bodies.{Passes, PassesNoDelimiter, SkipsKind, Stays, TakesKind, TakesSymbol, delimiters_read, is_symbol}
use Rattle.lryacc.specs.Declarations.{alias_of, code_of, counted_of, declared_at, declared_by, declared_over, directive_declares, form_before, form_behind, form_by, if_symbol, is_before_rules, is_counted, is_number, lexeme_declares, number_declares, symbol_by, symbol_declares, text_declares, translated_declares}
use Rattle.lryacc.specs.DeclarationsRead.{IsSaidBy, StatesDeclared, StatesListed, TakesAlias, all_stated, declared_from, form_expected, form_here, is_declaring, is_of_codes, is_of_names, is_silent, said_of, stated, symbol_behind, symbol_here}
use Rattle.lryacc.specs.Directives.{counted, form_of}
use Rattle.lryacc.specs.NamedSymbols.{text_at}

-- ---- one more lexeme

-- the directive before it
pub form-next : (text : List ℕ) (dialect : Dialect) (lexemes : List Lexeme) (at : ℕ) → form_before text dialect lexemes (at + 1) ≡ form_behind text dialect (form_before text dialect lexemes at) (slice_get lexemes at)
unfolding form_before
form-next text dialect lexemes at = rw add-one refl

-- what it declares
pub declared-next : (text : List ℕ) (dialect : Dialect) (lexemes : List Lexeme) (at : ℕ) (lexeme : Lexeme) → slice_get lexemes at ≡ Some lexeme → declared_over text dialect lexemes at (length lexemes - at) ≡ declared_at text dialect lexemes at ++ declared_over text dialect lexemes (at + 1) (length lexemes - (at + 1))
unfolding declared_over
declared-next text dialect lexemes at lexeme here =
    let within = slice_get_within lexemes at lexeme here in
    let e : length lexemes - at ≡ suc (length lexemes - (at + 1)) = omega (arith, within) in
    rw e refl

-- what a lexeme of that kind declares that stands before a reader
abbrev pub declares : Reader → LexemeKind → Lexeme → List Statement
declares reader k lexeme =
    lexeme_declares k (form_of reader.dialect (text_at reader.text.now lexeme.span)) (form_here reader) (is_before_rules reader.lexemes.now reader.at) (symbol_here reader) lexeme

-- the reader goes over it
pub takes : (old new : Reader) (lexeme : Lexeme) → Passes old new → slice_get old.lexemes.now old.at ≡ Some lexeme → new.contents.statements ≡ old.contents.statements → all_stated old [] ≡ all_stated new (declares old lexeme.kind lexeme)
unfolding all_stated
takes old new lexeme passes here same =
    let next = declared-next old.text.now old.dialect old.lexemes.now old.at lexeme here in
    let found : declared_at old.text.now old.dialect old.lexemes.now old.at ≡ declares old lexeme.kind lexeme =
    ap (declared_by old.text.now old.dialect (form_here old) (is_before_rules old.lexemes.now old.at) (symbol_here old)) here in
    rw (passes.file.text, passes.file.lexemes, passes.file.dialect, passes.at, same)
    (ap (λ (xs : List Statement). stated old ++ xs)
    (next ∙ ap (λ (xs : List Statement). xs ++ declared_from old (old.at + 1)) found))

pub form-takes : (old new : Reader) (lexeme : Lexeme) → Passes old new → slice_get old.lexemes.now old.at ≡ Some lexeme → form_here new ≡ form_by lexeme.kind (form_of old.dialect (text_at old.text.now lexeme.span)) (form_here old)
form-takes old new lexeme passes here =
    rw (passes.file.text, passes.file.lexemes, passes.file.dialect, passes.at)
    (form-next old.text.now old.dialect old.lexemes.now old.at ∙ ap (form_behind old.text.now old.dialect (form_here old)) here)

-- the same for a lexeme of a known kind
pub takes-kind : {old new : Reader} {lexeme : Lexeme} (k : LexemeKind) → TakesKind old new k lexeme → new.contents.statements ≡ old.contents.statements → all_stated old [] ≡ all_stated new (declares old k lexeme)
takes-kind {old} {new} {lexeme} k taken same =
    takes old new lexeme taken.passes taken.here same ∙ ap (λ (k : LexemeKind). all_stated new (declares old k lexeme)) taken.is

pub form-kind : {old new : Reader} {lexeme : Lexeme} (k : LexemeKind) → TakesKind old new k lexeme → form_here new ≡ form_by k (form_of old.dialect (text_at old.text.now lexeme.span)) (form_here old)
form-kind {old} {new} {lexeme} k taken =
    form-takes old new lexeme taken.passes taken.here
    ∙ ap (λ (k : LexemeKind). form_by k (form_of old.dialect (text_at old.text.now lexeme.span)) (form_here old)) taken.is

-- ---- the reader stays

pub stays-stated : {old new : Reader} (owed : List Statement) → Stays old new → new.contents.statements ≡ old.contents.statements → all_stated new owed ≡ all_stated old owed
unfolding all_stated
stays-stated {old} {new} owed stays same =
    rw (stays.file.text, stays.file.lexemes, stays.file.dialect, stays.at, same) refl

pub form-stays : {old new : Reader} → Stays old new → form_here new ≡ form_here old
form-stays {old} {new} stays = rw (stays.file.text, stays.file.lexemes, stays.file.dialect, stays.at) refl

pub here-stays : {old new : Reader} → Stays old new → symbol_here new ≡ symbol_here old
here-stays {old} {new} stays = rw (stays.file.lexemes, stays.at) refl

pub stays-listed : {old new : Reader} → Stays old new → new.contents.statements ≡ old.contents.statements → StatesListed old new
stays-listed stays same = record { declared = stays-stated [] stays same; form = form-stays stays }

-- it states something
pub states : {old new : Reader} (statement : Statement) → Stays old new → new.contents.statements.items ≡ old.contents.statements.items ++ statement ∷ [] → all_stated new [] ≡ all_stated old (counted_of (statement ∷ []))
unfolding all_stated
states {old} {new} statement stays same =
    rw (stays.file.text, stays.file.lexemes, stays.file.dialect, stays.at, same)
    (ap (λ (xs : List Statement). xs ++ declared_from old old.at) (filter-append is_counted old.contents.statements.items (statement ∷ []))
    ∙ append_assoc (stated old) (counted_of (statement ∷ [])) (declared_from old old.at))

-- what it has stated alone
pub stated-same : (old new : Reader) → new.contents.statements ≡ old.contents.statements → stated new ≡ stated old
stated-same old new same = rw same refl

pub stated-other : (old new : Reader) (statement : Statement) → counted_of (statement ∷ []) ≡ [] → new.contents.statements.items ≡ old.contents.statements.items ++ statement ∷ [] → stated new ≡ stated old
stated-other old new statement none same =
    ap (λ (xs : List Statement). counted_of xs) same
    ∙ (filter-append is_counted old.contents.statements.items (statement ∷ [])
    ∙ (ap (λ (xs : List Statement). stated old ++ xs) none ∙ append-nil (stated old)))

-- it is none of what counts
pub states-other : {old new : Reader} (statement : Statement) → counted_of (statement ∷ []) ≡ [] → Stays old new → new.contents.statements.items ≡ old.contents.statements.items ++ statement ∷ [] → StatesListed old new
states-other {old} {new} statement none stays same = record {
  declared = states statement stays same ∙ ap (all_stated old) none;
  form = form-stays stays;
}

pub listed-again : {old now new : Reader} → StatesListed old now → StatesListed now new → StatesListed old new
listed-again one other = record { declared = other.declared ∙ one.declared; form = other.form ∙ one.form }

-- ---- lexemes that declare nothing

silent-kind : (k : LexemeKind) (own behind : Form) (is_first : Bool) (symbol : Option Lexeme) (lexeme : Lexeme) → is_silent k ≡ true → lexeme_declares k own behind is_first symbol lexeme ≡ []
silent-kind kind.Directive own behind is_first symbol lexeme is = cc
silent-kind kind.Number own behind is_first symbol lexeme is = cc
silent-kind kind.Name own behind is_first symbol lexeme is = cc
silent-kind (kind.Character byte) own behind is_first symbol lexeme is = cc
silent-kind kind.Text own behind is_first symbol lexeme is = cc
silent-kind kind.TranslatedText own behind is_first symbol lexeme is = cc
silent-kind kind.QuotedName own behind is_first symbol lexeme is = cc
silent-kind _ own behind is_first symbol lexeme is = refl

pub silent-taken : {old new : Reader} {lexeme : Lexeme} (k : LexemeKind) → is_silent k ≡ true → TakesKind old new k lexeme → new.contents.statements ≡ old.contents.statements → StatesDeclared old new
silent-taken {old} {new} {lexeme} k is taken same =
    sym (takes-kind k taken same ∙ ap (all_stated new) (silent-kind k (form_of old.dialect (text_at old.text.now lexeme.span)) (form_here old) (is_before_rules old.lexemes.now old.at) (symbol_here old) lexeme is))

-- what is passed over is a lexeme that could be taken
taken-at : {old new : Reader} (k : LexemeKind) (found : Option Lexeme) → slice_get old.lexemes.now old.at ≡ found → option_map (λ (lexeme : Lexeme). lexeme.kind) found ≡ Some k → SkipsKind old new k → (lexeme : Lexeme) × TakesKind old new k lexeme
taken-at k None here is skips = absurd (cc)
taken-at k (Some lexeme) here is skips =
    let same : lexeme.kind ≡ k = cc in (lexeme, record { passes = skips.passes; here = here; is = same; count = skips.count })

pub skips-taken : {old new : Reader} (k : LexemeKind) → SkipsKind old new k → (lexeme : Lexeme) × TakesKind old new k lexeme
skips-taken {old} {new} k skips = taken-at k (slice_get old.lexemes.now old.at) refl skips.here skips

pub silent-skipped : {old new : Reader} (k : LexemeKind) → is_silent k ≡ true → SkipsKind old new k → new.contents.statements ≡ old.contents.statements → StatesDeclared old new
silent-skipped k is skips same = silent-taken k is (skips-taken k skips).1 same

pub silent-skips : (old new : Reader) (k : LexemeKind) → is_silent k ≡ true → (found : Bool) → MatchBool found (SkipsKind old new k) (Stays old new) → new.contents.statements ≡ old.contents.statements → StatesDeclared old new
silent-skips old new k is true skips same = silent-skipped k is skips same
silent-skips old new k is false stays same = stays-stated [] stays same

pub silent-takes : (old new : Reader) (k : LexemeKind) → is_silent k ≡ true → (found : Option Lexeme) → MatchOption found (Stays old new) (λ lexeme. TakesKind old new k lexeme) → new.contents.statements ≡ old.contents.statements → StatesDeclared old new
silent-takes old new k is None stays same = stays-stated [] stays same
silent-takes old new k is (Some lexeme) taken same = silent-taken k is taken same

-- ---- behind a directive that declares nothing

abbrev pub is_directive : LexemeKind → Bool
is_directive kind.Directive = true
is_directive _ = false

nothing-kind : (k : LexemeKind) (own : Form) (is_first : Bool) (symbol : Option Lexeme) (lexeme : Lexeme) → is_directive k ≡ false → lexeme_declares k own form.Nothing is_first symbol lexeme ≡ []
nothing-kind kind.Directive own is_first symbol lexeme is = cc
nothing-kind _ own is_first symbol lexeme is = refl

nothing-form : (k : LexemeKind) (own : Form) → is_directive k ≡ false → form_by k own form.Nothing ≡ form.Nothing
nothing-form kind.Directive own is = cc
nothing-form _ own is = refl

pub nothing-taken : {old new : Reader} {lexeme : Lexeme} (k : LexemeKind) → is_directive k ≡ false → form_here old ≡ form.Nothing → TakesKind old new k lexeme → new.contents.statements ≡ old.contents.statements → StatesListed old new
nothing-taken {old} {new} {lexeme} k is none taken same =
    let own = form_of old.dialect (text_at old.text.now lexeme.span) in
    let first = is_before_rules old.lexemes.now old.at in record {
      declared = sym (takes-kind k taken same ∙ ap (all_stated new) (ap (λ (f : Form). lexeme_declares k own f first (symbol_here old) lexeme) none ∙ nothing-kind k own first (symbol_here old) lexeme is));
      form = form-kind k taken ∙ (ap (form_by k own) none ∙ (nothing-form k own is ∙ sym none));
    }

pub nothing-skipped : {old new : Reader} (k : LexemeKind) → is_directive k ≡ false → form_here old ≡ form.Nothing → SkipsKind old new k → new.contents.statements ≡ old.contents.statements → StatesListed old new
nothing-skipped k is none skips same = nothing-taken k is none (skips-taken k skips).1 same

pub nothing-skips : {old new : Reader} (k : LexemeKind) → is_directive k ≡ false → form_here old ≡ form.Nothing → (found : Bool) → MatchBool found (SkipsKind old new k) (Stays old new) → new.contents.statements ≡ old.contents.statements → StatesListed old new
nothing-skips k is none true skips same = nothing-skipped k is none skips same
nothing-skips k is none false stays same = stays-listed stays same

pub nothing-takes : {old new : Reader} (k : LexemeKind) → is_directive k ≡ false → form_here old ≡ form.Nothing → (found : Option Lexeme) → MatchOption found (Stays old new) (λ lexeme. TakesKind old new k lexeme) → new.contents.statements ≡ old.contents.statements → StatesListed old new
nothing-takes k is none None stays same = stays-listed stays same
nothing-takes k is none (Some lexeme) taken same = nothing-taken k is none taken same

-- ---- symbols

-- a text declares what symbols do where no names are declared
text-kind : (behind : Form) (symbol : Option Lexeme) (text : Lexeme) → is_of_names behind ≡ false → text_declares behind symbol text ≡ symbol_declares behind text
text-kind form.Tokens symbol text is = cc
text-kind form.Rules symbol text is = cc
text-kind _ symbol text is = refl

symbol-kind : (k : LexemeKind) (own behind : Form) (is_first : Bool) (symbol : Option Lexeme) (lexeme : Lexeme) → is_symbol k ≡ true → (k ≡ kind.Text → is_of_names behind ≡ false) → lexeme_declares k own behind is_first symbol lexeme ≡ symbol_declares behind lexeme
symbol-kind kind.Name own behind is_first symbol lexeme is no_text = refl
symbol-kind (kind.Character byte) own behind is_first symbol lexeme is no_text = refl
symbol-kind kind.Text own behind is_first symbol lexeme is no_text = text-kind behind symbol lexeme (no_text refl)
symbol-kind kind.QuotedName own behind is_first symbol lexeme is no_text = refl
symbol-kind _ own behind is_first symbol lexeme is no_text = absurd (cc)

form-symbol : (k : LexemeKind) (own behind : Form) → is_symbol k ≡ true → form_by k own behind ≡ behind
form-symbol kind.Name own behind is = refl
form-symbol (kind.Character byte) own behind is = refl
form-symbol kind.Text own behind is = refl
form-symbol kind.QuotedName own behind is = refl
form-symbol _ own behind is = absurd (cc)

pub symbol-taken : {old new : Reader} {lexeme : Lexeme} → TakesSymbol old new lexeme → (lexeme.kind ≡ kind.Text → is_of_names (form_here old) ≡ false) → new.contents.statements ≡ old.contents.statements → all_stated old [] ≡ all_stated new (symbol_declares (form_here old) lexeme)
symbol-taken {old} {new} {lexeme} taken no_text same =
    takes old new lexeme taken.passes taken.here same
    ∙ ap (all_stated new) (symbol-kind lexeme.kind (form_of old.dialect (text_at old.text.now lexeme.span)) (form_here old) (is_before_rules old.lexemes.now old.at) (symbol_here old) lexeme taken.is no_text)

pub symbol-form : {old new : Reader} {lexeme : Lexeme} → TakesSymbol old new lexeme → form_here new ≡ form_here old
symbol-form {old} {new} {lexeme} taken =
    form-takes old new lexeme taken.passes taken.here
    ∙ form-symbol lexeme.kind (form_of old.dialect (text_at old.text.now lexeme.span)) (form_here old) taken.is

pub nothing-symbol : {old new : Reader} {lexeme : Lexeme} → form_here old ≡ form.Nothing → TakesSymbol old new lexeme → new.contents.statements ≡ old.contents.statements → StatesListed old new
nothing-symbol {old} {new} {lexeme} none taken same = record {
  declared = sym (symbol-taken taken (λ _. ap is_of_names none) same ∙ ap (λ (f : Form). all_stated new (symbol_declares f lexeme)) none);
  form = symbol-form taken;
}

-- it stands right before the reader then
pub symbol-behind : {old new : Reader} {lexeme : Lexeme} → TakesSymbol old new lexeme → symbol_behind new ≡ Some lexeme
symbol-behind {old} {new} {lexeme} taken =
    let e : new.at - 1 ≡ old.at = omega (arith, taken.passes.at) in
    rw (taken.passes.file.lexemes, e, taken.here, taken.is) refl

pub behind-stays : {old new : Reader} → Stays old new → symbol_behind new ≡ symbol_behind old
behind-stays {old} {new} stays = rw (stays.file.lexemes, stays.at) refl

-- so a number or a text is said of it
kind-here : (k : LexemeKind) (lexeme symbol : Lexeme) (before : Option Lexeme) → (if is_symbol k then Some lexeme else None) ≡ Some symbol → (if is_number k then if_symbol before else (if is_symbol k then Some lexeme else None)) ≡ Some symbol
kind-here kind.Number lexeme symbol before is = absurd (cc)
kind-here _ lexeme symbol before is = is

by-behind : (found before : Option Lexeme) (symbol : Lexeme) → if_symbol found ≡ Some symbol → symbol_by found before ≡ Some symbol
by-behind None before symbol is = absurd (cc)
by-behind (Some lexeme) before symbol is = kind-here lexeme.kind lexeme symbol before is

pub behind-here : (reader : Reader) (symbol : Lexeme) → symbol_behind reader ≡ Some symbol → symbol_here reader ≡ Some symbol
behind-here reader symbol is =
    by-behind (slice_get reader.lexemes.now (reader.at - 1)) (slice_get reader.lexemes.now (reader.at - 2)) symbol is

-- a text is, too, behind its number
pub number-here : {old new : Reader} {number : Lexeme} (symbol : Lexeme) → symbol_behind old ≡ Some symbol → TakesKind old new kind.Number number → symbol_here new ≡ Some symbol
number-here {old} {new} {number} symbol is taken =
    let e : new.at - 1 ≡ old.at = omega (arith, taken.passes.at) in
    let f : new.at - 2 ≡ old.at - 1 = omega (arith, taken.passes.at) in
    rw (taken.passes.file.lexemes, e, f, taken.here, taken.is) is

-- what is said of it is what it declares
said-symbol : (s : Said) (behind : Form) (symbol : Lexeme) → IsSaidBy s behind → symbol_declares behind symbol ≡ said_of s symbol
said-symbol said.Operator behind symbol is = ap (λ (f : Form). symbol_declares f symbol) is.1
said-symbol said.InLevel behind symbol is = ap (λ (f : Form). symbol_declares f symbol) is.1
said-symbol said.Start behind symbol is = ap (λ (f : Form). symbol_declares f symbol) is
said-symbol said.DeclaredToken behind symbol is = ap (λ (f : Form). symbol_declares f symbol) is
said-symbol said.DeclaredRule behind symbol is = ap (λ (f : Form). symbol_declares f symbol) is
said-symbol _ behind symbol is = ap (λ (f : Form). symbol_declares f symbol) is

pub symbol-said : {old now : Reader} {lexeme : Lexeme} (new : Reader) (s : Said) → IsSaidBy s (form_here old) → TakesSymbol old now lexeme → (lexeme.kind ≡ kind.Text → is_of_names (form_here old) ≡ false) → now.contents.statements ≡ old.contents.statements → all_stated new [] ≡ all_stated now (said_of s lexeme) → StatesDeclared old new
symbol-said {old} {now} {lexeme} new s is taken no_text same says =
    says ∙ sym (symbol-taken taken no_text same ∙ ap (all_stated now) (said-symbol s (form_here old) lexeme is))

-- it is said behind the same directive
pub said-still : {before behind : Form} (s : Said) → behind ≡ before → IsSaidBy s before → IsSaidBy s behind
said-still s same is = rw same is

-- it is known what is said
pub said-as : {s : Said} (known : Said) (behind : Form) → s ≡ known → IsSaidBy s behind → IsSaidBy known behind
said-as {s} known behind e is = subst (λ (s : Said). IsSaidBy s behind) e is

-- what declares names, and what doesn't
pub said-names : (s : Said) (behind : Form) → IsSaidBy s behind → is_declaring s ≡ true → is_of_names behind ≡ true
said-names said.DeclaredToken behind is declaring = ap is_of_names is
said-names said.DeclaredRule behind is declaring = ap is_of_names is
said-names _ behind is declaring = absurd (cc)

pub said-plain : (s : Said) (behind : Form) → IsSaidBy s behind → is_declaring s ≡ false → is_of_names behind ≡ false
said-plain said.DeclaredToken behind is plain = absurd (cc)
said-plain said.DeclaredRule behind is plain = absurd (cc)
said-plain said.Operator behind is plain = ap is_of_names is.1
said-plain said.InLevel behind is plain = ap is_of_names is.1
said-plain _ behind is plain = ap is_of_names is

pub names-codes : (behind : Form) → is_of_names behind ≡ true → is_of_codes behind ≡ true
names-codes form.Tokens is = refl
names-codes form.Rules is = refl
names-codes _ is = absurd (cc)

-- ---- other names

texts-alias : (behind : Form) (symbol : Option Lexeme) (text : Lexeme) → is_of_names behind ≡ true → (text_declares behind symbol text ≡ alias_of symbol text) × (translated_declares behind symbol text ≡ alias_of symbol text)
texts-alias form.Tokens symbol text is = (refl, refl)
texts-alias form.Rules symbol text is = (refl, refl)
texts-alias _ symbol text is = absurd (cc)

pub text-taken : {old new : Reader} {text : Lexeme} → is_of_names (form_here old) ≡ true → TakesKind old new kind.Text text → new.contents.statements ≡ old.contents.statements → TakesAlias old new text
text-taken {old} {new} {text} is taken same = record {
  declared = takes-kind kind.Text taken same ∙ ap (all_stated new) (texts-alias (form_here old) (symbol_here old) text is).0;
  form = form-kind kind.Text taken;
}

pub translated-taken : {old new : Reader} {text : Lexeme} → is_of_names (form_here old) ≡ true → TakesKind old new kind.TranslatedText text → new.contents.statements ≡ old.contents.statements → TakesAlias old new text
translated-taken {old} {new} {text} is taken same = record {
  declared = takes-kind kind.TranslatedText taken same ∙ ap (all_stated new) (texts-alias (form_here old) (symbol_here old) text is).1;
  form = form-kind kind.TranslatedText taken;
}

-- the reader stayed before it
pub alias-behind : {old mid new : Reader} (text : Lexeme) → Stays old mid → mid.contents.statements ≡ old.contents.statements → TakesAlias mid new text → TakesAlias old new text
alias-behind {old} {mid} {new} text stays same taken = record {
  declared = sym (stays-stated [] stays same) ∙ (taken.declared ∙ ap (λ (s : Option Lexeme). all_stated new (alias_of s text)) (here-stays stays));
  form = taken.form ∙ form-stays stays;
}

-- where one is taken
pub alias-takes : {old mid : Reader} (new : Reader) (found : Option Lexeme) → is_of_names (form_here old) ≡ true → Stays old mid → mid.contents.statements ≡ old.contents.statements → MatchOption found (Stays mid new) (λ text. TakesKind mid new kind.TranslatedText text) → new.contents.statements ≡ mid.contents.statements → MatchOption found (StatesListed old new) (λ text. TakesAlias old new text)
alias-takes new None is stays same still kept = listed-again (stays-listed stays same) (stays-listed still kept)
alias-takes new (Some text) is stays same taken kept =
    alias-behind text stays same (translated-taken (ap is_of_names (form-stays stays) ∙ is) taken kept)

-- it is stated
pub alias-stated : {old mid new : Reader} (symbol text : Lexeme) → symbol_here old ≡ Some symbol → TakesAlias old mid text → Stays mid new → new.contents.statements.items ≡ mid.contents.statements.items ++ Alias symbol text ∷ [] → StatesListed old new
alias-stated {old} {mid} {new} symbol text here taken stays same = record {
  declared = states (Alias symbol text) stays same ∙ sym (taken.declared ∙ ap (λ (s : Option Lexeme). all_stated mid (alias_of s text)) here);
  form = form-stays stays ∙ taken.form;
}

-- ---- numbers

numbers-code : (behind : Form) (is_first : Bool) (symbol : Option Lexeme) (number : Lexeme) → is_of_codes behind ≡ true → number_declares behind is_first symbol number ≡ code_of symbol number
numbers-code form.Tokens is_first symbol number is = refl
numbers-code form.Rules is_first symbol number is = refl
numbers-code (form.Level k) is_first symbol number is = refl
numbers-code _ is_first symbol number is = absurd (cc)

-- the number of a symbol
pub number-taken : {old new : Reader} {number : Lexeme} (symbol : Lexeme) → is_of_codes (form_here old) ≡ true → symbol_here old ≡ Some symbol → TakesKind old new kind.Number number → new.contents.statements ≡ old.contents.statements → all_stated old [] ≡ all_stated new (Code symbol number ∷ [])
number-taken {old} {new} {number} symbol is here taken same =
    takes-kind kind.Number taken same
    ∙ ap (all_stated new) (numbers-code (form_here old) (is_before_rules old.lexemes.now old.at) (symbol_here old) number is ∙ ap (λ (s : Option Lexeme). code_of s number) here)

pub code-stated : {old mid new : Reader} {number : Lexeme} (symbol : Lexeme) → is_of_codes (form_here old) ≡ true → symbol_here old ≡ Some symbol → TakesKind old mid kind.Number number → mid.contents.statements ≡ old.contents.statements → Stays mid new → new.contents.statements.items ≡ mid.contents.statements.items ++ Code symbol number ∷ [] → StatesListed old new
code-stated {old} {mid} {new} {number} symbol is here taken kept stays same = record {
  declared = states (Code symbol number) stays same ∙ sym (number-taken symbol is here taken kept);
  form = form-stays stays ∙ form-kind kind.Number taken;
}

-- how many conflicts are expected
expected-alone : (is_of_shifts : Bool) (symbol : Option Lexeme) (number : Lexeme) → number_declares (form_expected is_of_shifts) true symbol number ≡ number_declares (form_expected is_of_shifts) true None number
expected-alone true symbol number = refl
expected-alone false symbol number = refl

pub number-expected : {old now : Reader} {lexeme : Lexeme} (new : Reader) (is_of_shifts : Bool) → form_here old ≡ form_expected is_of_shifts → TakesKind old now kind.Number lexeme → now.contents.statements ≡ old.contents.statements → all_stated new [] ≡ all_stated now (number_declares (form_expected is_of_shifts) true None lexeme) → delimiters_read old ≡ 0 → StatesDeclared old new
number-expected {old} {now} {lexeme} new is_of_shifts is taken same says none =
    let first : is_before_rules old.lexemes.now old.at ≡ true = ap (λ (n : ℕ). nat_eq n 0) none in
    says
    ∙ sym (takes-kind kind.Number taken same
    ∙ ap (all_stated now)
    (ap (λ (f : Form). number_declares f (is_before_rules old.lexemes.now old.at) (symbol_here old) lexeme) is
    ∙ (ap (λ (b : Bool). number_declares (form_expected is_of_shifts) b (symbol_here old) lexeme) first
    ∙ expected-alone is_of_shifts (symbol_here old) lexeme)))

-- ---- directives

-- a word behind its mark
pub stripped : (word name mark : List ℕ) → mark ≡ codes "%" → bytes_eq (take (length mark) word) mark ≡ true → name ≡ drop (length mark) word → word ≡ 37 ∷ name
stripped word name mark is begins rest =
    let first : bytes_eq (take 1 word) (codes "%") ≡ true = subst (λ (m : List ℕ). bytes_eq (take (length m) word) m ≡ true) is begins in
    let behind : name ≡ drop 1 word = subst (λ (m : List ℕ). name ≡ drop (length m) word) is rest in
    sym (take-append-drop 1 word) ∙ (ap (λ (xs : List ℕ). xs ++ drop 1 word) ((bytes_eq-Decides (take 1 word) (codes "%")).0 first)
    ∙ ap (λ (xs : List ℕ). 37 ∷ xs) (sym behind))

-- what a directive declares, of which it is known what stands behind it
pub directive-taken : {old new : Reader} {lexeme : Lexeme} (f : Form) → counted f ≡ form_of new.dialect (text_at new.text.now lexeme.span) → TakesKind old new kind.Directive lexeme → new.contents.statements ≡ old.contents.statements → (all_stated old [] ≡ all_stated new (directive_declares (counted f))) × (form_here new ≡ counted f)
directive-taken {old} {new} {lexeme} f is taken same =
    let file = taken.passes.file in
    let own : form_of old.dialect (text_at old.text.now lexeme.span) ≡ counted f =
    sym (is ∙ rw (file.text, file.dialect) refl) in (
      takes-kind kind.Directive taken same ∙ ap (λ (f : Form). all_stated new (directive_declares f)) own,
      form-kind kind.Directive taken ∙ own,
    )

-- the same, of a form that is known
pub directive-form : {old new : Reader} {lexeme : Lexeme} (f known : Form) → f ≡ known → counted f ≡ form_of new.dialect (text_at new.text.now lexeme.span) → TakesKind old new kind.Directive lexeme → new.contents.statements ≡ old.contents.statements → (all_stated new (directive_declares (counted known)) ≡ all_stated old []) × (form_here new ≡ counted known)
directive-form {old} {new} {lexeme} f known e is taken same =
    let both = directive-taken f is taken same in
    (sym (both.0 ∙ ap (λ (f : Form). all_stated new (directive_declares (counted f))) e), both.1 ∙ ap counted e)

-- the same, where a form may be found
pub directive-some : {old new : Reader} {lexeme : Lexeme} (found : Option Form) (known : Form) → found ≡ Some known → IfSome found (λ f. counted f ≡ form_of new.dialect (text_at new.text.now lexeme.span)) → TakesKind old new kind.Directive lexeme → new.contents.statements ≡ old.contents.statements → (all_stated new (directive_declares (counted known)) ≡ all_stated old []) × (form_here new ≡ counted known)
directive-some {old} {new} {lexeme} found known e is taken same =
    directive-form known known refl
    (subst (λ (o : Option Form). IfSome o (λ f. counted f ≡ form_of new.dialect (text_at new.text.now lexeme.span))) e is) taken same

-- behind it what was stated is what it declares
pub tail-directive : {T E : Type 0} (old mid new : Reader) (r : Result T E) (owed : List Statement) → all_stated mid owed ≡ all_stated old [] → OnOk r (all_stated new [] ≡ all_stated mid owed) → OnOk r (StatesDeclared old new)
tail-directive old mid new (Ok value) owed declared more = more ∙ declared
tail-directive old mid new (Err error) owed declared more = tt

-- the same on a condition
pub tail-when : {T E : Type 0} (old mid new : Reader) (r : Result T E) (P Q : Type 0) → (Q → P) → StatesDeclared old mid → OnOk r (P → StatesDeclared mid new) → OnOk r (Q → StatesDeclared old new)
tail-when old mid new (Ok value) P Q f declared more = λ q. more (f q) ∙ declared
tail-when old mid new (Err error) P Q f declared more = tt

pub tail-silent : {T E : Type 0} (old mid new : Reader) (r : Result T E) (f : Form) (Q : Type 0) → all_stated old [] ≡ all_stated mid (directive_declares (counted f)) → OnOk r (directive_declares (counted f) ≡ []) → OnOk r (StatesDeclared mid new) → OnOk r (Q → StatesDeclared old new)
tail-silent old mid new (Ok value) f Q says none more = λ q. more ∙ sym (says ∙ ap (all_stated mid) none)
tail-silent old mid new (Err error) f Q says none more = tt

pub on-ok-always : {T E : Type 0} (r : Result T E) (P Q : Type 0) → OnOk r P → OnOk r (Q → P)
on-ok-always (Ok value) P Q p = λ q. p
on-ok-always (Err error) P Q p = tt

-- it is no delimiter
pub over-directive : {old new : Reader} {lexeme : Lexeme} → TakesKind old new kind.Directive lexeme → PassesNoDelimiter old new
over-directive taken = record { file = taken.passes.file; on = omega (arith, taken.passes.at); count = omega (arith, taken.count) }

-- no delimiter stands before a directive that is taken
pub count-directive : {old new : Reader} {lexeme : Lexeme} → TakesKind old new kind.Directive lexeme → delimiters_read old ≡ 0 → delimiters_read new ≡ 0
count-directive taken none = omega (arith, taken.count, none)

-- the directive of a header declares nothing
header-own : (dialect : Dialect) → directive_declares (form_of dialect (codes "%grmtools")) ≡ []
unfolding form_of
header-own Bison = refl
header-own Grmtools = refl

header-none : (dialect : Dialect) (word : List ℕ) → bytes_eq word (codes "%grmtools") ≡ true → directive_declares (form_of dialect word) ≡ []
header-none dialect word is =
    subst (λ (w : List ℕ). directive_declares (form_of dialect w) ≡ []) (sym ((bytes_eq-Decides word (codes "%grmtools")).0 is)) (header-own dialect)

pub header-taken : {old new : Reader} {lexeme : Lexeme} → bytes_eq (text_at old.text.now lexeme.span) (codes "%grmtools") ≡ true → slice_get old.lexemes.now old.at ≡ Some lexeme → SkipsKind old new kind.Directive → new.contents.statements ≡ old.contents.statements → StatesDeclared old new
header-taken {old} {new} {lexeme} word here skips same =
    let is : option_map (λ (lexeme : Lexeme). lexeme.kind) (Some lexeme) ≡ Some kind.Directive =
    sym (ap (option_map (λ (lexeme : Lexeme). lexeme.kind)) here) ∙ skips.here in
    let same_kind : lexeme.kind ≡ kind.Directive = cc in
    let taken : TakesKind old new kind.Directive lexeme = record { passes = skips.passes; here = here; is = same_kind; count = skips.count } in
    sym (takes-kind kind.Directive taken same ∙ ap (all_stated new) (header-none old.dialect (text_at old.text.now lexeme.span) word))

-- ---- what ends a call

-- a tag is taken
pub tag-takes : {old new : Reader} (found : Option Lexeme) → MatchOption found (Stays old new) (λ lexeme. TakesKind old new kind.Tag lexeme) → new.contents.statements ≡ old.contents.statements → StatesListed old new
tag-takes None stays same = stays-listed stays same
tag-takes (Some lexeme) taken same = record { declared = silent-taken kind.Tag refl taken same; form = form-kind kind.Tag taken }

-- a statement that does not count
pub tail-other : {T E : Type 0} {old mid new : Reader} (r : Result T E) (statement : Statement) → counted_of (statement ∷ []) ≡ [] → Stays mid new → OnOk r (new.contents.statements.items ≡ mid.contents.statements.items ++ statement ∷ []) → StatesListed old mid → OnOk r (StatesListed old new)
tail-other (Ok value) statement none stays same listed = listed-again listed (states-other statement none stays same)
tail-other (Err error) statement none stays same listed = tt

-- what a call reads behind what was read
pub tail-declared : {T E : Type 0} (old mid new : Reader) (r : Result T E) → StatesDeclared old mid → OnOk r (StatesDeclared mid new) → OnOk r (StatesDeclared old new)
tail-declared old mid new (Ok value) declared more = more ∙ declared
tail-declared old mid new (Err error) declared more = tt

-- what it states first
pub tail-stated : {T E : Type 0} (old mid new : Reader) (r : Result T E) (owed : List Statement) → all_stated mid [] ≡ all_stated old owed → OnOk r (StatesDeclared mid new) → OnOk r (all_stated new [] ≡ all_stated old owed)
tail-stated old mid new (Ok value) owed first more = more ∙ first
tail-stated old mid new (Err error) owed first more = tt

-- nothing was read
pub listed-none : (reader : Reader) → StatesListed reader reader
listed-none reader = record { declared = refl; form = refl }

pub over-none : (reader : Reader) → PassesNoDelimiter reader reader
over-none reader = record {
  file = record { text = refl; lexemes = refl; dialect = refl; bodies = refl; faults = omega arith };
  on = omega arith;
  count = refl;
}

pub over-symbol : {old new : Reader} {lexeme : Lexeme} → TakesSymbol old new lexeme → PassesNoDelimiter old new
over-symbol taken = record { file = taken.passes.file; on = omega (arith, taken.passes.at); count = taken.count }

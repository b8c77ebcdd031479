-- bodies declare nothing
use Rattle.std.proofs.Common.{◌≡◌, ℕ, ◌+◌, ◌-◌, ◌≤◌, arith, Bool, true, false, List, [], ◌++◌, Option, None, Some, length, refl, ap, sym, ◌∙◌, subst}
use Rattle.std.specs.Prelude.{◌||◌, codes, nat_eq, slice_get}
use Rattle.std.specs.Str.{bytes_eq}
use Rattle.std.proofs.lemmas.Bool.{ne_eqb}
use Rattle.std.proofs.lemmas.Slice.Eq.{bytes_eq-Decides}
use Rattle.lryacc.specs.declared.contents.BodyPart.{BodyPart}
use Rattle.lryacc.specs.declared.contents.Statement.{Statement}
use Rattle.lryacc.specs.declared.dialects.Dialect.{Dialect}
use Rattle.lryacc.specs.declared.dialects.Dialect.TheVariants.{Bison, Grmtools}
use Rattle.lryacc.specs.declared.directives.Form.{Form}
use Rattle.lryacc.specs.declared.directives.Form.TheVariants as form
use Rattle.lryacc.specs.declared.lexemes.Lexeme.{Lexeme}
use Rattle.lryacc.specs.declared.lexemes.LexemeKind.{LexemeKind}
use Rattle.lryacc.specs.declared.lexemes.LexemeKind.TheVariants as kind
use Rattle.lryacc.specs.Bodies.{IsBehindMark, IsBody, is_action, is_aside, is_in_bodies, is_mark, is_prec, is_symbol}
use Rattle.lryacc.specs.Bodies.IsBody.{begins, symbol, action, aside, directive as other_directive, prec as named}
use Rattle.lryacc.specs.Declarations.{declared_by, declared_over, directive_declares, form_before, form_behind, form_by, is_before_rules, lexeme_declares, number_declares, symbol_before, symbol_declares, text_declares, translated_declares}
use Rattle.lryacc.specs.Delimiters.{delimiter_at, delimiter_of, delimiters_before}
use Rattle.lryacc.specs.Directives.{form_of}
use Rattle.lryacc.specs.NamedSymbols.{text_at}
use Rattle.lryacc.proofs.BodiesRead.{body_counts}
use Rattle.lryacc.proofs.DeclarationsRead.{declared-next, form-next}
use Rattle.lryacc.proofs.DelimitersPassed.{count-next}

-- whether symbols, or what stands behind these, declare something behind a directive
abbrev pub is_of_symbols : Form → Bool
is_of_symbols form.Tokens = true
is_of_symbols form.Rules = true
is_of_symbols (form.Level kind) = true
is_of_symbols form.Starts = true
is_of_symbols _ = false

symbols-none : (behind : Form) (lexeme : Lexeme) → is_of_symbols behind ≡ false → symbol_declares behind lexeme ≡ []
symbols-none form.Rules lexeme is = cc
symbols-none (form.Level kind) lexeme is = cc
symbols-none form.Starts lexeme is = cc
symbols-none _ lexeme is = refl

texts-none : (behind : Form) (before : Option Lexeme) (text : Lexeme) → is_of_symbols behind ≡ false → (text_declares behind before text ≡ []) × (translated_declares behind before text ≡ [])
texts-none form.Tokens before text is = absurd (cc)
texts-none form.Rules before text is = absurd (cc)
texts-none (form.Level kind) before text is = absurd (cc)
texts-none form.Starts before text is = absurd (cc)
texts-none _ before text is = (refl, refl)

late-none : (behind : Form) (before : Option Lexeme) (number : Lexeme) → is_of_symbols behind ≡ false → number_declares behind false before number ≡ []
late-none form.Tokens before number is = cc
late-none form.Rules before number is = cc
late-none (form.Level kind) before number is = cc
late-none form.ShiftReduce before number is = refl
late-none form.ReduceReduce before number is = refl
late-none _ before number is = refl

-- a directive declares nothing, and neither do the symbols behind it
pub record IsQuiet (own : Form) : Type 0 where
  pub itself : directive_declares own ≡ []
  pub symbols : is_of_symbols own ≡ false

-- a lexeme among rules declares nothing
quiet-kind : (k : LexemeKind) (own behind : Form) (before : Option Lexeme) (lexeme : Lexeme) → is_of_symbols behind ≡ false → (k ≡ kind.Directive → IsQuiet own) → (lexeme_declares k own behind false before lexeme ≡ []) × (is_of_symbols (form_by k own behind) ≡ false)
quiet-kind kind.Directive own behind before lexeme is quiet = ((quiet refl).itself, (quiet refl).symbols)
quiet-kind kind.Number own behind before lexeme is quiet = (late-none behind before lexeme is, is)
quiet-kind kind.Name own behind before lexeme is quiet = (symbols-none behind lexeme is, is)
quiet-kind (kind.Character byte) own behind before lexeme is quiet = (symbols-none behind lexeme is, is)
quiet-kind kind.Text own behind before lexeme is quiet = ((texts-none behind before lexeme is).0, is)
quiet-kind kind.QuotedName own behind before lexeme is quiet = (symbols-none behind lexeme is, is)
quiet-kind kind.TranslatedText own behind before lexeme is quiet = ((texts-none behind before lexeme is).1, is)
quiet-kind kind.Tag own behind before lexeme is quiet = (refl, is)
quiet-kind _ own behind before lexeme is quiet = (refl, refl)

late : (n : ℕ) → 1 ≤ n → nat_eq n 0 ≡ false
late n some = ne_eqb n 0 (λ none. absurd (omega (arith, some, none)))

-- what lexemes declare from a place on
abbrev ahead : List ℕ → Dialect → List Lexeme → ℕ → List Statement
ahead text dialect lexemes at = declared_over text dialect lexemes at (length lexemes - at)

-- up to a place nothing is declared, and nothing is by symbols there
pub record IsQuietTo (text : List ℕ) (dialect : Dialect) (lexemes : List Lexeme) (from at : ℕ) : Type 0 where
  pub symbols : is_of_symbols (form_before text dialect lexemes at) ≡ false
  pub declared : declared_over text dialect lexemes at (length lexemes - at) ≡ declared_over text dialect lexemes from (length lexemes - from)

quiet-next : (text : List ℕ) (dialect : Dialect) (lexemes : List Lexeme) (from at : ℕ) (lexeme : Lexeme) → slice_get lexemes at ≡ Some lexeme → 1 ≤ delimiters_before lexemes at → (lexeme.kind ≡ kind.Directive → IsQuiet (form_of dialect (text_at text lexeme.span))) → IsQuietTo text dialect lexemes from at → IsQuietTo text dialect lexemes from (at + 1)
quiet-next text dialect lexemes from at lexeme here some quiet so_far =
    let own = form_of dialect (text_at text lexeme.span) in
    let behind = form_before text dialect lexemes at in
    let before = symbol_before lexemes at in
    let one = quiet-kind lexeme.kind own behind before lexeme so_far.symbols quiet in
    let not_first : is_before_rules lexemes at ≡ false = late (delimiters_before lexemes at) some in
    let none : declared_by text dialect behind (is_before_rules lexemes at) before (slice_get lexemes at) ≡ [] =
    ap (declared_by text dialect behind (is_before_rules lexemes at) before) here
    ∙ (ap (λ (b : Bool). lexeme_declares lexeme.kind own behind b before lexeme) not_first ∙ one.0) in record {
      symbols = ap is_of_symbols (form-next text dialect lexemes at ∙ ap (form_behind text dialect behind) here) ∙ one.1;
      declared =
          sym (declared-next text dialect lexemes at lexeme here ∙ ap (λ (xs : List Statement). xs ++ ahead text dialect lexemes (at + 1)) none)
          ∙ so_far.declared;
    }

-- directives of bodies are quiet
is-word : (a b : List ℕ) → bytes_eq a b ≡ true → a ≡ b
is-word a b same = (bytes_eq-Decides a b).0 same

quiet-word : (dialect : Dialect) (word known : List ℕ) → bytes_eq word known ≡ true → IsQuiet (form_of dialect known) → IsQuiet (form_of dialect word)
quiet-word dialect word known same quiet = subst (λ (w : List ℕ). IsQuiet (form_of dialect w)) (sym (is-word word known same)) quiet

quiet-known : (dialect : Dialect) → IsQuiet (form_of dialect (codes "%prec")) × IsQuiet (form_of dialect (codes "%empty")) × IsQuiet (form_of dialect (codes "%dprec")) × IsQuiet (form_of dialect (codes "%merge")) × IsQuiet (form_of dialect (codes "%expect")) × IsQuiet (form_of dialect (codes "%expect-rr")) × IsQuiet (form_of dialect (codes "%expect_rr"))
unfolding form_of
quiet-known Bison = (
  record { itself = refl; symbols = refl },
  record { itself = refl; symbols = refl },
  record { itself = refl; symbols = refl },
  record { itself = refl; symbols = refl },
  record { itself = refl; symbols = refl },
  record { itself = refl; symbols = refl },
  record { itself = refl; symbols = refl },
)
quiet-known Grmtools = (
  record { itself = refl; symbols = refl },
  record { itself = refl; symbols = refl },
  record { itself = refl; symbols = refl },
  record { itself = refl; symbols = refl },
  record { itself = refl; symbols = refl },
  record { itself = refl; symbols = refl },
  record { itself = refl; symbols = refl },
)

any-of : (P : Type 0) (a b c d e f g : Bool) → (a || (b || (c || (d || (e || (f || g)))))) ≡ true → (a ≡ true → P) → (b ≡ true → P) → (c ≡ true → P) → (d ≡ true → P) → (e ≡ true → P) → (f ≡ true → P) → (g ≡ true → P) → P
any-of P true b c d e f g is pa pb pc pd pe pf pg = pa refl
any-of P false true c d e f g is pa pb pc pd pe pf pg = pb refl
any-of P false false true d e f g is pa pb pc pd pe pf pg = pc refl
any-of P false false false true e f g is pa pb pc pd pe pf pg = pd refl
any-of P false false false false true f g is pa pb pc pd pe pf pg = pe refl
any-of P false false false false false true g is pa pb pc pd pe pf pg = pf refl
any-of P false false false false false false g is pa pb pc pd pe pf pg = pg is

quiet-in-bodies : (dialect : Dialect) (word : List ℕ) → is_in_bodies Bison word ≡ true → IsQuiet (form_of dialect word)
quiet-in-bodies dialect word is =
    let known = quiet-known dialect in
    any-of (IsQuiet (form_of dialect word)) (bytes_eq word (codes "%prec")) (bytes_eq word (codes "%empty")) (bytes_eq word (codes "%dprec")) (bytes_eq word (codes "%merge")) (bytes_eq word (codes "%expect")) (bytes_eq word (codes "%expect-rr")) (bytes_eq word (codes "%expect_rr")) is
    (λ e. quiet-word dialect word (codes "%prec") e known.0)
    (λ e. quiet-word dialect word (codes "%empty") e known.1)
    (λ e. quiet-word dialect word (codes "%dprec") e known.2)
    (λ e. quiet-word dialect word (codes "%merge") e known.3)
    (λ e. quiet-word dialect word (codes "%expect") e known.4)
    (λ e. quiet-word dialect word (codes "%expect-rr") e known.5)
    (λ e. quiet-word dialect word (codes "%expect_rr") e known.6)

-- directives of bodies of grmtools are such of Bison, too
fewer : (a b c : Bool) → (a || (b || false)) ≡ true → (a || (b || c)) ≡ true
fewer true b c is = refl
fewer false true c is = refl
fewer false false c is = absurd (cc)

pub stands-for_bison : (dialect : Dialect) (word : List ℕ) → is_in_bodies dialect word ≡ true → is_in_bodies Bison word ≡ true
stands-for_bison Bison word is = is
stands-for_bison Grmtools word is =
    fewer (bytes_eq word (codes "%prec")) (bytes_eq word (codes "%empty")) (bytes_eq word (codes "%dprec") || (bytes_eq word (codes "%merge") || (bytes_eq word (codes "%expect") || (bytes_eq word (codes "%expect-rr") || bytes_eq word (codes "%expect_rr"))))) is

quiet-prec : (dialect : Dialect) (text : List ℕ) (lexeme : Lexeme) → is_prec text lexeme ≡ true → IsQuiet (form_of dialect (text_at text lexeme.span))
quiet-prec dialect text lexeme is = quiet-word dialect (text_at text lexeme.span) (codes "%prec") is (quiet-known dialect).0

-- lexemes that are no directives
no-directive : {A : Type 0} (P : LexemeKind → Bool) (k : LexemeKind) → P kind.Directive ≡ false → P k ≡ true → k ≡ kind.Directive → A
no-directive P k not_one is e = let same : P k ≡ P kind.Directive = ap P e in absurd (cc)

-- a body is quiet
pub quiet-body : (text : List ℕ) (dialect : Dialect) (lexemes : List Lexeme) (from to : ℕ) (parts : List BodyPart) (n : Option Lexeme) → 1 ≤ delimiters_before lexemes from → is_of_symbols (form_before text dialect lexemes from) ≡ false → IsBody text lexemes from to parts n → IsQuietTo text dialect lexemes from to
quiet-body text dialect lexemes from _ _ _ some first begins = record { symbols = first; declared = refl }
quiet-body text dialect lexemes from _ _ _ some first (symbol {at} {parts} {precedence} lexeme body here is) =
    let there : 1 ≤ delimiters_before lexemes at = omega (arith, (body_counts text lexemes from at parts precedence body).1) in
    quiet-next text dialect lexemes from at lexeme here there (no-directive is_symbol lexeme.kind refl is)
    (quiet-body text dialect lexemes from at parts precedence some first body)
quiet-body text dialect lexemes from _ _ _ some first (action {at} {parts} {precedence} lexeme name body here is) =
    let there : 1 ≤ delimiters_before lexemes at = omega (arith, (body_counts text lexemes from at parts precedence body).1) in
    quiet-next text dialect lexemes from at lexeme here there (no-directive is_action lexeme.kind refl is)
    (quiet-body text dialect lexemes from at parts precedence some first body)
quiet-body text dialect lexemes from _ _ _ some first (aside {at} {parts} {precedence} lexeme body here is) =
    let there : 1 ≤ delimiters_before lexemes at = omega (arith, (body_counts text lexemes from at parts precedence body).1) in
    quiet-next text dialect lexemes from at lexeme here there (no-directive is_aside lexeme.kind refl is)
    (quiet-body text dialect lexemes from at parts precedence some first body)
quiet-body text dialect lexemes from _ _ _ some first (other_directive {at} {parts} {precedence} lexeme body here is stands other) =
    let there : 1 ≤ delimiters_before lexemes at = omega (arith, (body_counts text lexemes from at parts precedence body).1) in
    quiet-next text dialect lexemes from at lexeme here there (λ _. quiet-in-bodies dialect (text_at text lexeme.span) stands)
    (quiet-body text dialect lexemes from at parts precedence some first body)
quiet-body text dialect lexemes from _ _ _ some first (named {at} {parts} found lexeme body here is is_one there is_too) =
    let before : 1 ≤ delimiters_before lexemes at = omega (arith, (body_counts text lexemes from at parts None body).1) in
    let none : delimiter_at (slice_get lexemes at) ≡ 0 = ap delimiter_at here ∙ ap delimiter_of is in
    let behind : 1 ≤ delimiters_before lexemes (at + 1) = omega (arith, before, none, count-next lexemes at) in
    quiet-next text dialect lexemes from (at + 1) lexeme there behind (no-directive is_symbol lexeme.kind refl is_too)
    (quiet-next text dialect lexemes from at found here before (λ _. quiet-prec dialect text found is_one)
    (quiet-body text dialect lexemes from at parts None some first body))

-- behind a mark it begins
mark-form : (k : LexemeKind) (own behind : Form) → is_mark k ≡ true → is_of_symbols (form_by k own behind) ≡ false
mark-form kind.Colon own behind is = refl
mark-form kind.Bar own behind is = refl
mark-form _ own behind is = absurd (cc)

mark-counts : (k : LexemeKind) → is_mark k ≡ true → delimiter_of k ≡ 1
mark-counts kind.Colon is = refl
mark-counts kind.Bar is = refl
mark-counts _ is = absurd (cc)

pub quiet-behind : {mark : Lexeme} (text : List ℕ) (dialect : Dialect) (lexemes : List Lexeme) (from to : ℕ) (parts : List BodyPart) (n : Option Lexeme) → IsBehindMark lexemes from mark → IsBody text lexemes from to parts n → declared_over text dialect lexemes to (length lexemes - to) ≡ declared_over text dialect lexemes from (length lexemes - from)
quiet-behind {mark} text dialect lexemes from to parts n behind body =
    let before = behind.before in
    let one : delimiter_at (slice_get lexemes before) ≡ 1 = ap delimiter_at behind.here ∙ mark-counts mark.kind behind.is in
    let some : 1 ≤ delimiters_before lexemes (before + 1) = omega (arith, one, count-next lexemes before) in
    let first : is_of_symbols (form_before text dialect lexemes (before + 1)) ≡ false =
    ap is_of_symbols (form-next text dialect lexemes before ∙ ap (form_behind text dialect (form_before text dialect lexemes before)) behind.here)
    ∙ mark-form mark.kind (form_of dialect (text_at text mark.span)) (form_before text dialect lexemes before) behind.is in
    let some_there : 1 ≤ delimiters_before lexemes from = rw behind.next some in
    let first_there : is_of_symbols (form_before text dialect lexemes from) ≡ false = rw behind.next first in
    (quiet-body text dialect lexemes from to parts n some_there first_there body).declared

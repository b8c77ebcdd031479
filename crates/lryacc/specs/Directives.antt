-- what directives declare of the names, conflicts, precedences and start symbols of a file
use Rattle.std.specs.Prelude.{ℕ, if◌then◌else◌, true, false, List, [], ◌∷◌, ◌++◌, codes}
use Rattle.std.specs.Str.{bytes_eq}
use Rattle.lryacc.specs.declared.contents.LevelKind.TheVariants as line
use Rattle.lryacc.specs.declared.dialects.Dialect.{Dialect}
use Rattle.lryacc.specs.declared.dialects.Dialect.TheVariants.{Bison, Grmtools}
use Rattle.lryacc.specs.declared.directives.Form.{Form}
use Rattle.lryacc.specs.declared.directives.Form.TheVariants as form

-- the words of both dialects that declare something of these, and what that is
abbrev pub shared_words : List (List ℕ × Form)
shared_words =
    (codes "%left", form.Level line.Left)
    ∷ (codes "%right", form.Level line.Right)
    ∷ (codes "%nonassoc", form.Level line.Nonassoc)
    ∷ (codes "%start", form.Starts)
    ∷ (codes "%expect", form.ShiftReduce)
    ∷ (codes "%expect-rr", form.ReduceReduce)
    ∷ []

-- those that Bison alone has
abbrev pub bison_words : List (List ℕ × Form)
bison_words =
    (codes "%token", form.Tokens)
    ∷ (codes "%term", form.Tokens)
    ∷ (codes "%nterm", form.Rules)
    ∷ (codes "%binary", form.Level line.Nonassoc)
    ∷ (codes "%precedence", form.Level line.Precedence)
    ∷ (codes "%expect_rr", form.ReduceReduce)
    ∷ (codes "%default-prec", form.DefaultPrecedence true)
    ∷ (codes "%default_prec", form.DefaultPrecedence true)
    ∷ (codes "%no-default-prec", form.DefaultPrecedence false)
    ∷ (codes "%no_default_prec", form.DefaultPrecedence false)
    ∷ (codes "%glr-parser", form.Glr)
    ∷ []

-- those of a dialect
abbrev pub words_of : Dialect → List (List ℕ × Form)
words_of Bison = shared_words ++ bison_words
words_of Grmtools = shared_words

-- what a word declares that is one of a list; nothing if it is none
abbrev pub form_in : List (List ℕ × Form) → List ℕ → Form
form_in [] word = form.Nothing
form_in (listed ∷ words) word =
    if bytes_eq word listed.0 then listed.1 else form_in words word

-- what a directive of a dialect declares by its word; nothing if that declares none of these
unfoldable pub form_of : Dialect → List ℕ → Form
form_of dialect word = form_in (words_of dialect) word

-- of what can stand behind a directive, that which is declared here; all else counts for nothing
abbrev pub counted : Form → Form
counted form.Tokens = form.Tokens
counted form.Rules = form.Rules
counted (form.Level kind) = form.Level kind
counted form.Starts = form.Starts
counted (form.DefaultPrecedence is_on) = form.DefaultPrecedence is_on
counted form.ShiftReduce = form.ShiftReduce
counted form.ReduceReduce = form.ReduceReduce
counted form.Glr = form.Glr
counted _ = form.Nothing

-- it is so of each one in a list
abbrev pub Each : {A : Type 0} → (A → Type 0) → List A → Type 0
Each Is [] = Unit {0}
Each Is (one ∷ others) = Is one × Each Is others

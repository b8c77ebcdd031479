use Rattle.std.proofs.Common.{◌≡◌, ℕ, List, [], IfOk, Ok, Err, Result, Bool, true, ◌==◌, ap, arith, subst, sym, vec_len}
use Rattle.lryacc.specs.declared.contents.Alternative.{Alternative}
use Rattle.lryacc.specs.declared.contents.Statement.{Statement}
use Rattle.lryacc.specs.declared.dialects.Dialect.{Dialect}
use Rattle.lryacc.specs.declared.file.FileRead.{FileRead}
use Rattle.lryacc.specs.declared.file.FileRead.TheVariants.{Grammar, Faults}
use Rattle.lryacc.specs.AllLexemes.{AreAllLexemesOf}
use Rattle.lryacc.specs.FilesRead.{AreOfText, ComesTo, HasNoGrammar, IsReadFromAll}
use Rattle.lryacc.specs.Headers.{IsReadAs}
use Rattle.lryacc.proofs.file.read_file.Goals as goal

-- what holds of all that comes of a call holds in other words
each-ok : {A E : Type 0} (P Q : A → Type 0) (r : Result A E) → ((a : A) → P a → Q a) → IfOk r P → IfOk r Q
each-ok P Q (Ok a) f p = f a p
each-ok P Q (Err e) f p = p

of-text : (text : List ℕ) (dialect : Dialect) (statements : List Statement) (bodies : List Alternative) (read : FileRead) → IsReadFromAll text dialect statements bodies → AreOfText text dialect statements bodies read
of-text text dialect statements bodies (Grammar file expected parser warnings) h = h
of-text text dialect statements bodies (Faults faults) h = tt

none-told : (n : ℕ) (is : Bool) → is ≡ (n == 0) → is ≡ true → n ≡ 0
none-told n is same empty = grind arith

-- faults come to nothing
faults-alone : (text : List ℕ) (taken dialect : Dialect) (read : FileRead) → IsReadAs text taken dialect → HasNoGrammar read → ComesTo text taken read
faults-alone text taken dialect (Grammar file expected parser warnings) is none = absurd none
faults-alone text taken dialect (Faults faults) is none = record { dialect = dialect; is = is; statements = []; bodies = []; are_read = tt; has = tt }

pub returns-then-not-is_empty-clause-bodies : goal.returns-then-not-is_empty-clause-bodies
returns-then-not-is_empty-clause-bodies c =
    each-ok _ _ c.faults_read.result
    (λ read none. faults-alone c.args.text.now c.args.dialect c.dialect_of-dialect.result read c.dialect_of-dialect.ensures none)
    c.faults_read.ensures.none

pub returns-clause-bodies : goal.returns-clause-bodies
returns-clause-bodies c =
    let contents = c.file.new.self.contents in
    let begun = c.new-reader.ensures in
    let none = none-told (vec_len contents.faults) c.is_empty.result c.is_empty.ensures c.if-not-is_empty.false in
    let scanned : vec_len c.in_ok-lexemes.field-0.faults ≡ 0 = omega (arith, none, c.file.ensures.faults, ap vec_len begun.faults) in
    each-ok _ _ c.contents_read.result
    (λ read has. record {
      dialect = c.dialect_of-dialect.result;
      is = c.dialect_of-dialect.ensures;
      statements = contents.statements.items;
      bodies = contents.alternatives.items;
      are_read = of-text c.args.text.now c.dialect_of-dialect.result contents.statements.items contents.alternatives.items read record {
        lexemes = c.as_slice-lexemes.result.now;
        of_text =
            subst (AreAllLexemesOf c.args.text.now c.dialect_of-dialect.result) (sym c.as_slice-lexemes.ensures.value)
            (c.in_ok-lexemes.ensures.all scanned);
        declared = rw (← begun.text, ← begun.lexemes, ← begun.dialect) (c.in_ok-file.ensures.declared none);
        all = rw (← begun.text, ← begun.lexemes, ← begun.dialect) (c.in_ok-file.ensures.read none);
      };
      has = has;
    })
    c.contents_read.ensures.bodies

-- all that is declared is stated
use Rattle.std.proofs.Common.{◌≡◌, ℕ, zero, suc, ◌+◌, ◌-◌, ◌≤◌, arith, Bool, true, false, List, [], ◌++◌, append_assoc, append-nil, Option, None, Some, length, refl, ap, sym, ◌∙◌, subst}
use Rattle.std.specs.Prelude.{IfSome, MatchBool, slice_get}
use Rattle.std.proofs.lemmas.List.{append_cancel_right}
use Rattle.std.proofs.lemmas.Option.{slice_get_past}
use Rattle.lryacc.specs.declared.contents.BodyPart.{BodyPart}
use Rattle.lryacc.specs.declared.contents.Statement.{Statement}
use Rattle.lryacc.specs.declared.dialects.Dialect.{Dialect}
use Rattle.lryacc.specs.declared.lexemes.Lexeme.{Lexeme}
use Rattle.lryacc.specs.declared.lexemes.LexemeKind.TheVariants as kind
use Rattle.lryacc.specs.declared.reader.Reader.{Reader}
use Rattle.lryacc.specs.AllBodies.{ReachesRules, ReadsBodies, TakesSeparator}
use Rattle.lryacc.specs.AllLexemes.{is_separator}
use Rattle.lryacc.specs.Bodies.{IsBehindMark, IsBody, PassesNoDelimiter, Stays, delimiters_read}
use Rattle.lryacc.specs.Declarations.{AreAllDeclared, declared_at, declared_by, declared_over, form_before, is_before_rules, symbol_before}
use Rattle.lryacc.specs.DeclarationsRead.{StatesAll, StatesDeclared, all_stated, declared_from, stated}
use Rattle.lryacc.specs.Delimiters.{delimiters_before}
use Rattle.lryacc.proofs.AllBodiesRead.{behind_first}
use Rattle.lryacc.proofs.BodiesDeclare.{quiet-behind}
use Rattle.lryacc.proofs.BodiesRead.{over_again}
use Rattle.lryacc.proofs.DeclarationsRead.{silent-taken, stated-same, stays-stated}
use Rattle.lryacc.proofs.DelimitersPassed.{count-none}

-- some lexemes, and then others
over-more : (text : List ℕ) (dialect : Dialect) (lexemes : List Lexeme) (from n m : ℕ) → declared_over text dialect lexemes from (n + m) ≡ declared_over text dialect lexemes from n ++ declared_over text dialect lexemes (from + n) m
unfolding declared_over
over-more text dialect lexemes from zero m =
    let e : zero + m ≡ m = omega arith in
    let f : from + zero ≡ from = omega arith in
    rw (e, f) refl
over-more text dialect lexemes from (suc n) m =
    let e : suc n + m ≡ suc (n + m) = omega arith in
    let f : from + suc n ≡ from + 1 + n = omega arith in
    let first = declared_at text dialect lexemes from in
    rw (e, f)
    (ap (λ (xs : List Statement). first ++ xs) (over-more text dialect lexemes (from + 1) n m)
    ∙ sym (append_assoc first (declared_over text dialect lexemes (from + 1) n) (declared_over text dialect lexemes (from + 1 + n) m)))

-- none behind the last one
over-past : (text : List ℕ) (dialect : Dialect) (lexemes : List Lexeme) (from n : ℕ) → length lexemes ≤ from → declared_over text dialect lexemes from n ≡ []
unfolding declared_over
over-past text dialect lexemes from zero past = refl
over-past text dialect lexemes from (suc n) past =
    let none : declared_at text dialect lexemes from ≡ [] =
    ap (declared_by text dialect (form_before text dialect lexemes from) (is_before_rules lexemes from) (symbol_before lexemes from)) (slice_get_past lexemes from past) in
    ap (λ (xs : List Statement). xs ++ declared_over text dialect lexemes (from + 1) n) none
    ∙ over-past text dialect lexemes (from + 1) n (omega (arith, past))

-- all of them are those before a place and those from it on
over-all : (text : List ℕ) (dialect : Dialect) (lexemes : List Lexeme) (to : ℕ) → declared_over text dialect lexemes 0 (length lexemes - 0) ≡ declared_over text dialect lexemes 0 to ++ declared_over text dialect lexemes to (length lexemes - to)
over-all text dialect lexemes to =
    let n = length lexemes in
    let e : n - 0 ≡ n = omega arith in
    let f : to + (n - to) ≡ n + (to - n) = omega arith in
    let g : 0 + to ≡ to = omega arith in
    let h : 0 + n ≡ n = omega arith in
    let past = over-past text dialect lexemes (0 + n) (to - n) (omega (arith, h)) in
    ap (declared_over text dialect lexemes 0) e
    ∙ (sym (append-nil (declared_over text dialect lexemes 0 n))
    ∙ (ap (λ (xs : List Statement). declared_over text dialect lexemes 0 n ++ xs) (sym past)
    ∙ (sym (over-more text dialect lexemes 0 n (to - n))
    ∙ (ap (declared_over text dialect lexemes 0) (sym f)
    ∙ (over-more text dialect lexemes 0 to (n - to)
    ∙ ap (λ (k : ℕ). declared_over text dialect lexemes 0 to ++ declared_over text dialect lexemes k (n - to)) g)))))

-- the lexemes are the same ones
from-same : (old new : Reader) (at : ℕ) → new.text.now ≡ old.text.now → new.lexemes.now ≡ old.lexemes.now → new.dialect ≡ old.dialect → declared_from new at ≡ declared_from old at
from-same old new at text lexemes dialect = rw (text, lexemes, dialect) refl

-- the end of the rules is reached
pub states-all : (least : ℕ) (old new : Reader) → ReadsBodies least old new → IfSome (slice_get new.lexemes.now new.at) (λ lexeme. is_separator lexeme.kind ≡ true) → StatesDeclared old new → StatesAll old new
unfolding all_stated
states-all least old new bodies ends declared = record {
  to = new.at;
  on = omega (arith, bodies.on);
  ends = subst (λ (xs : List Lexeme). IfSome (slice_get xs new.at) (λ lexeme. is_separator lexeme.kind ≡ true)) bodies.lexemes ends;
  declared =
      ap (λ (xs : List Statement). stated new ++ xs) (sym (from-same old new new.at bodies.text bodies.lexemes bodies.dialect))
      ∙ declared;
}

nothing-at : (found : Option Lexeme) (P : Lexeme → Type 0) → found ≡ None → IfSome found P
nothing-at None P is = tt
nothing-at (Some lexeme) P is = cc

pub states-end : (least : ℕ) (old new : Reader) → ReadsBodies least old new → length old.lexemes.now ≤ least → StatesDeclared old new → StatesAll old new
states-end least old new bodies behind declared =
    let far : length old.lexemes.now ≤ new.at = omega (arith, bodies.on) in
    let none : slice_get new.lexemes.now new.at ≡ None = rw bodies.lexemes (slice_get_past old.lexemes.now new.at far) in
    states-all least old new bodies
    (nothing-at (slice_get new.lexemes.now new.at) (λ lexeme. is_separator lexeme.kind ≡ true) none) declared

-- the reader stays before that, and states nothing behind it
pub states-still : (old now far new : Reader) → Stays old now → now.contents.statements ≡ old.contents.statements → StatesAll now far → new.contents.statements ≡ far.contents.statements → StatesAll old new
states-still old now far new stays same all last =
    let file = stays.file in record {
      to = all.to;
      on = omega (arith, stays.at, all.on);
      ends = subst (λ (xs : List Lexeme). IfSome (slice_get xs all.to) (λ lexeme. is_separator lexeme.kind ≡ true)) file.lexemes all.ends;
      declared =
          ap (λ (xs : List Statement). xs ++ declared_from old all.to) (stated-same far new last)
          ∙ (ap (λ (xs : List Statement). stated far ++ xs) (sym (from-same old now all.to file.text file.lexemes file.dialect))
          ∙ (all.declared ∙ stays-stated [] stays same));
    }

-- no delimiter stands between declarations
pub between-count : (old new : Reader) (is : Bool) → MatchBool is (PassesNoDelimiter old new) (Stays old new) → delimiters_read new ≡ delimiters_read old
between-count old new true over = over.count
between-count old new false stays = stays.count

-- the first `%%` is taken
pub separator-taken : (old new : Reader) (is : Bool) → is ≡ true → MatchBool is (TakesSeparator old new) (Stays old new) → new.contents.statements ≡ old.contents.statements → StatesDeclared old new
separator-taken old new true is taken same = silent-taken kind.Separator refl taken.taken same
separator-taken old new false is stays same = stays-stated [] stays same

-- nothing is declared in a body, and nothing was stated
pub body-declared : {mark : Lexeme} (old new : Reader) (to : ℕ) (parts : List BodyPart) (n : Option Lexeme) → new.text.now ≡ old.text.now → new.lexemes.now ≡ old.lexemes.now → new.dialect ≡ old.dialect → new.at ≡ to → stated new ≡ stated old → IsBehindMark old.lexemes.now old.at mark → IsBody old.text.now old.lexemes.now old.at to parts n → StatesDeclared old new
unfolding all_stated
body-declared {mark} old new to parts n text lexemes dialect at kept behind body =
    let quiet = quiet-behind old.text.now old.dialect old.lexemes.now old.at to parts n behind body in
    ap (λ (xs : List Statement). xs ++ declared_from new new.at) kept
    ∙ ap (λ (xs : List Statement). stated old ++ xs)
    (from-same old new new.at text lexemes dialect ∙ (ap (declared_from old) at ∙ quiet))

-- nothing was stated of a file
begins-all : (old : Reader) → old.at ≡ 0 → old.contents.statements.items ≡ [] → all_stated old [] ≡ declared_over old.text.now old.dialect old.lexemes.now 0 (length old.lexemes.now - 0)
unfolding all_stated
begins-all old begins none = rw (begins, none) refl

-- all of it is stated in the end
pub file-declared : (old head begun far new : Reader) → PassesNoDelimiter old head → StatesDeclared old head → ReachesRules head begun → (delimiters_read head ≡ 0 → StatesDeclared head begun) → StatesAll begun far → new.contents.statements ≡ far.contents.statements → old.at ≡ 0 → old.contents.statements.items ≡ [] → AreAllDeclared old.text.now old.lexemes.now old.dialect new.contents.statements.items
file-declared old head begun far new over first reaches second all last begins none =
    let from_old : ReachesRules old begun = record {
      before = reaches.before;
      over = over_again over reaches.over;
      taken = reaches.taken;
    } in
    let taken = from_old.taken.taken in
    let text : begun.text.now ≡ old.text.now = taken.passes.file.text ∙ from_old.over.file.text in
    let lexemes : begun.lexemes.now ≡ old.lexemes.now = taken.passes.file.lexemes ∙ from_old.over.file.lexemes in
    let dialect : begun.dialect ≡ old.dialect = taken.passes.file.dialect ∙ from_old.over.file.dialect in
    let zero_there : delimiters_read head ≡ 0 =
    over.count ∙ (ap (λ (n : ℕ). delimiters_before old.lexemes.now n) begins ∙ count-none old.lexemes.now) in
    let so_far = all.declared ∙ (second zero_there ∙ (first ∙ begins-all old begins none)) in
    let behind = declared_over old.text.now old.dialect old.lexemes.now all.to (length old.lexemes.now - all.to) in
    let ahead : stated far ++ behind ≡ declared_over old.text.now old.dialect old.lexemes.now 0 all.to ++ behind =
    ap (λ (xs : List Statement). stated far ++ xs) (sym (from-same old begun all.to text lexemes dialect))
    ∙ (so_far ∙ over-all old.text.now old.dialect old.lexemes.now all.to) in record {
      begun = begun.at;
      behind = behind_first old begun from_old begins;
      to = all.to;
      on = all.on;
      ends = subst (λ (xs : List Lexeme). IfSome (slice_get xs all.to) (λ lexeme. is_separator lexeme.kind ≡ true)) lexemes all.ends;
      are =
          stated-same far new last
          ∙ append_cancel_right (stated far) (declared_over old.text.now old.dialect old.lexemes.now 0 all.to) behind ahead;
    }

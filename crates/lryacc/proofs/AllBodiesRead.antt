-- all bodies are read
use Rattle.std.proofs.Common.{◌≡◌, ℕ, zero, suc, ◌+◌, ◌-◌, ◌<◌, ◌≤◌, arith, Bool, true, false, List, [], ◌∷◌, ◌++◌, length, Option, None, Some, Result, Ok, Err, OnOk, refl, ap, sym, ◌∙◌, subst}
use Rattle.std.specs.Prelude.{IfErr, IfSome, MatchBool, slice_get}
use Rattle.std.proofs.lemmas.Option.{slice_get_past, slice_get_within}
use Rattle.lryacc.specs.declared.contents.Alternative.{Alternative}
use Rattle.lryacc.specs.declared.dialects.Dialect.{Dialect}
use Rattle.lryacc.specs.declared.faults.Halt.{Halt}
use Rattle.lryacc.specs.declared.faults.Halt.TheVariants as halt
use Rattle.lryacc.specs.declared.lexemes.Lexeme.{Lexeme}
use Rattle.lryacc.specs.declared.lexemes.LexemeKind.{LexemeKind}
use Rattle.lryacc.specs.declared.lexemes.LexemeKind.TheVariants as kind
use Rattle.lryacc.specs.declared.reader.Reader.{Reader}
use Rattle.lryacc.specs.AllBodies.{AreAllBodies, AreBodiesUpTo, AreReadUpTo, IsBehindFirst, ReachesRules, ReadsAll, ReadsAlternatives, ReadsBodies, Settles, TakesSeparator}
use Rattle.lryacc.specs.AllBodies.AreBodiesUpTo.{begins as first_rule, mark as behind_mark, other as behind_other}
use Rattle.lryacc.specs.AllLexemes.{is_separator}
use Rattle.lryacc.specs.Bodies.{AddsBody, BeginsBody, IsReadFrom, IsSameFile, IsTold, IsWhole, PassesNoDelimiter, SkipsKind, Stays, TakesBar, TakesKind, is_mark}
use Rattle.lryacc.specs.Delimiters.{delimiter_at, delimiter_of, delimiters_before}
use Rattle.lryacc.proofs.BodiesRead.{IsSameFile-again, over_again, over_skips}
use Rattle.lryacc.proofs.DelimitersPassed.{count-more, count-next, count-none, none_between}

-- no mark and no `%%` stands where no delimiter does
no_mark_kind : (k : LexemeKind) → delimiter_of k ≡ 0 → (is_mark k ≡ false) × (is_separator k ≡ false)
no_mark_kind kind.RuleName none = absurd (omega arith)
no_mark_kind kind.Colon none = absurd (omega arith)
no_mark_kind kind.Bar none = absurd (omega arith)
no_mark_kind kind.Separator none = absurd (omega arith)
no_mark_kind _ none = (refl, refl)

no_mark_at : (found : Option Lexeme) → delimiter_at found ≡ 0 → IfSome found (λ lexeme. (is_mark lexeme.kind ≡ false) × (is_separator lexeme.kind ≡ false))
no_mark_at None none = tt
no_mark_at (Some lexeme) none = no_mark_kind lexeme.kind none

no_separator_at : (found : Option Lexeme) → delimiter_at found ≡ 0 → IfSome found (λ lexeme. is_separator lexeme.kind ≡ false)
no_separator_at None none = tt
no_separator_at (Some lexeme) none = (no_mark_kind lexeme.kind none).1

-- over lexemes that are no delimiters no body is added
over_more : (text : List ℕ) (lexemes : List Lexeme) (dialect : Dialect) (bodies : List Alternative) (from more : ℕ) → delimiters_before lexemes (from + more) ≡ delimiters_before lexemes from → AreBodiesUpTo text lexemes dialect from bodies → AreBodiesUpTo text lexemes dialect (from + more) bodies
over_more text lexemes dialect bodies from zero same read = let e : from + 0 ≡ from = omega arith in rw e read
over_more text lexemes dialect bodies from (suc more) same read =
    let e : from + suc more ≡ from + more + 1 = omega arith in
    let total : delimiters_before lexemes (from + more + 1) ≡ delimiters_before lexemes from =
    subst (λ (n : ℕ). delimiters_before lexemes n ≡ delimiters_before lexemes from) e same in
    let inner : delimiters_before lexemes (from + more) ≡ delimiters_before lexemes from =
    omega (arith, total, count-more lexemes from more, count-next lexemes (from + more)) in
    let none : delimiter_at (slice_get lexemes (from + more)) ≡ 0 =
    omega (arith, total, inner, count-next lexemes (from + more)) in
    rw e (behind_other (over_more text lexemes dialect bodies from more inner read) (no_mark_at (slice_get lexemes (from + more)) none))

pub over_none : (text : List ℕ) (lexemes : List Lexeme) (dialect : Dialect) (bodies : List Alternative) (from to : ℕ) → from ≤ to → delimiters_before lexemes to ≡ delimiters_before lexemes from → AreBodiesUpTo text lexemes dialect from bodies → AreBodiesUpTo text lexemes dialect to bodies
over_none text lexemes dialect bodies from to on same read =
    let e : from + (to - from) ≡ to = omega arith in
    let counts : delimiters_before lexemes (from + (to - from)) ≡ delimiters_before lexemes from =
    subst (λ (n : ℕ). delimiters_before lexemes n ≡ delimiters_before lexemes from) (sym e) same in
    subst (λ (n : ℕ). AreBodiesUpTo text lexemes dialect n bodies) e
    (over_more text lexemes dialect bodies from (to - from) counts read)

-- the bodies that a reader has are the same ones
moved : (old new : Reader) (at at' : ℕ) → IsSameFile old new → at' ≡ at → AreReadUpTo old at → AreReadUpTo new at'
moved old new at at' file same read = rw (file.text, file.lexemes, file.dialect, file.bodies, same) read

-- it goes over no delimiter
pub reads_over : (old new : Reader) → PassesNoDelimiter old new → AreReadUpTo old old.at → AreReadUpTo new new.at
reads_over old new over read =
    let same : delimiters_before old.lexemes.now new.at ≡ delimiters_before old.lexemes.now old.at =
    subst (λ (xs : List Lexeme). delimiters_before xs new.at ≡ delimiters_before old.lexemes.now old.at) over.file.lexemes over.count in
    moved old new new.at new.at over.file refl
    (over_none old.text.now old.lexemes.now old.dialect old.contents.alternatives.items old.at new.at over.on same read)

-- it takes the name of a rule
pub reads_name : (old new : Reader) (name : Lexeme) → TakesKind old new kind.RuleName name → AreReadUpTo old old.at → AreReadUpTo new new.at
reads_name old new name taken read =
    let other : IfSome (Some name) (λ lexeme. (is_mark lexeme.kind ≡ false) × (is_separator lexeme.kind ≡ false)) =
    (ap is_mark taken.is, ap is_separator taken.is) in
    moved old new (old.at + 1) new.at taken.passes.file taken.passes.at
    (behind_other read (rw taken.here other))

-- it takes a mark, and stands right behind it
pub reads_mark : (old new : Reader) (mark : Lexeme) (k : LexemeKind) → TakesKind old new k mark → AreReadUpTo old old.at → AreReadUpTo new (new.at - 1)
reads_mark old new mark k taken read =
    let e : new.at - 1 ≡ old.at = omega (arith, taken.passes.at) in
    moved old new old.at (new.at - 1) taken.passes.file e read

-- the bodies of a rule are read
pub reads_rule : (old named now colon new : Reader) (name mark : Lexeme) → TakesKind old named kind.RuleName name → PassesNoDelimiter named now → TakesKind now colon kind.Colon mark → ReadsAlternatives colon new → ReadsBodies 1 old new
reads_rule old named now colon new name mark taken over taken_colon alternatives = record {
  text = alternatives.text ∙ (taken_colon.passes.file.text ∙ (over.file.text ∙ taken.passes.file.text));
  lexemes = alternatives.lexemes ∙ (taken_colon.passes.file.lexemes ∙ (over.file.lexemes ∙ taken.passes.file.lexemes));
  dialect = alternatives.dialect ∙ (taken_colon.passes.file.dialect ∙ (over.file.dialect ∙ taken.passes.file.dialect));
  on = omega (arith, taken.passes.at, over.on, taken_colon.passes.at, alternatives.on);
  read = λ read.
      alternatives.read
      (reads_mark now colon mark kind.Colon taken_colon (reads_over named now over (reads_name old named name taken read)));
}

-- the reader stays before them
pub alternatives_still : (old now new : Reader) → Stays old now → ReadsAlternatives now new → ReadsAlternatives old new
alternatives_still old now new stays alternatives = record {
  text = alternatives.text ∙ stays.file.text;
  lexemes = alternatives.lexemes ∙ stays.file.lexemes;
  dialect = alternatives.dialect ∙ stays.file.dialect;
  on = omega (arith, stays.at, alternatives.on);
  read = λ read. alternatives.read (moved old now (old.at - 1) (now.at - 1) stays.file (ap (λ (n : ℕ). n - 1) stays.at) read);
}

-- no delimiter stands behind them
pub bodies_over : (least : ℕ) (old now new : Reader) → ReadsBodies least old now → PassesNoDelimiter now new → ReadsBodies least old new
bodies_over least old now new bodies over = record {
  text = over.file.text ∙ bodies.text;
  lexemes = over.file.lexemes ∙ bodies.lexemes;
  dialect = over.file.dialect ∙ bodies.dialect;
  on = omega (arith, bodies.on, over.on);
  read = λ read. reads_over now new over (bodies.read read);
}

-- no bodies are read
pub bodies_none : (least : ℕ) (old new : Reader) → PassesNoDelimiter old new → least + old.at ≤ new.at → ReadsBodies least old new
bodies_none least old new over on = record {
  text = over.file.text;
  lexemes = over.file.lexemes;
  dialect = over.file.dialect;
  on = on;
  read = λ read. reads_over old new over read;
}

-- bodies are read, and then others
pub bodies_again : (least more : ℕ) (old now new : Reader) → ReadsBodies least old now → ReadsBodies more now new → ReadsBodies (least + more) old new
bodies_again least more old now new one other = record {
  text = other.text ∙ one.text;
  lexemes = other.lexemes ∙ one.lexemes;
  dialect = other.dialect ∙ one.dialect;
  on = omega (arith, one.on, other.on);
  read = λ read. other.read (one.read read);
}

-- all are read where nothing stands behind them, or a `%%`
pub bodies_all : (least : ℕ) (old new : Reader) → ReadsBodies least old new → IfSome (slice_get new.lexemes.now new.at) (λ lexeme. is_separator lexeme.kind ≡ true) → ReadsAll old new
bodies_all least old new bodies ends = record {
  text = bodies.text;
  lexemes = bodies.lexemes;
  dialect = bodies.dialect;
  read = λ read. record { to = new.at; read = bodies.read read; ends = ends };
}

-- nothing stands behind the last lexeme
nothing_at : (found : Option Lexeme) (P : Lexeme → Type 0) → found ≡ None → IfSome found P
nothing_at None P is = tt
nothing_at (Some lexeme) P is = cc

pub bodies_end : (least : ℕ) (old new : Reader) → ReadsBodies least old new → length old.lexemes.now ≤ least → ReadsAll old new
bodies_end least old new bodies behind =
    let far : length old.lexemes.now ≤ new.at = omega (arith, bodies.on) in
    let none : slice_get new.lexemes.now new.at ≡ None =
    rw bodies.lexemes (slice_get_past old.lexemes.now new.at far) in
    bodies_all least old new bodies
    (nothing_at (slice_get new.lexemes.now new.at) (λ lexeme. is_separator lexeme.kind ≡ true) none)

-- the reader stays before that, and adds none behind
pub all_still : (old now far new : Reader) → Stays old now → ReadsAll now far → IsSameFile far new → ReadsAll old new
all_still old now far new stays all file = record {
  text = file.text ∙ (all.text ∙ stays.file.text);
  lexemes = file.lexemes ∙ (all.lexemes ∙ stays.file.lexemes);
  dialect = file.dialect ∙ (all.dialect ∙ stays.file.dialect);
  read = λ read. rw (file.text, file.lexemes, file.dialect, file.bodies) (all.read (moved old now old.at now.at stays.file stays.at read));
}

-- a `|` is taken, which is a lexeme
pub bar_file : (old new : Reader) (bar : Lexeme) → TakesBar old new bar → IsSameFile old new
bar_file old new bar taken = IsSameFile-again taken.over.file taken.taken.passes.file

pub bar_on : (old new : Reader) (bar : Lexeme) → TakesBar old new bar → old.at < new.at
bar_on old new bar taken = omega (arith, taken.over.on, taken.taken.passes.at)

-- a reader behind a mark is inside the lexemes
pub begins_inside : {mark : Lexeme} (reader : Reader) (rule : Lexeme) → BeginsBody reader rule mark → reader.at ≤ length reader.lexemes.now
begins_inside {mark} reader rule begins =
    omega (arith, slice_get_within reader.lexemes.now begins.behind.before mark begins.behind.here, begins.behind.next)

-- a body is read behind a mark
pub reads_body : {mark : Lexeme} (old new : Reader) (rule : Lexeme) → BeginsBody old rule mark → AddsBody old new rule mark → AreReadUpTo old (old.at - 1) → AreReadUpTo new new.at
reads_body {mark} old new rule begins added read =
    let lexemes = old.lexemes.now in
    let behind = begins.behind in
    let before : old.at - 1 ≡ behind.before = omega (arith, behind.next) in
    let next = behind.next in
    let start : AreBodiesUpTo old.text.now lexemes old.dialect behind.before old.contents.alternatives.items = rw before at read in
    let first = added.read in
    let here = subst (λ (n : ℕ). IsReadFrom old.text.now lexemes old.dialect mark n added.body) next first in
    let more : AreBodiesUpTo old.text.now lexemes old.dialect (behind.before + 1) (old.contents.alternatives.items ++ added.body ∷ []) =
    behind_mark mark added.body start behind.here behind.is here in
    let more_here : AreBodiesUpTo old.text.now lexemes old.dialect old.at (old.contents.alternatives.items ++ added.body ∷ []) =
    rw next more in
    let same : delimiters_before lexemes new.at ≡ delimiters_before lexemes old.at =
    subst (λ (xs : List Lexeme). delimiters_before xs new.at ≡ delimiters_before lexemes old.at) added.lexemes added.count in
    rw (added.text, added.lexemes, added.dialect, added.bodies)
    (over_none old.text.now lexemes old.dialect (old.contents.alternatives.items ++ added.body ∷ []) old.at new.at added.on same more_here)

-- and then a `|` is taken
pub reads_bar : (old new : Reader) (bar : Lexeme) → TakesBar old new bar → AreReadUpTo old old.at → AreReadUpTo new (new.at - 1)
reads_bar old new bar taken read =
    reads_mark taken.before new bar kind.Bar taken.taken (reads_over old taken.before taken.over read)

-- the rules begin
pub behind_first : (old new : Reader) → ReachesRules old new → old.at ≡ 0 → IsBehindFirst old.lexemes.now new.at
behind_first old new reaches begins =
    let before = reaches.before in
    let over = reaches.over in
    let taken = reaches.taken.taken in
    let lexemes = old.lexemes.now in
    let zero_there : delimiters_before lexemes before.at ≡ 0 =
    subst (λ (xs : List Lexeme). delimiters_before xs before.at ≡ delimiters_before lexemes old.at) over.file.lexemes over.count
    ∙ (ap (λ (n : ℕ). delimiters_before lexemes n) begins ∙ count-none lexemes) in
    let same : delimiters_before lexemes before.at ≡ delimiters_before lexemes 0 = zero_there ∙ sym (count-none lexemes) in
    let there : slice_get lexemes before.at ≡ Some reaches.taken.mark =
    subst (λ (xs : List Lexeme). slice_get xs before.at ≡ Some reaches.taken.mark) over.file.lexemes taken.here in record {
      before = before.at;
      next = taken.passes.at;
      mark = reaches.taken.mark;
      here = there;
      is = ap is_separator taken.is;
      first = λ place nearer.
          no_separator_at (slice_get lexemes place) (none_between lexemes 0 place before.at (omega arith) nearer same);
    }

pub reads_none : (old new : Reader) → ReachesRules old new → old.at ≡ 0 → old.contents.alternatives.items ≡ [] → AreReadUpTo new new.at
reads_none old new reaches begins none =
    let over = reaches.over in
    let taken = reaches.taken.taken in
    rw (taken.passes.file.text, over.file.text, taken.passes.file.lexemes, over.file.lexemes, taken.passes.file.dialect, over.file.dialect, taken.passes.file.bodies, over.file.bodies, none)
    (first_rule (behind_first old new reaches begins))

-- where no fault was told, what was read is there, and the reader stays
pub settled : {T : Type 0} (now new : Reader) (P : Type 0) (read : Result T Halt) → IfErr read (λ h. IsTold h now) → OnOk read P → Settles read now new → IsSameFile now new → IsWhole new → P × Stays now new
settled now new P (Ok value) told is stays file whole = (is, stays)
settled now new P (Err halt.Fault) told is same file whole = absurd (omega (arith, told, file.faults, whole))
settled now new P (Err halt.Memory) told is none file whole = absurd none

-- the bodies of a file are read from its beginning on
pub file_all : (old head begun far new : Reader) → PassesNoDelimiter old head → ReachesRules head begun → ReadsAll begun far → IsSameFile far new → old.at ≡ 0 → old.contents.alternatives.items ≡ [] → AreAllBodies old.text.now old.lexemes.now old.dialect new.contents.alternatives.items
file_all old head begun far new over reaches all file begins none =
    let from_old : ReachesRules old begun = record {
      before = reaches.before;
      over = over_again over reaches.over;
      taken = reaches.taken;
    } in
    let read : AreAllBodies far.text.now far.lexemes.now far.dialect far.contents.alternatives.items =
    all.read (reads_none old begun from_old begins none) in
    let taken = from_old.taken.taken in
    let text : far.text.now ≡ old.text.now =
    all.text ∙ (taken.passes.file.text ∙ from_old.over.file.text) in
    let lexemes : far.lexemes.now ≡ old.lexemes.now =
    all.lexemes ∙ (taken.passes.file.lexemes ∙ from_old.over.file.lexemes) in
    let dialect : far.dialect ≡ old.dialect =
    all.dialect ∙ (taken.passes.file.dialect ∙ from_old.over.file.dialect) in
    rw (sym text, sym lexemes, sym dialect, file.bodies) read

-- a fact of an `Ok`
pub on_ok : {T E : Type 0} (r : Result T E) (P : Type 0) → P → OnOk r P
on_ok (Ok value) P p = p
on_ok (Err error) P p = tt

pub on_ok_map : {T E : Type 0} (r : Result T E) (P Q : Type 0) → (P → Q) → OnOk r P → OnOk r Q
on_ok_map (Ok value) P Q f p = f p
on_ok_map (Err error) P Q f p = tt

-- a `;` among them
pub semicolon_among : {T E : Type 0} (r : Result T E) (old new : Reader) → OnOk r (SkipsKind old new kind.Semicolon) → OnOk r (ReadsBodies 1 old new)
semicolon_among (Ok value) old new skips =
    bodies_none 1 old new (over_skips kind.Semicolon refl true skips) (omega (arith, skips.passes.at))
semicolon_among (Err error) old new skips = tt

-- the first `%%` stands behind the declarations
pub reaches_rules : (old now new : Reader) (is : Bool) → is ≡ true → PassesNoDelimiter old now → MatchBool is (TakesSeparator now new) (Stays now new) → ReachesRules old new
reaches_rules old now new true is over taken = record { before = now; over = over; taken = taken }
reaches_rules old now new false is over stays = absurd (cc)

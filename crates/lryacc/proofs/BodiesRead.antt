-- a body goes on
use Rattle.std.proofs.Common.{◌≡◌, ℕ, ◌+◌, ◌-◌, ◌≤◌, arith, Bool, true, false, List, [], ◌∷◌, ◌++◌, Option, None, Some, Result, Ok, Err, IfOk, OnOk, refl, ap, sym, ◌∙◌, subst}
use Rattle.std.specs.Prelude.{MatchBool, MatchOption, slice_get}
use Rattle.std.specs.Option.{option_map}
use Rattle.lryacc.specs.declared.contents.BodyPart.{BodyPart}
use Rattle.lryacc.specs.declared.contents.BodyPart.TheVariants as part
use Rattle.lryacc.specs.declared.dialects.Dialect.TheVariants.{Bison}
use Rattle.lryacc.specs.declared.faults.Halt.{Halt}
use Rattle.lryacc.specs.declared.lexemes.Lexeme.{Lexeme}
use Rattle.lryacc.specs.declared.lexemes.LexemeKind.{LexemeKind}
use Rattle.lryacc.specs.declared.lexemes.LexemeKind.TheVariants as kind
use Rattle.lryacc.specs.declared.reader.Reader.{Reader}
use Rattle.lryacc.specs.declared.rules.Body.{Body}
use Rattle.lryacc.specs.Bodies.{AddsBody, BeginsBody, IsBody, IsBodyEnd, IsRuleBefore, IsSameFile, Passes, PassesNoDelimiter, ReadsBehind, ReadsOn, SkipsKind, Stays, GoesOn, TakesBar, TakesKind, TakesPrecedence, is_action, is_aside, is_in_bodies, is_mark, is_prec, is_rule_name, is_symbol, reach, reach_over}
use Rattle.lryacc.specs.Bodies.IsBody.{begins, symbol, action, aside, directive as other_directive, prec as named}
use Rattle.lryacc.specs.Delimiters.{delimiter_at, delimiter_of, delimiters_before}
use Rattle.lryacc.specs.NamedSymbols.{text_at}
use Rattle.lryacc.proofs.BodyReach.{reach-aside, reach-none, reach-on, reach-one, reach-skips, symbol-no_aside}
use Rattle.lryacc.proofs.DelimitersPassed.{count-next, rule_behind, rule_named, rule_over}

-- it is the same body
pub IsBody-same : (text : List ℕ) (lexemes : List Lexeme) (from at at' : ℕ) (ps ps' : List BodyPart) (n n' : Option Lexeme) → at' ≡ at → ps' ≡ ps → n' ≡ n → IsBody text lexemes from at ps n → IsBody text lexemes from at' ps' n'
IsBody-same text lexemes from at at' ps ps' n n' p q r b = rw (p, q, r) b

-- a symbol is read
pub IsBody-symbol : (text : List ℕ) (lexemes : List Lexeme) (from at at' : ℕ) (ps ps' : List BodyPart) (n n' : Option Lexeme) (lexeme : Lexeme) → at' ≡ at + 1 → ps' ≡ ps ++ part.Symbol lexeme ∷ [] → n' ≡ n → slice_get lexemes at ≡ Some lexeme → is_symbol lexeme.kind ≡ true → IsBody text lexemes from at ps n → IsBody text lexemes from at' ps' n'
IsBody-symbol text lexemes from at at' ps ps' n n' lexeme p q r here is b =
    IsBody-same text lexemes from (at + 1) at' (ps ++ part.Symbol lexeme ∷ []) ps' n n' p q r (symbol lexeme b here is)

-- an action is read
pub IsBody-action : (text : List ℕ) (lexemes : List Lexeme) (from at at' : ℕ) (ps ps' : List BodyPart) (n n' : Option Lexeme) (lexeme : Lexeme) (name : Option Lexeme) → at' ≡ at + 1 → ps' ≡ ps ++ part.Action lexeme name ∷ [] → n' ≡ n → slice_get lexemes at ≡ Some lexeme → is_action lexeme.kind ≡ true → IsBody text lexemes from at ps n → IsBody text lexemes from at' ps' n'
IsBody-action text lexemes from at at' ps ps' n n' lexeme name p q r here is b =
    IsBody-same text lexemes from (at + 1) at' (ps ++ part.Action lexeme name ∷ []) ps' n n' p q r (action lexeme name b here is)

-- something is passed over
pub IsBody-aside : (text : List ℕ) (lexemes : List Lexeme) (from at at' : ℕ) (ps : List BodyPart) (n : Option Lexeme) (lexeme : Lexeme) → at' ≡ at + 1 → slice_get lexemes at ≡ Some lexeme → is_aside lexeme.kind ≡ true → IsBody text lexemes from at ps n → IsBody text lexemes from at' ps n
IsBody-aside text lexemes from at at' ps n lexeme p here is b = rw p (aside lexeme b here is)

-- a directive is read
pub IsBody-directive : (text : List ℕ) (lexemes : List Lexeme) (from at at' : ℕ) (ps : List BodyPart) (n : Option Lexeme) (lexeme : Lexeme) → at' ≡ at + 1 → slice_get lexemes at ≡ Some lexeme → lexeme.kind ≡ kind.Directive → is_in_bodies Bison (text_at text lexeme.span) ≡ true → is_prec text lexeme ≡ false → IsBody text lexemes from at ps n → IsBody text lexemes from at' ps n
IsBody-directive text lexemes from at at' ps n lexeme p here is stands other b = rw p (other_directive lexeme b here is stands other)

-- the same, where only the kind is known
pub IsBody-skips : (text : List ℕ) (lexemes : List Lexeme) (from at at' : ℕ) (ps : List BodyPart) (n : Option Lexeme) (k : LexemeKind) (found : Option Lexeme) → at' ≡ at + 1 → slice_get lexemes at ≡ found → option_map (λ (lexeme : Lexeme). lexeme.kind) found ≡ Some k → is_aside k ≡ true → IsBody text lexemes from at ps n → IsBody text lexemes from at' ps n
IsBody-skips text lexemes from at at' ps n k None p here is passed b = cc
IsBody-skips text lexemes from at at' ps n k (Some lexeme) p here is passed b =
    let same : lexeme.kind ≡ k = cc in
    IsBody-aside text lexemes from at at' ps n lexeme p here (ap is_aside same ∙ passed) b

-- the same file, twice
pub IsSameFile-again : {old now new : Reader} → IsSameFile old now → IsSameFile now new → IsSameFile old new
IsSameFile-again one other = record {
  text = other.text ∙ one.text;
  lexemes = other.lexemes ∙ one.lexemes;
  dialect = other.dialect ∙ one.dialect;
  bodies = other.bodies ∙ one.bodies;
  faults = omega (arith, one.faults, other.faults);
}

-- the reader stays where it is
pub stays-none : (reader : Reader) → Stays reader reader
stays-none reader = record {
  file = record { text = refl; lexemes = refl; dialect = refl; bodies = refl; faults = omega arith };
  at = refl;
  count = refl;
}

-- the body goes on, and the reader goes over one more lexeme, which is none of its parts
ReadsOn-aside : {old now new : Reader} {before after : Body} (k : LexemeKind) (found : Option Lexeme) → ReadsOn old now before after → Passes now new → slice_get now.lexemes.now now.at ≡ found → option_map (λ (lexeme : Lexeme). lexeme.kind) found ≡ Some k → is_aside k ≡ true → ReadsOn old new before after
ReadsOn-aside {old} {now} {new} {before} {after} k found read passes here is no_part = record {
  file = IsSameFile-again read.file passes.file;
  on = omega (arith, read.on, passes.at);
  parts = λ from so_far.
      let there : slice_get old.lexemes.now now.at ≡ found =
      subst (λ (xs : List Lexeme). slice_get xs now.at ≡ found) read.file.lexemes here in
      IsBody-skips old.text.now old.lexemes.now from now.at new.at after.parts.items after.precedence k found passes.at there is no_part (read.parts from so_far);
  reach =
      let there : slice_get old.lexemes.now now.at ≡ found =
      subst (λ (xs : List Lexeme). slice_get xs now.at ≡ found) read.file.lexemes here in
      reach-on old.lexemes.now before.span after.span after.span old.at now.at new.at (omega (arith, read.on)) (omega (arith, passes.at)) read.reach
      (sym (reach-skips old.lexemes.now now.at new.at after.span k found passes.at there is no_part));
}

pub ReadsOn-stays : {old now new : Reader} {before after : Body} → ReadsOn old now before after → Stays now new → ReadsOn old new before after
ReadsOn-stays {old} {now} {new} {before} {after} read stays = record {
  file = IsSameFile-again read.file stays.file;
  on = omega (arith, read.on, stays.at);
  parts = λ from so_far.
      IsBody-same old.text.now old.lexemes.now from now.at new.at after.parts.items after.parts.items after.precedence after.precedence stays.at refl refl (read.parts from so_far);
  reach = read.reach ∙ ap (λ (k : ℕ). reach_over old.lexemes.now old.at before.span (k - old.at)) (sym stays.at);
}

-- a name in brackets may stand behind a part
pub ReadsOn-skips : {old now new : Reader} {before after : Body} → ReadsOn old now before after → (is : Bool) → MatchBool is (SkipsKind now new kind.BracketName) (Stays now new) → ReadsOn old new before after
ReadsOn-skips {old} {now} {new} {before} {after} read true skips =
    ReadsOn-aside {old = old} {now = now} {new = new} {before = before} {after = after} kind.BracketName (slice_get now.lexemes.now now.at) read skips.passes refl skips.here refl
ReadsOn-skips {old} {now} {new} {before} {after} read false stays = ReadsOn-stays {old = old} {now = now} {new = new} {before = before} {after = after} read stays

-- the same, where it is taken
pub ReadsOn-takes : {old now new : Reader} {before after : Body} → ReadsOn old now before after → (name : Option Lexeme) → MatchOption name (Stays now new) (λ (lexeme : Lexeme). TakesKind now new kind.BracketName lexeme) → ReadsOn old new before after
ReadsOn-takes {old} {now} {new} {before} {after} read None stays = ReadsOn-stays {old = old} {now = now} {new = new} {before = before} {after = after} read stays
ReadsOn-takes {old} {now} {new} {before} {after} read (Some lexeme) takes =
    let is : option_map (λ (found : Lexeme). found.kind) (Some lexeme) ≡ Some kind.BracketName = ap (λ (k : LexemeKind). Some k) takes.is in
    ReadsOn-aside {old = old} {now = now} {new = new} {before = before} {after = after} kind.BracketName (Some lexeme) read takes.passes takes.here is refl

-- a lexeme is passed over, which is none of the parts
pub ReadsOn-passes : {old new : Reader} (body : Body) (lexeme : Lexeme) → Passes old new → slice_get old.lexemes.now old.at ≡ Some lexeme → is_aside lexeme.kind ≡ true → ReadsOn old new body body
ReadsOn-passes {old} {new} body lexeme passes here no_part = record {
  file = passes.file;
  on = omega (arith, passes.at);
  parts = λ from so_far.
      IsBody-aside old.text.now old.lexemes.now from old.at new.at body.parts.items body.precedence lexeme passes.at here no_part so_far;
  reach = sym (reach-aside old.lexemes.now old.at new.at body.span lexeme passes.at here no_part);
}

-- nothing stands behind a directive
pub ReadsBehind-stays : {old new : Reader} → Stays old new → ReadsBehind old new
ReadsBehind-stays {old} {new} stays = record {
  on = omega (arith, stays.at);
  parts = λ from at ps n directive so_far here is stands other next.
      IsBody-directive old.text.now old.lexemes.now from at new.at ps n directive (stays.at ∙ next) here is stands other so_far;
  asides = λ so_far.
      let none : new.at - old.at ≡ 0 = omega (arith, stays.at) in
      ap (reach_over old.lexemes.now old.at so_far) none ∙ reach-none old.lexemes.now old.at so_far;
}

-- a lexeme of another kind stands behind a directive
pub ReadsBehind-skips : {old new : Reader} (k : LexemeKind) → SkipsKind old new k → is_aside k ≡ true → ReadsBehind old new
ReadsBehind-skips {old} {new} k skips no_part = record {
  on = omega (arith, skips.passes.at);
  parts = λ from at ps n directive so_far here is stands other next.
      IsBody-skips old.text.now old.lexemes.now from old.at new.at ps n k (slice_get old.lexemes.now old.at) skips.passes.at refl skips.here no_part
      (IsBody-directive old.text.now old.lexemes.now from at old.at ps n directive next here is stands other so_far);
  asides = λ so_far.
      reach-skips old.lexemes.now old.at new.at so_far k (slice_get old.lexemes.now old.at) skips.passes.at refl skips.here no_part;
}

-- the same, where it is taken; and the reader stays there
pub ReadsBehind-takes : {old now new : Reader} {lexeme : Lexeme} (k : LexemeKind) → TakesKind old now k lexeme → Stays now new → is_aside k ≡ true → ReadsBehind old new
ReadsBehind-takes {old} {now} {new} {lexeme} k takes stays no_part = record {
  on = omega (arith, takes.passes.at, stays.at);
  parts = λ from at ps n directive so_far here is stands other next.
      IsBody-aside old.text.now old.lexemes.now from old.at new.at ps n lexeme (stays.at ∙ takes.passes.at) takes.here (ap is_aside takes.is ∙ no_part)
      (IsBody-directive old.text.now old.lexemes.now from at old.at ps n directive next here is stands other so_far);
  asides = λ so_far.
      reach-aside old.lexemes.now old.at new.at so_far lexeme (stays.at ∙ takes.passes.at) takes.here (ap is_aside takes.is ∙ no_part);
}

-- a directive stands in the body, and what stands behind it
pub ReadsOn-directive : {old now new : Reader} (before after : Body) (directive : Lexeme) → Passes old now → ReadsBehind now new → IsSameFile now new → slice_get old.lexemes.now old.at ≡ Some directive → directive.kind ≡ kind.Directive → is_in_bodies Bison (text_at old.text.now directive.span) ≡ true → is_prec now.text.now directive ≡ false → after.parts.items ≡ before.parts.items → after.precedence ≡ before.precedence → after.span ≡ Some (reach before.span directive.span) → ReadsOn old new before after
ReadsOn-directive {old} {now} {new} before after directive passes behind file here is stands other same same_precedence reached = record {
  file = IsSameFile-again passes.file file;
  on = omega (arith, passes.at, behind.on);
  parts = λ from so_far.
      let e = passes.file.lexemes in
      let t = passes.file.text in
      let before_it : IsBody now.text.now now.lexemes.now from old.at before.parts.items before.precedence =
      rw (t, e) so_far in
      let there : slice_get now.lexemes.now old.at ≡ Some directive =
      subst (λ (xs : List Lexeme). slice_get xs old.at ≡ Some directive) (sym e) here in
      let stands_there : is_in_bodies Bison (text_at now.text.now directive.span) ≡ true =
      subst (λ (xs : List ℕ). is_in_bodies Bison (text_at xs directive.span) ≡ true) (sym t) stands in
      let read : IsBody now.text.now now.lexemes.now from new.at before.parts.items before.precedence =
      behind.parts from old.at before.parts.items before.precedence directive before_it there is stands_there other passes.at in
      let read_old : IsBody old.text.now old.lexemes.now from new.at before.parts.items before.precedence =
      rw (sym t, sym e) read in
      IsBody-same old.text.now old.lexemes.now from new.at new.at before.parts.items after.parts.items before.precedence after.precedence refl same same_precedence read_old;
  reach =
      reach-on old.lexemes.now before.span after.span after.span old.at now.at new.at (omega (arith, passes.at)) (omega (arith, behind.on))
      (reached ∙ sym (reach-one old.lexemes.now old.at now.at before.span directive passes.at here (ap is_aside is)))
      (sym (ap (λ (xs : List Lexeme). reach_over xs now.at after.span (new.at - now.at)) (sym passes.file.lexemes) ∙ behind.asides after.span));
}

-- the same, if what stands behind it is read
pub ReadsOn-behind : {T E : Type 0} {old now new : Reader} (before reached after : Body) (directive : Lexeme) (r : Result T E) → Passes old now → OnOk r (ReadsBehind now new) → IsSameFile now new → slice_get old.lexemes.now old.at ≡ Some directive → directive.kind ≡ kind.Directive → is_in_bodies Bison (text_at old.text.now directive.span) ≡ true → is_prec now.text.now directive ≡ false → OnOk r (after.parts.items ≡ reached.parts.items) → OnOk r (after.precedence ≡ reached.precedence) → OnOk r (after.span ≡ reached.span) → reached.parts.items ≡ before.parts.items → reached.precedence ≡ before.precedence → reached.span ≡ Some (reach before.span directive.span) → OnOk r (ReadsOn old new before after)
ReadsOn-behind before reached after directive (Ok read) passes behind file here is stands other parts precedence span same same_precedence reaches =
    ReadsOn-directive before after directive passes behind file here is stands other (parts ∙ same) (precedence ∙ same_precedence) (span ∙ reaches)
ReadsOn-behind before reached after directive (Err halt) passes behind file here is stands other parts precedence span same same_precedence reaches = tt

-- `%prec` stands in the body, and a symbol behind it
pub ReadsOn-precedence : {old now new : Reader} (before reached after : Body) (directive : Lexeme) → Passes old now → TakesPrecedence now new reached after → IsSameFile now new → slice_get old.lexemes.now old.at ≡ Some directive → directive.kind ≡ kind.Directive → is_prec now.text.now directive ≡ true → after.parts.items ≡ before.parts.items → reached.precedence ≡ before.precedence → reached.span ≡ Some (reach before.span directive.span) → ReadsOn old new before after
ReadsOn-precedence {old} {now} {new} before reached after directive passes takes file here is is_one same kept reaches = record {
  file = IsSameFile-again passes.file file;
  on = omega (arith, passes.at, takes.taken.passes.at);
  parts = λ from so_far.
      let none : before.precedence ≡ None = sym kept ∙ takes.none in
      let so_far_none : IsBody old.text.now old.lexemes.now from old.at before.parts.items None =
      subst (λ (n : Option Lexeme). IsBody old.text.now old.lexemes.now from old.at before.parts.items n) none so_far in
      let there : slice_get old.lexemes.now (old.at + 1) ≡ Some takes.lexeme =
      subst (λ (n : ℕ). slice_get old.lexemes.now n ≡ Some takes.lexeme) passes.at
      (subst (λ (xs : List Lexeme). slice_get xs now.at ≡ Some takes.lexeme) passes.file.lexemes takes.taken.here) in
      let behind : new.at ≡ old.at + 1 + 1 = takes.taken.passes.at ∙ ap (λ (n : ℕ). n + 1) passes.at in
      let prec_here : is_prec old.text.now directive ≡ true =
      subst (λ (xs : List ℕ). is_prec xs directive ≡ true) passes.file.text is_one in
      IsBody-same old.text.now old.lexemes.now from (old.at + 1 + 1) new.at before.parts.items after.parts.items (Some takes.lexeme) after.precedence behind same takes.is
      (named directive takes.lexeme so_far_none here is prec_here there takes.taken.is);
  reach =
      let there : slice_get old.lexemes.now now.at ≡ Some takes.lexeme =
      subst (λ (xs : List Lexeme). slice_get xs now.at ≡ Some takes.lexeme) passes.file.lexemes takes.taken.here in
      reach-on old.lexemes.now before.span reached.span after.span old.at now.at new.at (omega (arith, passes.at)) (omega (arith, takes.taken.passes.at))
      (reaches ∙ sym (reach-one old.lexemes.now old.at now.at before.span directive passes.at here (ap is_aside is)))
      (takes.span ∙ sym (reach-one old.lexemes.now now.at new.at reached.span takes.lexeme takes.taken.passes.at there (symbol-no_aside takes.lexeme.kind takes.taken.is)));
}

-- the `=` before an action is passed over, or ends the body
pub GoesOn-equals : (old new : Reader) (body : Body) (lexeme : Lexeme) (read : Result Bool Halt) → slice_get old.lexemes.now old.at ≡ Some lexeme → lexeme.kind ≡ kind.Equals → IfOk read (λ goes_on. MatchBool goes_on (Passes old new) (Stays old new)) → IfOk read (GoesOn old new body body)
GoesOn-equals old new body lexeme (Ok true) here is passes = ReadsOn-passes body lexeme passes here (ap is_aside is)
GoesOn-equals old new body lexeme (Ok false) here is stays = record {
  reader = stays;
  parts = refl;
  precedence = refl;
  span = refl;
}
GoesOn-equals old new body lexeme (Err halt) here is none = tt

-- a body has no delimiter
no_delimiter_kind : (k : LexemeKind) → is_symbol k ≡ true → delimiter_of k ≡ 0
no_delimiter_kind kind.RuleName is = cc
no_delimiter_kind kind.Colon is = cc
no_delimiter_kind kind.Bar is = cc
no_delimiter_kind kind.Separator is = cc
no_delimiter_kind _ is = refl

no_delimiter_action : (k : LexemeKind) → is_action k ≡ true → delimiter_of k ≡ 0
no_delimiter_action kind.RuleName is = cc
no_delimiter_action kind.Colon is = cc
no_delimiter_action kind.Bar is = cc
no_delimiter_action kind.Separator is = cc
no_delimiter_action _ is = refl

no_delimiter_aside : (k : LexemeKind) → is_aside k ≡ true → delimiter_of k ≡ 0
no_delimiter_aside kind.RuleName is = cc
no_delimiter_aside kind.Colon is = cc
no_delimiter_aside kind.Bar is = cc
no_delimiter_aside kind.Separator is = cc
no_delimiter_aside _ is = refl

-- a lexeme more that is none
count_same : (lexemes : List Lexeme) (from at : ℕ) (lexeme : Lexeme) → slice_get lexemes at ≡ Some lexeme → delimiter_of lexeme.kind ≡ 0 → delimiters_before lexemes at ≡ delimiters_before lexemes from → delimiters_before lexemes (at + 1) ≡ delimiters_before lexemes from
count_same lexemes from at lexeme here none same =
    let no : delimiter_at (slice_get lexemes at) ≡ 0 = ap delimiter_at here ∙ none in
    omega (arith, count-next lexemes at)

pub body_counts : (text : List ℕ) (lexemes : List Lexeme) (from to : ℕ) (parts : List BodyPart) (n : Option Lexeme) → IsBody text lexemes from to parts n → (from ≤ to) × (delimiters_before lexemes to ≡ delimiters_before lexemes from)
body_counts text lexemes from _ _ _ begins = (omega arith, refl)
body_counts text lexemes from _ _ _ (symbol {at} {parts} {precedence} lexeme body here is) =
    let so_far = body_counts text lexemes from at parts precedence body in
    (omega (arith, so_far.0), count_same lexemes from at lexeme here (no_delimiter_kind lexeme.kind is) so_far.1)
body_counts text lexemes from _ _ _ (action {at} {parts} {precedence} lexeme name body here is) =
    let so_far = body_counts text lexemes from at parts precedence body in
    (omega (arith, so_far.0), count_same lexemes from at lexeme here (no_delimiter_action lexeme.kind is) so_far.1)
body_counts text lexemes from _ _ _ (aside {at} {parts} {precedence} lexeme body here is) =
    let so_far = body_counts text lexemes from at parts precedence body in
    (omega (arith, so_far.0), count_same lexemes from at lexeme here (no_delimiter_aside lexeme.kind is) so_far.1)
body_counts text lexemes from _ _ _ (other_directive {at} {parts} {precedence} lexeme body here is stands other) =
    let so_far = body_counts text lexemes from at parts precedence body in
    (omega (arith, so_far.0), count_same lexemes from at lexeme here (ap delimiter_of is) so_far.1)
body_counts text lexemes from _ _ _ (named {at} {parts} found lexeme body here is is_one there is_too) =
    let so_far = body_counts text lexemes from at parts None body in
    let next = count_same lexemes from at found here (ap delimiter_of is) so_far.1 in
    (omega (arith, so_far.0), count_same lexemes from (at + 1) lexeme there (no_delimiter_kind lexeme.kind is_too) next)

-- no delimiter is passed, twice
pub over_again : {old now new : Reader} → PassesNoDelimiter old now → PassesNoDelimiter now new → PassesNoDelimiter old new
over_again one other = record {
  file = IsSameFile-again one.file other.file;
  on = omega (arith, one.on, other.on);
  count = other.count ∙ one.count;
}

-- the reader stays, and passes nothing
pub over_stays : {old new : Reader} → Stays old new → PassesNoDelimiter old new
over_stays stays = record { file = stays.file; on = omega (arith, stays.at); count = stays.count }

-- what is passed over or not is no delimiter
pub over_skips : {old new : Reader} (k : LexemeKind) → delimiter_of k ≡ 0 → (is : Bool) → MatchBool is (SkipsKind old new k) (Stays old new) → PassesNoDelimiter old new
over_skips k none true skips = record {
  file = skips.passes.file;
  on = omega (arith, skips.passes.at);
  count = omega (arith, skips.count);
}
over_skips k none false stays = over_stays stays

-- the last name of a rule before the reader is the same where no delimiter is passed
pub rule_kept : {old new : Reader} (rule : Lexeme) → PassesNoDelimiter old new → IsRuleBefore old.lexemes.now old.at rule → IsRuleBefore new.lexemes.now new.at rule
rule_kept {old} {new} rule over before =
    let same : delimiters_before old.lexemes.now new.at ≡ delimiters_before old.lexemes.now old.at =
    subst (λ (xs : List Lexeme). delimiters_before xs new.at ≡ delimiters_before old.lexemes.now old.at) over.file.lexemes over.count in
    rw over.file.lexemes (rule_over old.lexemes.now old.at new.at rule over.on same before)

-- it was taken
pub rule_taken : {old new : Reader} {rule : Lexeme} → TakesKind old new kind.RuleName rule → IsRuleBefore new.lexemes.now new.at rule
rule_taken {old} {new} {rule} taken =
    rw (taken.passes.file.lexemes, taken.passes.at)
    (rule_named old.lexemes.now old.at rule taken.here (ap is_rule_name taken.is))

-- a mark was taken
pub begins_taken : {old new : Reader} {mark : Lexeme} (rule : Lexeme) (k : LexemeKind) → TakesKind old new k mark → is_mark k ≡ true → is_rule_name k ≡ false → IsRuleBefore old.lexemes.now old.at rule → BeginsBody new rule mark
begins_taken {old} {new} {mark} rule k taken is_one none before = record {
  behind = record {
    before = old.at;
    next = taken.passes.at;
    here = subst (λ (xs : List Lexeme). slice_get xs old.at ≡ Some mark) (sym taken.passes.file.lexemes) taken.here;
    is = ap is_mark taken.is ∙ is_one;
  };
  rule_is = rw (taken.passes.file.lexemes, taken.passes.at)
      (rule_behind old.lexemes.now old.at rule mark taken.here (ap is_rule_name taken.is ∙ none) before);
}

-- the reader stays behind a mark
pub begins_still : {old new : Reader} {mark : Lexeme} (rule : Lexeme) → Stays old new → BeginsBody old rule mark → BeginsBody new rule mark
begins_still {old} {new} {mark} rule stays begins_here = record {
  behind = record {
    before = begins_here.behind.before;
    next = stays.at ∙ begins_here.behind.next;
    here = subst (λ (xs : List Lexeme). slice_get xs begins_here.behind.before ≡ Some mark) (sym stays.file.lexemes) begins_here.behind.here;
    is = begins_here.behind.is;
  };
  rule_is = rule_kept rule (over_stays stays) begins_here.rule_is;
}

-- a body was read, and the `|` behind it
pub begins_next : {old now new : Reader} {mark : Lexeme} (rule bar : Lexeme) → BeginsBody old rule mark → AddsBody old now rule mark → TakesBar now new bar → BeginsBody new rule bar
begins_next {old} {now} {new} {mark} rule bar begins_here added taken =
    let same : delimiters_before old.lexemes.now now.at ≡ delimiters_before old.lexemes.now old.at =
    subst (λ (xs : List Lexeme). delimiters_before xs now.at ≡ delimiters_before old.lexemes.now old.at) added.lexemes added.count in
    let there : IsRuleBefore now.lexemes.now now.at rule =
    rw added.lexemes (rule_over old.lexemes.now old.at now.at rule added.on same begins_here.rule_is) in
    begins_taken rule kind.Bar taken.taken refl refl (rule_kept rule taken.over there)

-- it is taken behind `;`, or those are passed over
pub bar_taken : (old now new : Reader) (bar : Option Lexeme) → PassesNoDelimiter old now → MatchOption bar (Stays now new) (λ (lexeme : Lexeme). TakesKind now new kind.Bar lexeme) → MatchOption bar (PassesNoDelimiter old new) (TakesBar old new)
bar_taken old now new None over stays = over_again over (over_stays stays)
bar_taken old now new (Some bar) over taken = record { before = now; over = over; taken = taken }

-- a body is added by a reader that stays
pub alternative-count : (old now new : Reader) → now.lexemes.now ≡ old.lexemes.now → new.lexemes.now ≡ now.lexemes.now → new.at ≡ now.at → delimiters_before old.lexemes.now now.at ≡ delimiters_before old.lexemes.now old.at → delimiters_before new.lexemes.now new.at ≡ delimiters_before old.lexemes.now old.at
alternative-count old now new one other at same = rw (other, one, at) same

-- it ends where one that stays finds its end
pub ends_there : (old now : Reader) (at : ℕ) → now.text.now ≡ old.text.now → now.lexemes.now ≡ old.lexemes.now → now.dialect ≡ old.dialect → now.at ≡ at → IsBodyEnd now.text.now now.lexemes.now now.dialect now.at → IsBodyEnd old.text.now old.lexemes.now old.dialect at
ends_there old now at text lexemes dialect same ends = rw (sym text, sym lexemes, sym dialect, sym same) ends

-- the body goes on
pub GoesOn-on : (old new : Reader) (before after : Body) (goes_on : Bool) → goes_on ≡ true → GoesOn old new before after goes_on → ReadsOn old new before after
GoesOn-on old new before after true is read = read
GoesOn-on old new before after false is stops = absurd (cc)

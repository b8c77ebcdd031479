-- names and texts in quotes that are read byte by byte, as grmtools reads them
use Rattle.std.proofs.Common.{◌≡◌, ◌≢◌, ◌⊎◌, inl, inr, Result, Ok, Err, IfOk, ℕ, ◌+◌, ◌-◌, ◌<◌, ◌≤◌, ◌==◌, Bool, true, false, List, drop, take, take_all, length, length-drop, slice_index, refl, subst, sym, ap, ◌∙◌, arith}
use Rattle.std.proofs.lemmas.Bool.Decides.{nat_tests}
use Rattle.std.proofs.lemmas.List.{get_or-drop}
use Rattle.lryacc.specs.declared.faults.Fault.{Fault}
use Rattle.lryacc.specs.declared.lexemes.LexemeKind.{LexemeKind}
use Rattle.lryacc.specs.declared.lexemes.LexemeKind.TheVariants.{QuotedName, QuotedText}
use Rattle.lryacc.specs.GrmtoolsQuotes.{AreParts, AreInQuotes, IsLoneMark, IsQuotedName, IsQuotedText, is_quote}
use Rattle.lryacc.specs.GrmtoolsQuotes.IsQuotedName.{mark, parts}
use Rattle.lryacc.specs.Lexemes.{IsGrmtoolsLexeme}
use Rattle.lryacc.specs.GrmtoolsQuotes.AreParts.{by_itself, nothing, pair, quoted}
use Rattle.lryacc.specs.Quotes.{is_literal}
use Rattle.lryacc.specs.QuotesRead.{ArePartsUpTo, has_quote}
use Rattle.lryacc.specs.QuotesRead.ArePartsUpTo.{half, whole}

-- a byte of what stands from a place on
rest-at : (text : List ℕ) (from k : ℕ) → slice_index (take (length text - from) (drop from text)) k ≡ slice_index text (from + k)
rest-at text from k =
    let all : length (drop from text) ≤ length text - from = omega (arith, length-drop from text) in
    ap (λ bytes. slice_index bytes k) (take_all (length text - from) (drop from text) all) ∙ get_or-drop from text k 0

-- a mark by itself at its beginning
pub mark-here : (quote : ℕ) (text : List ℕ) (from : ℕ) → slice_index text from ≡ quote
    → IsLoneMark (slice_index (take (length text - from) (drop from text)) 0) (take (length text - from) (drop from text)) 0
    → IsLoneMark quote text from
mark-here quote text from opens lone =
    let none : from + 0 ≡ from = omega arith in
    let first : slice_index (take (length text - from) (drop from text)) 0 ≡ quote =
    rest-at text from 0 ∙ ap (slice_index text) none ∙ opens in
    record {
      opens = opens;
      mark = elim lone.mark [
        | inl same ↦ inl (sym (rest-at text from 1) ∙ same ∙ first)
        | inr two ↦ inr (sym (rest-at text from 1) ∙ two.0, λ more. two.1 (rest-at text from 3 ∙ more ∙ sym first))
      ];
      closes = sym (rest-at text from 2) ∙ lone.closes ∙ first;
    }

pub mark-there : (quote : ℕ) (text : List ℕ) (from : ℕ) → slice_index text from ≡ quote → IsLoneMark quote text from
    → IsLoneMark (slice_index (take (length text - from) (drop from text)) 0) (take (length text - from) (drop from text)) 0
mark-there quote text from opens lone =
    let none : from + 0 ≡ from = omega arith in
    let first : slice_index (take (length text - from) (drop from text)) 0 ≡ quote =
    rest-at text from 0 ∙ ap (slice_index text) none ∙ opens in
    record {
      opens = refl;
      mark = elim lone.mark [
        | inl same ↦ inl (rest-at text from 1 ∙ same ∙ sym first)
        | inr two ↦ inr (rest-at text from 1 ∙ two.0, λ more. two.1 (sym (rest-at text from 3) ∙ more ∙ first))
      ];
      closes = rest-at text from 2 ∙ lone.closes ∙ sym first;
    }

-- nothing at first
pub begins : (quote : ℕ) (text : List ℕ) (start : ℕ) → (quote ≡ 39) ⊎ (quote ≡ 34)
    → ArePartsUpTo quote text start false start quote
begins quote text start (inl is) = let apart : quote ≢ 92 = omega arith in whole apart nothing
begins quote text start (inr is) = let apart : quote ≢ 92 = omega arith in whole apart nothing

-- a byte that is neither quote nor line feed nor backslash
plain : (quote byte : ℕ) → byte ≢ quote → byte ≢ 10 → byte ≢ 92 → is_literal quote byte ≡ true
plain quote byte no_quote no_feed no_backslash = grind (arith, nat_tests)

-- a byte behind whole parts
behind-whole : (quote : ℕ) (text : List ℕ) (start : ℕ) (has : Bool) (at next : ℕ) (backslash : Bool)
    → AreParts quote text start has at → slice_index text at ≢ quote → slice_index text at ≢ 10
    → (slice_index text at == 92) ≡ backslash → next ≡ slice_index text at → ArePartsUpTo quote text start has (at + 1) next
behind-whole quote text start has at next true before_it no_quote no_feed is same =
    let slash : slice_index text at ≡ 92 = grind (arith, nat_tests) in
    rw (same, slash) (half before_it slash)
behind-whole quote text start has at next false before_it no_quote no_feed is same =
    let no_slash : slice_index text at ≢ 92 = grind (arith, nat_tests) in
    rw same (whole no_slash (by_itself before_it (plain quote (slice_index text at) no_quote no_feed no_slash)))

-- a byte that ends nothing goes on
pub goes-on : (quote : ℕ) (text : List ℕ) (start : ℕ) (has : Bool) (at before next : ℕ) → ArePartsUpTo quote text start has at before
    → (before ≡ 92 → is_quote (slice_index text at) ≡ false) → slice_index text at ≢ quote → slice_index text at ≢ 10
    → (before ≡ 92 → next ≡ 32) → (before ≢ 92 → next ≡ slice_index text at) → ArePartsUpTo quote text start has (at + 1) next
goes-on quote text start has at before next (whole no_slash before_it) no_pair no_quote no_feed space same =
    behind-whole quote text start has at next (slice_index text at == 92) before_it no_quote no_feed refl (same no_slash)
goes-on quote text start has at before next (half {at = place} before_it slash) no_pair no_quote no_feed space same =
    let two : place + 2 ≡ place + 1 + 1 = omega arith in
    let apart : next ≢ 92 = let is : next ≡ 32 = space refl in omega arith in
    subst (λ at. ArePartsUpTo quote text start has at next) two (whole apart (pair before_it slash (no_pair refl) no_feed))

-- and so does a quote behind a backslash
pub quote-goes-on : (quote : ℕ) (text : List ℕ) (start : ℕ) (has : Bool) (at before next : ℕ)
    → ArePartsUpTo quote text start has at before → before ≡ 92 → is_quote (slice_index text at) ≡ true → next ≡ 32
    → ArePartsUpTo quote text start true (at + 1) next
quote-goes-on quote text start has at before next (whole no_slash before_it) behind is space = absurd (no_slash behind)
quote-goes-on quote text start has at before next (half {at = place} before_it slash) behind is space =
    let two : place + 2 ≡ place + 1 + 1 = omega arith in
    let apart : next ≢ 92 = omega arith in
    subst (λ at. ArePartsUpTo quote text start true at next) two (whole apart (quoted before_it slash is))

-- no backslash stands before the end
pub parts-whole : (quote : ℕ) (text : List ℕ) (start : ℕ) (has : Bool) (at before : ℕ) → ArePartsUpTo quote text start has at before
    → before ≢ 92 → AreParts quote text start has at
parts-whole quote text start has at before (whole no_slash before_it) apart = before_it
parts-whole quote text start has at before (half before_it slash) apart = absurd (apart refl)

-- ---- both quotes

-- one of two quotes
either : (Is : ℕ → Type 0) (quote : ℕ) → (quote ≡ 39) ⊎ (quote ≡ 34) → Is quote → Is 39 ⊎ Is 34
either Is quote (inl is) holds = inl (subst Is is holds)
either Is quote (inr is) holds = inr (subst Is is holds)

-- is a quote
pub quote-is : (quote byte : ℕ) → (quote ≡ 39) ⊎ (quote ≡ 34) → byte ≡ quote → is_quote byte ≡ true
quote-is quote byte (inl is) same = rw (same, is) refl
quote-is quote byte (inr is) same = rw (same, is) refl

-- a mark by itself is a name
pub mark-named : (quote : ℕ) (text : List ℕ) (from : ℕ) → (quote ≡ 39) ⊎ (quote ≡ 34) → IsLoneMark quote text from
    → IsGrmtoolsLexeme QuotedName text from (from + 3)
mark-named quote text from is lone =
    either (λ quote. IsQuotedName quote text from (from + 3)) quote is (mark lone)

-- parts in quotes are a name or a text
named : (quote : ℕ) (text : List ℕ) (from end : ℕ) (kind : LexemeKind) → (quote ≡ 39) ⊎ (quote ≡ 34)
    → (kind ≡ QuotedName) ⊎ (kind ≡ QuotedText) → AreInQuotes quote (has_quote kind) text from end
    → IsGrmtoolsLexeme kind text from end
named quote text from end kind is (inl name) closed =
    subst (λ kind. IsGrmtoolsLexeme kind text from end) (sym name)
    (either (λ quote. IsQuotedName quote text from end) quote is
    (parts (subst (λ kind. AreInQuotes quote (has_quote kind) text from end) name closed)))
named quote text from end kind is (inr words) closed =
    subst (λ kind. IsGrmtoolsLexeme kind text from end) (sym words)
    (either (λ quote. IsQuotedText quote text from end) quote is
    (subst (λ kind. AreInQuotes quote (has_quote kind) text from end) words closed))

-- those that end with a quote
pub ended-named : (quote : ℕ) (text : List ℕ) (from at : ℕ) (kind : LexemeKind) (found : Result (LexemeKind × ℕ) Fault)
    → (quote ≡ 39) ⊎ (quote ≡ 34) → (kind ≡ QuotedName) ⊎ (kind ≡ QuotedText) → slice_index text from ≡ quote
    → ¬ IsLoneMark quote text from → AreParts quote text (from + 1) (has_quote kind) at → slice_index text at ≡ quote
    → IfOk found (λ _. from + 1 < at) → IfOk found (λ found. found.0 ≡ kind) → IfOk found (λ found. found.1 ≡ at + 1)
    → IfOk found (λ found. IsGrmtoolsLexeme found.0 text from found.1)
ended-named quote text from at kind (Err fault) is kinds opens no_mark between closes some same behind = tt
ended-named quote text from at kind (Ok found) is kinds opens no_mark between closes some same behind =
    subst (λ kind. IsGrmtoolsLexeme kind text from found.1) (sym same)
    (named quote text from found.1 kind is kinds
    (record { last = at; some = some; no_mark = no_mark; opens = opens; between = between; closes = closes; ends = behind }))

-- start symbols, and how many conflicts are expected
use Rattle.std.proofs.Common.{◌≡◌, ℕ, ◌<◌, ◌≤◌, ◌⊎◌, List, [], ◌∷◌, ◌++◌, Bool, true, false, not, Contains, Option, None, Some, MatchOption, Result, Ok, Err, OnOk, cond, vec_len, refl, ap, sym, ◌∙◌, subst, inl, inr, arith}
use Rattle.std.proofs.lemmas.Bool.{false≢true}
use Rattle.std.proofs.lemmas.List.{append_assoc, append-nil}
use Rattle.std.proofs.lemmas.List.Elements.{Contains-append_left, Contains-push, Contains-push_cases}
use Rattle.std.proofs.lemmas.Option.{same_Some}
use Rattle.std.specs.BTreeMap.{is_at}
use Rattle.std.specs.BTreeSet.{BTreeSet, Updates, contains}
use Rattle.std.specs.List.{last_or, list_any}
use Rattle.std.specs.Option.{option_map}
use Rattle.std.specs.Ordering.{nat_cmp}
use Rattle.lryacc.specs.declared.contents.Statement.{Statement}
use Rattle.lryacc.specs.declared.contents.Statement.TheVariants as says
use Rattle.lryacc.specs.declared.dialects.Dialect.{Dialect}
use Rattle.lryacc.specs.declared.dialects.Dialect.TheVariants.{Bison, Grmtools}
use Rattle.lryacc.specs.declared.lexemes.Lexeme.{Lexeme}
use Rattle.lryacc.specs.declared.meaning.Meaning.{Meaning}
use Rattle.lryacc.specs.EndTokens.{KeepsExpected, KeepsMeaning, KeepsSaid, KeepsTables, written_number}
use Rattle.lryacc.specs.ExpectedConflicts.{AreExpected, can_expect_reductions, is_generalized, last_number, reduce_lexemes, shift_lexemes}
use Rattle.lryacc.specs.NamedSymbols.{AreApart, KeepsNames, called, number_in, number_of, text_at}
use Rattle.lryacc.specs.SaidTaken.{AddsStart, AreSaid, HasExpected, HasSaid, HasStart, HasStarts, IsStartAgain, IsStarted, LeavesOutReductions, TakesSaid, TakesStart, heeds_reductions}
use Rattle.lryacc.specs.StartSymbols.{AreFirst, AreStarts, start_lexemes}
use Rattle.lryacc.proofs.NamesOfOne.{apart-kept, names-turned, number-kept}
use Rattle.lryacc.proofs.Numbered.{same_key}

-- what holds behind a call by three clauses
pub ok-three : {A E P Q R S : Type 0} (r : Result A E) → (P → Q → R → S) → OnOk r P → OnOk r Q → OnOk r R → OnOk r S
ok-three (Ok a) f p q h = f p q h
ok-three (Err e) f p q h = p

-- ---- the lexemes of more declarations

shift-append : (xs ys : List Statement) → shift_lexemes (xs ++ ys) ≡ shift_lexemes xs ++ shift_lexemes ys
shift-append [] ys = refl
shift-append (says.ExpectShiftReduce number ∷ xs) ys = ap (λ (ls : List Lexeme). number ∷ ls) (shift-append xs ys)
shift-append (_ ∷ xs) ys = shift-append xs ys

reduce-append : (xs ys : List Statement) → reduce_lexemes (xs ++ ys) ≡ reduce_lexemes xs ++ reduce_lexemes ys
reduce-append [] ys = refl
reduce-append (says.ExpectReduceReduce number ∷ xs) ys = ap (λ (ls : List Lexeme). number ∷ ls) (reduce-append xs ys)
reduce-append (_ ∷ xs) ys = reduce-append xs ys

start-append : (xs ys : List Statement) → start_lexemes (xs ++ ys) ≡ start_lexemes xs ++ start_lexemes ys
start-append [] ys = refl
start-append (says.Start lexeme ∷ xs) ys = ap (λ (ls : List Lexeme). lexeme ∷ ls) (start-append xs ys)
start-append (_ ∷ xs) ys = start-append xs ys

glr-other : (xs : List Statement) (statement : Statement) → is_generalized (statement ∷ []) ≡ false → is_generalized (xs ++ statement ∷ []) ≡ is_generalized xs
glr-other [] statement other = other
glr-other (says.Glr ∷ xs) statement other = refl
glr-other (_ ∷ xs) statement other = glr-other xs statement other

glr-said : (xs : List Statement) → is_generalized (xs ++ says.Glr ∷ []) ≡ true
glr-said [] = refl
glr-said (says.Glr ∷ xs) = refl
glr-said (_ ∷ xs) = glr-said xs

last-push : (o : Option Lexeme) (xs : List Lexeme) (x : Lexeme) → last_or o (xs ++ x ∷ []) ≡ Some x
last-push o [] x = refl
last-push o (y ∷ ys) x = last-push (Some y) ys x

-- a declaration adds none of them
none-added : (xs more : List Lexeme) → more ≡ [] → xs ++ more ≡ xs
none-added xs more none = ap (λ (ls : List Lexeme). xs ++ ls) none ∙ append-nil xs

-- the number of a lexeme that is added
last-added : (text : List ℕ) (xs : List Lexeme) (x : Lexeme) → last_number text (xs ++ x ∷ []) ≡ Some (written_number (text_at text x.span))
last-added text xs x = ap (option_map (λ (number : Lexeme). written_number (text_at text number.span))) (last-push None xs x)

-- whether a declaration says something of starts or of expected conflicts
abbrev pub speaks : Statement → Bool
speaks (says.Start lexeme) = true
speaks (says.ExpectShiftReduce number) = true
speaks (says.ExpectReduceReduce number) = true
speaks says.Glr = true
speaks _ = false

no-shift : (statement : Statement) → speaks statement ≡ false → shift_lexemes (statement ∷ []) ≡ []
no-shift (says.ExpectShiftReduce number) other = absurd (false≢true (sym other))
no-shift _ other = refl

no-reduce : (statement : Statement) → speaks statement ≡ false → reduce_lexemes (statement ∷ []) ≡ []
no-reduce (says.ExpectReduceReduce number) other = absurd (false≢true (sym other))
no-reduce _ other = refl

no-start : (statement : Statement) → speaks statement ≡ false → start_lexemes (statement ∷ []) ≡ []
no-start (says.Start lexeme) other = absurd (false≢true (sym other))
no-start _ other = refl

no-glr : (statement : Statement) → speaks statement ≡ false → is_generalized (statement ∷ []) ≡ false
no-glr says.Glr other = absurd (false≢true (sym other))
no-glr _ other = refl

-- ---- what is known behind them

-- the numbers of lexemes are the same where the text is
last-same : (text more : List ℕ) (xs ys : List Lexeme) → more ≡ text → ys ≡ xs → last_number text xs ≡ last_number more ys
last-same text more xs ys same lexemes = ap (λ (t : List ℕ). last_number t xs) (sym same) ∙ ap (last_number more) (sym lexemes)

first-same : (text more : List ℕ) (dialect other : Dialect) (all some kept : List Lexeme) → more ≡ text → other ≡ dialect → some ≡ all → AreFirst text dialect all kept → AreFirst more other some kept
first-same text more dialect other all some kept same dialects lexemes h =
    subst (λ (ls : List Lexeme). AreFirst more other ls kept) (sym lexemes)
    (subst (λ (d : Dialect). AreFirst more d all kept) (sym dialects) (subst (λ (t : List ℕ). AreFirst t dialect all kept) (sym same) h))

same_started : (old new : Meaning) → new.started.keys ≡ old.started.keys → (number : ℕ) → contains nat_cmp old.started number ≡ contains nat_cmp new.started number
same_started old new same number = ap (list_any (is_at (nat_cmp number))) (sym same)

-- the same starts stay those
starts-kept : (xs ys : List Statement) (old new : Meaning) → KeepsNames old.symbols new.symbols → new.starts ≡ old.starts → new.started.keys ≡ old.started.keys → start_lexemes ys ≡ start_lexemes xs → HasStarts xs old → HasStarts ys new
starts-kept xs ys old new keeps starts started lexemes h =
    let items : new.starts.items ≡ old.starts.items = ap (λ list. list.items) starts in
    record {
      starts = subst (λ (ls : List Lexeme). AreStarts new.symbols.text.now new.symbols.dialect ys ls) (sym items) (first-same old.symbols.text.now new.symbols.text.now old.symbols.dialect new.symbols.dialect (start_lexemes xs) (start_lexemes ys) old.starts.items keeps.text keeps.dialect lexemes h.starts);
      known = λ number is.
          let was = h.known number (same_started old new started number ∙ is) in
          record {
            start = was.start;
            is = subst (λ (ls : List Lexeme). Contains ls was.start) (sym items) was.is;
            named = number-kept old.symbols new.symbols keeps was.start number was.named;
          };
      each = λ number has.
          let was : HasStart old number = record {
            start = has.start;
            is = subst (λ (ls : List Lexeme). Contains ls has.start) items has.is;
            named = number-kept new.symbols old.symbols (names-turned keeps) has.start number has.named;
          } in
          sym (same_started old new started number) ∙ h.each number was;
    }

-- what is known of conflicts stays so
expected-kept : (xs : List Statement) (statement : Statement) (old new : Meaning) → KeepsNames old.symbols new.symbols → KeepsExpected old new → shift_lexemes (statement ∷ []) ≡ [] → reduce_lexemes (statement ∷ []) ≡ [] → is_generalized (statement ∷ []) ≡ false → HasExpected xs old → HasExpected (xs ++ statement ∷ []) new
expected-kept xs statement old new keeps same no_number no_reduction no_glr_here h =
    let shift = shift-append xs (statement ∷ []) ∙ none-added (shift_lexemes xs) (shift_lexemes (statement ∷ [])) no_number in
    let reduce = reduce-append xs (statement ∷ []) ∙ none-added (reduce_lexemes xs) (reduce_lexemes (statement ∷ [])) no_reduction in
    record {
      shift_reduce = ap (λ e. e.shift_reduce) same.expected ∙ h.shift_reduce ∙ last-same old.symbols.text.now new.symbols.text.now (shift_lexemes xs) (shift_lexemes (xs ++ statement ∷ [])) keeps.text shift;
      reduce_reduce = ap (λ e. e.reduce_reduce) same.expected ∙ h.reduce_reduce ∙ last-same old.symbols.text.now new.symbols.text.now (reduce_lexemes xs) (reduce_lexemes (xs ++ statement ∷ [])) keeps.text reduce;
      last = same.reductions ∙ h.last ∙ ap (last_or None) (sym reduce);
      generalized = same.generalized ∙ h.generalized ∙ sym (glr-other xs statement no_glr_here);
    }

no-starts-added : (xs : List Statement) (statement : Statement) → start_lexemes (statement ∷ []) ≡ [] → start_lexemes (xs ++ statement ∷ []) ≡ start_lexemes xs
no-starts-added xs statement none = start-append xs (statement ∷ []) ∙ none-added (start_lexemes xs) (start_lexemes (statement ∷ [])) none

-- a declaration that says nothing of either
pub takes_unsaid : (statement : Statement) {old new : Meaning} → speaks statement ≡ false → KeepsNames old.symbols new.symbols → KeepsSaid old new → vec_len old.faults ≤ vec_len new.faults → TakesSaid (statement ∷ []) old new
takes_unsaid statement {old} {new} other keeps said grow = record {
  faults = grow;
  said = λ none apart so_far h. record {
    expected = expected-kept so_far statement old new keeps said.expected (no-shift statement other) (no-reduce statement other) (no-glr statement other) h.expected;
    starts = starts-kept so_far (so_far ++ statement ∷ []) old new keeps said.starts (ap (λ set. set.keys) said.started) (no-starts-added so_far statement (no-start statement other)) h.starts;
  };
}

-- the number that was read, where no fault was told
value-said : (told wanted : ℕ) (value : Option ℕ) → told ≡ 0 → MatchOption value (0 < told) (λ v. v ≡ wanted) → value ≡ Some wanted
value-said told wanted None none h = absurd (omega (arith, none, h))
value-said told wanted (Some v) none h = ap Some h

-- one that says how many shift/reduce conflicts are expected
takes_shift : (number : Lexeme) (old now : Meaning) (value : Option ℕ) → KeepsMeaning old now → MatchOption value (0 < vec_len now.faults) (λ v. v ≡ written_number (text_at old.symbols.text.now number.span)) → TakesSaid (says.ExpectShiftReduce number ∷ []) old (record now { expected = record now.expected { shift_reduce = value } })
takes_shift number old now value keeps read =
    let statement = says.ExpectShiftReduce number in
    let new : Meaning = record now { expected = record now.expected { shift_reduce = value } } in
    let same = keeps.said.expected in
    let text = keeps.symbols.names.text in
    record {
      faults = keeps.faults;
      said = λ none apart so_far h.
          let shift = shift-append so_far (statement ∷ []) in
          let reduce = reduce-append so_far (statement ∷ []) ∙ append-nil (reduce_lexemes so_far) in
          let wanted : last_number old.symbols.text.now (shift_lexemes so_far ++ number ∷ []) ≡ Some (written_number (text_at old.symbols.text.now number.span)) = last-added old.symbols.text.now (shift_lexemes so_far) number in
          record {
            expected = record {
              shift_reduce = value-said (vec_len now.faults) (written_number (text_at old.symbols.text.now number.span)) value none read ∙ sym wanted ∙ last-same old.symbols.text.now new.symbols.text.now (shift_lexemes so_far ++ number ∷ []) (shift_lexemes (so_far ++ statement ∷ [])) text shift;
              reduce_reduce = ap (λ e. e.reduce_reduce) same.expected ∙ h.expected.reduce_reduce ∙ last-same old.symbols.text.now new.symbols.text.now (reduce_lexemes so_far) (reduce_lexemes (so_far ++ statement ∷ [])) text reduce;
              last = same.reductions ∙ h.expected.last ∙ ap (last_or None) (sym reduce);
              generalized = same.generalized ∙ h.expected.generalized ∙ sym (glr-other so_far statement refl);
            };
            starts = starts-kept so_far (so_far ++ statement ∷ []) old new keeps.symbols.names keeps.said.starts (ap (λ set. set.keys) keeps.said.started) (no-starts-added so_far statement refl) h.starts;
          };
    }

-- one that says how many reduce/reduce conflicts are
takes_reduce : (number : Lexeme) (old now : Meaning) (value : Option ℕ) → KeepsMeaning old now → MatchOption value (0 < vec_len now.faults) (λ v. v ≡ written_number (text_at old.symbols.text.now number.span)) → TakesSaid (says.ExpectReduceReduce number ∷ []) old (record now { expected = record now.expected { reduce_reduce = value }; expected_reductions = Some number })
takes_reduce number old now value keeps read =
    let statement = says.ExpectReduceReduce number in
    let new : Meaning = record now { expected = record now.expected { reduce_reduce = value }; expected_reductions = Some number } in
    let same = keeps.said.expected in
    let text = keeps.symbols.names.text in
    record {
      faults = keeps.faults;
      said = λ none apart so_far h.
          let shift = shift-append so_far (statement ∷ []) ∙ append-nil (shift_lexemes so_far) in
          let reduce = reduce-append so_far (statement ∷ []) in
          let wanted : last_number old.symbols.text.now (reduce_lexemes so_far ++ number ∷ []) ≡ Some (written_number (text_at old.symbols.text.now number.span)) = last-added old.symbols.text.now (reduce_lexemes so_far) number in
          record {
            expected = record {
              shift_reduce = ap (λ e. e.shift_reduce) same.expected ∙ h.expected.shift_reduce ∙ last-same old.symbols.text.now new.symbols.text.now (shift_lexemes so_far) (shift_lexemes (so_far ++ statement ∷ [])) text shift;
              reduce_reduce = value-said (vec_len now.faults) (written_number (text_at old.symbols.text.now number.span)) value none read ∙ sym wanted ∙ last-same old.symbols.text.now new.symbols.text.now (reduce_lexemes so_far ++ number ∷ []) (reduce_lexemes (so_far ++ statement ∷ [])) text reduce;
              last = sym (last-push None (reduce_lexemes so_far) number) ∙ ap (last_or None) (sym reduce);
              generalized = same.generalized ∙ h.expected.generalized ∙ sym (glr-other so_far statement refl);
            };
            starts = starts-kept so_far (so_far ++ statement ∷ []) old new keeps.symbols.names keeps.said.starts (ap (λ set. set.keys) keeps.said.started) (no-starts-added so_far statement refl) h.starts;
          };
    }

-- the same of a declaration that is known to be one
pub takes_shift_by : (statement : Statement) (number : Lexeme) {old now : Meaning} {value : Option ℕ} → statement ≡ says.ExpectShiftReduce number → KeepsMeaning old now → MatchOption value (0 < vec_len now.faults) (λ v. v ≡ written_number (text_at old.symbols.text.now number.span)) → TakesSaid (statement ∷ []) old (record now { expected = record now.expected { shift_reduce = value } })
takes_shift_by statement number {old} {now} {value} is keeps read =
    subst (λ (s : Statement). TakesSaid (s ∷ []) old (record now { expected = record now.expected { shift_reduce = value } })) (sym is) (takes_shift number old now value keeps read)

pub takes_reduce_by : (statement : Statement) (number : Lexeme) {old now : Meaning} {value : Option ℕ} → statement ≡ says.ExpectReduceReduce number → KeepsMeaning old now → MatchOption value (0 < vec_len now.faults) (λ v. v ≡ written_number (text_at old.symbols.text.now number.span)) → TakesSaid (statement ∷ []) old (record now { expected = record now.expected { reduce_reduce = value }; expected_reductions = Some number })
takes_reduce_by statement number {old} {now} {value} is keeps read =
    subst (λ (s : Statement). TakesSaid (s ∷ []) old (record now { expected = record now.expected { reduce_reduce = value }; expected_reductions = Some number })) (sym is) (takes_reduce number old now value keeps read)

names-same : (meaning : Meaning) → KeepsNames meaning.symbols meaning.symbols
names-same meaning = record { text = refl; dialect = refl; words = refl; characters = refl }

-- one that says that the parser is a generalized one
pub takes_glr : (old : Meaning) → TakesSaid (says.Glr ∷ []) old (record old { is_glr = true })
takes_glr old = record {
  faults = omega arith;
  said = λ none apart so_far h.
      let shift = shift-append so_far (says.Glr ∷ []) ∙ append-nil (shift_lexemes so_far) in
      let reduce = reduce-append so_far (says.Glr ∷ []) ∙ append-nil (reduce_lexemes so_far) in
      record {
        expected = record {
          shift_reduce = h.expected.shift_reduce ∙ ap (last_number old.symbols.text.now) (sym shift);
          reduce_reduce = h.expected.reduce_reduce ∙ ap (last_number old.symbols.text.now) (sym reduce);
          last = h.expected.last ∙ ap (last_or None) (sym reduce);
          generalized = sym (glr-said so_far);
        };
        starts = starts-kept so_far (so_far ++ says.Glr ∷ []) old (record old { is_glr = true }) (names-same old) refl refl (no-starts-added so_far says.Glr refl) h.starts;
      };
}

-- ---- one that names a start symbol

-- what is known of it
module _ (lexeme : Lexeme) (old new : Meaning) (keeps : KeepsNames old.symbols new.symbols) (apart : AreApart old.symbols) (so_far : List Statement) (h : HasStarts so_far old) where
  all-starts : start_lexemes (so_far ++ says.Start lexeme ∷ []) ≡ start_lexemes so_far ++ lexeme ∷ []
  all-starts = start-append so_far (says.Start lexeme ∷ [])

  are-starts : (starts : List Lexeme) → new.starts.items ≡ starts → AreFirst old.symbols.text.now old.symbols.dialect (start_lexemes so_far ++ lexeme ∷ []) starts → AreStarts new.symbols.text.now new.symbols.dialect (so_far ++ says.Start lexeme ∷ []) new.starts.items
  are-starts starts is firsts =
      subst (λ (ls : List Lexeme). AreStarts new.symbols.text.now new.symbols.dialect (so_far ++ says.Start lexeme ∷ []) ls) (sym is)
      (first-same old.symbols.text.now new.symbols.text.now old.symbols.dialect new.symbols.dialect (start_lexemes so_far ++ lexeme ∷ []) (start_lexemes (so_far ++ says.Start lexeme ∷ [])) starts keeps.text keeps.dialect all-starts firsts)

  -- a start of the old ones, by its number
  old-start : (start : Lexeme) (number : ℕ) → Contains old.starts.items start → number_of old.symbols start ≡ Some number → IsStarted old number
  old-start start number is named = h.each number record { start = start; is = is; named = named }

  added-starts : (number : ℕ) → number_of old.symbols lexeme ≡ Some number → AddsStart lexeme old new number → HasStarts (so_far ++ says.Start lexeme ∷ []) new
  added-starts number named adds = record {
    starts = are-starts (old.starts.items ++ lexeme ∷ []) adds.starts (AreFirst.first lexeme h.starts (λ other is same.
        let there = old-start other number is (ap (number_in old.symbols) same ∙ named) in
        false≢true (sym adds.first ∙ there)));
    known = λ n is. elim (adds.others n is) [
      | inl same ↦ record {
        start = lexeme;
        is = subst (λ (ls : List Lexeme). Contains ls lexeme) (sym adds.starts) (Contains-push old.starts.items lexeme);
        named = number-kept old.symbols new.symbols keeps lexeme n (named ∙ ap Some (sym same));
      }
      | inr was ↦
          let start = h.known n was in
          record {
            start = start.start;
            is = subst (λ (ls : List Lexeme). Contains ls start.start) (sym adds.starts) (Contains-append_left old.starts.items (lexeme ∷ []) start.start start.is);
            named = number-kept old.symbols new.symbols keeps start.start n start.named;
          }
    ];
    each = λ n has.
        let back = number-kept new.symbols old.symbols (names-turned keeps) has.start n has.named in
        elim (Contains-push_cases old.starts.items lexeme has.start (subst (λ (ls : List Lexeme). Contains ls has.start) adds.starts has.is)) [
          | inl is ↦ adds.kept n (old-start has.start n is back)
          | inr same ↦
              let one : number ≡ n = same_Some number n (sym named ∙ ap (number_of old.symbols) same ∙ back) in
              subst (λ (m : ℕ). IsStarted new m) one adds.here
        ];
  }

  starts-again : (number : ℕ) → number_of old.symbols lexeme ≡ Some number → IsStartAgain old new number → HasStarts (so_far ++ says.Start lexeme ∷ []) new
  starts-again number named same =
      let start = h.known number same.is in
      let kept = starts-kept so_far so_far old new keeps same.starts same.started refl h in
      record {
        starts = are-starts old.starts.items (ap (λ list. list.items) same.starts) (AreFirst.again lexeme start.start h.starts start.is (apart (called old.symbols.text.now old.symbols.dialect start.start) (called old.symbols.text.now old.symbols.dialect lexeme) number start.named named));
        known = kept.known;
        each = kept.each;
      }

  start-taken : vec_len new.faults ≡ 0 → TakesStart lexeme old new → HasStarts (so_far ++ says.Start lexeme ∷ []) new
  start-taken none (TakesStart.first number named adds) = added-starts number named adds
  start-taken none (TakesStart.again number named same) = starts-again number named same
  start-taken none (TakesStart.unknown told) = absurd (omega (arith, none, told))

pub takes_start : (lexeme : Lexeme) {old new : Meaning} → KeepsTables old new → KeepsExpected old new → TakesStart lexeme old new → TakesSaid (says.Start lexeme ∷ []) old new
takes_start lexeme {old} {new} keeps expected taken = record {
  faults = keeps.faults;
  said = λ none apart so_far h. record {
    expected = expected-kept so_far (says.Start lexeme) old new keeps.symbols.names expected refl refl refl h.expected;
    starts = start-taken lexeme old new keeps.symbols.names apart so_far h.starts none taken;
  };
}

-- a number is put among those of starts
other-started : (old new : BTreeSet ℕ) (number other : ℕ) (at : Bool) → is_at (nat_cmp number) other ≡ at → contains nat_cmp new other ≡ cond at true (contains nat_cmp old other) → contains nat_cmp new other ≡ true → (other ≡ number) ⊎ (contains nat_cmp old other ≡ true)
other-started old new number other true is e there = inl (sym (same_key number other is))
other-started old new number other false is e there = inr (sym e ∙ there)

still-started : (at was now : Bool) → now ≡ cond at true was → was ≡ true → now ≡ true
still-started true was now e there = e
still-started false was now e there = e ∙ there

pub not-false : (b : Bool) → not b ≡ false → b ≡ true
not-false true e = refl
not-false false e = absurd (false≢true (sym e))

pub not-true : (b : Bool) → not b ≡ true → b ≡ false
not-true true e = absurd (false≢true e)
not-true false e = refl

pub adds-start : (lexeme : Lexeme) (old new : Meaning) (number : ℕ) → Updates nat_cmp old.started new.started number true → contains nat_cmp old.started number ≡ false → new.starts.items ≡ old.starts.items ++ lexeme ∷ [] → AddsStart lexeme old new number
adds-start lexeme old new number updates first starts = record {
  others = λ other there. other-started old.started new.started number other (is_at (nat_cmp number) other) refl (updates.0 other) there;
  kept = λ other there. still-started (is_at (nat_cmp number) other) (contains nat_cmp old.started other) (contains nat_cmp new.started other) (updates.0 other) there;
  here = updates.1;
  first = first;
  starts = starts;
}

-- ---- more declarations

-- one declaration more
pub takes_more_said : (some more : List Statement) (statement : Statement) {old now new : Meaning} → more ≡ some ++ statement ∷ [] → KeepsNames old.symbols now.symbols → TakesSaid some old now → TakesSaid (statement ∷ []) now new → TakesSaid more old new
takes_more_said some more statement {old} {now} {new} is keeps takes one = record {
  faults = omega (arith, takes.faults, one.faults);
  said = λ none apart so_far h.
      let before : vec_len now.faults ≡ 0 = omega (arith, none, one.faults) in
      subst (λ (xs : List Statement). HasSaid (so_far ++ xs) new) (sym is)
      (subst (λ (xs : List Statement). HasSaid xs new) (append_assoc so_far some (statement ∷ [])) (one.said none (apart-kept old.symbols now.symbols keeps apart) (so_far ++ some) (takes.said before apart so_far h)));
}

-- none
pub takes_none_said : (meaning : Meaning) → TakesSaid [] meaning meaning
takes_none_said meaning = record {
  faults = omega arith;
  said = λ none apart so_far h. subst (λ (xs : List Statement). HasSaid xs meaning) (sym (append-nil so_far)) h;
}

-- ---- behind all declarations

-- whether `%expect-rr` is heeded, by what declarations say
heeds-by : (dialect : Dialect) (statements : List Statement) (glr : Bool) → glr ≡ is_generalized statements → can_expect_reductions dialect statements ≡ heeds_reductions dialect glr
heeds-by Bison statements glr is = sym is
heeds-by Grmtools statements glr is = refl

reductions-left : (heeds : Bool) (text : List ℕ) (lexemes : List Lexeme) (was now : Option ℕ) (last : Option Lexeme) → was ≡ last_number text lexemes → last ≡ last_or None lexemes → (heeds ≡ false → (now ≡ None) ⊎ (last ≡ None)) → (heeds ≡ true → now ≡ was) → (last ≡ None → now ≡ was) → now ≡ cond heeds (last_number text lexemes) None
reductions-left true text lexemes was now last is last_is left heeded unsaid = heeded refl ∙ is
reductions-left false text lexemes was now last is last_is left heeded unsaid = elim (left refl) [
  | inl none ↦ none
  | inr none ↦
      unsaid none ∙ is ∙ ap (option_map (λ (number : Lexeme). written_number (text_at text number.span))) (sym last_is ∙ none)
]

pub said-left : (statements : List Statement) (now left : Meaning) → KeepsNames now.symbols left.symbols → LeavesOutReductions now left → HasSaid statements now → AreSaid statements left
said-left statements now left keeps leaves h =
    let heeds : can_expect_reductions left.symbols.dialect statements ≡ heeds_reductions now.symbols.dialect now.is_glr =
    ap (λ (d : Dialect). can_expect_reductions d statements) keeps.dialect ∙ heeds-by now.symbols.dialect statements now.is_glr h.expected.generalized in
    let reductions = reductions-left (heeds_reductions now.symbols.dialect now.is_glr) now.symbols.text.now (reduce_lexemes statements) now.expected.reduce_reduce left.expected.reduce_reduce now.expected_reductions h.expected.reduce_reduce h.expected.last leaves.left_out leaves.heeded leaves.unsaid in
    record {
      expected = record {
        shift_reduce = leaves.shift_reduce ∙ h.expected.shift_reduce ∙ ap (λ (t : List ℕ). last_number t (shift_lexemes statements)) (sym keeps.text);
        reduce_reduce =
            reductions
            ∙ ap (λ (b : Bool). cond b (last_number now.symbols.text.now (reduce_lexemes statements)) None) (sym heeds)
            ∙ ap (λ (t : List ℕ). cond (can_expect_reductions left.symbols.dialect statements) (last_number t (reduce_lexemes statements)) None) (sym keeps.text);
      };
      generalized = leaves.generalized ∙ h.expected.generalized;
      starts =
          subst (λ (ls : List Lexeme). AreStarts left.symbols.text.now left.symbols.dialect statements ls) (sym (ap (λ list. list.items) leaves.starts))
          (first-same now.symbols.text.now left.symbols.text.now now.symbols.dialect left.symbols.dialect (start_lexemes statements) (start_lexemes statements) now.starts.items keeps.text keeps.dialect refl h.starts.starts);
    }

-- nothing is said behind them
pub are_said-kept : (statements : List Statement) (old new : Meaning) → KeepsNames old.symbols new.symbols → KeepsSaid old new → AreSaid statements old → AreSaid statements new
are_said-kept statements old new keeps same h = record {
  expected =
      subst (λ e. AreExpected new.symbols.text.now new.symbols.dialect statements e) (sym same.expected.expected)
      (subst (λ (d : Dialect). AreExpected new.symbols.text.now d statements old.expected) (sym keeps.dialect)
      (subst (λ (t : List ℕ). AreExpected t old.symbols.dialect statements old.expected) (sym keeps.text) h.expected));
  generalized = same.expected.generalized ∙ h.generalized;
  starts =
      subst (λ (ls : List Lexeme). AreStarts new.symbols.text.now new.symbols.dialect statements ls) (sym (ap (λ list. list.items) same.starts))
      (first-same old.symbols.text.now new.symbols.text.now old.symbols.dialect new.symbols.dialect (start_lexemes statements) (start_lexemes statements) old.starts.items keeps.text keeps.dialect refl h.starts);
}

-- what is known of a file whose names have their meaning
pub said-of : (text : List ℕ) (dialect : Dialect) (statements : List Statement) (meaning : Meaning) → meaning.symbols.text.now ≡ text → meaning.symbols.dialect ≡ dialect → AreSaid statements meaning → AreStarts text dialect statements meaning.starts.items × AreExpected text dialect statements meaning.expected
said-of text dialect statements meaning texts dialects h = (
  first-same meaning.symbols.text.now text meaning.symbols.dialect dialect (start_lexemes statements) (start_lexemes statements) meaning.starts.items (sym texts) (sym dialects) refl h.starts,
  subst (λ (d : Dialect). AreExpected text d statements meaning.expected) dialects
      (subst (λ (t : List ℕ). AreExpected t meaning.symbols.dialect statements meaning.expected) texts h.expected),
)

-- at first nothing is
pub no-said : (meaning : Meaning) → meaning.expected.shift_reduce ≡ None → meaning.expected.reduce_reduce ≡ None → meaning.expected_reductions ≡ None → meaning.is_glr ≡ false → meaning.starts.items ≡ [] → meaning.started.keys ≡ [] → HasSaid [] meaning
no-said meaning shift reduce last glr starts keys =
    let empty : (number : ℕ) → contains nat_cmp meaning.started number ≡ false = λ number. ap (list_any (is_at (nat_cmp number))) keys in
    record {
      expected = record { shift_reduce = shift; reduce_reduce = reduce; last = last; generalized = glr };
      starts = record {
        starts = subst (λ (ls : List Lexeme). AreStarts meaning.symbols.text.now meaning.symbols.dialect [] ls) (sym starts) AreFirst.none;
        known = λ number is. absurd (false≢true (sym (empty number) ∙ is));
        each = λ number has.
            let is = subst (λ (ls : List Lexeme). Contains ls has.start) starts has.is in
            let no : is.0 < 0 = is.1 in
            absurd (omega arith);
      };
    }

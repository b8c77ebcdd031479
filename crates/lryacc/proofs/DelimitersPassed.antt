-- delimiters that a reader goes over
use Rattle.std.proofs.Common.{◌≡◌, ℕ, zero, suc, ◌+◌, ◌-◌, ◌<◌, ◌≤◌, inl, inr, arith, add-one, true, false, List, Option, None, Some, refl, subst}
use Rattle.std.specs.Prelude.{IfSome, slice_get}
use Rattle.std.proofs.lemmas.Bool.{cases_lt}
use Rattle.lryacc.specs.declared.lexemes.Lexeme.{Lexeme}
use Rattle.lryacc.specs.declared.lexemes.LexemeKind.{LexemeKind}
use Rattle.lryacc.specs.declared.lexemes.LexemeKind.TheVariants as kind
use Rattle.lryacc.specs.Bodies.{IsRuleBefore, is_rule_name}
use Rattle.lryacc.specs.Delimiters.{delimiter_at, delimiter_of, delimiters_before}

-- with one more lexeme
pub count-next : (lexemes : List Lexeme) (at : ℕ) → delimiters_before lexemes (at + 1) ≡ delimiters_before lexemes at + delimiter_at (slice_get lexemes at)
unfolding delimiters_before
count-next lexemes at = rw add-one refl

pub count-at : (lexemes : List Lexeme) (at next : ℕ) → next ≡ at + 1 → delimiters_before lexemes next ≡ delimiters_before lexemes at + delimiter_at (slice_get lexemes at)
count-at lexemes at next is = rw is (count-next lexemes at)

-- none before the first lexeme
pub count-none : (lexemes : List Lexeme) → delimiters_before lexemes 0 ≡ 0
unfolding delimiters_before
count-none lexemes = refl

-- with more lexemes there are no fewer
pub count-more : (lexemes : List Lexeme) (from more : ℕ) → delimiters_before lexemes from ≤ delimiters_before lexemes (from + more)
count-more lexemes from zero = let e : from + 0 ≡ from = omega arith in rw e (omega arith)
count-more lexemes from (suc more) =
    let e : from + suc more ≡ from + more + 1 = omega arith in
    rw e (omega (arith, count-more lexemes from more, count-next lexemes (from + more)))

pub count-on : (lexemes : List Lexeme) (from to : ℕ) → from ≤ to → delimiters_before lexemes from ≤ delimiters_before lexemes to
count-on lexemes from to on =
    let e : from + (to - from) ≡ to = omega arith in
    subst (λ (n : ℕ). delimiters_before lexemes from ≤ delimiters_before lexemes n) e (count-more lexemes from (to - from))

-- no delimiter stands where none is counted
pub none_between : (lexemes : List Lexeme) (from at to : ℕ) → from ≤ at → at < to → delimiters_before lexemes to ≡ delimiters_before lexemes from → delimiter_at (slice_get lexemes at) ≡ 0
none_between lexemes from at to behind before same =
    let after : at + 1 ≤ to = omega arith in
    omega (arith, count-on lexemes from at behind, count-on lexemes (at + 1) to after, count-next lexemes at)

-- a lexeme that is no delimiter is no name of a rule
no_rule_kind : (k : LexemeKind) → delimiter_of k ≡ 0 → is_rule_name k ≡ false
no_rule_kind kind.RuleName none = cc
no_rule_kind _ none = refl

no_rule_at : (found : Option Lexeme) → delimiter_at found ≡ 0 → IfSome found (λ lexeme. is_rule_name lexeme.kind ≡ false)
no_rule_at None none = tt
no_rule_at (Some lexeme) none = no_rule_kind lexeme.kind none

-- the reader goes on to where no further name of a rule stands before it
rule_on : (lexemes : List Lexeme) (from to : ℕ) (rule : Lexeme) → from ≤ to → ((at : ℕ) → from ≤ at → at < to → IfSome (slice_get lexemes at) (λ lexeme. is_rule_name lexeme.kind ≡ false)) → IsRuleBefore lexemes from rule → IsRuleBefore lexemes to rule
rule_on lexemes from to rule on none old = record {
  place = old.place;
  before = omega (arith, old.before);
  here = old.here;
  is = old.is;
  last = λ between after before.
      elim (cases_lt between from) [ inl nearer ↦ old.last between after nearer | inr behind ↦ none between behind before ];
}

-- it goes over no delimiter
pub rule_over : (lexemes : List Lexeme) (from to : ℕ) (rule : Lexeme) → from ≤ to → delimiters_before lexemes to ≡ delimiters_before lexemes from → IsRuleBefore lexemes from rule → IsRuleBefore lexemes to rule
rule_over lexemes from to rule on same old =
    rule_on lexemes from to rule on (λ at behind before. no_rule_at (slice_get lexemes at) (none_between lexemes from at to behind before same)) old

-- it goes over one lexeme that is no name of a rule
pub rule_behind : (lexemes : List Lexeme) (at : ℕ) (rule lexeme : Lexeme) → slice_get lexemes at ≡ Some lexeme → is_rule_name lexeme.kind ≡ false → IsRuleBefore lexemes at rule → IsRuleBefore lexemes (at + 1) rule
rule_behind lexemes at rule lexeme here none old =
    rule_on lexemes at (at + 1) rule (omega arith)
    (λ k behind before.
    let same : k ≡ at = omega arith in
    rw same (rw here none)) old

-- it goes over the name
pub rule_named : (lexemes : List Lexeme) (at : ℕ) (rule : Lexeme) → slice_get lexemes at ≡ Some rule → is_rule_name rule.kind ≡ true → IsRuleBefore lexemes (at + 1) rule
rule_named lexemes at rule here is = record {
  place = at;
  before = omega arith;
  here = here;
  is = is;
  last = λ between after before. absurd (omega arith);
}

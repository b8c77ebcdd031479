use Rattle.std.proofs.Common.{◌≡◌, ℕ, ◌+◌, ◌-◌, ◌<◌, ◌++◌, List, [], ◌∷◌, All, Contains, Option, Some, None, Vec, Global, length, get_or, inl, inr, sym, ◌∙◌, subst, ap, arith, rules}
use Rattle.std.proofs.lemmas.Bool.{cases_lt}
use Rattle.std.proofs.lemmas.List.Elements.{All-push, Contains-append_left, Contains-push}
use Rattle.std.proofs.lemmas.Option.{get_or_from_slice_get, same_Some, slice_get-get_or, slice_get_within}
use Rattle.std.specs.Prelude.{slice_get}
use Rattle.lryacc.specs.declared.parsers.Dynamic.{Dynamic}
use Rattle.lryacc.specs.declared.lexemes.Lexeme.{Lexeme}
use Rattle.lryacc.specs.Parsers.{IsRead, IsDynamic, StandsAmong}
use Rattle.lryacc.proofs.parsers.dynamics.Goals as goal
use Rattle.lryacc.proofs.parsers.dynamics.Goals.{in-Some+in_ok-push, in_default}

-- what a lexeme and the one behind it say stands among the lexemes
among : (text : List ℕ) (lexemes : List Lexeme) (at : ℕ) (one other : Lexeme) (dynamic : Dynamic) → 0 < at → at < length lexemes → IsDynamic text (get_or lexemes (at - 1) one) (get_or lexemes at other) dynamic → StandsAmong text lexemes dynamic
among text lexemes at one other dynamic some inside is =
    let behind : at - 1 + 1 ≡ at = omega arith in
    record {
      at = at - 1;
      directive = get_or lexemes (at - 1) one;
      behind = get_or lexemes at other;
      here = slice_get-get_or lexemes (at - 1) one (omega arith);
      next = ap (slice_get lexemes) behind ∙ slice_get-get_or lexemes at other inside;
      is = is;
    }

-- all that lexemes say up to one of them is there, and so is what that and the one behind it say
more : (text : List ℕ) (lexemes : List Lexeme) (at : ℕ) (one other : Lexeme) (said : Option Dynamic) (before now : List Dynamic) → ((dynamic : Dynamic) → IsDynamic text (get_or lexemes (at - 1) one) (get_or lexemes at other) dynamic → IsRead text (get_or lexemes at other) dynamic.kind → said ≡ Some dynamic) → ((dynamic : Dynamic) → Contains before dynamic → Contains now dynamic) → ((dynamic : Dynamic) → said ≡ Some dynamic → Contains now dynamic) → ((dynamic : Dynamic) (stands : StandsAmong text lexemes dynamic) → stands.at + 1 < at → IsRead text stands.behind dynamic.kind → Contains before dynamic) → (dynamic : Dynamic) (stands : StandsAmong text lexemes dynamic) → stands.at + 1 < at + 1 → IsRead text stands.behind dynamic.kind → Contains now dynamic
more text lexemes at one other said before now only kept new so_far dynamic stands early read = elim (cases_lt (stands.at + 1) at) [
  | inl earlier ↦ kept dynamic (so_far dynamic stands earlier read)
  | inr here ↦
      let first_at : at - 1 ≡ stands.at = omega arith in
      let second_at : at ≡ stands.at + 1 = omega arith in
      let first : get_or lexemes (at - 1) one ≡ stands.directive = get_or_from_slice_get lexemes (at - 1) stands.directive one (ap (slice_get lexemes) first_at ∙ stands.here) in
      let second : get_or lexemes at other ≡ stands.behind = get_or_from_slice_get lexemes at stands.behind other (ap (slice_get lexemes) second_at ∙ stands.next) in
      let is =
      subst (λ (directive : Lexeme). IsDynamic text directive (get_or lexemes at other) dynamic) (sym first)
      (subst (λ (behind : Lexeme). IsDynamic text stands.directive behind dynamic) (sym second) stands.is) in
      new dynamic (only dynamic is (subst (λ (behind : Lexeme). IsRead text behind dynamic.kind) (sym second) read))
]

pub loop-at-init : goal.loop-at-init
loop-at-init c = record {
  among = search rules;
  each = λ dynamic stands early read. absurd (omega (arith, early));
}

pub loop-at-preserved : goal.loop-at-preserved
loop-at-preserved c =
    let text = c.args.text.now in
    let lexemes = c.args.lexemes.now in
    let before = c.loop-at.list.items in
    let old = c.loop-at.invariant in
    elim c.match-said_by.branch [
      | in-Some+in_ok-push w ↦
          let one = among text lexemes c.loop-at.at _ _ w.in-Some.dynamic (omega arith) (omega arith) w.in-Some.ensures.is in
          let pushed = ap (λ (list : Vec Dynamic Global). list.items) w.list-is ∙ w.in_ok-push.ensures.items in
          record {
            among =
                subst (All (StandsAmong text lexemes)) (sym pushed)
                (All-push (StandsAmong text lexemes) before w.in-Some.dynamic old.among one);
            each =
                more text lexemes c.loop-at.at _ _ c.said_by.result before c.match-said_by.list.items c.said_by.ensures.only
                (λ dynamic there. subst (λ (xs : List Dynamic). Contains xs dynamic) (sym pushed) (Contains-append_left before (w.in-Some.dynamic ∷ []) dynamic there))
                (λ dynamic said. subst (λ (xs : List Dynamic). Contains xs dynamic) (sym pushed) (subst (Contains (before ++ w.in-Some.dynamic ∷ [])) (same_Some w.in-Some.dynamic dynamic (sym w.in-Some.is ∙ said)) (Contains-push before w.in-Some.dynamic)))
                old.each;
          }
      | in_default w ↦
          let same = ap (λ (list : Vec Dynamic Global). list.items) w.list-is in
          record {
            among = subst (All (StandsAmong text lexemes)) (sym same) old.among;
            each =
                more text lexemes c.loop-at.at _ _ c.said_by.result before c.match-said_by.list.items c.said_by.ensures.only
                (λ dynamic there. subst (λ (xs : List Dynamic). Contains xs dynamic) (sym same) there)
                (λ dynamic said. let no : None ≡ Some dynamic = sym w.in_default.is ∙ said in absurd (cc))
                old.each;
          }
    ]

pub returns : goal.returns
returns c = record {
  among = c.loop-at.invariant.among;
  each = λ dynamic stands read. c.loop-at.invariant.each dynamic stands (let inside = slice_get_within c.args.lexemes.now (stands.at + 1) stands.behind stands.next in omega arith) read;
}

use Rattle.std.proofs.Common.{rules, ◌≡◌, true, false, Option, None, Some, refl, sym, ap, ◌∙◌}
use Rattle.std.specs.Option.{MatchOption, is_some}
use denote.Enum.Bare.{same_true, sameb}
use Rattle.lrspec.specs.tables.Machine as math
use Rattle.lrspec.specs.tables.LrTables.{HasNoPrecedences, ListsNothing}
use Rattle.lrspec.proofs.tables.NoPrecedences.{no_precedences}
use Rattle.lrtable.specs.contracts.machine.runs.Verdict.{the_type}
use Rattle.lrtable.specs.declared.machine.runs.Verdict.{Verdict}
use Rattle.lrtable.specs.declared.machine.runs.Verdict.TheVariants.{Accepted, Rejected, Unfinished}
use Rattle.lrtable.specs.RunAnswers.{text_of, verdict_of}
use Rattle.lrexamples.proofs.sentences.is_sentence.Goals as goal
use Rattle.lrexamples.proofs.sentences.is_sentence.Goals.{then-has_precedences-via-then-has_precedences, then-has_precedences-via-else-has_precedences+then-is_some}

-- what holds where there is none
at_none : {X : Type 0} (o : Option X) (P : Type 0) (Q : X → Type 0) → is_some o ≡ false → MatchOption o P Q → P
at_none None P Q e k = k
at_none (Some x) P Q e k = cc

-- what holds where there is one
at_some : {X : Type 0} (o : Option X) (P Q : Type 0) → is_some o ≡ true → MatchOption o P (λ x. Q) → Q
at_some None P Q e k = cc
at_some (Some x) P Q e k = k

-- a verdict as plain data
told : (v : Verdict) → verdict_of v ≡ math.Accepted → v ≡ Accepted
told Accepted e = refl
told Rejected e = cc
told Unfinished e = cc

pub returns-clause-unambiguous : goal.returns-clause-unambiguous
returns-clause-unambiguous g c accepted =
    let plain : HasNoPrecedences c.args.grm.now = (no_precedences c.args.grm.now).1 (λ some. let k = c.has_precedences.ensures.1 some in cc) in
    let nothing : ListsNothing c.in_ok-table.table = at_none c.conflicts.result _ _ (sym c.is_some.ensures ∙ c.if-is_some.false) c.conflicts.ensures.none in
    (c.in_ok-answer.ensures.recognises plain nothing).one_tree

pub returns-clause-sentence : goal.returns-clause-sentence
returns-clause-sentence g c accepted =
    let verdict : c.in_ok-answer.answer.verdict ≡ Accepted = same_true the_type (search rules) _ _ (sym c.eq.ensures ∙ accepted) in
    (c.in_ok-answer.ensures.sound (ap verdict_of verdict)).0

-- it has a precedence, or the table lists a conflict
pub returns-then-has_precedences-clause-seen : goal.returns-then-has_precedences-clause-seen
returns-then-has_precedences-clause-seen g c plain uncontested s l =
    elim c.then-has_precedences.branch [
      | then-has_precedences-via-then-has_precedences w ↦
          absurd ((no_precedences c.args.grm.now).0 plain (c.has_precedences.ensures.0 w.if-has_precedences.true))
      | then-has_precedences-via-else-has_precedences+then-is_some w ↦
          absurd (at_some w.conflicts.result _ _ (sym w.is_some.ensures ∙ w.if-is_some.true) w.conflicts.ensures.none
          ((c.in_ok-table.ensures.headline.exact plain).1 uncontested))
    ]

pub returns-clause-seen : goal.returns-clause-seen
returns-clause-seen g c plain uncontested s l =
    let nothing : ListsNothing c.in_ok-table.table = at_none c.conflicts.result _ _ (sym c.is_some.ensures ∙ c.if-is_some.false) c.conflicts.ensures.none in
    let text = text_of g.T.IndexStorage.number c.args.text.now in
    let by = (c.in_ok-answer.ensures.recognises plain nothing).complete c.args.steps text s l in
    let same : verdict_of c.in_ok-answer.answer.verdict ≡ (math.run c.args.grm.now c.in_ok-table.table c.args.steps text).verdict =
    ap (λ a. a.verdict) c.in_ok-answer.ensures.answer in
    let verdict : c.in_ok-answer.answer.verdict ≡ Accepted = told c.in_ok-answer.answer.verdict (same ∙ by.verdict) in
    c.eq.ensures ∙ ap (λ v. sameb the_type v Accepted) verdict

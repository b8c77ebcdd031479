use Rattle.std.proofs.Common.{◌≡◌, ◌<◌, ℕ, List, true, length, rules, arith, string_bytes, Option, None, Some, Result, Ok, Err, IfOk, sym, subst}
use Rattle.std.specs.Prelude.{IfNone, IfSome}
use Rattle.lryacc.specs.declared.faults.Fault.{Fault}
use Rattle.lrreport.specs.declared.options.Options.{Options}
use Rattle.lrreport.specs.declared.reports.Conclusion.{Conclusion}
use Rattle.lrreport.specs.declared.reports.Report.{Report}
use Rattle.lrreport.specs.ToldFaults as told
use Rattle.lrreport.specs.ToldFaults.{is_lines, TellsFaults, TellsRefusal, TellsWhy}
use Rattle.lrreport.proofs.reports.report_on.Goals as goal

pub returns-in-Ok-clause-proved : goal.returns-in-Ok-clause-proved
returns-in-Ok-clause-proved c = rw c.report.ensures.concluded c.in-Ok.ensures.proved

pub returns-in-Ok-clause-told : goal.returns-in-Ok-clause-told
returns-in-Ok-clause-told c = rw (c.report.ensures.concluded, c.report.ensures.text) (rw c.in_ok-source.ensures.name at c.in-Ok.ensures.told)

pub returns-in-Ok-clause-said : goal.returns-in-Ok-clause-said
returns-in-Ok-clause-said c =
    rw c.report.ensures.concluded
    record {
      expected = c.in-Grammar.expected;
      parser = c.in-Grammar.parser;
      warnings = c.in-Grammar.warnings;
      read = rw c.in-Grammar.is at c.in_ok-file.ensures.bodies;
      beside = c.in-Ok.ensures.expected;
      unlost = c.in-Ok.ensures.unlost;
      untold = c.in-Ok.ensures.untold;
      unkept = c.in-Ok.ensures.unkept;
    }

pub returns-in-Ok-clause-status : goal.returns-in-Ok-clause-status
returns-in-Ok-clause-status c = rw c.report.ensures.concluded c.report.ensures.status

pub returns-in-Ok-clause-unread : goal.returns-in-Ok-clause-unread
returns-in-Ok-clause-unread c = λ other. rw c.report.ensures.concluded tt

pub returns-in-Ok-clause-why : goal.returns-in-Ok-clause-why
returns-in-Ok-clause-why c = λ other lines. rw c.report.ensures.concluded tt

-- where nothing is concluded, all is so that is asked of a conclusion
of_none : {E : Type 0} (P : Report → Conclusion → Type 0) (r : Result Report E) → IfOk r (λ x. x.conclusion ≡ None) → IfOk r (λ x. IfSome x.conclusion (P x))
of_none P (Ok x) none = subst (λ o. IfSome o (P x)) (sym none) tt
of_none P (Err e) none = tt

if_none : {X : Type 0} (o : Option X) (P : Type 0) → P → IfNone o P
if_none None P is = is
if_none (Some x) P is = tt

-- what is so in any case is so where nothing is concluded
of_unread : {E : Type 0} (P : Type 0) (Q : Report → Type 0) (r : Result Report E) → IfOk r Q → IfOk r (λ x. P → IfNone x.conclusion (Q x))
of_unread P Q (Ok x) is = λ other. if_none x.conclusion (Q x) is
of_unread P Q (Err e) is = tt

-- what is asked of other options only
of_others : {E P : Type 0} (Q : Report → Type 0) (r : Result Report E) → ¬ P → IfOk r (λ x. P → Q x)
of_others Q (Ok x) not_so = λ p. absurd (not_so p)
of_others Q (Err e) not_so = tt

-- lines that tell faults tell why
by_faults :
    {E : Type 0} (P : Type 0) (options : Options) (name bytes : List ℕ) (faults : List Fault) (r : Result Report E) → 0 < length faults
    → (is_lines options.output ≡ true → IfOk r (λ x. TellsFaults options name bytes faults (string_bytes x.text)))
    → IfOk r (λ x. P → is_lines options.output ≡ true → IfNone x.conclusion (TellsWhy options name bytes (string_bytes x.text)))
by_faults P options name bytes faults (Ok x) some tells = λ other lines. if_none x.conclusion _ (told.TellsWhy.faults faults some (tells lines))
by_faults P options name bytes faults (Err e) some tells = tt

-- and so does one that tells what stands against the grammar
by_refusal :
    {E : Type 0} (P : Type 0) (options : Options) (name bytes : List ℕ) (r : Result Report E)
    → (is_lines options.output ≡ true → IfOk r (λ x. TellsRefusal name (string_bytes x.text)))
    → IfOk r (λ x. P → is_lines options.output ≡ true → IfNone x.conclusion (TellsWhy options name bytes (string_bytes x.text)))
by_refusal P options name bytes (Ok x) tells = λ other lines. if_none x.conclusion _ (told.TellsWhy.refusal (tells lines))
by_refusal P options name bytes (Err e) tells = tt

pub returns-in-Faults : goal.returns-in-Faults
returns-in-Faults c =
    let none = c.report_on_faults.ensures.conclusion in
    record {
      proved = of_none _ c.report_on_faults.result none;
      said = of_none _ c.report_on_faults.result none;
      status = of_none _ c.report_on_faults.result none;
      told = of_none _ c.report_on_faults.result none;
      unread = of_unread _ _ c.report_on_faults.result c.report_on_faults.ensures.status;
      why =
          by_faults _ _ _ _ c.in-Faults.faults.items c.report_on_faults.result
          (omega (arith, rw c.in-Faults.is at c.in_ok-file.ensures.faults, c.in-Faults.faults.ok.0))
          (rw (c.in_ok-source.ensures.name, c.in_ok-source.ensures.bytes, c.as_slice.ensures.value) at c.report_on_faults.ensures.told);
    }

pub returns-then-eq : goal.returns-then-eq
returns-then-eq c =
    let none = c.report_of_grammar.ensures in
    record {
      proved = of_none _ c.report_of_grammar.result none;
      said = of_none _ c.report_of_grammar.result none;
      status = of_none _ c.report_of_grammar.result none;
      told = of_none _ c.report_of_grammar.result none;
      unread = of_others _ c.report_of_grammar.result (λ other. other (search rules));
      why = of_others _ c.report_of_grammar.result (λ other. other (search rules));
    }

pub returns : goal.returns
returns c =
    let none = c.report_on_refusal.ensures.conclusion in
    record {
      proved = of_none _ c.report_on_refusal.result none;
      said = of_none _ c.report_on_refusal.result none;
      status = of_none _ c.report_on_refusal.result none;
      told = of_none _ c.report_on_refusal.result none;
      unread = of_unread _ _ c.report_on_refusal.result c.report_on_refusal.ensures.status;
      why = by_refusal _ _ _ _ c.report_on_refusal.result (rw c.in_ok-source.ensures.name at c.report_on_refusal.ensures.told);
    }

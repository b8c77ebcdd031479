use Rattle.std.proofs.Common.{◌≡◌, ◌≤◌, Bool, true, false, not, length, take, refl, sym, ap, ◌∙◌, arith}
use Rattle.std.proofs.lemmas.List.{length-map}
use Rattle.lrgrammar.specs.Symbols.{symbol_of}
use Rattle.lrspec.specs.grammars.Grammar.{body_of, IsProductionOf}
use Rattle.lrspec.proofs.grammars.BodyFacts.{rule_unique, below_of_production}
use Rattle.lrambiguity.proofs.SymbolTests.{lists_equal, equal_tested}
use Rattle.lrambiguity.proofs.NestingSteps.{begun, first_same}
use Rattle.lrambiguity.proofs.nesting.pass.Goals as goal
use Rattle.lrambiguity.proofs.nesting.pass.Goals.{then-from-via-then-from, then-from-via-else-from+then-ne}

-- what is not false is true
not_false : (b : Bool) → not b ≡ false → b ≡ true
not_false true e = refl
not_false false e = cc

pub returns-then-from-clause-none : goal.returns-then-from-clause-none
returns-then-from-clause-none g c = λ behind left told enters.
    let number = g.T.IndexStorage.number in
    let law = g.met.T.IndexStorage in
    let p = number c.args.item.0.0 in
    elim c.then-from.branch [
      | then-from-via-then-from w ↦
          let there = below_of_production c.args.grm.now p enters.rule enters.of_rule in
          omega (arith, there, w.if-from.true, c.from.ensures, c.from-2.ensures, c.prods_len.ensures.value)
      | then-from-via-else-from+then-ne w ↦
          let rule = w.prod_to_rule.result.0 in
          let wanted = c.in_ok-rule.rule.0 in
          let (z, first) = rw c.in_ok-rule.was at told in
          let one = rule_unique c.args.grm.now p enters.rule (number rule) enters.of_rule w.prod_to_rule.ensures.rule in
          let both = sym enters.is_rule ∙ first in
          let same : number rule ≡ number wanted = cc in
          let yes = (law.same rule wanted).1 same in
          let no : true ≡ false = sym w.if-ne.true ∙ (w.ne.ensures ∙ ap not yes) in
          cc
    ]

pub returns-in_err-left-clause-none : goal.returns-in_err-left-clause-none
returns-in_err-left-clause-none g c =
    rw c.from_residual-in_err-left.ensures (λ behind left told enters.
    let number = g.T.IndexStorage.number in
    let law = g.met.T.IndexStorage in
    let list = c.args.list.now in
    let body = c.prod-body.result.now in
    let start = c.in_ok-start.start.now in
    let dot = number c.args.item.1.0 in
    let front : start ≡ take dot body = c.in_ok-start.ensures.lookup.0.2 ∙ ap (λ n. take n body) (omega (arith, c.from-dot.ensures)) in
    let same = first_same number list body start dot (body_of c.args.grm.now (number c.args.item.0.0)) left c.prod-body.ensures.body front enters.begins in
    let no : false ≡ true =
    equal_tested number g.T.PartialEq.eq law.same law.injective _
    (record { rules = λ r s. refl; rule_token = λ r t. refl; token_rule = λ t r. refl; tokens = λ t u. refl }) (take (length start) list) start false (sym c.in_err-left.ensures.cases)
    same in
    cc)

pub returns-clause-some : goal.returns-clause-some
returns-clause-some g c =
    let number = g.T.IndexStorage.number in
    let law = g.met.T.IndexStorage in
    let list = c.args.list.now in
    let left = c.in_ok-left.left.now in
    let body = c.prod-body.result.now in
    let start = c.in_ok-start.start.now in
    let p = number c.args.item.0.0 in
    let dot = number c.args.item.1.0 in
    let rule = c.prod_to_rule.result.0 in
    let wanted = c.in_ok-rule.rule.0 in
    let yes = not_false (g.T.PartialEq.eq rule wanted) (sym c.ne.ensures ∙ c.if-ne.false) in
    let one : number rule ≡ number wanted = (law.same rule wanted).0 yes in
    let of_rule : IsProductionOf c.args.grm.now p (number wanted) = rw one at c.prod_to_rule.ensures.rule in
    let found = c.in_ok-start.ensures.lookup in
    let front : start ≡ take dot body = found.0.2 ∙ ap (λ n. take n body) (omega (arith, c.from-dot.ensures)) in
    let within : dot ≤ length (body_of c.args.grm.now p) = omega (arith, found.0.1, c.from-dot.ensures, ap length c.prod-body.ensures.body, length-map body (symbol_of number)) in
    let same =
    lists_equal number g.T.PartialEq.eq law.same law.injective _
    (record { rules = λ r s. refl; rule_token = λ r t. refl; token_rule = λ t r. refl; tokens = λ t u. refl }) (take (length start) list) start (sym c.in_ok-left.ensures.cases.0) in
    let begins = begun number list body start left dot (body_of c.args.grm.now p) c.prod-body.ensures.body front same c.in_ok-left.ensures.cases.1 in
    record {
      enters = λ behind told.
          let (z, first) = rw c.in_ok-rule.was at told in
          record { rule = number wanted; others = z; is_rule = first; of_rule = of_rule; within = within; begins = begins };
      told = rw (c.prod-body.ensures.body, c.from-dot.ensures) at c.rule_behind.ensures;
    }

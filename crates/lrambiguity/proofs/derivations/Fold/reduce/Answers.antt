use Rattle.std.proofs.Common.{◌≡◌, ◌-◌, [], ◌∷◌, ◌++◌, length, map, take, sym, ap, ◌∙◌, refl, arith}
use Rattle.lrgrammar.specs.declared.idx.Symbol.TheVariants as code
use Rattle.lrgrammar.specs.Symbols.{symbol_of}
use Rattle.lrambiguity.proofs.SymbolTests.{list_ends, end_tested}
use Rattle.lrambiguity.proofs.FoldSteps.{reduce_folds, no_production, no_body}
use Rattle.lrambiguity.proofs.derivations.Fold.reduce.Goals as goal

pub returns-clause-made : goal.returns-clause-made
returns-clause-made g c = λ _ symbols.
    let number = g.T.IndexStorage.number in
    let law = g.met.T.IndexStorage in
    let stack = c.args.self.now.stack in
    let body = c.prod-body.result.now in
    let front = take (length stack.items - length body) stack.items in
    let ends =
    list_ends number g.T.PartialEq.eq law.same law.injective _
    (record { rules = λ r s. refl; rule_token = λ r t. refl; token_rule = λ t r. refl; tokens = λ t u. refl }) c.deref.result.now body c.if-not-ends_with.ensures.value in
    let split : stack.items ≡ front ++ body = rw c.deref.ensures.value at ends in
    let kept : c.truncate.new.self.items ≡ front = c.truncate.ensures.items ∙ ap (λ n. take n stack.items) (omega (arith, c.len.ensures, stack.ok.0)) in
    reduce_folds number c.args.grm.now symbols c.args.self.now (record { stack = c.push.new.self; used = c.args.self.now.used }) (number c.args.pidx.0) c.prod_to_rule.result body front c.prod-body.ensures.body c.prod_to_rule.ensures.rule
    split refl (c.in_ok-push.ensures.items ∙ ap (λ l. l ++ code.Rule c.prod_to_rule.result ∷ []) kept)

pub returns-then-from-clause-stuck : goal.returns-then-from-clause-stuck
returns-then-from-clause-stuck g c = λ _ symbols.
    let number = g.T.IndexStorage.number in
    no_production number c.args.grm.now symbols c.args.self.now (number c.args.pidx.0)
    (omega (arith, c.if-from.true, c.from.ensures, c.from-2.ensures, c.prods_len.ensures.value))

pub returns-then-not-ends_with-clause-stuck : goal.returns-then-not-ends_with-clause-stuck
returns-then-not-ends_with-clause-stuck g c = λ _ symbols.
    let number = g.T.IndexStorage.number in
    let law = g.met.T.IndexStorage in
    no_body number c.args.grm.now symbols c.args.self.now (number c.args.pidx.0)
    (λ front e.
    let split = ap (map (symbol_of number)) c.deref.ensures.value ∙ (e ∙ ap (λ l. front ++ l) (sym c.prod-body.ensures.body)) in
    let ends =
    end_tested number g.T.PartialEq.eq law.same law.injective _
    (record { rules = λ r s. refl; rule_token = λ r t. refl; token_rule = λ t r. refl; tokens = λ t u. refl }) c.deref.result.now c.prod-body.result.now c.ends_with.result front
    c.ends_with.ensures.value split in
    let no = c.if-not-ends_with.true in
    cc)

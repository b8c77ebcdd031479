use Rattle.std.proofs.Common.{◌≡◌, ℕ, ◌-◌, ◌∷◌, ◌++◌, [], ◌<◌, length, take, map, refl, ap, ◌∙◌, subst, arith}
use Rattle.std.specs.Option.{option_map}
use Rattle.std.proofs.lemmas.List.{length-reverse, length-map}
use Rattle.lrgrammar.specs.declared.idx.PIdx.{PIdx}
use Rattle.lrgrammar.specs.declared.idx.StIdx.{StIdx}
use Rattle.lrspec.specs.grammars.Grammar.{body_of}
use Rattle.lrtable.specs.WorkingMachine.{stack_of}
use Rattle.lrtable.proofs.MachineSteps.{goto_here, reduction_made}
use Rattle.lrgrammar.specs.Symbols.{number_of}
use Rattle.lrcharts.specs.Machines.{left_of}
use Rattle.lrcharts.proofs.machine.Machine.reduce.Goals as goal

pub returns-clause-step : goal.returns-clause-step
returns-clause-step c = λ done text rs.
    let of_state : StIdx ℕ → ℕ = λ s. number_of s.0 in
    let of_production : PIdx ℕ → ℕ = λ q. number_of q.0 in
    let g = c.args.grm.now in
    let b = c.args.table.now in
    let xs = c.args.self.now.stack.items in
    let p : ℕ = number_of c.args.production.0 in
    let size : ℕ = length (body_of g p) in
    let count : c.from-count.result ≡ size = c.from-count.ensures ∙ c.prod_len.ensures in
    let n : c.len-2.result - c.from-count.result ≡ length xs - size = omega (arith, count, c.len-2.ensures) in
    let kept : c.truncate.new.self.items ≡ take (length xs - size) xs = subst (λ i. c.truncate.new.self.items ≡ take i xs) n c.truncate.ensures.items in
    let deep : size < length (stack_of number_of xs) =
    omega (arith, count, c.len.ensures, c.if-len-count.false, length-reverse (map of_state xs), length-map xs of_state) in
    let left : 0 < length c.truncate.new.self.items = omega (arith, c.truncate.ensures.len, c.len-2.ensures, c.len.ensures, c.if-len-count.false) in
    let here = goto_here g b of_state xs c.truncate.new.self.items p (number_of c.top.result.0) (number_of c.prod_to_rule.result.0)
    (option_map of_state c.goto.result) deep c.goto.ensures.edge (c.top.ensures left) kept c.prod_to_rule.ensures.rule in
    let target = here ∙ ap (option_map of_state) c.in-Some.is in
    let there : p < length g.productions = omega (arith, c.if-from.false, c.from.ensures, c.from-2.ensures, c.prods_len.ensures.value) in
    reduction_made g b of_state of_production xs c.push.new.self.items c.in-Some.state rs (rs ++ c.args.production ∷ []) c.args.production
    (left_of c.args.self.now text) (record { production = there; deep = deep; goto = (of_state c.in-Some.state, target) }) target
    (subst (λ l. c.push.new.self.items ≡ l ++ c.in-Some.state ∷ []) kept c.in_ok-push.ensures.items) refl

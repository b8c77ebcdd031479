use Rattle.std.proofs.Common.{◌≡◌, ◌-◌, ◌∷◌, ◌++◌, [], length, take, refl, sym, ap, ◌∙◌, subst, arith}
use Rattle.std.specs.Option.{option_map}
use Rattle.lrspec.specs.grammars.Grammar.{body_of}
use Rattle.lrtable.proofs.MachineSteps.{goto_here, reduction_made, there_by_number}
use Rattle.lrlosses.specs.Walks.{left_of}
use Rattle.lrlosses.proofs.walks.Walk.reduce.Goals as goal

pub unwrap-stidx-requires : goal.unwrap-stidx-requires
unwrap-stidx-requires g c =
    let number = g.T.IndexStorage.number in
    let grm = c.args.grm.now in
    let table = c.args.table.now in
    let xs = c.args.self.now.stack.items in
    let p = number c.args.pidx.0 in
    let n : c.len.result - c.from.result ≡ length xs - length (body_of grm p) =
    omega (arith, c.len.ensures, c.args.self.now.stack.ok.0, c.from.ensures, c.prod_len.ensures) in
    let kept : c.truncate.new.self.items ≡ take (length xs - length (body_of grm p)) xs = subst (λ i. c.truncate.new.self.items ≡ take i xs) n c.truncate.ensures.items in
    let here = goto_here grm table (λ s. number s.0) xs c.truncate.new.self.items p (number c.top.result.0)
    (number c.prod_to_rule.result.0) (option_map (λ s. number s.0) c.goto.result) c.requires.deep c.goto.ensures.edge c.top.ensures kept c.prod_to_rule.ensures.rule in
    there_by_number (λ s. number s.0) c.goto.result c.requires.goto.0 (sym here ∙ c.requires.goto.1)

pub returns-clause-step : goal.returns-clause-step
returns-clause-step g c text rs =
    let number = g.T.IndexStorage.number in
    let grm = c.args.grm.now in
    let table = c.args.table.now in
    let xs = c.args.self.now.stack.items in
    let p = number c.args.pidx.0 in
    let n : c.len.result - c.from.result ≡ length xs - length (body_of grm p) =
    omega (arith, c.len.ensures, c.args.self.now.stack.ok.0, c.from.ensures, c.prod_len.ensures) in
    let kept : c.truncate.new.self.items ≡ take (length xs - length (body_of grm p)) xs = subst (λ i. c.truncate.new.self.items ≡ take i xs) n c.truncate.ensures.items in
    let here = goto_here grm table (λ s. number s.0) xs c.truncate.new.self.items p (number c.top.result.0)
    (number c.prod_to_rule.result.0) (option_map (λ s. number s.0) c.goto.result) c.requires.deep c.goto.ensures.edge c.top.ensures kept c.prod_to_rule.ensures.rule in
    reduction_made grm table (λ s. number s.0) (λ q. number q.0) xs c.push.new.self.items c.unwrap-stidx.result rs
    (rs ++ c.args.pidx ∷ []) c.args.pidx (left_of number c.args.self.now text) c.requires (here ∙ ap (option_map (λ s. number s.0)) c.unwrap-stidx.ensures)
    (subst (λ l. c.push.new.self.items ≡ l ++ c.unwrap-stidx.result ∷ []) kept c.in_ok-push.ensures.items) refl

use Rattle.std.proofs.Common.{map, ap, ◌∙◌, sym}
use Rattle.std.specs.Prelude.{Contains, ◌==◌}
use Rattle.std.specs.List.{position_or_len}
use Rattle.std.specs.List.Sorted.{IsStrictlyIncreasing}
use Rattle.lrspec.specs.grammars.Grammar.{productions_of}
use Rattle.lrspec.proofs.grammars.BodyFacts.{rule_of_production}
use Rattle.lrtable.proofs.SearchedPlaces.{found, place_searched, productions_upwards, among_productions}
use Rattle.lrtable.proofs.machine.answers.place_in_rule.Goals as goal

pub unwrap-requires : goal.unwrap-requires
unwrap-requires g c =
    let number = g.T.IndexStorage.number in
    let n = number c.args.pidx.0 in
    let r = number c.prod_to_rule.result.0 in
    let prods = c.rule_to_prods-prods.result.now in
    let same = c.rule_to_prods-prods.ensures.prods in
    let up : IsStrictlyIncreasing (map (λ p. number p.0) prods) = rw same (productions_upwards c.args.grm.now r) in
    let there : Contains (map (λ p. number p.0) prods) n = rw same (among_productions c.args.grm.now n r c.requires c.prod_to_rule.ensures.rule) in
    found (λ p. g.T.Ord.cmp p.0 c.args.pidx.0) (λ p. number p.0) n (λ p. g.met.T.IndexStorage.ordered p.0 c.args.pidx.0) prods up c.binary_search.result c.binary_search.ensures.position there

pub returns : goal.returns
returns g c =
    let number = g.T.IndexStorage.number in
    let m = c.args.grm.now in
    let n = number c.args.pidx.0 in
    let r = number c.prod_to_rule.result.0 in
    let prods = c.rule_to_prods-prods.result.now in
    let same = c.rule_to_prods-prods.ensures.prods in
    let up : IsStrictlyIncreasing (map (λ p. number p.0) prods) = rw same (productions_upwards m r) in
    let place = place_searched (λ p. g.T.Ord.cmp p.0 c.args.pidx.0) (λ p. number p.0) n (λ p. g.met.T.IndexStorage.ordered p.0 c.args.pidx.0) prods up c.binary_search.result c.unwrap.result c.unwrap.ensures c.binary_search.ensures.position c.binary_search.ensures.bound in
    sym place ∙ ap (λ ps. position_or_len (λ q. q == n) ps) same ∙ ap (λ s. position_or_len (λ q. q == n) (productions_of m s)) (sym (rule_of_production m n r c.prod_to_rule.ensures.rule))

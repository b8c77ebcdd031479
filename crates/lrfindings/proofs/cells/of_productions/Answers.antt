use Rattle.std.proofs.Common.{◌≡◌, length, map, subst, arith}
use Rattle.std.specs.List.{range_with_len}
use Rattle.std.specs.Option.{option_map}
use Rattle.lrspec.specs.grammars.Grammar.{production_precedence}
use Rattle.lrtext.specs.StoredParts.{precedence_of}
use Rattle.lrfindings.proofs.StoredPrecedences.{one_more_listed, production_listed}
use Rattle.lrfindings.proofs.cells.of_productions.Goals as goal

pub loop-production-preserved : goal.loop-production-preserved
loop-production-preserved c =
    one_more_listed (production_precedence c.args.grm.now) _ _ _ _ _ (rw c.unwrap.ensures at c.from_usize.ensures).1 c.prod_precedence.ensures c.in_ok-push.ensures.items
    c.loop-production.invariant

pub returns : goal.returns
returns c =
    let all : c.loop-production.production ≡ length c.args.grm.now.productions = omega (arith, c.loop-production-test.false, c.loop-production.auto.production-end, c.from-production-end.ensures, c.prods_len.ensures.value) in
    production_listed c.args.grm.now _
    (subst (λ n. map (option_map precedence_of) c.loop-production.precedences.items ≡ map (production_precedence c.args.grm.now) (range_with_len 0 n)) all c.loop-production.invariant)

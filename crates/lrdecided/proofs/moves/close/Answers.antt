-- the items before the rule
use Rattle.std.proofs.Common.{sym, subst, arith}
use Rattle.lrsearches.specs.StoredUses.{AreUses}
use Rattle.lrsearches.proofs.UsesInTurn.{row_of_rule}
use Rattle.lrgrammar.specs.Symbols.{number_of}
use Rattle.lrdecided.specs.StoredNodes.{node_of}
use Rattle.lrdecided.proofs.FoundMoves.{closes}
use Rattle.lrdecided.proofs.moves.close.Goals as goal

pub outsides-requires : goal.outsides-requires
outsides-requires c =
    row_of_rule number_of c.args.grm.now c.as_slice-uses.result.now c.from-place.result c.prod_to_rule-rule.result.0 c.index-uses-place.result c.as_slice-row.result.now
    c.as_slice-row.ensures.value c.index-uses-place.is c.from-place.ensures
    (subst (λ us. AreUses number_of c.args.grm.now us) (sym c.as_slice-uses.ensures.value) c.requires.uses)

pub returns : goal.returns
returns c =
    closes c.args.grm.now c.args.graph.now (node_of c.args.node.now) c.prod_to_rule-rule.result.0 _ (omega arith) (λ e. absurd (omega (arith, e)))
    c.prod_to_rule-rule.ensures.rule c.in_ok-moves.ensures

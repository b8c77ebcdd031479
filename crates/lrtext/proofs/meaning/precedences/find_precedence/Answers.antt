use Rattle.lrtext.proofs.LevelFacts.{precedence_found, precedence_missing}
use Rattle.lrtext.proofs.meaning.precedences.find_precedence.Goals as goal

-- the name has a precedence
pub returns-then-place-leveled : goal.returns-then-place-leveled
returns-then-place-leveled c = precedence_found c.args.leveled.now c.args.numbers.now c.args.name.now c.place-place.result _ c.requires c.place-place.ensures c.if-place-leveled.true

-- it has none
pub returns : goal.returns
returns c = precedence_missing c.args.leveled.now c.args.numbers.now c.args.name.now c.place-place.result c.requires c.place-place.ensures c.if-place-leveled.false

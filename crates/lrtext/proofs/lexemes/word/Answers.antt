use Rattle.std.proofs.Common.{codes}
use Rattle.lrspec.specs.texts.Lexemes as lexemes
use Rattle.lrtext.proofs.FrontFacts.{word_in_front, separator_in_front, not_in_table, unknown_word_unfit, lone_percent_unfit}
use Rattle.lrtext.proofs.lexemes.word.Goals as goal

pub returns-in-start : goal.returns-in-start
returns-in-start c = let s = c.split_run.ensures in word_in_front _ _ _ (codes "start") _ s.whole s.stops c.in-start.is (λ r h. lexemes.Spells.start h)

pub returns-in-token : goal.returns-in-token
returns-in-token c = let s = c.split_run.ensures in word_in_front _ _ _ (codes "token") _ s.whole s.stops c.in-token.is (λ r h. lexemes.Spells.token h)

pub returns-in-left : goal.returns-in-left
returns-in-left c = let s = c.split_run.ensures in word_in_front _ _ _ (codes "left") _ s.whole s.stops c.in-left.is (λ r h. lexemes.Spells.left h)

pub returns-in-right : goal.returns-in-right
returns-in-right c = let s = c.split_run.ensures in word_in_front _ _ _ (codes "right") _ s.whole s.stops c.in-right.is (λ r h. lexemes.Spells.right h)

pub returns-in-nonassoc : goal.returns-in-nonassoc
returns-in-nonassoc c = let s = c.split_run.ensures in word_in_front _ _ _ (codes "nonassoc") _ s.whole s.stops c.in-nonassoc.is (λ r h. lexemes.Spells.nonassoc h)

pub returns-in-prec : goal.returns-in-prec
returns-in-prec c = let s = c.split_run.ensures in word_in_front _ _ _ (codes "prec") _ s.whole s.stops c.in-prec.is (λ r h. lexemes.Spells.precedence h)

pub returns-in-Some : goal.returns-in-Some
returns-in-Some c = separator_in_front _ _ _ _ c.split_run.ensures.whole c.in-empty.is c.in-Some.ensures.some

pub returns-in_default : goal.returns-in_default
returns-in_default c = let s = c.split_run.ensures in let d = c.in_default in unknown_word_unfit _ _ _ s.whole s.all s.stops d.not-empty (not_in_table _ d.not-start d.not-token d.not-left d.not-right d.not-nonassoc d.not-prec)

pub returns-in-None : goal.returns-in-None
returns-in-None c = let s = c.split_run.ensures in lone_percent_unfit _ _ _ s.whole s.all s.stops c.in-empty.is c.in-None.ensures.none

-- by what stands at the place
use Rattle.std.proofs.Common.{refl, ap, sym}
use Rattle.lrspec.specs.grammars.Grammar.{Rule}
use Rattle.lrgrammar.specs.declared.idx.Symbol.TheVariants as code
use Rattle.lrgrammar.specs.Symbols.{symbol_of, number_of}
use Rattle.lrexchange.proofs.Tests.{test_fails}
use Rattle.lrkept.proofs.AlonePairs.{element, alone_there, none_at_token, none_before, none_behind}
use Rattle.lrkept.proofs.alone.alone_at.Goals as goal

pub returns-in_default-clause-none : goal.returns-in_default-clause-none
returns-in_default-clause-none c =
    let x = code.Token c.in_default.field-0 in
    none_at_token (symbol_of number_of) c.args.grm.now c.args.body.now c.args.place x c.requires.within
    (element c.args.body.now c.args.place _ x c.requires.within c.in_default.is) c.in_default.field-0.0 refl

pub returns-then-not-are_nullable-clause-none : goal.returns-then-not-are_nullable-clause-none
returns-then-not-are_nullable-clause-none c =
    let x = code.Rule c.in-Rule.ridx in
    none_before (symbol_of number_of) c.args.grm.now c.args.body.now c.args.place x c.requires.within
    (element c.args.body.now c.args.place _ x c.requires.within c.in-Rule.is)
    (test_fails c.are_nullable.result c.are_nullable.ensures c.if-not-are_nullable.true)

pub returns-then-not-are_nullable-2-clause-none : goal.returns-then-not-are_nullable-2-clause-none
returns-then-not-are_nullable-2-clause-none c =
    let x = code.Rule c.in-Rule.ridx in
    none_behind (symbol_of number_of) c.args.grm.now c.args.body.now c.args.place x c.requires.within
    (element c.args.body.now c.args.place _ x c.requires.within c.in-Rule.is)
    (test_fails c.are_nullable-2.result c.are_nullable-2.ensures c.if-not-are_nullable-2.true)

pub returns-clause-some : goal.returns-clause-some
returns-clause-some c =
    let x = code.Rule c.in-Rule.ridx in
    alone_there (symbol_of number_of) c.args.grm.now c.args.body.now c.args.place x c.requires.within
    (element c.args.body.now c.args.place _ x c.requires.within c.in-Rule.is) c.from.result (ap Rule (sym c.from.ensures))
    (c.are_nullable.ensures.0 c.if-not-are_nullable.false) (c.are_nullable-2.ensures.0 c.if-not-are_nullable-2.false)

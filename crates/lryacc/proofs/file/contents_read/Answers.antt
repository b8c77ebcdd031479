use Rattle.std.proofs.Common.{◌≡◌, ℕ, [], arith, true, vec_len}
use Rattle.std.specs.Prelude.{◌==◌}
use Rattle.lryacc.proofs.AliasesTaken.{no-aliases}
use Rattle.lryacc.proofs.LinesHeld.{no-lines}
use Rattle.lryacc.proofs.NamesOfOne.{apart-kept, partnered-none}
use Rattle.lryacc.proofs.file.contents_read.Goals as goal

no-fault : (n : ℕ) → true ≡ (n == 0) → n ≡ 0
no-fault n is = grind arith

pub useful_read-requires-clause-apart : goal.useful_read-requires-clause-apart
useful_read-requires-clause-apart c =
    apart-kept c.in_ok-meaning.meaning.symbols c.take.new.self.symbols c.in_ok-take.ensures.taken.names c.in_ok-meaning.ensures.apart

pub useful_read-requires-clause-partnered : goal.useful_read-requires-clause-partnered
useful_read-requires-clause-partnered c =
    let statements = c.args.contents.now.statements.items in
    c.in_ok-take.ensures.taken.partnered (partnered-none statements c.in_ok-meaning.meaning.symbols c.in_ok-meaning.ensures.single)

pub useful_read-requires-clause-lines : goal.useful_read-requires-clause-lines
useful_read-requires-clause-lines c =
    let new = c.in_ok-meaning.ensures in
    c.in_ok-take.ensures.lines.lines [] (no-lines c.in_ok-meaning.meaning new.levels new.lines new.has_default)

pub useful_read-requires-clause-said : goal.useful_read-requires-clause-said
useful_read-requires-clause-said c =
    let new = c.in_ok-meaning.ensures in
    let none = no-fault (vec_len c.take.new.self.faults) c.if-not-is_empty.ensures in
    c.in_ok-take.ensures.said none new.apart new.said

pub useful_read-requires-clause-aliases : goal.useful_read-requires-clause-aliases
useful_read-requires-clause-aliases c =
    c.in_ok-take.ensures.aliases.settled [] (no-aliases c.in_ok-meaning.meaning)

use Rattle.std.proofs.Common.{◌≡◌, List, [], ap, arith, subst, vec_len}
use Rattle.std.specs.declared.alloc.Global.{Global}
use Rattle.std.specs.declared.vec.Vec.{Vec}
use Rattle.lryacc.specs.declared.contents.Statement.{Statement}
use Rattle.lryacc.specs.declared.faults.Fault.{Fault}
use Rattle.lryacc.specs.Aliases.{TakesAliases}
use Rattle.lryacc.specs.EndTokens.{TakesEnd}
use Rattle.lryacc.specs.LinesTaken.{TakesLines}
use Rattle.lryacc.specs.NamedSymbols.{TakesSome}
use Rattle.lryacc.specs.SaidTaken.{TakesSaid}
use Rattle.lryacc.proofs.AliasesTaken.{takes_aliases_rest}
use Rattle.lryacc.proofs.EndsTaken.{end-found, end-kept, lines-again, meaning-again, said-again, tables, tables-again, takes_end_rest}
use Rattle.lryacc.proofs.LinesHeld.{takes_lines_rest}
use Rattle.lryacc.proofs.NamesOfOne.{kept-again, ok-then, takes_rest}
use Rattle.lryacc.proofs.SaidHeld.{are_said-kept, said-left}
use Rattle.lryacc.proofs.meaning.Meaning.take.Goals as goal

pub returns-in-Bison-clause-taken : goal.returns-in-Bison-clause-taken
returns-in-Bison-clause-taken c =
    let some = subst (λ (xs : List Statement). TakesSome xs c.args.self.now.symbols c.take_statements.new.self.symbols) c.as_slice.ensures.value c.in_ok-take_statements.ensures.taken in
    let told = kept-again c.in_ok-warn_of_bodies.ensures.symbols (kept-again c.find_end.ensures.symbols (kept-again c.in_ok-tell_symbols.ensures.symbols c.in_ok-tell_starts.ensures.symbols)) in
    takes_rest some (kept-again c.in_ok-leave_out_reductions.ensures.keeps.symbols told)

pub returns-in-Bison-clause-end : goal.returns-in-Bison-clause-end
returns-in-Bison-clause-end c =
    let all = c.args.contents.now.statements.items in
    let some = subst (λ (xs : List Statement). TakesEnd xs c.args.self.now c.take_statements.new.self) c.as_slice.ensures.value c.in_ok-take_statements.ensures.end in
    let before = takes_end_rest all some (tables-again c.in_ok-leave_out_reductions.ensures.keeps (tables c.in_ok-warn_of_bodies.ensures)) in
    let found = end-found all c.args.self.now c.warn_of_bodies.new.self c.find_end.new.self before c.requires c.find_end.ensures.symbols.names c.find_end.ensures.end c.find_end.ensures.faults in
    end-kept all (meaning-again c.in_ok-tell_symbols.ensures c.in_ok-tell_starts.ensures) found

pub returns-in-Grmtools-clause-taken : goal.returns-in-Grmtools-clause-taken
returns-in-Grmtools-clause-taken c =
    let some = subst (λ (xs : List Statement). TakesSome xs c.args.self.now.symbols c.take_statements.new.self.symbols) c.as_slice.ensures.value c.in_ok-take_statements.ensures.taken in
    let told = kept-again c.in_ok-warn_of_bodies.ensures.symbols (kept-again c.find_end.ensures.symbols (kept-again c.in_ok-tell_symbols.ensures.symbols c.in_ok-tell_starts.ensures.symbols)) in
    ok-then c.tell_unknown.result
    (λ unknown. takes_rest some (kept-again c.in_ok-leave_out_reductions.ensures.keeps.symbols (kept-again told unknown.symbols)))
    c.tell_unknown.ensures

pub returns-in-Grmtools-clause-end : goal.returns-in-Grmtools-clause-end
returns-in-Grmtools-clause-end c =
    let all = c.args.contents.now.statements.items in
    let some = subst (λ (xs : List Statement). TakesEnd xs c.args.self.now c.take_statements.new.self) c.as_slice.ensures.value c.in_ok-take_statements.ensures.end in
    let before = takes_end_rest all some (tables-again c.in_ok-leave_out_reductions.ensures.keeps (tables c.in_ok-warn_of_bodies.ensures)) in
    let found = end-found all c.args.self.now c.warn_of_bodies.new.self c.find_end.new.self before c.requires c.find_end.ensures.symbols.names c.find_end.ensures.end c.find_end.ensures.faults in
    let told = meaning-again c.in_ok-tell_symbols.ensures c.in_ok-tell_starts.ensures in
    ok-then c.tell_unknown.result (λ unknown. end-kept all (meaning-again told unknown) found) c.tell_unknown.ensures

pub returns-in-Bison-clause-lines : goal.returns-in-Bison-clause-lines
returns-in-Bison-clause-lines c =
    let all = c.args.contents.now.statements.items in
    let some = subst (λ (xs : List Statement). TakesLines xs c.args.self.now c.take_statements.new.self) c.as_slice.ensures.value c.in_ok-take_statements.ensures.lines in
    let before = tables-again c.in_ok-leave_out_reductions.ensures.keeps (tables c.in_ok-warn_of_bodies.ensures) in
    let told = meaning-again c.in_ok-tell_symbols.ensures c.in_ok-tell_starts.ensures in
    let found = c.find_end.ensures in
    let names = kept-again before.symbols (kept-again found.symbols told.symbols) in
    let lines = lines-again before.lines (lines-again found.lines told.lines) in
    takes_lines_rest all some names.names lines

pub returns-in-Grmtools-clause-lines : goal.returns-in-Grmtools-clause-lines
returns-in-Grmtools-clause-lines c =
    let all = c.args.contents.now.statements.items in
    let some = subst (λ (xs : List Statement). TakesLines xs c.args.self.now c.take_statements.new.self) c.as_slice.ensures.value c.in_ok-take_statements.ensures.lines in
    let before = tables-again c.in_ok-leave_out_reductions.ensures.keeps (tables c.in_ok-warn_of_bodies.ensures) in
    let told = meaning-again c.in_ok-tell_symbols.ensures c.in_ok-tell_starts.ensures in
    let found = c.find_end.ensures in
    let names = kept-again before.symbols (kept-again found.symbols told.symbols) in
    let lines = lines-again before.lines (lines-again found.lines told.lines) in
    ok-then c.tell_unknown.result
    (λ unknown. let kept = kept-again names unknown.symbols in takes_lines_rest all some kept.names (lines-again lines unknown.lines))
    c.tell_unknown.ensures

pub returns-in-Bison-clause-said : goal.returns-in-Bison-clause-said
returns-in-Bison-clause-said c = λ none apart start.
    let all = c.args.contents.now.statements.items in
    let some = subst (λ (xs : List Statement). TakesSaid xs c.args.self.now c.take_statements.new.self) c.as_slice.ensures.value c.in_ok-take_statements.ensures.said in
    let left = c.in_ok-leave_out_reductions.ensures in
    let before = c.in_ok-warn_of_bodies.ensures in
    let found = c.find_end.ensures in
    let told = meaning-again c.in_ok-tell_symbols.ensures c.in_ok-tell_starts.ensures in
    let same = ap (λ faults. vec_len faults) found.faults in
    let early : vec_len c.take_statements.new.self.faults ≡ 0 = omega (arith, none, left.keeps.faults, before.faults, same, told.faults) in
    let names = kept-again before.symbols (kept-again found.symbols told.symbols) in
    are_said-kept all c.leave_out_reductions.new.self c.tell_starts.new.self names.names (said-again before.said (said-again found.said told.said))
    (said-left all c.take_statements.new.self c.leave_out_reductions.new.self left.keeps.symbols.names left.left_out (some.said early apart [] start))

pub returns-in-Grmtools-clause-said : goal.returns-in-Grmtools-clause-said
returns-in-Grmtools-clause-said c =
    let all = c.args.contents.now.statements.items in
    let some = subst (λ (xs : List Statement). TakesSaid xs c.args.self.now c.take_statements.new.self) c.as_slice.ensures.value c.in_ok-take_statements.ensures.said in
    let left = c.in_ok-leave_out_reductions.ensures in
    let before = c.in_ok-warn_of_bodies.ensures in
    let found = c.find_end.ensures in
    let told = meaning-again c.in_ok-tell_symbols.ensures c.in_ok-tell_starts.ensures in
    let same = ap (λ faults. vec_len faults) found.faults in
    ok-then c.tell_unknown.result
    (λ unknown none apart start.
    let last = meaning-again told unknown in
    let early : vec_len c.take_statements.new.self.faults ≡ 0 = omega (arith, none, left.keeps.faults, before.faults, same, last.faults) in
    let names = kept-again before.symbols (kept-again found.symbols last.symbols) in
    are_said-kept all c.leave_out_reductions.new.self c.tell_unknown.new.self names.names (said-again before.said (said-again found.said last.said))
    (said-left all c.take_statements.new.self c.leave_out_reductions.new.self left.keeps.symbols.names left.left_out (some.said early apart [] start)))
    c.tell_unknown.ensures

pub returns-in-Bison-clause-aliases : goal.returns-in-Bison-clause-aliases
returns-in-Bison-clause-aliases c =
    let all = c.args.contents.now.statements.items in
    let some = subst (λ (xs : List Statement). TakesAliases xs c.args.self.now c.take_statements.new.self) c.as_slice.ensures.value c.in_ok-take_statements.ensures.aliases in
    let before = tables-again c.in_ok-leave_out_reductions.ensures.keeps (tables c.in_ok-warn_of_bodies.ensures) in
    let told = meaning-again c.in_ok-tell_symbols.ensures c.in_ok-tell_starts.ensures in
    let found = c.find_end.ensures in
    let names = kept-again before.symbols (kept-again found.symbols told.symbols) in
    let same = ap (λ (faults : Vec Fault Global). vec_len faults) found.faults in
    takes_aliases_rest all some names (omega (arith, before.faults, same, told.faults))

pub returns-in-Grmtools-clause-aliases : goal.returns-in-Grmtools-clause-aliases
returns-in-Grmtools-clause-aliases c =
    let all = c.args.contents.now.statements.items in
    let some = subst (λ (xs : List Statement). TakesAliases xs c.args.self.now c.take_statements.new.self) c.as_slice.ensures.value c.in_ok-take_statements.ensures.aliases in
    let before = tables-again c.in_ok-leave_out_reductions.ensures.keeps (tables c.in_ok-warn_of_bodies.ensures) in
    let told = meaning-again c.in_ok-tell_symbols.ensures c.in_ok-tell_starts.ensures in
    let found = c.find_end.ensures in
    let names = kept-again before.symbols (kept-again found.symbols told.symbols) in
    let same = ap (λ (faults : Vec Fault Global). vec_len faults) found.faults in
    ok-then c.tell_unknown.result
    (λ unknown. takes_aliases_rest all some (kept-again names unknown.symbols) (omega (arith, before.faults, same, told.faults, unknown.faults)))
    c.tell_unknown.ensures

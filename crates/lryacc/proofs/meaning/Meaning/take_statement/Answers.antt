use Rattle.std.proofs.Common.{◌≡◌, [], ◌∷◌, ap, arith, false, true, inl, inr, refl, subst, sym}
use Rattle.lryacc.specs.declared.contents.Statement.{Statement}
use Rattle.lryacc.specs.declared.meaning.Meaning.{Meaning}
use Rattle.lryacc.specs.Aliases.{TakesAliases}
use Rattle.lryacc.specs.LinesTaken.{TakesLines}
use Rattle.lryacc.proofs.AliasesTaken.{is_alias, takes_no_alias}
use Rattle.lryacc.proofs.LinesHeld.{begins, decides, puts, takes_default, takes_in_line, takes_level, takes_no_line}
use Rattle.lryacc.specs.SaidTaken.{TakesSaid}
use Rattle.lryacc.proofs.EndsTaken.{is_code, takes_no_end}
use Rattle.lryacc.proofs.NamesOfOne.{ok-both, ok-then, takes_other}
use Rattle.lryacc.proofs.SaidHeld.{ok-three, speaks, takes_glr, takes_reduce_by, takes_shift_by, takes_start, takes_unsaid}
use Rattle.lryacc.proofs.meaning.Meaning.take_statement.Goals as goal

pub returns-in-Token-clause-taken : goal.returns-in-Token-clause-taken
returns-in-Token-clause-taken c = ok-then c.declare.result (λ keeps. takes_other _ keeps.symbols) c.declare.ensures

pub returns-in-Token-clause-end : goal.returns-in-Token-clause-end
returns-in-Token-clause-end c = ok-then c.declare.result (λ keeps. takes_no_end _ (ap is_code c.in-Token.is) keeps.end keeps.faults) c.declare.ensures

pub returns-in-Rule-clause-taken : goal.returns-in-Rule-clause-taken
returns-in-Rule-clause-taken c = ok-then c.declare-in-Rule.result (λ keeps. takes_other _ keeps.symbols) c.declare-in-Rule.ensures

pub returns-in-Rule-clause-end : goal.returns-in-Rule-clause-end
returns-in-Rule-clause-end c = ok-then c.declare-in-Rule.result (λ keeps. takes_no_end _ (ap is_code c.in-Rule.is) keeps.end keeps.faults) c.declare-in-Rule.ensures

pub returns-in_ok-push-in-Level-clause-taken : goal.returns-in_ok-push-in-Level-clause-taken
returns-in_ok-push-in-Level-clause-taken c = takes_other _ record { names = record { text = refl; dialect = refl; words = refl; characters = refl }; partners = refl }

pub returns-in_ok-push-in-Level-clause-end : goal.returns-in_ok-push-in-Level-clause-end
returns-in_ok-push-in-Level-clause-end c = takes_no_end _ (ap is_code c.in-Level.is) refl (omega arith)

pub returns-in-InLevel-clause-taken : goal.returns-in-InLevel-clause-taken
returns-in-InLevel-clause-taken c = ok-then c.take_in_level.result (λ keeps. takes_other _ keeps.symbols) c.take_in_level.ensures.keeps

pub returns-in-InLevel-clause-end : goal.returns-in-InLevel-clause-end
returns-in-InLevel-clause-end c = ok-then c.take_in_level.result (λ keeps. takes_no_end _ (ap is_code c.in-InLevel.is) keeps.end keeps.faults) c.take_in_level.ensures.keeps

pub returns-in-Tagged-clause-taken : goal.returns-in-Tagged-clause-taken
returns-in-Tagged-clause-taken c = ok-then c.take_tag.result (λ keeps. takes_other _ keeps.symbols) c.take_tag.ensures

pub returns-in-Tagged-clause-end : goal.returns-in-Tagged-clause-end
returns-in-Tagged-clause-end c = ok-then c.take_tag.result (λ keeps. takes_no_end _ (ap is_code c.in-Tagged.is) keeps.end keeps.faults) c.take_tag.ensures

pub returns-in-LeftSide-clause-taken : goal.returns-in-LeftSide-clause-taken
returns-in-LeftSide-clause-taken c = ok-then c.take_class.result (λ keeps. takes_other _ keeps.symbols) c.take_class.ensures

pub returns-in-LeftSide-clause-end : goal.returns-in-LeftSide-clause-end
returns-in-LeftSide-clause-end c = ok-then c.take_class.result (λ keeps. takes_no_end _ (ap is_code c.in-LeftSide.is) keeps.end keeps.faults) c.take_class.ensures

pub returns-in-NamedPrecedence-clause-taken : goal.returns-in-NamedPrecedence-clause-taken
returns-in-NamedPrecedence-clause-taken c = ok-then c.take_class-in-NamedPrecedence.result (λ keeps. takes_other _ keeps.symbols) c.take_class-in-NamedPrecedence.ensures

pub returns-in-NamedPrecedence-clause-end : goal.returns-in-NamedPrecedence-clause-end
returns-in-NamedPrecedence-clause-end c = ok-then c.take_class-in-NamedPrecedence.result (λ keeps. takes_no_end _ (ap is_code c.in-NamedPrecedence.is) keeps.end keeps.faults) c.take_class-in-NamedPrecedence.ensures

pub returns-in-Start-clause-taken : goal.returns-in-Start-clause-taken
returns-in-Start-clause-taken c = ok-then c.take_start.result (λ keeps. takes_other _ keeps.symbols) c.take_start.ensures.keeps

pub returns-in-Start-clause-end : goal.returns-in-Start-clause-end
returns-in-Start-clause-end c = ok-then c.take_start.result (λ keeps. takes_no_end _ (ap is_code c.in-Start.is) keeps.end keeps.faults) c.take_start.ensures.keeps

pub returns-in-Code-clause-taken : goal.returns-in-Code-clause-taken
returns-in-Code-clause-taken c = ok-then c.take_code.result (λ keeps. takes_other _ keeps) c.take_code.ensures.symbols

pub returns-in_ok-self-in-ExpectShiftReduce-clause-taken : goal.returns-in_ok-self-in-ExpectShiftReduce-clause-taken
returns-in_ok-self-in-ExpectShiftReduce-clause-taken c = takes_other _ c.in_ok-self-in-ExpectShiftReduce.ensures.keeps.symbols

pub returns-in_ok-self-in-ExpectShiftReduce-clause-end : goal.returns-in_ok-self-in-ExpectShiftReduce-clause-end
returns-in_ok-self-in-ExpectShiftReduce-clause-end c =
    let keeps = c.in_ok-self-in-ExpectShiftReduce.ensures.keeps in
    takes_no_end _ (ap is_code c.in-ExpectShiftReduce.is) keeps.end keeps.faults

pub returns-in_ok-self-in-ExpectReduceReduce-clause-taken : goal.returns-in_ok-self-in-ExpectReduceReduce-clause-taken
returns-in_ok-self-in-ExpectReduceReduce-clause-taken c = takes_other _ c.in_ok-self-in-ExpectReduceReduce.ensures.keeps.symbols

pub returns-in_ok-self-in-ExpectReduceReduce-clause-end : goal.returns-in_ok-self-in-ExpectReduceReduce-clause-end
returns-in_ok-self-in-ExpectReduceReduce-clause-end c =
    let keeps = c.in_ok-self-in-ExpectReduceReduce.ensures.keeps in
    takes_no_end _ (ap is_code c.in-ExpectReduceReduce.is) keeps.end keeps.faults

pub returns-in-Token-clause-lines : goal.returns-in-Token-clause-lines
returns-in-Token-clause-lines c = ok-then c.declare.result (λ keeps. takes_no_line _ (ap begins c.in-Token.is) (ap puts c.in-Token.is) (ap decides c.in-Token.is) keeps.symbols.names keeps.lines) c.declare.ensures

pub returns-in-Rule-clause-lines : goal.returns-in-Rule-clause-lines
returns-in-Rule-clause-lines c = ok-then c.declare-in-Rule.result (λ keeps. takes_no_line _ (ap begins c.in-Rule.is) (ap puts c.in-Rule.is) (ap decides c.in-Rule.is) keeps.symbols.names keeps.lines) c.declare-in-Rule.ensures

pub returns-in-Tagged-clause-lines : goal.returns-in-Tagged-clause-lines
returns-in-Tagged-clause-lines c = ok-then c.take_tag.result (λ keeps. takes_no_line _ (ap begins c.in-Tagged.is) (ap puts c.in-Tagged.is) (ap decides c.in-Tagged.is) keeps.symbols.names keeps.lines) c.take_tag.ensures

pub returns-in-LeftSide-clause-lines : goal.returns-in-LeftSide-clause-lines
returns-in-LeftSide-clause-lines c = ok-then c.take_class.result (λ keeps. takes_no_line _ (ap begins c.in-LeftSide.is) (ap puts c.in-LeftSide.is) (ap decides c.in-LeftSide.is) keeps.symbols.names keeps.lines) c.take_class.ensures

pub returns-in-NamedPrecedence-clause-lines : goal.returns-in-NamedPrecedence-clause-lines
returns-in-NamedPrecedence-clause-lines c = ok-then c.take_class-in-NamedPrecedence.result (λ keeps. takes_no_line _ (ap begins c.in-NamedPrecedence.is) (ap puts c.in-NamedPrecedence.is) (ap decides c.in-NamedPrecedence.is) keeps.symbols.names keeps.lines) c.take_class-in-NamedPrecedence.ensures

pub returns-in-Start-clause-lines : goal.returns-in-Start-clause-lines
returns-in-Start-clause-lines c = ok-then c.take_start.result (λ keeps. takes_no_line _ (ap begins c.in-Start.is) (ap puts c.in-Start.is) (ap decides c.in-Start.is) keeps.symbols.names keeps.lines) c.take_start.ensures.keeps

pub returns-in-Code-clause-lines : goal.returns-in-Code-clause-lines
returns-in-Code-clause-lines c =
    ok-both c.take_code.result (λ symbols lines. takes_no_line _ (ap begins c.in-Code.is) (ap puts c.in-Code.is) (ap decides c.in-Code.is) symbols.names lines) c.take_code.ensures.symbols c.take_code.ensures.lines

pub returns-in-Alias-clause-lines : goal.returns-in-Alias-clause-lines
returns-in-Alias-clause-lines c =
    ok-both c.take_alias.result (λ taken lines. takes_no_line _ (ap begins c.in-Alias.is) (ap puts c.in-Alias.is) (ap decides c.in-Alias.is) taken.names lines) c.take_alias.ensures.taken c.take_alias.ensures.lines

pub returns-in_ok-self-in-ExpectShiftReduce-clause-lines : goal.returns-in_ok-self-in-ExpectShiftReduce-clause-lines
returns-in_ok-self-in-ExpectShiftReduce-clause-lines c =
    let keeps = c.in_ok-self-in-ExpectShiftReduce.ensures.keeps in
    takes_no_line _ (ap begins c.in-ExpectShiftReduce.is) (ap puts c.in-ExpectShiftReduce.is) (ap decides c.in-ExpectShiftReduce.is) keeps.symbols.names record { has_default = keeps.lines.has_default; levels = keeps.lines.levels; lines = keeps.lines.lines }

pub returns-in_ok-self-in-ExpectReduceReduce-clause-lines : goal.returns-in_ok-self-in-ExpectReduceReduce-clause-lines
returns-in_ok-self-in-ExpectReduceReduce-clause-lines c =
    let keeps = c.in_ok-self-in-ExpectReduceReduce.ensures.keeps in
    takes_no_line _ (ap begins c.in-ExpectReduceReduce.is) (ap puts c.in-ExpectReduceReduce.is) (ap decides c.in-ExpectReduceReduce.is) keeps.symbols.names record { has_default = keeps.lines.has_default; levels = keeps.lines.levels; lines = keeps.lines.lines }

pub returns-in_ok-push-in-Level-clause-lines : goal.returns-in_ok-push-in-Level-clause-lines
returns-in_ok-push-in-Level-clause-lines c =
    let old = c.args.self.now in
    let new : Meaning = record old { levels = c.push.new.self } in
    subst (λ (s : Statement). TakesLines (s ∷ []) old new) (sym c.in-Level.is)
    (takes_level c.in-Level.kind record { text = refl; dialect = refl; words = refl; characters = refl } record { levels = c.in_ok-push-in-Level.ensures.items; lines = refl; has_default = refl })

pub returns-in-InLevel-clause-lines : goal.returns-in-InLevel-clause-lines
returns-in-InLevel-clause-lines c =
    let old = c.args.self.now in
    let new = c.take_in_level.new.self in
    ok-both c.take_in_level.result
    (λ keeps here. subst (λ (s : Statement). TakesLines (s ∷ []) old new) (sym c.in-InLevel.is) (takes_in_line c.in-InLevel.symbol keeps.symbols.names here))
    c.take_in_level.ensures.keeps c.take_in_level.ensures.puts

pub returns-in-DefaultPrecedence-clause-lines : goal.returns-in-DefaultPrecedence-clause-lines
returns-in-DefaultPrecedence-clause-lines c =
    let old = c.args.self.now in
    let new : Meaning = record old { has_default_precedence = c.in-DefaultPrecedence.is_on } in
    subst (λ (s : Statement). TakesLines (s ∷ []) old new) (sym c.in-DefaultPrecedence.is)
    (takes_default c.in-DefaultPrecedence.is_on record { text = refl; dialect = refl; words = refl; characters = refl } refl refl refl)

pub returns-in-Glr-clause-lines : goal.returns-in-Glr-clause-lines
returns-in-Glr-clause-lines c =
    takes_no_line _ (ap begins c.in-Glr.is) (ap puts c.in-Glr.is) (ap decides c.in-Glr.is)
    record { text = refl; dialect = refl; words = refl; characters = refl }
    record { has_default = refl; levels = refl; lines = refl }

pub returns-in-Mention-clause-lines : goal.returns-in-Mention-clause-lines
returns-in-Mention-clause-lines c =
    let no_level : begins c.args.statement ≡ false = elim c.in-Mention.is [ inl h ↦ ap begins h.1 | inr h ↦ ap begins h.1 ] in
    let no_symbol : puts c.args.statement ≡ false = elim c.in-Mention.is [ inl h ↦ ap puts h.1 | inr h ↦ ap puts h.1 ] in
    let no_decision : decides c.args.statement ≡ false = elim c.in-Mention.is [ inl h ↦ ap decides h.1 | inr h ↦ ap decides h.1 ] in
    takes_no_line _ no_level no_symbol no_decision
    record { text = refl; dialect = refl; words = refl; characters = refl }
    record { has_default = refl; levels = refl; lines = refl }

pub returns-in-Token-clause-said : goal.returns-in-Token-clause-said
returns-in-Token-clause-said c = ok-then c.declare.result (λ keeps. takes_unsaid _ (ap speaks c.in-Token.is) keeps.symbols.names keeps.said keeps.faults) c.declare.ensures

pub returns-in-Rule-clause-said : goal.returns-in-Rule-clause-said
returns-in-Rule-clause-said c = ok-then c.declare-in-Rule.result (λ keeps. takes_unsaid _ (ap speaks c.in-Rule.is) keeps.symbols.names keeps.said keeps.faults) c.declare-in-Rule.ensures

pub returns-in-Tagged-clause-said : goal.returns-in-Tagged-clause-said
returns-in-Tagged-clause-said c = ok-then c.take_tag.result (λ keeps. takes_unsaid _ (ap speaks c.in-Tagged.is) keeps.symbols.names keeps.said keeps.faults) c.take_tag.ensures

pub returns-in-LeftSide-clause-said : goal.returns-in-LeftSide-clause-said
returns-in-LeftSide-clause-said c = ok-then c.take_class.result (λ keeps. takes_unsaid _ (ap speaks c.in-LeftSide.is) keeps.symbols.names keeps.said keeps.faults) c.take_class.ensures

pub returns-in-NamedPrecedence-clause-said : goal.returns-in-NamedPrecedence-clause-said
returns-in-NamedPrecedence-clause-said c = ok-then c.take_class-in-NamedPrecedence.result (λ keeps. takes_unsaid _ (ap speaks c.in-NamedPrecedence.is) keeps.symbols.names keeps.said keeps.faults) c.take_class-in-NamedPrecedence.ensures

pub returns-in_ok-push-in-Level-clause-said : goal.returns-in_ok-push-in-Level-clause-said
returns-in_ok-push-in-Level-clause-said c =
    takes_unsaid _ (ap speaks c.in-Level.is) record { text = refl; dialect = refl; words = refl; characters = refl }
    record { expected = record { expected = refl; reductions = refl; generalized = refl }; starts = refl; started = refl }
    (omega arith)

pub returns-in-InLevel-clause-said : goal.returns-in-InLevel-clause-said
returns-in-InLevel-clause-said c =
    ok-both c.take_in_level.result (λ keeps said. takes_unsaid _ (ap speaks c.in-InLevel.is) keeps.symbols.names said keeps.faults) c.take_in_level.ensures.keeps c.take_in_level.ensures.said

pub returns-in-Code-clause-said : goal.returns-in-Code-clause-said
returns-in-Code-clause-said c =
    let call = c.take_code.ensures in
    ok-three c.take_code.result (λ symbols end said. takes_unsaid _ (ap speaks c.in-Code.is) symbols.names said end.faults) call.symbols call.end call.said

pub returns-in-Alias-clause-said : goal.returns-in-Alias-clause-said
returns-in-Alias-clause-said c =
    let call = c.take_alias.ensures in
    ok-three c.take_alias.result (λ taken faults said. takes_unsaid _ (ap speaks c.in-Alias.is) taken.names said faults) call.taken call.faults call.said

pub returns-in-Start-clause-said : goal.returns-in-Start-clause-said
returns-in-Start-clause-said c =
    let call = c.take_start.ensures in
    let old = c.args.self.now in
    let new = c.take_start.new.self in
    ok-three c.take_start.result
    (λ keeps expected taken. subst (λ (s : Statement). TakesSaid (s ∷ []) old new) (sym c.in-Start.is) (takes_start c.in-Start.symbol keeps expected taken))
    call.keeps call.expected call.taken

pub returns-in_ok-self-in-ExpectShiftReduce-clause-said : goal.returns-in_ok-self-in-ExpectShiftReduce-clause-said
returns-in_ok-self-in-ExpectShiftReduce-clause-said c =
    let read = c.in_ok-self-in-ExpectShiftReduce.ensures in
    takes_shift_by c.args.statement c.in-ExpectShiftReduce.number c.in-ExpectShiftReduce.is read.keeps read.value

pub returns-in_ok-self-in-ExpectReduceReduce-clause-said : goal.returns-in_ok-self-in-ExpectReduceReduce-clause-said
returns-in_ok-self-in-ExpectReduceReduce-clause-said c =
    let read = c.in_ok-self-in-ExpectReduceReduce.ensures in
    takes_reduce_by c.args.statement c.in-ExpectReduceReduce.number c.in-ExpectReduceReduce.is read.keeps read.value

pub returns-in-Glr-clause-said : goal.returns-in-Glr-clause-said
returns-in-Glr-clause-said c =
    subst (λ (s : Statement). TakesSaid (s ∷ []) c.args.self.now (record c.args.self.now { is_glr = true })) (sym c.in-Glr.is) (takes_glr c.args.self.now)

pub returns-in-DefaultPrecedence-clause-said : goal.returns-in-DefaultPrecedence-clause-said
returns-in-DefaultPrecedence-clause-said c =
    takes_unsaid _ (ap speaks c.in-DefaultPrecedence.is)
    record { text = refl; dialect = refl; words = refl; characters = refl }
    record { expected = record { expected = refl; reductions = refl; generalized = refl }; starts = refl; started = refl }
    (omega arith)

pub returns-in-Mention-clause-said : goal.returns-in-Mention-clause-said
returns-in-Mention-clause-said c =
    let silent : speaks c.args.statement ≡ false = elim c.in-Mention.is [ inl h ↦ ap speaks h.1 | inr h ↦ ap speaks h.1 ] in
    takes_unsaid _ silent
    record { text = refl; dialect = refl; words = refl; characters = refl }
    record { expected = record { expected = refl; reductions = refl; generalized = refl }; starts = refl; started = refl }
    (omega arith)

pub returns-in-Token-clause-aliases : goal.returns-in-Token-clause-aliases
returns-in-Token-clause-aliases c = ok-then c.declare.result (λ keeps. takes_no_alias _ (ap is_alias c.in-Token.is) keeps.symbols keeps.faults) c.declare.ensures

pub returns-in-Rule-clause-aliases : goal.returns-in-Rule-clause-aliases
returns-in-Rule-clause-aliases c = ok-then c.declare-in-Rule.result (λ keeps. takes_no_alias _ (ap is_alias c.in-Rule.is) keeps.symbols keeps.faults) c.declare-in-Rule.ensures

pub returns-in-Tagged-clause-aliases : goal.returns-in-Tagged-clause-aliases
returns-in-Tagged-clause-aliases c = ok-then c.take_tag.result (λ keeps. takes_no_alias _ (ap is_alias c.in-Tagged.is) keeps.symbols keeps.faults) c.take_tag.ensures

pub returns-in-LeftSide-clause-aliases : goal.returns-in-LeftSide-clause-aliases
returns-in-LeftSide-clause-aliases c = ok-then c.take_class.result (λ keeps. takes_no_alias _ (ap is_alias c.in-LeftSide.is) keeps.symbols keeps.faults) c.take_class.ensures

pub returns-in-NamedPrecedence-clause-aliases : goal.returns-in-NamedPrecedence-clause-aliases
returns-in-NamedPrecedence-clause-aliases c = ok-then c.take_class-in-NamedPrecedence.result (λ keeps. takes_no_alias _ (ap is_alias c.in-NamedPrecedence.is) keeps.symbols keeps.faults) c.take_class-in-NamedPrecedence.ensures

pub returns-in-Start-clause-aliases : goal.returns-in-Start-clause-aliases
returns-in-Start-clause-aliases c = ok-then c.take_start.result (λ keeps. takes_no_alias _ (ap is_alias c.in-Start.is) keeps.symbols keeps.faults) c.take_start.ensures.keeps

pub returns-in_ok-push-in-Level-clause-aliases : goal.returns-in_ok-push-in-Level-clause-aliases
returns-in_ok-push-in-Level-clause-aliases c = takes_no_alias _ (ap is_alias c.in-Level.is) record { names = record { text = refl; dialect = refl; words = refl; characters = refl }; partners = refl } (omega arith)

pub returns-in-InLevel-clause-aliases : goal.returns-in-InLevel-clause-aliases
returns-in-InLevel-clause-aliases c = ok-then c.take_in_level.result (λ keeps. takes_no_alias _ (ap is_alias c.in-InLevel.is) keeps.symbols keeps.faults) c.take_in_level.ensures.keeps

pub returns-in-Code-clause-aliases : goal.returns-in-Code-clause-aliases
returns-in-Code-clause-aliases c =
    ok-both c.take_code.result (λ symbols end. takes_no_alias _ (ap is_alias c.in-Code.is) symbols end.faults) c.take_code.ensures.symbols c.take_code.ensures.end

pub returns-in-Alias-clause-aliases : goal.returns-in-Alias-clause-aliases
returns-in-Alias-clause-aliases c =
    let old = c.args.self.now in
    let new = c.take_alias.new.self in
    ok-then c.take_alias.result (λ aliases. subst (λ (s : Statement). TakesAliases (s ∷ []) old new) (sym c.in-Alias.is) aliases) c.take_alias.ensures.aliases

pub returns-in_ok-self-in-ExpectShiftReduce-clause-aliases : goal.returns-in_ok-self-in-ExpectShiftReduce-clause-aliases
returns-in_ok-self-in-ExpectShiftReduce-clause-aliases c =
    let keeps = c.in_ok-self-in-ExpectShiftReduce.ensures.keeps in
    takes_no_alias _ (ap is_alias c.in-ExpectShiftReduce.is) keeps.symbols keeps.faults

pub returns-in_ok-self-in-ExpectReduceReduce-clause-aliases : goal.returns-in_ok-self-in-ExpectReduceReduce-clause-aliases
returns-in_ok-self-in-ExpectReduceReduce-clause-aliases c =
    let keeps = c.in_ok-self-in-ExpectReduceReduce.ensures.keeps in
    takes_no_alias _ (ap is_alias c.in-ExpectReduceReduce.is) keeps.symbols keeps.faults

pub returns-in-DefaultPrecedence-clause-aliases : goal.returns-in-DefaultPrecedence-clause-aliases
returns-in-DefaultPrecedence-clause-aliases c =
    takes_no_alias _ (ap is_alias c.in-DefaultPrecedence.is)
    record { names = record { text = refl; dialect = refl; words = refl; characters = refl }; partners = refl }
    (omega arith)

pub returns-in-Glr-clause-aliases : goal.returns-in-Glr-clause-aliases
returns-in-Glr-clause-aliases c =
    takes_no_alias _ (ap is_alias c.in-Glr.is)
    record { names = record { text = refl; dialect = refl; words = refl; characters = refl }; partners = refl }
    (omega arith)

pub returns-in-Mention-clause-aliases : goal.returns-in-Mention-clause-aliases
returns-in-Mention-clause-aliases c =
    let no_alias : is_alias c.args.statement ≡ false = elim c.in-Mention.is [ inl h ↦ ap is_alias h.1 | inr h ↦ ap is_alias h.1 ] in
    takes_no_alias _ no_alias
    record { names = record { text = refl; dialect = refl; words = refl; characters = refl }; partners = refl }
    (omega arith)

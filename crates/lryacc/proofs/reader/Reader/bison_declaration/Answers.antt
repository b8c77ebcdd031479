use Rattle.std.proofs.Common.{◌≡◌, ◌∙◌, [], ◌∷◌, ap, false, sym}
use Rattle.lryacc.specs.declared.contents.Statement.TheVariants as says
use Rattle.lryacc.specs.declared.directives.Form.TheVariants as form
use Rattle.lryacc.specs.Bodies.{delimiters_read}
use Rattle.lryacc.specs.DeclarationsRead.{StatesDeclared, is_of_numbers}
use Rattle.lryacc.proofs.BodiesRead.{over_again}
use Rattle.lryacc.proofs.DeclarationsRead.{count-directive, directive-form, directive-taken, form-stays, on-ok-always, over-directive, states, tail-declared, tail-directive, tail-silent, tail-stated, tail-when}
use Rattle.lryacc.proofs.reader.Reader.bison_declaration.Goals as goal

pub listing-requires : goal.listing-requires
listing-requires c = (directive-form c.in-Some-form.form form.Tokens c.in-Tokens.is c.in-Some-form.ensures c.in-Some.ensures.taken c.take.ensures.statements).1

pub returns-in-Tokens-clause-said : goal.returns-in-Tokens-clause-said
returns-in-Tokens-clause-said c =
    on-ok-always c.listing.result (StatesDeclared c.args.self.now c.listing.new.self) (c.args.is_among_rules ≡ false → delimiters_read c.args.self.now ≡ 0)
    (tail-declared c.args.self.now c.take.new.self c.listing.new.self c.listing.result (directive-form c.in-Some-form.form form.Tokens c.in-Tokens.is c.in-Some-form.ensures c.in-Some.ensures.taken c.take.ensures.statements).0 c.listing.ensures.said)

pub listing-requires-in-Rules : goal.listing-requires-in-Rules
listing-requires-in-Rules c = (directive-form c.in-Some-form.form form.Rules c.in-Rules.is c.in-Some-form.ensures c.in-Some.ensures.taken c.take.ensures.statements).1

pub returns-in-Rules-clause-said : goal.returns-in-Rules-clause-said
returns-in-Rules-clause-said c =
    on-ok-always c.listing-in-Rules.result (StatesDeclared c.args.self.now c.listing-in-Rules.new.self) (c.args.is_among_rules ≡ false → delimiters_read c.args.self.now ≡ 0)
    (tail-declared c.args.self.now c.take.new.self c.listing-in-Rules.new.self c.listing-in-Rules.result (directive-form c.in-Some-form.form form.Rules c.in-Rules.is c.in-Some-form.ensures c.in-Some.ensures.taken c.take.ensures.statements).0 c.listing-in-Rules.ensures.said)

pub listing-requires-in-Types : goal.listing-requires-in-Types
listing-requires-in-Types c = (directive-form c.in-Some-form.form form.Types c.in-Types.is c.in-Some-form.ensures c.in-Some.ensures.taken c.take.ensures.statements).1

pub returns-in-Types-clause-said : goal.returns-in-Types-clause-said
returns-in-Types-clause-said c =
    on-ok-always c.listing-in-Types.result (StatesDeclared c.args.self.now c.listing-in-Types.new.self) (c.args.is_among_rules ≡ false → delimiters_read c.args.self.now ≡ 0)
    (tail-declared c.args.self.now c.take.new.self c.listing-in-Types.new.self c.listing-in-Types.result (directive-form c.in-Some-form.form form.Types c.in-Types.is c.in-Some-form.ensures c.in-Some.ensures.taken c.take.ensures.statements).0 c.listing-in-Types.ensures.said)

pub said-requires-clause-by : goal.said-requires-clause-by
said-requires-clause-by c = (directive-form c.in-Some-form.form form.Starts c.in-Starts.is c.in-Some-form.ensures c.in-Some.ensures.taken c.take.ensures.statements).1

pub returns-in-Starts-clause-said : goal.returns-in-Starts-clause-said
returns-in-Starts-clause-said c =
    on-ok-always c.said.result (StatesDeclared c.args.self.now c.said.new.self) (c.args.is_among_rules ≡ false → delimiters_read c.args.self.now ≡ 0)
    (tail-declared c.args.self.now c.take.new.self c.said.new.self c.said.result (directive-form c.in-Some-form.form form.Starts c.in-Starts.is c.in-Some-form.ensures c.in-Some.ensures.taken c.take.ensures.statements).0 c.said.ensures.said)

pub listing-requires-in-Level : goal.listing-requires-in-Level
listing-requires-in-Level c = (c.in-Level.kind, form-stays c.state.ensures.stays ∙ (directive-form c.in-Some-form.form (form.Level c.in-Level.kind) c.in-Level.is c.in-Some-form.ensures c.in-Some.ensures.taken c.take.ensures.statements).1)

pub returns-in_ok-state-in-Level-clause-said : goal.returns-in_ok-state-in-Level-clause-said
returns-in_ok-state-in-Level-clause-said c =
    let level = says.Level c.in-Level.kind in
    let new = c.listing-in-Level.new.self in
    on-ok-always c.listing-in-Level.result (StatesDeclared c.args.self.now new) (c.args.is_among_rules ≡ false → delimiters_read c.args.self.now ≡ 0)
    (tail-directive c.args.self.now c.take.new.self new c.listing-in-Level.result (level ∷ []) (directive-form c.in-Some-form.form (form.Level c.in-Level.kind) c.in-Level.is c.in-Some-form.ensures c.in-Some.ensures.taken c.take.ensures.statements).0
    (tail-stated c.take.new.self c.state.new.self new c.listing-in-Level.result (level ∷ []) (states level c.state.ensures.stays c.in_ok-state-in-Level.ensures.stated) c.listing-in-Level.ensures.said))

pub returns-in-Nothing-clause-said : goal.returns-in-Nothing-clause-said
returns-in-Nothing-clause-said c = λ _. (directive-form c.in-Some-form.form form.Nothing c.in-Nothing.is c.in-Some-form.ensures c.in-Some.ensures.taken c.take.ensures.statements).0

pub expected-requires : goal.expected-requires
expected-requires c = (directive-form c.in-Some-form.form form.ShiftReduce c.in-ShiftReduce.is c.in-Some-form.ensures c.in-Some.ensures.taken c.take.ensures.statements).1

pub expected-requires-in-ReduceReduce : goal.expected-requires-in-ReduceReduce
expected-requires-in-ReduceReduce c = (directive-form c.in-Some-form.form form.ReduceReduce c.in-ReduceReduce.is c.in-Some-form.ensures c.in-Some.ensures.taken c.take.ensures.statements).1

pub returns-in-ShiftReduce-clause-said : goal.returns-in-ShiftReduce-clause-said
returns-in-ShiftReduce-clause-said c =
    let among = sym (c.is_misplaced.ensures (ap is_of_numbers c.in-ShiftReduce.is)) ∙ c.if-is_misplaced.false in
    tail-when c.args.self.now c.take.new.self c.expected.new.self c.expected.result (delimiters_read c.take.new.self ≡ 0) (c.args.is_among_rules ≡ false → delimiters_read c.args.self.now ≡ 0)
    (λ first. count-directive c.in-Some.ensures.taken (first among))
    (directive-form c.in-Some-form.form form.ShiftReduce c.in-ShiftReduce.is c.in-Some-form.ensures c.in-Some.ensures.taken c.take.ensures.statements).0 c.expected.ensures.said

pub returns-in-ReduceReduce-clause-said : goal.returns-in-ReduceReduce-clause-said
returns-in-ReduceReduce-clause-said c =
    let among = sym (c.is_misplaced.ensures (ap is_of_numbers c.in-ReduceReduce.is)) ∙ c.if-is_misplaced.false in
    tail-when c.args.self.now c.take.new.self c.expected-in-ReduceReduce.new.self c.expected-in-ReduceReduce.result (delimiters_read c.take.new.self ≡ 0) (c.args.is_among_rules ≡ false → delimiters_read c.args.self.now ≡ 0)
    (λ first. count-directive c.in-Some.ensures.taken (first among))
    (directive-form c.in-Some-form.form form.ReduceReduce c.in-ReduceReduce.is c.in-Some-form.ensures c.in-Some.ensures.taken c.take.ensures.statements).0 c.expected-in-ReduceReduce.ensures.said

pub returns-in_ok-state-in-Glr-clause-said : goal.returns-in_ok-state-in-Glr-clause-said
returns-in_ok-state-in-Glr-clause-said c = λ first.
    states says.Glr c.state-in-Glr.ensures.stays c.in_ok-state-in-Glr.ensures.stated
    ∙ (directive-form c.in-Some-form.form form.Glr c.in-Glr.is c.in-Some-form.ensures c.in-Some.ensures.taken c.take.ensures.statements).0

pub returns-in_ok-state-in-DefaultPrecedence-clause-said : goal.returns-in_ok-state-in-DefaultPrecedence-clause-said
returns-in_ok-state-in-DefaultPrecedence-clause-said c = λ first.
    states (says.DefaultPrecedence c.in-DefaultPrecedence.is_on) c.state-in-DefaultPrecedence.ensures.stays c.in_ok-state-in-DefaultPrecedence.ensures.stated
    ∙ (directive-form c.in-Some-form.form (form.DefaultPrecedence c.in-DefaultPrecedence.is_on) c.in-DefaultPrecedence.is c.in-Some-form.ensures c.in-Some.ensures.taken c.take.ensures.statements).0

pub passed_over-requires : goal.passed_over-requires
passed_over-requires c = (directive-taken c.in-Some-form.form c.in-Some-form.ensures c.in-Some.ensures.taken c.take.ensures.statements).1

pub returns-in_default-form-2 : goal.returns-in_default-form-2
returns-in_default-form-2 c = record {
  over = over_again (over-directive c.in-Some.ensures.taken) c.passed_over.ensures.over;
  told = c.passed_over.ensures.told;
  said =
      tail-silent c.args.self.now c.take.new.self c.passed_over.new.self c.passed_over.result c.in-Some-form.form (c.args.is_among_rules ≡ false → delimiters_read c.args.self.now ≡ 0)
      (directive-taken c.in-Some-form.form c.in-Some-form.ensures c.in-Some.ensures.taken c.take.ensures.statements).0
      c.passed_over.ensures.none c.passed_over.ensures.said;
}

pub returns-in-Tokens-clause-over : goal.returns-in-Tokens-clause-over
returns-in-Tokens-clause-over c = over_again (over-directive c.in-Some.ensures.taken) c.listing.ensures.over

pub returns-in-Rules-clause-over : goal.returns-in-Rules-clause-over
returns-in-Rules-clause-over c = over_again (over-directive c.in-Some.ensures.taken) c.listing-in-Rules.ensures.over

pub returns-in-Types-clause-over : goal.returns-in-Types-clause-over
returns-in-Types-clause-over c = over_again (over-directive c.in-Some.ensures.taken) c.listing-in-Types.ensures.over

pub returns-in-Starts-clause-over : goal.returns-in-Starts-clause-over
returns-in-Starts-clause-over c = over_again (over-directive c.in-Some.ensures.taken) c.said.ensures.over

pub returns-in-ShiftReduce-clause-over : goal.returns-in-ShiftReduce-clause-over
returns-in-ShiftReduce-clause-over c = over_again (over-directive c.in-Some.ensures.taken) c.expected.ensures.over

pub returns-in-ReduceReduce-clause-over : goal.returns-in-ReduceReduce-clause-over
returns-in-ReduceReduce-clause-over c = over_again (over-directive c.in-Some.ensures.taken) c.expected-in-ReduceReduce.ensures.over

pub returns-in-Nothing-clause-over : goal.returns-in-Nothing-clause-over
returns-in-Nothing-clause-over c = over-directive c.in-Some.ensures.taken

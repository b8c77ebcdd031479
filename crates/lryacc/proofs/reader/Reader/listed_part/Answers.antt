use Rattle.std.proofs.Common.{◌∙◌, refl}
use Rattle.lryacc.specs.declared.contents.Statement.TheVariants as says
use Rattle.lryacc.proofs.DeclarationsRead.{listed-again, said-plain, said-still, states-other, stays-listed, symbol-behind, symbol-form, symbol-said}
use Rattle.lryacc.proofs.reader.Reader.listed_part.Goals as goal

pub say-requires-clause-by : goal.say-requires-clause-by
say-requires-clause-by c = said-still c.args.said (symbol-form c.in-Some.ensures.taken) (said-still c.args.said c.take_tag.ensures.listed.form c.requires)

pub say-requires-clause-behind : goal.say-requires-clause-behind
say-requires-clause-behind c = symbol-behind c.in-Some.ensures.taken

pub returns-then-take_tag-clause-listed : goal.returns-then-take_tag-clause-listed
returns-then-take_tag-clause-listed c = c.take_tag.ensures.listed

pub returns-in_default-clause-listed : goal.returns-in_default-clause-listed
returns-in_default-clause-listed c =
    listed-again c.take_tag.ensures.listed (stays-listed c.in_default.ensures.taken c.in_default.ensures.statements)

pub returns-in_default-tag-clause-listed : goal.returns-in_default-tag-clause-listed
returns-in_default-tag-clause-listed c =
    let tag = c.take_tag.ensures.listed in
    let is = said-still c.args.said tag.form c.requires in
    let taken = c.in-Some.ensures.taken in
    listed-again tag record {
      declared = symbol-said c.say.new.self c.args.said is taken (λ e. said-plain c.args.said _ is (c.in-Some.ensures.text e)) c.take_listed.ensures.statements c.in_ok-say.ensures.said;
      form = c.in_ok-say.ensures.form ∙ symbol-form taken;
    }

pub returns-in_ok-state-clause-listed : goal.returns-in_ok-state-clause-listed
returns-in_ok-state-clause-listed c =
    let tag = c.take_tag.ensures.listed in
    let is = said-still c.args.said tag.form c.requires in
    let taken = c.in-Some.ensures.taken in
    listed-again
    (listed-again tag record {
      declared = symbol-said c.say.new.self c.args.said is taken (λ e. said-plain c.args.said _ is (c.in-Some.ensures.text e)) c.take_listed.ensures.statements c.in_ok-say.ensures.said;
      form = c.in_ok-say.ensures.form ∙ symbol-form taken;
    })
    (states-other (says.Tagged c.in-Some.symbol c.in-Some-tag.tag) refl c.state.ensures.stays c.in_ok-state.ensures.stated)

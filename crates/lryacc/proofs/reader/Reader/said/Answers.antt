use Rattle.std.proofs.Common.{◌∙◌, []}
use Rattle.lryacc.proofs.BodiesRead.{over_again}
use Rattle.lryacc.proofs.DeclarationsRead.{listed-again, over-symbol, said-plain, said-still, stays-stated, symbol-behind, symbol-form, symbol-said}
use Rattle.lryacc.proofs.reader.Reader.said.Goals as goal

pub say-requires-clause-by : goal.say-requires-clause-by
say-requires-clause-by c = said-still c.args.said (symbol-form c.in_ok-first.ensures.taken) c.requires.by

pub say-requires-clause-behind : goal.say-requires-clause-behind
say-requires-clause-behind c = symbol-behind c.in_ok-first.ensures.taken

pub say-requires-in-loop-clause-by : goal.say-requires-in-loop-clause-by
say-requires-in-loop-clause-by c = said-still c.args.said (symbol-form c.in-Some.ensures.taken ∙ c.loop.invariant.listed.form) c.requires.by

pub say-requires-in-loop-clause-behind : goal.say-requires-in-loop-clause-behind
say-requires-in-loop-clause-behind c = symbol-behind c.in-Some.ensures.taken

pub loop-init : goal.loop-init
loop-init c =
    let taken = c.in_ok-first.ensures.taken in record {
      over = over_again (over-symbol taken) c.say.ensures.over;
      listed = record {
        declared = symbol-said c.say.new.self c.args.said c.requires.by taken (λ _. said-plain c.args.said _ c.requires.by c.requires.plain) c.want_symbol.ensures.statements c.in_ok-say.ensures.said;
        form = c.in_ok-say.ensures.form ∙ symbol-form taken;
      };
    }

pub loop-preserved : goal.loop-preserved
loop-preserved c =
    let so_far = c.loop.invariant in
    let taken = c.in-Some.ensures.taken in
    let is = said-still c.args.said so_far.listed.form c.requires.by in record {
      over = over_again so_far.over (over_again (over-symbol taken) c.say-in-loop.ensures.over);
      listed = listed-again so_far.listed record {
        declared = symbol-said c.say-in-loop.new.self c.args.said is taken (λ _. said-plain c.args.said _ is c.requires.plain) c.take_symbol.ensures.statements c.in_ok-say-2.ensures.said;
        form = c.in_ok-say-2.ensures.form ∙ symbol-form taken;
      };
    }

pub returns-in_default-clause-said : goal.returns-in_default-clause-said
returns-in_default-clause-said c =
    stays-stated [] c.in_default.ensures.taken c.in_default.ensures.statements ∙ c.loop.invariant.listed.declared

pub returns-after-loop-clause-said : goal.returns-after-loop-clause-said
returns-after-loop-clause-said c = c.loop.invariant.listed.declared

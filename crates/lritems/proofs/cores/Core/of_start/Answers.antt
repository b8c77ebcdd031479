use Rattle.std.proofs.Common.{◌∙◌, ap}
use Rattle.lritems.specs.ItemsOf.{items_of}
use Rattle.lritems.proofs.StartItems.{one_start}
use Rattle.lritems.proofs.cores.Core.of_start.Goals as goal

pub returns-clause-core : goal.returns-clause-core
returns-clause-core g c =
    let number = g.T.IndexStorage.number in
    let one = rw c.in_ok-items.ensures.items at c.in_ok-push.ensures.items in
    let start =
    one_start c.args.grm.now (items_of number c.push.new.self.items) _ _ _ _ _ _ c.tokens_len.ensures.shape (ap (items_of number) one) c.start_prod.ensures
    (rw c.unwrap.ensures at c.from_usize.ensures).1 (c.from-2.ensures ∙ c.eof_token_idx.ensures) (c.from.ensures ∙ c.tokens_len.ensures.value)
    c.in_ok-ctx.ensures.bits c.set.ensures.after in
    start.0

pub returns-clause-fits : goal.returns-clause-fits
returns-clause-fits g c =
    let number = g.T.IndexStorage.number in
    let one = rw c.in_ok-items.ensures.items at c.in_ok-push.ensures.items in
    let start =
    one_start c.args.grm.now (items_of number c.push.new.self.items) _ _ _ _ _ _ c.tokens_len.ensures.shape (ap (items_of number) one) c.start_prod.ensures
    (rw c.unwrap.ensures at c.from_usize.ensures).1 (c.from-2.ensures ∙ c.eof_token_idx.ensures) (c.from.ensures ∙ c.tokens_len.ensures.value)
    c.in_ok-ctx.ensures.bits c.set.ensures.after in
    start.1

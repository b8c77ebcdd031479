use Rattle.std.proofs.Common.{◌≡◌, ◌∙◌, sym, refl, Some}
use Rattle.lrclosing.proofs.ItemKeys.{item_here, item_there}
use Rattle.lrclosing.proofs.PutLookaheads.{put_bits, put_one}
use Rattle.lrclosing.proofs.RowsAdded.{none_unless}
use Rattle.lrclosing.proofs.rows.put.Goals as goal

pub or-requires : goal.or-requires
or-requires g c =
    let before = item_here g.T.IndexStorage.number g.T.Ord.cmp g.met.T.IndexStorage.ordered c.args.closed.now.entries (c.args.pidx, record { 0 = c.unwrap.result }) in
    sym (c.requires _ _ c.in-Some.old (sym before ∙ sym c.in_ok-old.ensures.old ∙ c.in-Some.is))

pub returns-in_ok-insert-clause-bits : goal.returns-in_ok-insert-clause-bits
returns-in_ok-insert-clause-bits g c =
    let number = g.T.IndexStorage.number in
    let law = g.met.T.IndexStorage.ordered in
    let first = item_there number g.T.Ord.cmp law c.args.closed.now.entries c.insert.new.self.entries (c.args.pidx, record { 0 = c.unwrap.result }) (Some c.in_ok-own.own) c.in_ok-old.ensures.updates.0 in
    let then = item_there number g.T.Ord.cmp law c.insert.new.self.entries c.insert-in-Some.new.self.entries (c.args.pidx, record { 0 = c.unwrap.result }) (Some c.or.new.self) c.in_ok-insert.ensures.updates.0 in
    let before = item_here number g.T.Ord.cmp law c.args.closed.now.entries (c.args.pidx, record { 0 = c.unwrap.result }) in
    let after = item_here number g.T.Ord.cmp law c.insert-in-Some.new.self.entries (c.args.pidx, record { 0 = c.unwrap.result }) in
    put_bits (number c.args.pidx.0) (number c.unwrap.result) c.args.ctx.now _ _
    (sym after ∙ c.in_ok-insert.ensures.updates.1 ∙ rw (← before, ← c.in_ok-old.ensures.old, c.in-Some.is, c.or.ensures.after) refl)
    (λ i e f. then i e f ∙ first i e f) c.requires

pub returns-in_ok-insert-clause-put : goal.returns-in_ok-insert-clause-put
returns-in_ok-insert-clause-put g c =
    let number = g.T.IndexStorage.number in
    let law = g.met.T.IndexStorage.ordered in
    let zero : number c.unwrap.result ≡ 0 = (rw c.unwrap.ensures at c.from_usize.ensures).1 in
    let first = item_there number g.T.Ord.cmp law c.args.closed.now.entries c.insert.new.self.entries (c.args.pidx, record { 0 = c.unwrap.result }) (Some c.in_ok-own.own) c.in_ok-old.ensures.updates.0 in
    let then = item_there number g.T.Ord.cmp law c.insert.new.self.entries c.insert-in-Some.new.self.entries (c.args.pidx, record { 0 = c.unwrap.result }) (Some c.or.new.self) c.in_ok-insert.ensures.updates.0 in
    let before = item_here number g.T.Ord.cmp law c.args.closed.now.entries (c.args.pidx, record { 0 = c.unwrap.result }) in
    let after = item_here number g.T.Ord.cmp law c.insert-in-Some.new.self.entries (c.args.pidx, record { 0 = c.unwrap.result }) in
    put_one (number c.args.pidx.0) (number c.unwrap.result) zero c.args.ctx.now _ _
    (sym after ∙ c.in_ok-insert.ensures.updates.1 ∙ rw (← before, ← c.in_ok-old.ensures.old, c.in-Some.is, c.or.ensures.after) refl)
    (λ i e f. then i e f ∙ first i e f) c.requires

pub returns-in_default-clause-bits : goal.returns-in_default-clause-bits
returns-in_default-clause-bits g c =
    let number = g.T.IndexStorage.number in
    let law = g.met.T.IndexStorage.ordered in
    let none = none_unless c.in_ok-old.field-0 c.in_default.not-Some in
    let before = item_here number g.T.Ord.cmp law c.args.closed.now.entries (c.args.pidx, record { 0 = c.unwrap.result }) in
    let after = item_here number g.T.Ord.cmp law c.insert.new.self.entries (c.args.pidx, record { 0 = c.unwrap.result }) in
    put_bits (number c.args.pidx.0) (number c.unwrap.result) c.args.ctx.now _ _
    (sym after ∙ c.in_ok-old.ensures.updates.1 ∙ rw (← before, ← c.in_ok-old.ensures.old, none, c.in_ok-own.ensures.cases) refl)
    (item_there number g.T.Ord.cmp law c.args.closed.now.entries c.insert.new.self.entries (c.args.pidx, record { 0 = c.unwrap.result }) (Some c.in_ok-own.own) c.in_ok-old.ensures.updates.0)
    c.requires

pub returns-in_default-clause-put : goal.returns-in_default-clause-put
returns-in_default-clause-put g c =
    let number = g.T.IndexStorage.number in
    let law = g.met.T.IndexStorage.ordered in
    let zero : number c.unwrap.result ≡ 0 = (rw c.unwrap.ensures at c.from_usize.ensures).1 in
    let none = none_unless c.in_ok-old.field-0 c.in_default.not-Some in
    let before = item_here number g.T.Ord.cmp law c.args.closed.now.entries (c.args.pidx, record { 0 = c.unwrap.result }) in
    let after = item_here number g.T.Ord.cmp law c.insert.new.self.entries (c.args.pidx, record { 0 = c.unwrap.result }) in
    put_one (number c.args.pidx.0) (number c.unwrap.result) zero c.args.ctx.now _ _
    (sym after ∙ c.in_ok-old.ensures.updates.1 ∙ rw (← before, ← c.in_ok-old.ensures.old, none, c.in_ok-own.ensures.cases) refl)
    (item_there number g.T.Ord.cmp law c.args.closed.now.entries c.insert.new.self.entries (c.args.pidx, record { 0 = c.unwrap.result }) (Some c.in_ok-own.own) c.in_ok-old.ensures.updates.0)
    c.requires

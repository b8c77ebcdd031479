-- as the symbols behind the rule are to the token
use Rattle.std.proofs.Common.{sym, ap, ◌∙◌, arith}
use Rattle.std.proofs.lemmas.List.{map-append}
use Rattle.lrbits.specs.Bits.{bit}
use Rattle.lrsearches.specs.Rests as behind
use Rattle.lrsearches.proofs.closes.close_by.Goals as goal

pub rest_behind-requires-clause-production : goal.rest_behind-requires-clause-production
rest_behind-requires-clause-production g c = c.requires.fits.production

pub get-requires : goal.get-requires
get-requires g c = omega (arith, c.requires.fits.bits, c.from.ensures, c.requires.token)

pub returns-in-Begins : goal.returns-in-Begins
returns-in-Begins g c = rw (c.in_ok-push-in-Begins.ensures.items, c.clear.ensures.items) (behind.IsClosedBy.begins c.in-Begins.ensures)

pub returns-in_ok-push-in-Nullable : goal.returns-in_ok-push-in-Nullable
returns-in_ok-push-in-Nullable g c =
    let value = c.get.ensures.value ∙ ap (bit c.args.ctx.now) c.from.ensures in
    rw (c.in_ok-push-in-Nullable.ensures.items, map-append) (behind.IsClosedBy.looks c.in-Nullable.ensures (sym value ∙ c.if-get.true))

pub returns-else-get : goal.returns-else-get
returns-else-get g c =
    let value = c.get.ensures.value ∙ ap (bit c.args.ctx.now) c.from.ensures in
    behind.IsClosedBy.blind c.in-Nullable.ensures (sym value ∙ c.if-get.false)

pub returns-in-Neither : goal.returns-in-Neither
returns-in-Neither g c = behind.IsClosedBy.neither c.in-Neither.ensures

use Rattle.std.proofs.Common.{◌≡◌, ◌∙◌, ◌∷◌, [], sym, ap, Some, length}
use Rattle.std.proofs.lemmas.List.{length-map}
use Rattle.std.proofs.lemmas.Result.{on_ok_weaker}
use Rattle.lrgrammar.specs.Symbols.{symbol_of}
use Rattle.lritems.specs.Gotos.{gotos_of, item_of}
use Rattle.lritems.proofs.GotoPlaces.{places_longer, places_put, pushed_gotos, put_begun, put_there}
use Rattle.lritems.proofs.gotos.put.Goals as goal

pub known_place-requires-clause-places : goal.known_place-requires-clause-places
known_place-requires-clause-places g c = rw c.as_slice.ensures.value c.requires.places

pub returns-in-Some-clause-places : goal.returns-in-Some-clause-places
returns-in-Some-clause-places g c =
    let number = g.T.IndexStorage.number in
    on_ok_weaker c.put_at.result
    (λ put. places_put (gotos_of number c.args.gotos.now.items) (gotos_of number c.put_at.new.gotos.items) c.args.places.now c.in-Some.place _ _ c.args.ctx.now c.requires.places put)
    c.put_at.ensures

pub returns-in-Some-clause-put : goal.returns-in-Some-clause-put
returns-in-Some-clause-put g c =
    let number = g.T.IndexStorage.number in
    let at = rw c.as_slice.ensures.value at c.in-Some.ensures in
    on_ok_weaker c.put_at.result
    (λ put. put_there (gotos_of number c.args.gotos.now.items) (gotos_of number c.put_at.new.gotos.items) (symbol_of number c.args.symbol) c.in-Some.place _ _ c.args.ctx.now at put)
    c.put_at.ensures

pub returns-clause-places : goal.returns-clause-places
returns-clause-places g c =
    let number = g.T.IndexStorage.number in
    let gs = gotos_of number c.args.gotos.now.items in
    let one = item_of number (c.args.pidx, c.args.dot) c.args.ctx.now ∷ [] in
    let size : c.len-place.result ≡ length c.args.gotos.now.items = c.len-place.ensures ∙ c.args.gotos.now.ok.0 in
    let len : length gs ≡ c.len-place.result = length-map c.args.gotos.now.items _ ∙ sym size in
    rw (pushed_gotos number c.args.gotos.now.items c.push.new.self.items c.args.symbol c.new.result one c.in_ok-push.ensures.items c.new.ensures)
    (places_longer gs c.args.places.now c.set.new.self (symbol_of number c.args.symbol) one c.requires.places (c.set.ensures.here ∙ ap (λ n. Some n) (sym len))
    c.set.ensures.others)

pub returns-clause-put : goal.returns-clause-put
returns-clause-put g c =
    let number = g.T.IndexStorage.number in
    let one = item_of number (c.args.pidx, c.args.dot) c.args.ctx.now ∷ [] in
    put_begun (gotos_of number c.args.gotos.now.items) (gotos_of number c.push.new.self.items) (symbol_of number c.args.symbol) _ _ c.args.ctx.now
    (rw (c.in_default.is, c.as_slice.ensures.value) at c.known_place.ensures)
    (pushed_gotos number c.args.gotos.now.items c.push.new.self.items c.args.symbol c.new.result one c.in_ok-push.ensures.items c.new.ensures)

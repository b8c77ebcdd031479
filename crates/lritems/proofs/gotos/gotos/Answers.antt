use Rattle.std.proofs.Common.{◌+◌, [], drop, refl}
use Rattle.lrspec.proofs.grammars.BodyFacts.{symbol_at_dot}
use Rattle.lrgrammar.specs.Symbols.{symbol_of}
use Rattle.lritems.specs.ItemsOf.{listed_of}
use Rattle.lritems.specs.Gotos.{gotos_of, symbols_shown}
use Rattle.lritems.proofs.GotosUpwards.{begin_growing, skip_growing, behind_there, put_growing}
use Rattle.lritems.proofs.GotosUnderway.{begin_gotos, end_gotos, skip_gotos, put_gotos}
use Rattle.lritems.proofs.GotoItems.{left_shown, none_left, found_shown}
use Rattle.lritems.proofs.GotoPlaces.{has_place}
use Rattle.lritems.proofs.SymbolsShown.{shows_passed, shows_put}
use Rattle.lrclosing.proofs.WalksOverItems.{first_or_rest}
use Rattle.lritems.proofs.gotos.gotos.Goals.{in-Some+in_ok-put, in_default}
use Rattle.lritems.proofs.gotos.gotos.Goals as goal

pub loop-key-init : goal.loop-key-init
loop-key-init g c =
    record {
      moving = begin_gotos c.args.grm.now _ _ _ (rw c.in_ok-gotos.ensures.items refl) refl;
      growing = begin_growing (listed_of g.T.IndexStorage.number c.args.closed.now) _ _ (rw c.in_ok-gotos.ensures.items refl) refl c.requires.upwards;
      order = rw c.in_ok-gotos.ensures.items refl;
      fit = c.requires.places;
      places = rw c.in_ok-gotos.ensures.items (λ x h. absurd h);
    }

pub step_over-requires : goal.step_over-requires
step_over-requires g c =
    let found = found_shown g.T.IndexStorage.number (λ r. r.now) c.args.closed.now c.loop-key.key-index c.loop-key-item.result c.requires.upwards c.loop-key-test.true c.loop-key-item.is in
    (c.requires.fits _ _ c.loop-key-item.result.1.now found).production

pub put-requires-clause-noted : goal.put-requires-clause-noted
put-requires-clause-noted g c =
    let step = c.in-Some.ensures in
    let symbol = symbol_of g.T.IndexStorage.number c.in-Some.symbol in
    has_place c.args.grm.now c.loop-key.places symbol c.loop-key.invariant.fit (symbol_at_dot step.shape _ _ symbol step.found)

pub returns-in_err-put-clause-places : goal.returns-in_err-put-clause-places
returns-in_err-put-clause-places g c = c.in_err-put.ensures.fit c.args.grm.now c.loop-key.invariant.fit

pub loop-key-preserved : goal.loop-key-preserved
loop-key-preserved g c =
    let number = g.T.IndexStorage.number in
    let item = c.loop-key-item.result in
    let ctx = item.1.now in
    let all = listed_of number c.args.closed.now in
    let rest = listed_of number (drop (c.loop-key.key-index + 1) c.args.closed.now) in
    let made = gotos_of number c.loop-key.gotos.items in
    let shown = symbols_shown c.args.grm.now [] all in
    let found = found_shown number (λ r. r.now) c.args.closed.now c.loop-key.key-index item c.requires.upwards c.loop-key-test.true c.loop-key-item.is in
    let left = left_shown number (λ r. r.now) c.args.closed.now c.loop-key.key-index item c.loop-key-test.true c.loop-key-item.is in
    let moving = rw left at c.loop-key.invariant.moving in
    let growing = rw left at c.loop-key.invariant.growing in
    let order = rw left at c.loop-key.invariant.order in
    elim c.match-step_over.branch [
      | in-Some+in_ok-put w ↦
          let step = w.in-Some.ensures in
          let put = w.in_ok-put.ensures.put in
          rw (w.gotos-is, w.places-is) record {
            moving = put_gotos c.args.grm.now _ _ _ _ _ _ _ _ _ _ ctx _ (first_or_rest _ _ ctx _) c.requires.fits moving step.found found step.moved put.made put.at put.put
                (behind_there _ _ _ _ _ _ _ _ ctx _ growing step.moved put.made put.put);
            growing = put_growing _ _ _ _ _ _ _ _ ctx _ growing step.moved put.made put.put;
            order = shows_put c.args.grm.now _ _ _ _ ctx _ made _ _ rest shown step.found put.made put.at put.put order;
            fit = w.in_ok-put.ensures.fit c.args.grm.now c.loop-key.invariant.fit;
            places = w.in_ok-put.ensures.places;
          }
      | in_default w ↦
          rw (w.gotos-is, w.places-is) record {
            moving = skip_gotos c.args.grm.now _ _ _ _ _ (first_or_rest _ _ ctx _) _ moving w.in_default.ensures.none;
            growing = skip_growing _ _ _ growing;
            order = shows_passed c.args.grm.now _ _ ctx made rest shown w.in_default.ensures.none order;
            fit = c.loop-key.invariant.fit;
            places = c.loop-key.invariant.places;
          }
    ]

pub returns-clause-gotos : goal.returns-clause-gotos
returns-clause-gotos g c =
    end_gotos c.args.grm.now _ _ _ c.loop-key.invariant.moving c.loop-key.invariant.growing.upwards c.loop-key.invariant.order
    (none_left g.T.IndexStorage.number (λ r. r.now) c.args.closed.now c.loop-key.key-index c.loop-key-test.false)

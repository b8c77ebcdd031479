use Rattle.std.proofs.Common.{arith, length-take}
use Rattle.lrdiagnostics.proofs.LineFeeds.{front_is}
use Rattle.lrdiagnostics.proofs.KnownColumns.{from_start, from_known}
use Rattle.lrdiagnostics.proofs.sources.Source.known_before.Goals as goal

pub returns-in-Some-clause-goes_on : goal.returns-in-Some-clause-goes_on
returns-in-Some-clause-goes_on c =
    let source = c.args.self.now in
    let begins = front_is source.bytes.now source.feeds.items source.placed c.start_of-start.result c.args.end c.args.end c.feeds_before.result (omega (arith, c.requires)) c.feeds_before.ensures c.start_of-start.ensures.first c.start_of-start.ensures.behind in
    let last = c.in-Some.last in
    from_known source.bytes.now c.args.end c.start_of-start.result last.at last.column c.in-Some.ensures.known c.in-Some.ensures.behind c.in-Some.ensures.before begins.1

pub returns-in-None-clause-within : goal.returns-in-None-clause-within
returns-in-None-clause-within c =
    let source = c.args.self.now in
    let begins = front_is source.bytes.now source.feeds.items source.placed c.start_of-start.result c.args.end c.args.end c.feeds_before.result (omega (arith, c.requires)) c.feeds_before.ensures c.start_of-start.ensures.first c.start_of-start.ensures.behind in
    omega (arith, begins.0, length-take c.args.end source.bytes.now)

pub returns-in-None-clause-goes_on : goal.returns-in-None-clause-goes_on
returns-in-None-clause-goes_on c =
    let source = c.args.self.now in
    let begins = front_is source.bytes.now source.feeds.items source.placed c.start_of-start.result c.args.end c.args.end c.feeds_before.result (omega (arith, c.requires)) c.feeds_before.ensures c.start_of-start.ensures.first c.start_of-start.ensures.behind in
    from_start source.bytes.now c.args.end c.start_of-start.result begins.1

use Rattle.std.proofs.Common.{rules, nat_lt}
use Rattle.std.proofs.lemmas.List.Sorted.{IsPartitionPoint-from_clause}
use Rattle.lrdiagnostics.proofs.LineFeeds.{partitioned, counted}
use Rattle.lrdiagnostics.proofs.sources.Source.feeds_before.Goals as goal

pub returns : goal.returns
returns c =
    let source = c.args.self.now in
    let ordered = partitioned source.bytes.now source.feeds.items source.placed c.args.at in
    let point = IsPartitionPoint-from_clause (λ place. nat_lt place c.args.at) _ _ c.partition_point.ensures.partitioned (rw c.deref.ensures.value ordered) (λ a r q k. search rules) in
    counted source.bytes.now source.feeds.items source.placed c.args.at c.partition_point.result (rw c.deref.ensures.value at c.partition_point.ensures.bound) (rw c.deref.ensures.value at point)

use Rattle.std.specs.String.{string_bytes}
use Rattle.lrreasons.proofs.Rows.{closed_last}
use Rattle.lrreasons.proofs.brackets.close.Goals as goal

pub returns-in_ok-push : goal.returns-in_ok-push
returns-in_ok-push c =
    closed_last string_bytes c.args.words.now.items c.pop.new.self.items c.push.new.self.items c.in-Some.last c.push_str.new.self c.in-Some.ensures.items c.in_ok-push_str.ensures.bytes c.in_ok-push.ensures.items

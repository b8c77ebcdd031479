use Rattle.std.proofs.Common.{[]}
use Rattle.std.proofs.lemmas.List.Elements.{All-nil, All-cons}
use Rattle.lrshown.specs.DecidedEntries.{IsShownDecided}
use Rattle.lrpage.proofs.pages.Page.add_tags.Goals as goal

pub add_tag-requires : goal.add_tag-requires
add_tag-requires c =
    let found = c.args.self.now.found.now in
    let is_shown = IsShownDecided found.grm found.graph in
    record {
      proved = c.requires.proved;
      decided = rw c.from_ref.ensures.value (All-cons is_shown c.args.evidence.now [] c.requires.decided (All-nil is_shown));
    }

use Rattle.std.proofs.Common.{get_or}
use Rattle.std.specs.Str.{IsUtf8}
use Rattle.std.specs.String.{string_bytes}
use Rattle.std.proofs.lemmas.List.Elements.{All-map}
use Rattle.std.proofs.lemmas.Str.{IsUtf8-string_bytes}
use Rattle.lrgrammar.proofs.grammar.YaccGrammar.allocator.Goals as goal

pub returns-clause-texts : goal.returns-clause-texts
returns-clause-texts g c =
    let names = c.self.inside.token_names.items in
    rw (← c.self.view_is) (All-map IsUtf8 string_bytes names (λ k d l. IsUtf8-string_bytes (get_or names k d)))

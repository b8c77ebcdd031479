use Rattle.std.specs.String.{string_bytes}
use Rattle.lrgrammar.proofs.FoundNames.{name_index, name_place, name_missing, names_apart}
use Rattle.lrgrammar.proofs.grammar.YaccGrammar.rule_idx.Goals as goal

pub unwrap-requires : goal.unwrap-requires
unwrap-requires g c =
    name_index string_bytes c.self.inside.rule_names.items c.self.invariant.rules c.args.name.now _ c.from_usize.result
    c.in-Some.ensures.value c.self.invariant.sizes.rules c.from_usize.ensures

pub returns-in-Some-clause-place : goal.returns-in-Some-clause-place
returns-in-Some-clause-place g c = rw (← c.self.view_is)
    (name_place string_bytes c.self.inside.rule_names.items c.self.invariant.rules _ g.T.IndexStorage.number _ c.in-Some.ensures.value c.unwrap.ensures c.from_usize.ensures)

pub returns-in-None-clause-missing : goal.returns-in-None-clause-missing
returns-in-None-clause-missing g c = rw (← c.self.view_is) (name_missing string_bytes c.self.inside.rule_names.items c.self.invariant.rules _ c.in-None.ensures.value)

pub returns-in-Some-clause-apart : goal.returns-in-Some-clause-apart
returns-in-Some-clause-apart g c = rw (← c.self.view_is) (names_apart string_bytes c.self.inside.rule_names.items c.self.invariant.rules)

pub returns-in-None-clause-apart : goal.returns-in-None-clause-apart
returns-in-None-clause-apart g c = rw (← c.self.view_is) (names_apart string_bytes c.self.inside.rule_names.items c.self.invariant.rules)

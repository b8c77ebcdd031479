use Rattle.std.proofs.Common.{ℕ, List, Option, Some, refl, ap, sym, ◌∙◌}
use Rattle.std.proofs.lemmas.Map.Text.{btree_map_updates_str}
use Rattle.std.specs.BTreeMap.{get_by}
use Rattle.std.specs.Cmp.Lexicographic.{slice_cmp}
use Rattle.std.specs.Ordering.{nat_cmp}
use Rattle.lryacc.specs.declared.symbols.Symbols.{Symbols}
use Rattle.lryacc.specs.NamedSymbols.{Name, name_of, number_in}
use Rattle.lryacc.proofs.NamesOfOne.{as-word, other_name, word-others}
use Rattle.lryacc.proofs.symbols.Symbols.add_name.Goals as goal

pub returns-in_ok-insert-in_default : goal.returns-in_ok-insert-in_default
returns-in_ok-insert-in_default c =
    let old = c.args.self.now in
    let new : Symbols = record old { names = c.insert-in_default.new.self } in
    let bytes = name_of old.text.now old.dialect c.args.lexeme in
    let key = c.name-name.result.now in
    let word = as-word c.args.lexeme.kind bytes c.in_default.not-Character in
    let updates = c.in_ok-insert-in_default.ensures.updates in
    let at : Symbols → List ℕ → Option ℕ = λ s cs. get_by (λ k. slice_cmp nat_cmp cs k.now) s.names in
    record {
      text = refl;
      dialect = refl;
      list = refl;
      partners = refl;
      here = ap (number_in new) word ∙ ap (at new) (sym c.name-name.ensures) ∙ updates.1;
      others = other_name old new c.args.lexeme key refl (word ∙ ap Name.word (sym c.name-name.ensures)) (word-others (at new) (at old) key (Some c.args.number) (btree_map_updates_str key old.names new.names (Some c.args.number) updates));
    }

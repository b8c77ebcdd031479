use Rattle.std.proofs.Common.{◌≡◌, length, map, ap, sym, subst, ◌∙◌, arith, rules}
use Rattle.std.specs.HashMap.{get_by_text}
use Rattle.std.specs.String.{string_bytes}
use Rattle.std.proofs.lemmas.List.{length-map, get_or-map}
use Rattle.std.proofs.lemmas.Map.Text.{hash_map_updates_text}
use Rattle.lrparts.specs.LookUps.{FindsNames}
use Rattle.lrparts.proofs.NameLookUps.{finds_apart}
use Rattle.lrgrammar.proofs.grammar.lists.places.Goals as goal

pub loop-i-preserved : goal.loop-i-preserved
loop-i-preserved c =
    let names = c.args.names.now in
    let same : string_bytes c.index-names-i.result ≡ string_bytes c.in_ok-clone.field-0 = search rules in
    finds_apart (get_by_text c.loop-i.places) (get_by_text c.insert.new.self) (map string_bytes names) c.loop-i.i (string_bytes c.in_ok-clone.field-0) c.loop-i.invariant (omega (arith, length-map names string_bytes)) (get_or-map string_bytes names c.loop-i.i c.index-names-i.result _ c.loop-i-test.true ∙ ap string_bytes (sym c.index-names-i.is) ∙ same) c.requires (hash_map_updates_text (string_bytes c.in_ok-clone.field-0) c.loop-i.places c.insert.new.self _ c.in_ok-insert.ensures.updates)

-- all names were put in
pub returns : goal.returns
returns c =
    let names = c.args.names.now in
    let all : c.loop-i.i ≡ length names = omega arith in
    subst (λ n. FindsNames (get_by_text c.loop-i.places) (map string_bytes names) n) all c.loop-i.invariant

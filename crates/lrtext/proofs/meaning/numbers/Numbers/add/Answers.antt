use Rattle.std.proofs.Common.{◌≡◌, [], ◌∷◌, ◌++◌, length, false, ap, sym, arith, ◌∙◌}
use Rattle.std.specs.Option.{is_some}
use Rattle.lrspec.specs.texts.Names.{has_name}
use Rattle.lrtext.specs.NumberedNames.{names_of, number_in}
use Rattle.lrtext.proofs.NamesInMaps.{not_listed, numbered_push}
use Rattle.lrtext.proofs.ListSteps.{pushed}
use Rattle.lrtext.proofs.AddedNames.{new_name}
use Rattle.lrtext.proofs.meaning.numbers.Numbers.add.Goals as goal

-- the name was new, and got the next number
pub invariant_of-self-2 : goal.invariant_of-self-2
invariant_of-self-2 c =
    let ws = c.self.inside.names.items in
    let v = c.args.name in
    let all : c.push.new.self.items ≡ ws ++ v ∷ [] = pushed c.push.result _ _ c.push.new.self.items v c.push.ensures.items c.unwrap.ensures ∙ ap (λ us. us ++ v ∷ []) c.in_ok-reserve.ensures.items in
    let next : c.len.result ≡ length ws = omega (arith, c.len.ensures, c.in_ok-reserve.ensures.len, c.self.inside.names.ok.0) in
    let unknown : is_some (number_in (names_of ws) v.now) ≡ false = ap is_some (sym (c.self.invariant v.now)) ∙ sym c.if-contains_key.ensures in
    numbered_push c.self.inside.places c.insert.new.self ws c.push.new.self.items v c.len.result all next c.self.invariant (not_listed (names_of ws) v.now unknown) c.in_ok-insert.ensures.updates

pub returns : goal.returns
returns c =
    let ws = c.self.inside.names.items in
    let v = c.args.name in
    let all : c.push.new.self.items ≡ ws ++ v ∷ [] = pushed c.push.result _ _ c.push.new.self.items v c.push.ensures.items c.unwrap.ensures ∙ ap (λ us. us ++ v ∷ []) c.in_ok-reserve.ensures.items in
    let unknown : is_some (number_in (names_of ws) v.now) ≡ false = ap is_some (sym (c.self.invariant v.now)) ∙ sym c.if-contains_key.ensures in
    new_name ws c.push.new.self.items c.args.self.now v all c.self.view_is (ap (λ us. has_name us v.now) (sym c.self.view_is) ∙ not_listed (names_of ws) v.now unknown)

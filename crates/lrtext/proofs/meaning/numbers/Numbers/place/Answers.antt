use Rattle.std.proofs.Common.{◌≡◌, ◌∙◌, length, ap, sym, refl, unwrap_or, rules}
use Rattle.std.proofs.lemmas.List.{length-map}
use Rattle.lrtext.specs.NumberedNames.{number_in}
use Rattle.lrtext.proofs.NumberedNames.{place_by_number}
use Rattle.lrtext.proofs.meaning.numbers.Numbers.place.Goals as goal

-- the number that was found, or else the number of names
pub returns : goal.returns
returns c =
    let ws = c.args.self.now in
    let w = c.args.name.now in
    let items = c.self.inside.names.items in
    let stored : c.len.result ≡ length items = search rules in
    let all : c.len.result ≡ length ws = stored ∙ sym (length-map items _) ∙ ap length c.self.view_is in
    c.unwrap_or.ensures
    ∙ ap (λ o. unwrap_or o c.len.result) c.find.ensures
    ∙ ap (λ n. unwrap_or (number_in ws w) n) all
    ∙ sym (place_by_number ws w _ refl)

use Rattle.std.proofs.Common.{◌≡◌, ◌<◌, ◌∙◌, List, Some, ap, arith, get_or, length, string_bytes, sym}
use Rattle.std.proofs.lemmas.Slice.Eq.{bytes_eq-Decides}
use Rattle.lrgrammar.specs.declared.grammar.PartToken.{PartToken}
use Rattle.lryacc.proofs.Numbered.{some-at}
use Rattle.lryacc.proofs.MarksAdded.{mapped-at}
use Rattle.lryacc.proofs.numbering.Numbering.token_named.Goals as goal

pub returns-then-eq : goal.returns-then-eq
returns-then-eq c =
    let tokens = c.args.self.now.grammar.parts.tokens.items in
    let number = c.loop-number.number in
    let token = c.token-item.result in
    let value = c.deref-token-items.ensures.value in
    let below : number < length tokens = omega (arith, ap length value) in
    let at : token ≡ get_or tokens number token = c.token-item.is ∙ ap (λ (xs : List PartToken). get_or xs number token) value in
    let same : c.as_str.result.now ≡ c.args.name.now = (bytes_eq-Decides c.as_str.result.now c.args.name.now).0 (sym c.eq.ensures ∙ c.if-eq.true) in
    mapped-at (λ (t : PartToken). string_bytes t.name) tokens number token (some-at tokens number token below at)
    ∙ ap Some (sym c.as_str.ensures.value ∙ same)

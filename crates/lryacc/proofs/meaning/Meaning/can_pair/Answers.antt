use Rattle.std.proofs.Common.{◌≡◌, ◌∙◌, ap, is_some, not, sym, true}
use Rattle.lryacc.specs.Aliases.IsSettled.{first_has}
use Rattle.lryacc.proofs.AliasesTaken.{settled_by}
use Rattle.lryacc.proofs.meaning.Meaning.can_pair.Goals as goal
use Rattle.lryacc.proofs.meaning.Meaning.can_pair.Goals.{then-not-has_text, else-not-has_text}

pub returns-else-is_none-clause-settled : goal.returns-else-is_none-clause-settled
returns-else-is_none-clause-settled c = λ is. elim c.if-not-has_text.branch [
  | then-not-has_text w ↦
      let some : is_some w.partner.result ≡ true = w.is_none.ensures ∙ ap not (sym w.value-is ∙ is) in
      settled_by c.args.self.now.symbols c.args.one c.args.other w.partner.result (sym w.partner.ensures) some
  | else-not-has_text w ↦ first_has (c.has_text.ensures.some w.if-not-has_text.false)
]

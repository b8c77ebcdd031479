use Rattle.std.proofs.Common.{refl}
use Rattle.lryacc.proofs.Numbered.{levelled-without}
use Rattle.lryacc.proofs.numbering.Numbering.add_without_level.Goals as goal

pub returns-then-is_without_level : goal.returns-then-is_without_level
returns-then-is_without_level c = record {
  meaning = refl;
  contents = refl;
  numbered = λ h. h;
  levelled = λ h. levelled-without _ _ _ _ (c.is_without_level.ensures c.if-is_without_level.true) h;
  end = λ h. h;
  rules = λ _ _ e. e;
}

pub returns : goal.returns
returns c =
    let added = c.in_ok-add_token.ensures.added in
    record {
      meaning = added.meaning;
      contents = added.contents;
      numbered = added.numbered;
      levelled = λ h. levelled-without _ _ _ _ c.in_ok-add_token.ensures.precedence (added.levelled h);
      end = added.end;
      rules = added.rules;
    }

use Rattle.std.proofs.Common.{◌≡◌, ◌∙◌, None, refl, sym}
use Rattle.std.specs.BTreeMap.{get}
use Rattle.std.specs.Ordering.{nat_cmp}
use Rattle.lryacc.specs.Numbered.{names_of, symbol_in}
use Rattle.lryacc.proofs.Numbered.{end-put, none-some, numbered-token}
use Rattle.lryacc.proofs.numbering.Numbering.give_token.Goals as goal

pub returns : goal.returns
returns c = record {
  meaning = refl;
  contents = refl;
  rules = refl;
  numbered = λ is before h.
      numbered-token (names_of c.args.self.now) (symbol_in (record c.args.self.now { tokens = c.insert.new.self })) _ _ _ _ c.args.number c.args.token (λ q. c.in_ok-insert.ensures.updates.0 q) is before h;
  levelled = λ h. h;
  end = λ behind h.
      let none : get nat_cmp c.args.self.now.tokens c.args.number ≡ None =
      none-some _ (sym c.contains_key.ensures ∙ c.if-contains_key.false) in
      end-put (names_of c.args.self.now) (symbol_in (record c.args.self.now { tokens = c.insert.new.self })) (get nat_cmp c.args.self.now.tokens) _ c.args.number c.args.token (λ q. c.in_ok-insert.ensures.updates.0 q) none behind h;
}

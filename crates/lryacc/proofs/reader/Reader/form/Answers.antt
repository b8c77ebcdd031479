use Rattle.std.proofs.Common.{◌≡◌, ◌∷◌, ◌∙◌, List, ℕ, sym, subst}
use Rattle.std.specs.Prelude.{IfSome}
use Rattle.lryacc.specs.Directives.{counted, form_of}
use Rattle.lryacc.proofs.DeclarationsRead.{stripped}
use Rattle.lryacc.proofs.reader.Reader.form.Goals as goal

pub returns-in-Some : goal.returns-in-Some
returns-in-Some c =
    let word : c.bytes.result.now ≡ 37 ∷ c.in-Some.name.now =
    stripped c.bytes.result.now c.in-Some.name.now c.as_slice.result.now c.as_slice.ensures c.in-Some.ensures.cases.0 c.in-Some.ensures.cases.1 in
    subst (λ (w : List ℕ). IfSome c.form_of.result (λ f. counted f ≡ form_of c.args.self.now.dialect w)) (sym word ∙ c.bytes.ensures) c.form_of.ensures

use Rattle.std.proofs.Common.{◌≡◌, ◌∷◌, ◌∙◌, List, MatchOption, ℕ, sym}
use Rattle.std.specs.Prelude.{slice_get}
use Rattle.std.proofs.lemmas.Slice.Eq.{bytes_eq-Decides}
use Rattle.lryacc.specs.declared.directives.Form.{Form}
use Rattle.lryacc.specs.Directives.{counted, form_of}
use Rattle.lryacc.proofs.DirectivesFound.{all-found, each-some, listed-found}
use Rattle.lryacc.proofs.directives.form_in.Goals as goal

pub returns-then-eq : goal.returns-then-eq
returns-then-eq c = λ dialect each.
    let names = c.args.names.now in
    let name = c.args.name.now in
    let same = (bytes_eq-Decides c.as_bytes.result.now name).0 (sym c.eq.ensures ∙ c.if-eq.true) in
    each-some c.form_at.result
    (λ (f : Form). (at : ℕ) × MatchOption (slice_get names at) ⊥ (λ pair. (pair.0.now ≡ name) × (pair.1 ≡ f)))
    (λ (f : Form). counted f ≡ form_of dialect (37 ∷ name))
    (listed-found names (λ pair. pair.0.now) (λ pair. pair.1) name c.loop-at.at _ c.form_at.result c.loop-at-test.true c.form_at.ensures
    (sym c.as_bytes.ensures.value ∙ same))
    (λ f found. all-found names (λ pair. pair.0.now) (λ pair. pair.1) name f (λ (word : List ℕ) (f : Form). counted f ≡ form_of dialect (37 ∷ word)) found.0 found.1 each)

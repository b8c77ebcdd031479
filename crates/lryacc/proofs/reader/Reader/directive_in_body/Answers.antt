use Rattle.std.proofs.Common.{◌≡◌, ◌∙◌, ℕ, List, true, false, subst, sym}
use Rattle.std.specs.Str.{bytes_eq}
use Rattle.lryacc.specs.Bodies.{is_prec}
use Rattle.lryacc.specs.DeclarationsRead.{stated}
use Rattle.lryacc.specs.NamedSymbols.{text_at}
use Rattle.lryacc.proofs.AllBodiesRead.{on_ok}
use Rattle.lryacc.proofs.BodiesRead.{ReadsOn-behind, ReadsOn-precedence}
use Rattle.lryacc.proofs.DeclarationsRead.{stated-same}
use Rattle.lryacc.proofs.NamesOfOne.{ok-both, ok-then}
use Rattle.lryacc.proofs.reader.Reader.directive_in_body.Goals as goal

pub returns-then-eq-clause-read : goal.returns-then-eq-clause-read
returns-then-eq-clause-read c =
    let text = c.pass.new.self.text.now in
    let is_prec : is_prec text c.args.directive ≡ true =
    subst (λ (w : List ℕ). bytes_eq (text_at text c.args.directive.span) w ≡ true) c.as_slice.ensures
    (subst (λ (w : List ℕ). bytes_eq w c.as_slice.result.now ≡ true) c.bytes.ensures (sym c.eq.ensures ∙ c.if-eq.true)) in
    ok-both c.body_precedence.result
    (λ taken parts.
    ReadsOn-precedence _ _ _ c.args.directive (c.pass.ensures.passes c.requires.small) taken c.body_precedence.ensures.file c.requires.here c.requires.is is_prec
    (parts ∙ c.reach.ensures.parts) c.reach.ensures.precedence c.reach.ensures.span)
    c.body_precedence.ensures.taken c.body_precedence.ensures.parts

pub returns-else-eq-clause-read : goal.returns-else-eq-clause-read
returns-else-eq-clause-read c =
    let text = c.pass.new.self.text.now in
    let other : is_prec text c.args.directive ≡ false =
    subst (λ (w : List ℕ). bytes_eq (text_at text c.args.directive.span) w ≡ false) c.as_slice.ensures
    (subst (λ (w : List ℕ). bytes_eq w c.as_slice.result.now ≡ false) c.bytes.ensures (sym c.eq.ensures ∙ c.if-eq.false)) in
    let behind = c.body_directive.ensures in
    ReadsOn-behind _ c.reach.new.self _ c.args.directive c.body_directive.result (c.pass.ensures.passes c.requires.small) behind.read behind.file c.requires.here c.requires.is c.requires.stands other
    behind.parts behind.precedence behind.span c.reach.ensures.parts c.reach.ensures.precedence c.reach.ensures.span

pub returns-then-eq-clause-kept : goal.returns-then-eq-clause-kept
returns-then-eq-clause-kept c =
    ok-then c.body_precedence.result (λ kept. kept ∙ stated-same c.args.self.now c.pass.new.self c.pass.ensures.statements) c.body_precedence.ensures.kept

pub returns-else-eq-clause-kept : goal.returns-else-eq-clause-kept
returns-else-eq-clause-kept c =
    on_ok c.body_directive.result (stated c.body_directive.new.self ≡ stated c.args.self.now)
    (stated-same c.args.self.now c.body_directive.new.self (c.body_directive.ensures.statements ∙ c.pass.ensures.statements))

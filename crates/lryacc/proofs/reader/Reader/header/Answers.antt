use Rattle.std.proofs.Common.{◌≡◌, ◌∙◌, [], ℕ, Bool, List, true, refl, subst, sym}
use Rattle.std.specs.Prelude.{MatchBool, codes}
use Rattle.std.specs.Str.{bytes_eq}
use Rattle.lryacc.specs.declared.lexemes.LexemeKind.TheVariants as kind
use Rattle.lryacc.specs.Bodies.{SkipsKind, Stays}
use Rattle.lryacc.specs.NamedSymbols.{text_at}
use Rattle.lryacc.proofs.DeclarationsRead.{header-taken, stays-stated, tail-declared}
use Rattle.lryacc.proofs.reader.Reader.header.Goals as goal

pub returns-in_default-clause-said : goal.returns-in_default-clause-said
returns-in_default-clause-said c = refl

pub returns-then-not-is_header-clause-said : goal.returns-then-not-is_header-clause-said
returns-then-not-is_header-clause-said c = refl

pub returns-then-not-skip-clause-said : goal.returns-then-not-skip-clause-said
returns-then-not-skip-clause-said c =
    let old = c.args.self.now in
    let new = c.skip.new.self in
    stays-stated []
    (subst (λ (is : Bool). MatchBool is (SkipsKind old new kind.Directive) (Stays old new)) c.if-not-skip.true c.skip.ensures.skipped)
    c.skip.ensures.statements

pub returns-clause-said : goal.returns-clause-said
returns-clause-said c =
    let old = c.args.self.now in
    let new = c.skip.new.self in
    let text = old.text.now in
    let begins = sym c.eq-is_header.ensures ∙ c.if-not-is_header.false in
    let word : bytes_eq (text_at text c.in-Some.first.span) (codes "%grmtools") ≡ true =
    subst (λ (w : List ℕ). bytes_eq (text_at text c.in-Some.first.span) w ≡ true) c.as_slice.ensures
    (subst (λ (w : List ℕ). bytes_eq w c.as_slice.result.now ≡ true) c.bytes.ensures begins) in
    tail-declared old new c.want_unless_broken.new.self c.want_unless_broken.result
    (header-taken word (sym c.here.ensures.is ∙ c.in-Some.is)
    (subst (λ (is : Bool). MatchBool is (SkipsKind old new kind.Directive) (Stays old new)) c.if-not-skip.false c.skip.ensures.skipped)
    c.skip.ensures.statements)
    c.want_unless_broken.ensures.said

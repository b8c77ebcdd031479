use Rattle.std.proofs.Common.{Option, None, Some, get_or, sym, ◌∙◌}
use Rattle.std.proofs.lemmas.List.{get_or_default}
use Rattle.std.specs.Prelude.{IsSome}
use Rattle.std.specs.Option.{option_map}
use Rattle.lrspec.specs.grammars.Grammar as math
use Rattle.lrtext.specs.declared.parts.Precedence.{Precedence}
use Rattle.lrtext.specs.StoredParts.{precedence_of}
use Rattle.lrparts.proofs.Images.{any_image, no_image}
use Rattle.lrparts.proofs.TruthTests.{true_if, false_if}
use Rattle.lrgrammar.proofs.grammar.YaccGrammar.has_precedences.Goals as goal

-- a precedence is there exactly where it is in the grammar
has_image : (o : Option Precedence) → IsSome o → IsSome (option_map precedence_of o)
has_image None h = h
has_image (Some p) h = h

has_source : (o : Option Precedence) → IsSome (option_map precedence_of o) → IsSome o
has_source None h = h
has_source (Some p) h = h

pub returns-then-is_some : goal.returns-then-is_some
returns-then-is_some g c =
    let items = c.self.inside.token_precedences.items in
    let x = get_or c.deref-precedence-items.result.now c.loop-precedence.precedence-index None in
    rw (← c.self.view_is) (true_if (any_image (option_map precedence_of) (λ (o : Option math.Precedence). IsSome o) items _ c.loop-precedence.precedence-index x c.deref-precedence-items.ensures.value c.loop-precedence-test.true (get_or_default c.deref-precedence-items.result.now c.loop-precedence.precedence-index None x c.loop-precedence-test.true) (has_image x (sym c.is_some.ensures ∙ c.if-is_some.true))))

pub returns : goal.returns
returns g c =
    let items = c.self.inside.token_precedences.items in
    rw (← c.self.view_is) (false_if (no_image (option_map precedence_of) (λ (o : Option math.Precedence). IsSome o) items _ c.loop-precedence.precedence-index c.deref-precedence-items.ensures.value c.loop-precedence-test.false (λ k d l h. (rw c.deref-precedence-items.ensures.value at c.loop-precedence.invariant) k d l (has_source (get_or items k d) h))))

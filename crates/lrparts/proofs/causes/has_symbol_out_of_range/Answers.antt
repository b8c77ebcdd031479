use Rattle.std.proofs.Common.{◌≡◌, ◌∙◌, sym, length, map, arith}
use Rattle.std.specs.String.{string_bytes}
use Rattle.std.proofs.lemmas.List.{length-map}
use Rattle.lrtext.specs.declared.parts.PartSymbol.TheVariants.{Rule, Token}
use Rattle.lrspec.specs.texts.Parts.{IsOutOfRange}
use Rattle.lrtext.specs.StoredParts.{parts_of, part_symbol_of, token_of}
use Rattle.lrparts.proofs.Images.{any_image, no_image, none_more, element_here}
use Rattle.lrparts.proofs.TruthTests.{true_if, false_if, holds_if, fails_if, not_above}
use Rattle.lrparts.proofs.causes.has_symbol_out_of_range.Goals as goal
use Rattle.lrparts.proofs.causes.has_symbol_out_of_range.Goals.{in-Rule, in-Token}

pub returns : goal.returns
returns c =
    false_if (no_image part_symbol_of (IsOutOfRange (parts_of c.args.parts.now)) c.args.prod.now.symbols.items _ _ c.deref-symbol-items.ensures.value c.loop-symbol-test.false c.loop-symbol.invariant)

-- the symbol of the turn is in no list
pub returns-then-outside : goal.returns-then-outside
returns-then-outside c =
    elim c.match-symbol.branch [
      | in-Rule w ↦
          let items = c.args.parts.now.rules.items in
          let same : w.len.result ≡ length (map string_bytes items) = omega (arith, w.len.ensures, c.args.parts.now.rules.ok.0, length-map items string_bytes) in
          true_if (any_image part_symbol_of (IsOutOfRange (parts_of c.args.parts.now)) c.args.prod.now.symbols.items _ _ (Rule w.in-Rule.r) c.deref-symbol-items.ensures.value c.loop-symbol-test.true (element_here _ _ _ _ c.loop-symbol-test.true w.in-Rule.is) (holds_if (not_above w.len.result w.in-Rule.r (length (map string_bytes items)) same) (sym w.outside-is ∙ c.if-outside.true)))
      | in-Token w ↦
          let items = c.args.parts.now.tokens.items in
          let same : w.len-in-Token.result ≡ length (map token_of items) = omega (arith, w.len-in-Token.ensures, c.args.parts.now.tokens.ok.0, length-map items token_of) in
          true_if (any_image part_symbol_of (IsOutOfRange (parts_of c.args.parts.now)) c.args.prod.now.symbols.items _ _ (Token w.in-Token.t) c.deref-symbol-items.ensures.value c.loop-symbol-test.true (element_here _ _ _ _ c.loop-symbol-test.true w.in-Token.is) (holds_if (not_above w.len-in-Token.result w.in-Token.t (length (map token_of items)) same) (sym w.outside-is ∙ c.if-outside.true)))
    ]

-- the symbol of the turn is in its list
pub loop-symbol-preserved : goal.loop-symbol-preserved
loop-symbol-preserved c =
    elim c.match-symbol.branch [
      | in-Rule w ↦
          let items = c.args.parts.now.rules.items in
          let same : w.len.result ≡ length (map string_bytes items) = omega (arith, w.len.ensures, c.args.parts.now.rules.ok.0, length-map items string_bytes) in
          none_more part_symbol_of (IsOutOfRange (parts_of c.args.parts.now)) c.args.prod.now.symbols.items _ _ (Rule w.in-Rule.r) c.deref-symbol-items.ensures.value c.loop-symbol-test.true (element_here _ _ _ _ c.loop-symbol-test.true w.in-Rule.is) c.loop-symbol.invariant (fails_if (not_above w.len.result w.in-Rule.r (length (map string_bytes items)) same) (sym w.outside-is ∙ c.if-outside.false))
      | in-Token w ↦
          let items = c.args.parts.now.tokens.items in
          let same : w.len-in-Token.result ≡ length (map token_of items) = omega (arith, w.len-in-Token.ensures, c.args.parts.now.tokens.ok.0, length-map items token_of) in
          none_more part_symbol_of (IsOutOfRange (parts_of c.args.parts.now)) c.args.prod.now.symbols.items _ _ (Token w.in-Token.t) c.deref-symbol-items.ensures.value c.loop-symbol-test.true (element_here _ _ _ _ c.loop-symbol-test.true w.in-Token.is) c.loop-symbol.invariant (fails_if (not_above w.len-in-Token.result w.in-Token.t (length (map token_of items)) same) (sym w.outside-is ∙ c.if-outside.false))
    ]

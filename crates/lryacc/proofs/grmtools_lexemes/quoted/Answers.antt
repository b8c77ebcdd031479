use Rattle.std.proofs.Common.{◌≡◌, ◌≢◌, ◌⊎◌, ◌+◌, false, slice_index, inl, inr, subst, sym, refl, ◌∙◌}
use Rattle.lryacc.specs.declared.lexemes.LexemeKind.TheVariants.{QuotedName, QuotedText}
use Rattle.lryacc.specs.GrmtoolsQuotes.{is_quote}
use Rattle.lryacc.specs.QuotesRead.{ArePartsUpTo, has_quote}
use Rattle.lryacc.proofs.PartsInQuotes.{begins, ended-named, goes-on, mark-here, mark-named, mark-there, parts-whole, quote-is, quote-goes-on}
use Rattle.lryacc.proofs.grmtools_lexemes.quoted.Goals as goal
use Rattle.lryacc.proofs.grmtools_lexemes.quoted.Goals.{then-before-eq92+then-is_quote, else-before-eq92+else-byte-quote+else-byte-eq10, else-before-eq92-via-then-before-eq92+else-is_quote, else-before-eq92-via-else-before-eq92, then-before-eq92-2, else-before-eq92-2}

pub returns-then-is_lone_mark-clause-is : goal.returns-then-is_lone_mark-clause-is
returns-then-is_lone_mark-clause-is c =
    let text = c.args.text.now in
    mark-named (slice_index text c.args.from) text c.args.from c.requires.first
    (mark-here (slice_index text c.args.from) text c.args.from refl (c.is_lone_mark.ensures.is c.if-is_lone_mark.true))

pub loop-at-init : goal.loop-at-init
loop-at-init c =
    (inl refl, begins (slice_index c.args.text.now c.args.from) c.args.text.now (c.args.from + 1) c.requires.first)

pub loop-at-preserved : goal.loop-at-preserved
loop-at-preserved c =
    let text = c.args.text.now in
    let quote = slice_index text c.args.from in
    let start = c.args.from + 1 in
    let at = c.loop-at.at in
    let before = c.loop-at.before in
    let next = c.if-before-eq92-2.before in
    let read = c.loop-at.invariant.1 in
    let space : before ≡ 92 → next ≡ 32 = elim c.if-before-eq92-2.branch [
      | then-before-eq92-2 w ↦ λ e. w.before-is
      | else-before-eq92-2 w ↦ λ e. absurd (w.if-before-eq92-2.false e)
    ] in
    let same : before ≢ 92 → next ≡ slice_index text at = elim c.if-before-eq92-2.branch [
      | then-before-eq92-2 w ↦ λ apart. absurd (apart w.if-before-eq92-2.true)
      | else-before-eq92-2 w ↦ λ apart. w.before-is
    ] in
    elim c.if-before-eq92.branch [
      | then-before-eq92+then-is_quote w ↦ (
        inr w.kind-is,
        subst (λ kind. ArePartsUpTo quote text start (has_quote kind) (at + 1) next) (sym w.kind-is)
            (quote-goes-on quote text start (has_quote c.loop-at.kind) at before next read w.if-before-eq92.true
            (sym w.is_quote.ensures ∙ w.if-is_quote.true) (space w.if-before-eq92.true)),
      )
      | else-before-eq92+else-byte-quote+else-byte-eq10 w ↦
          let no_pair : before ≡ 92 → is_quote (slice_index text at) ≡ false = elim w.else-before-eq92.branch [
            | else-before-eq92-via-then-before-eq92+else-is_quote v ↦ λ e. sym v.is_quote.ensures ∙ v.if-is_quote.false
            | else-before-eq92-via-else-before-eq92 v ↦ λ e. absurd (v.if-before-eq92.false e)
          ] in
          let on = goes-on quote text start (has_quote c.loop-at.kind) at before next read no_pair w.if-byte-quote.false
          w.if-byte-eq10.false space same in (
            subst (λ kind. (kind ≡ QuotedName) ⊎ (kind ≡ QuotedText)) (sym w.kind-is) c.loop-at.invariant.0,
            subst (λ kind. ArePartsUpTo quote text start (has_quote kind) (at + 1) next) (sym w.kind-is) on,
          )
    ]

pub returns-then-byte-quote-clause-is : goal.returns-then-byte-quote-clause-is
returns-then-byte-quote-clause-is c =
    let text = c.args.text.now in
    let quote = slice_index text c.args.from in
    let at = c.loop-at.at in
    let is = quote-is quote (slice_index text at) c.requires.first c.if-byte-quote.true in
    let apart : c.loop-at.before ≢ 92 = elim c.else-before-eq92.branch [
      | else-before-eq92-via-then-before-eq92+else-is_quote w ↦ λ e.
          let none : is_quote (slice_index text at) ≡ false = sym w.is_quote.ensures ∙ w.if-is_quote.false in
          absurd (cc)
      | else-before-eq92-via-else-before-eq92 w ↦ w.if-before-eq92.false
    ] in
    ended-named quote text c.args.from at c.loop-at.kind c.ended.result c.requires.first c.loop-at.invariant.0 refl
    (λ lone.
    let is_one = c.is_lone_mark.ensures.only (mark-there quote text c.args.from refl lone) in
    let none = c.if-is_lone_mark.false in
    absurd (cc))
    (parts-whole quote text (c.args.from + 1) (has_quote c.loop-at.kind) at c.loop-at.before c.loop-at.invariant.1 apart)
    c.if-byte-quote.true c.ended.ensures.some c.ended.ensures.kind c.ended.ensures.end

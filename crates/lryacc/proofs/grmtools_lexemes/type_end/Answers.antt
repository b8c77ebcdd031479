use Rattle.std.proofs.Common.{◌≡◌, ◌≢◌, ◌+◌, ◌-◌, ◌<◌, length, slice_index, inl, inr, refl, rules, subst, sym, arith}
use Rattle.lryacc.specs.RuleTypes.{IsInType, IsLoneColon}
use Rattle.lryacc.specs.RuleTypes.IsInType.{closes, nothing, opens, semicolon}
use Rattle.lryacc.specs.TypesRead.{IsTypeUpTo}
use Rattle.lryacc.proofs.TypesByBytes.{at-end, first-colon, no-second, plain, second-colon}
use Rattle.lryacc.proofs.grmtools_lexemes.type_end.Goals as goal
use Rattle.lryacc.proofs.grmtools_lexemes.type_end.Goals.{else-byte-eq58-via-then-byte-eq58+else-not-is_second, else-byte-eq58-via-else-byte-eq58, in-91, in-93, in-59+else-brackets-eq0, in_default-1}

pub loop-at-init : goal.loop-at-init
loop-at-init c = (nothing, omega arith)

pub loop-at-preserved-then-not-is_second : goal.loop-at-preserved-then-not-is_second
loop-at-preserved-then-not-is_second c =
    let text = c.args.text.now in
    let at = c.loop-at.at in
    let depth = c.loop-at.brackets in
    let between : IsInType text c.args.from at depth =
    subst (λ is. IsTypeUpTo is text c.args.from at depth) c.if-not-is_second.true c.loop-at.invariant.0
    in
    let inside : at + 1 < length text = search rules in
    let other : slice_index text (at + 1) ≡ 58 = search rules in
    (first-colon text c.args.from at depth between inside c.if-byte-eq58.true other, omega (arith, c.loop-at.invariant.1))

pub returns-then-ne-clause-is : goal.returns-then-ne-clause-is
returns-then-ne-clause-is c =
    let text = c.args.text.now in
    let at = c.loop-at.at in
    let depth = c.loop-at.brackets in
    let between : IsInType text c.args.from at depth =
    subst (λ is. IsTypeUpTo is text c.args.from at depth) c.if-not-is_second.true c.loop-at.invariant.0
    in
    let lone : slice_index text (at + 1) ≢ 58 = search rules in
    let colon : IsLoneColon text at = record { is = c.if-byte-eq58.true; lone = lone } in
    record { depth = depth; between = between; ends = inl colon }

pub returns-in-59-clause-is : goal.returns-in-59-clause-is
returns-in-59-clause-is c =
    let text = c.args.text.now in
    let at = c.loop-at.at in
    let depth = c.loop-at.brackets in
    let apart : slice_index text at ≢ 58 = λ colon. absurd (omega (arith, c.in-59.is, colon)) in
    let between = no-second c.loop-at.is_second text c.args.from at depth c.loop-at.invariant.0 apart in
    record { depth = depth; between = between; ends = inr (inl (c.in-59.is, c.if-brackets-eq0.true)) }

pub loop-at-preserved : goal.loop-at-preserved
loop-at-preserved c =
    let text = c.args.text.now in
    let from = c.args.from in
    let at = c.loop-at.at in
    let depth = c.loop-at.brackets in
    let up = c.loop-at.invariant.0 in
    let few = c.loop-at.invariant.1 in
    let before : slice_index text at ≢ 58 → IsInType text from at depth =
    no-second c.loop-at.is_second text from at depth up
    in
    elim c.match-byte.branch [
      | in-91 w ↦
          let is : slice_index text at ≡ 91 = w.in-91.is in
          let apart : slice_index text at ≢ 58 = λ colon. absurd (omega (arith, is, colon)) in
          let one : depth + 1 ≡ c.match-byte.brackets = omega (arith, w.brackets-is, w.saturating_add-brackets.ensures) in
          (subst (IsInType text from (at + 1)) one (opens (before apart) is), omega arith)
      | in-93 w ↦
          let is : slice_index text at ≡ 93 = w.in-93.is in
          let apart : slice_index text at ≢ 58 = λ colon. absurd (omega (arith, is, colon)) in
          let one : depth - 1 ≡ c.match-byte.brackets = omega (arith, w.brackets-is, w.saturating_sub-brackets.ensures) in
          (subst (IsInType text from (at + 1)) one (closes (before apart) is), omega arith)
      | in-59+else-brackets-eq0 w ↦
          let is : slice_index text at ≡ 59 = w.in-59.is in
          let apart : slice_index text at ≢ 58 = λ colon. absurd (omega (arith, is, colon)) in (
            subst (IsInType text from (at + 1)) (sym w.brackets-is) (semicolon (before apart) is w.if-brackets-eq0.false),
            omega (arith, w.brackets-is),
          )
      | in_default-1 w ↦
          let on : IsInType text from (at + 1) depth = elim c.else-byte-eq58.branch [
            | else-byte-eq58-via-then-byte-eq58+else-not-is_second v ↦
                second-colon text from at depth (subst (λ is. IsTypeUpTo is text from at depth) v.if-not-is_second.false up)
            | else-byte-eq58-via-else-byte-eq58 v ↦
                let no_colon = v.if-byte-eq58.false in
                plain text from at depth (before no_colon) no_colon (search rules) (search rules) (search rules)
          ] in
          (subst (IsInType text from (at + 1)) (sym w.brackets-is) on, omega (few, arith, w.brackets-is))
    ]

pub returns-clause-is : goal.returns-clause-is
returns-clause-is c =
    let text = c.args.text.now in
    let all : c.loop-at.at ≡ length text = omega arith in
    let between = at-end c.loop-at.is_second text c.args.from c.loop-at.at c.loop-at.brackets c.loop-at.invariant.0 all in
    record {
      depth = c.loop-at.brackets;
      between = subst (λ end. IsInType text c.args.from end c.loop-at.brackets) all between;
      ends = inr (inr refl);
    }

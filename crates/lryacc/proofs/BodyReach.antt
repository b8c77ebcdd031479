-- what a body reaches over
use Rattle.std.proofs.Common.{◌≡◌, ℕ, zero, suc, ◌+◌, ◌-◌, ◌≤◌, arith, add-one, true, false, List, Option, None, Some, refl, ap, sym, ◌∙◌}
use Rattle.std.specs.Prelude.{slice_get, if◌then◌else◌}
use Rattle.std.specs.Option.{option_map}
use Rattle.lryacc.specs.declared.lexemes.Lexeme.{Lexeme}
use Rattle.lryacc.specs.declared.lexemes.LexemeKind.{LexemeKind}
use Rattle.lryacc.specs.declared.lexemes.LexemeKind.TheVariants as kind
use Rattle.lryacc.specs.declared.places.Span.{Span}
use Rattle.lryacc.specs.Bodies.{is_action, is_aside, is_symbol, reach, reach_over, reach_to}

-- over nothing
pub reach-none : (lexemes : List Lexeme) (at : ℕ) (so_far : Option Span) → reach_over lexemes at so_far 0 ≡ so_far
unfolding reach_over
reach-none lexemes at so_far = refl

-- over one more
reach-next : (lexemes : List Lexeme) (at : ℕ) (so_far : Option Span) (n : ℕ) → reach_over lexemes at so_far (n + 1) ≡ reach_to (reach_over lexemes at so_far n) (slice_get lexemes (at + n))
unfolding reach_over
reach-next lexemes at so_far n = rw add-one refl

-- over some, and then over others
reach-more : (lexemes : List Lexeme) (at : ℕ) (so_far : Option Span) (n m : ℕ) → reach_over lexemes at so_far (n + m) ≡ reach_over lexemes (at + n) (reach_over lexemes at so_far n) m
reach-more lexemes at so_far n zero =
    let e : n + 0 ≡ n = omega arith in
    ap (reach_over lexemes at so_far) e ∙ sym (reach-none lexemes (at + n) (reach_over lexemes at so_far n))
reach-more lexemes at so_far n (suc m) =
    let e : n + suc m ≡ n + m + 1 = omega arith in
    let f : suc m ≡ m + 1 = omega arith in
    let there : at + (n + m) ≡ at + n + m = omega arith in
    let first = reach_over lexemes at so_far n in
    ap (reach_over lexemes at so_far) e ∙ (reach-next lexemes at so_far (n + m)
    ∙ (ap (λ (q : Option Span). reach_to q (slice_get lexemes (at + (n + m)))) (reach-more lexemes at so_far n m)
    ∙ (ap (λ (k : ℕ). reach_to (reach_over lexemes (at + n) first m) (slice_get lexemes k)) there
    ∙ (sym (reach-next lexemes (at + n) first m) ∙ ap (reach_over lexemes (at + n) first) (sym f)))))

pub reach-on : (lexemes : List Lexeme) (before here after : Option Span) (from mid to : ℕ) → from ≤ mid → mid ≤ to → here ≡ reach_over lexemes from before (mid - from) → after ≡ reach_over lexemes mid here (to - mid) → after ≡ reach_over lexemes from before (to - from)
reach-on lexemes before here after from mid to below above p q =
    let e : to - from ≡ (mid - from) + (to - mid) = omega (arith, below, above) in
    let f : from + (mid - from) ≡ mid = omega (arith, below) in
    q ∙ (ap (λ (z : Option Span). reach_over lexemes mid z (to - mid)) p
    ∙ (ap (λ (k : ℕ). reach_over lexemes k (reach_over lexemes from before (mid - from)) (to - mid)) (sym f)
    ∙ (sym (reach-more lexemes from before (mid - from) (to - mid)) ∙ ap (reach_over lexemes from before) (sym e))))

-- over one
one-at : (lexemes : List Lexeme) (at to : ℕ) (so_far : Option Span) → to ≡ at + 1 → reach_over lexemes at so_far (to - at) ≡ reach_to so_far (slice_get lexemes at)
one-at lexemes at to so_far next =
    let e : to - at ≡ 0 + 1 = omega (arith, next) in
    let f : at + 0 ≡ at = omega arith in
    ap (reach_over lexemes at so_far) e ∙ (reach-next lexemes at so_far 0
    ∙ (ap (λ (q : Option Span). reach_to q (slice_get lexemes (at + 0))) (reach-none lexemes at so_far)
    ∙ ap (λ (k : ℕ). reach_to so_far (slice_get lexemes k)) f))

pub reach-one : (lexemes : List Lexeme) (at to : ℕ) (so_far : Option Span) (lexeme : Lexeme) → to ≡ at + 1 → slice_get lexemes at ≡ Some lexeme → is_aside lexeme.kind ≡ false → reach_over lexemes at so_far (to - at) ≡ Some (reach so_far lexeme.span)
reach-one lexemes at to so_far lexeme next here is =
    one-at lexemes at to so_far next ∙ (ap (reach_to so_far) here
    ∙ ap (λ b. if b then so_far else Some (reach so_far lexeme.span)) is)

-- over an aside
pub reach-aside : (lexemes : List Lexeme) (at to : ℕ) (so_far : Option Span) (lexeme : Lexeme) → to ≡ at + 1 → slice_get lexemes at ≡ Some lexeme → is_aside lexeme.kind ≡ true → reach_over lexemes at so_far (to - at) ≡ so_far
reach-aside lexemes at to so_far lexeme next here is =
    one-at lexemes at to so_far next ∙ (ap (reach_to so_far) here
    ∙ ap (λ b. if b then so_far else Some (reach so_far lexeme.span)) is)

-- the same, where only the kind is known
pub reach-skips : (lexemes : List Lexeme) (at to : ℕ) (so_far : Option Span) (k : LexemeKind) (found : Option Lexeme) → to ≡ at + 1 → slice_get lexemes at ≡ found → option_map (λ (lexeme : Lexeme). lexeme.kind) found ≡ Some k → is_aside k ≡ true → reach_over lexemes at so_far (to - at) ≡ so_far
reach-skips lexemes at to so_far k None next here is aside = absurd (cc)
reach-skips lexemes at to so_far k (Some lexeme) next here is aside =
    let same : lexeme.kind ≡ k = cc in
    reach-aside lexemes at to so_far lexeme next here (ap is_aside same ∙ aside)

-- parts are no asides
pub symbol-no_aside : (k : LexemeKind) → is_symbol k ≡ true → is_aside k ≡ false
symbol-no_aside kind.BracketName is = cc
symbol-no_aside kind.Tag is = cc
symbol-no_aside kind.Equals is = cc
symbol-no_aside kind.Number is = cc
symbol-no_aside _ is = refl

pub action-no_aside : (k : LexemeKind) → is_action k ≡ true → is_aside k ≡ false
action-no_aside kind.BracketName is = cc
action-no_aside kind.Tag is = cc
action-no_aside kind.Equals is = cc
action-no_aside kind.Number is = cc
action-no_aside _ is = refl

-- nothing was gone over
pub reach-still : (lexemes : List Lexeme) (at : ℕ) (so_far : Option Span) → so_far ≡ reach_over lexemes at so_far (at - at)
reach-still lexemes at so_far =
    let none : at - at ≡ 0 = omega arith in
    sym (ap (reach_over lexemes at so_far) none ∙ reach-none lexemes at so_far)

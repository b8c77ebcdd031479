-- A map of levels to kinds, as it grows over the tokens.
use Rattle.std.proofs.Common.{◌≡◌, ◌⊎◌, ℕ, zero, suc, ◌+◌, ◌<◌, ◌≤◌, Bool, true, false, cond, eqb, List, [], ◌∷◌, length, get_or, map, Option, None, Some, refl, ap, sym, ◌∙◌, subst, inl, inr, ⊎_elim, arith}
use Rattle.std.specs.Prelude.{Contains}
use Rattle.std.specs.Map.{update}
use Rattle.std.specs.Option.{option_map, option_and_then}
use Rattle.std.proofs.lemmas.Map.{update_here}
use Rattle.std.proofs.lemmas.Option.{slice_get-get_or}
use Rattle.std.proofs.lemmas.Bool.{cases_lt}
use Rattle.std.proofs.lemmas.Bool.Decides.{Decides-eqb}
use Rattle.lrspec.specs.grammars.Grammar as math
use Rattle.lrspec.specs.texts.Parts.{HasMixed, precedences_of}
use Rattle.lrtext.specs.declared.parts.AssocKind.{AssocKind}
use Rattle.lrtext.specs.declared.parts.AssocKind.TheVariants.{Left, Right, Nonassoc}
use Rattle.lrtext.specs.declared.parts.PartToken.{PartToken}
use Rattle.lrtext.specs.declared.parts.Precedence.{Precedence}
use Rattle.lrtext.specs.StoredParts.{kind_of, precedence_of, token_of}
use Rattle.lrparts.specs.LookUps.{IsOtherKind, IsSameKind}
use Rattle.lrparts.specs.LookUps.{FindsKinds, precedence_at}

-- what a look-up finds after an update
found_in : (b : Bool) (v w : AssocKind) (o : Option AssocKind) → cond b (Some v) o ≡ Some w → ((b ≡ true) × (v ≡ w)) ⊎ (o ≡ Some w)
found_in true v w o e = inl (refl, cc)
found_in false v w o e = inr e

same_as : (o : Option AssocKind) (v w : AssocKind) → IsSameKind o v → o ≡ Some w → w ≡ v
same_as None v w s e = cc
same_as (Some k) v w s e = cc

kept_in : (b : Bool) (v w : AssocKind) (o : Option AssocKind) → o ≡ Some w → (b ≡ true → w ≡ v) → cond b (Some v) o ≡ Some w
kept_in true v w o e same = ap Some (sym (same refl))
kept_in false v w o e same = e

module _ (look next : ℕ → Option AssocKind) (tokens : List PartToken) (n : ℕ) (p : Precedence) (old : Option AssocKind) (kinds : FindsKinds look tokens n) (at : precedence_at tokens n ≡ Some p) (was : old ≡ look p.level) (same : IsSameKind old p.kind) (after : (q : ℕ) → next q ≡ update eqb look p.level (Some p.kind) q) where
  found_next : (level : ℕ) (kind : AssocKind) → next level ≡ Some kind → (k : ℕ) × (q : Precedence) × (k < n + 1) × (precedence_at tokens k ≡ Some q) × (q.level ≡ level) × (q.kind ≡ kind)
  found_next level kind e =
      ⊎_elim (λ (h : (eqb p.level level ≡ true) × (p.kind ≡ kind)). (n, p, omega arith, at, (Decides-eqb p.level level).0 h.0, h.1))
      (λ (h : look level ≡ Some kind). let (k, q, l, a, b, d) = kinds.found level kind h in (k, q, omega (arith, l), a, b, d))
      (found_in (eqb p.level level) p.kind kind (look level) (sym (after level) ∙ e))

  kept_next : (k : ℕ) (q : Precedence) → k < n + 1 → precedence_at tokens k ≡ Some q → next q.level ≡ Some q.kind
  kept_next k q l a =
      ⊎_elim
      (λ (b : k < n). after q.level ∙ kept_in (eqb p.level q.level) p.kind q.kind (look q.level) (kinds.kept k q b a) (λ t. same_as old p.kind q.kind same (was ∙ ap look ((Decides-eqb p.level q.level).0 t) ∙ kinds.kept k q b a)))
      (λ (b : n ≤ k). let e : k ≡ n = omega arith in
      let i : q ≡ p = some_same q p (sym a ∙ ap (precedence_at tokens) e ∙ at) in
      after q.level ∙ here q i)
      (cases_lt k n)
    where
      some_same : (x y : Precedence) → Some x ≡ Some y → x ≡ y
      some_same x y e = cc

      here : (x : Precedence) → x ≡ p → update eqb look p.level (Some p.kind) x.level ≡ Some x.kind
      here x e = subst (λ (y : Precedence). update eqb look p.level (Some p.kind) y.level ≡ Some y.kind) (sym e) (update_here look p.level (Some p.kind))

  pub kinds_after : FindsKinds next tokens (n + 1)
  kinds_after = record { found = found_next; kept = kept_next }

none_some : (p : Precedence) → None ≡ Some p → ⊥
none_some p e = cc

-- a token without a precedence
pub kinds_past : (look : ℕ → Option AssocKind) (tokens : List PartToken) (n : ℕ) → FindsKinds look tokens n → precedence_at tokens n ≡ None → FindsKinds look tokens (n + 1)
kinds_past look tokens n kinds none = record {
  found = λ level kind e. let (k, q, l, a, b, d) = kinds.found level kind e in (k, q, omega (arith, l), a, b, d);
  kept = λ k p l a. ⊎_elim (λ (b : k < n). kinds.kept k p b a) (λ (b : n ≤ k). let e : n ≡ k = omega arith in absurd (none_some p (sym none ∙ ap (precedence_at tokens) e ∙ a))) (cases_lt k n);
}

-- the precedence of a token is among the precedences
contains_at : (tokens : List PartToken) (k : ℕ) (p : Precedence) → precedence_at tokens k ≡ Some p → Contains (precedences_of (map token_of tokens)) (Some (precedence_of p))
contains_at [] k p e = cc
contains_at (t ∷ ts) zero p e = (0, omega arith, rw e refl)
contains_at (t ∷ ts) (suc k) p e = let (j, l, i) = contains_at ts k p e in (suc j, omega (arith, l), i)

of_option : (o : Option Precedence) (a : math.Precedence) → option_map precedence_of o ≡ Some a → (p : Precedence) × (o ≡ Some p) × (precedence_of p ≡ a)
of_option None a e = cc
of_option (Some p) a e = (p, refl, cc)

-- a precedence among the precedences is that of a token
token_with : (tokens : List PartToken) (a : math.Precedence) → Contains (precedences_of (map token_of tokens)) (Some a) → (k : ℕ) × (p : Precedence) × (k < length tokens) × (precedence_at tokens k ≡ Some p) × (precedence_of p ≡ a)
token_with [] a (k, l, e) = absurd (omega arith)
token_with (t ∷ ts) a (zero, l, e) = let (p, i, h) = of_option t.precedence a e in (0, p, omega arith, i, h)
token_with (t ∷ ts) a (suc k, l, e) =
    let (j, p, m, i, h) = token_with ts a (k, omega arith, e) in (suc j, p, omega (arith, m), i, h)

kind_of_injective : (v w : AssocKind) → kind_of v ≡ kind_of w → v ≡ w
kind_of_injective Left Left e = refl
kind_of_injective Left Right e = cc
kind_of_injective Left Nonassoc e = cc
kind_of_injective Right Left e = cc
kind_of_injective Right Right e = refl
kind_of_injective Right Nonassoc e = cc
kind_of_injective Nonassoc Left e = cc
kind_of_injective Nonassoc Right e = cc
kind_of_injective Nonassoc Nonassoc e = refl

-- a token whose level was seen with another kind
pub mixed_from_other : (look : ℕ → Option AssocKind) (tokens : List PartToken) (n : ℕ) (p : Precedence) (old : Option AssocKind) → FindsKinds look tokens n → precedence_at tokens n ≡ Some p → old ≡ look p.level → IsOtherKind old p.kind → HasMixed (precedences_of (map token_of tokens))
mixed_from_other look tokens n p None kinds at was other = absurd other
mixed_from_other look tokens n p (Some v) kinds at was other =
    let (k, q, l, a, levels, same) = kinds.found p.level v (sym was) in
    (precedence_of q, precedence_of p, contains_at tokens k q a, contains_at tokens n p at, (levels, λ e. other (sym same ∙ kind_of_injective q.kind p.kind e)))

-- where each token has the kind that is found at its level, no level is mixed
pub none_mixed : (look : ℕ → Option AssocKind) (tokens : List PartToken) (n : ℕ) → FindsKinds look tokens n → length tokens ≤ n → HasMixed (precedences_of (map token_of tokens)) → ⊥
none_mixed look tokens n kinds end (a, b, in_a, in_b, mixed) =
    let (j, p, l, i, e) = token_with tokens a in_a in
    let (k, q, m, h, d) = token_with tokens b in_b in
    let levels : p.level ≡ q.level = ap (λ (x : math.Precedence). x.level) e ∙ mixed.0 ∙ sym (ap (λ (x : math.Precedence). x.level) d) in
    let found : Some p.kind ≡ Some q.kind = sym (kinds.kept j p (omega arith) i) ∙ ap look levels ∙ kinds.kept k q (omega arith) h in
    let same : p.kind ≡ q.kind = cc in
    mixed.1 (sym (ap (λ (x : math.Precedence). x.kind) e) ∙ ap kind_of same ∙ ap (λ (x : math.Precedence). x.kind) d)

-- the precedence of the token of a turn; the loop goes over `ys`, which are the tokens
pub at_turn : (tokens ys : List PartToken) (n : ℕ) (t : PartToken) (o : Option Precedence) → ys ≡ tokens → n < length ys → t ≡ get_or ys n t → t.precedence ≡ o → precedence_at tokens n ≡ o
at_turn tokens ys n t o same within is has =
    ap (λ xs. precedence_at xs n) (sym same) ∙ ap (option_and_then (λ (x : PartToken). x.precedence)) (slice_get-get_or ys n t within) ∙ ap (λ (x : PartToken). x.precedence) (sym is) ∙ has

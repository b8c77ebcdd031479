-- the first `*/` of a text, by its place
use Rattle.std.proofs.Common.{◌≡◌, ◌≢◌, ℕ, zero, suc, ◌<◌, ◌≤◌, true, false, ◌==◌, ◌&&◌, List, [], ◌∷◌, None, Some, option_map, length, take, drop, refl, ap, ◌∙◌, arith}
use Rattle.std.proofs.lemmas.Bool.{and_parts, and_from, cond-true, cond-false, eqb-true, eq-eqb}
use Rattle.lrspec.proofs.texts.ByteSplits.{onto, until_close}

-- two bytes that don't begin `*/` fail its test
no_close : (b c : ℕ) (bs : List ℕ) → ((rest : List ℕ) → b ∷ c ∷ bs ≢ 42 ∷ 47 ∷ rest) → (b == 42 && c == 47) ≡ false
no_close b c bs lacks =
    elim (b == 42 && c == 47) as (λ t. (b == 42 && c == 47) ≡ t → t ≡ false) [
      | true ↦ λ h. let eb = eqb-true b 42 (and_parts (b == 42) (c == 47) h).0 in let ec = eqb-true c 47 (and_parts (b == 42) (c == 47) h).1 in absurd (lacks bs cc)
      | false ↦ λ h. refl
    ] refl

-- without `*/` no comment ends
pub never_closes : (bs : List ℕ) → ((i : ℕ) → i ≤ length bs → (rest : List ℕ) → drop i bs ≢ 42 ∷ 47 ∷ rest) → until_close bs ≡ None
never_closes [] lacks = refl
never_closes (b ∷ []) lacks = refl
never_closes (b ∷ c ∷ bs) lacks =
    cond-false (b == 42 && c == 47) _ _ (no_close b c bs (λ r. lacks 0 (omega arith) r)) ∙ ap (option_map (onto b)) (never_closes (c ∷ bs) (λ i h r. lacks (suc i) (omega arith) r))

-- a comment ends at its first `*/`
pub closes_at : (bs rest : List ℕ) (i : ℕ) → ((k : ℕ) → k < i → (rest : List ℕ) → drop k bs ≢ 42 ∷ 47 ∷ rest) → drop i bs ≡ 42 ∷ 47 ∷ rest → until_close bs ≡ Some (take i bs, rest)
closes_at [] rest zero lacks here = cc
closes_at [] rest (suc i) lacks here = cc
closes_at (b ∷ []) rest zero lacks here = cc
closes_at (b ∷ []) rest (suc zero) lacks here = cc
closes_at (b ∷ []) rest (suc (suc i)) lacks here = cc
closes_at (b ∷ c ∷ bs) rest zero lacks here =
    let eb : b ≡ 42 = cc in let ec : c ≡ 47 = cc in let er : bs ≡ rest = cc in
    cond-true (b == 42 && c == 47) _ _ (and_from (b == 42) (c == 47) (eq-eqb b 42 eb) (eq-eqb c 47 ec)) ∙ ap (λ r. Some ([], r)) er
closes_at (b ∷ c ∷ bs) rest (suc i) lacks here =
    cond-false (b == 42 && c == 47) _ _ (no_close b c bs (λ r. lacks 0 (omega arith) r)) ∙ ap (option_map (onto b)) (closes_at (c ∷ bs) rest i (λ k h r. lacks (suc k) (omega arith) r) here)

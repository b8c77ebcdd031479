-- what tests of symbols tell
use Rattle.std.proofs.Common.{◌≡◌, ℕ, ◌-◌, Bool, true, false, List, [], ◌∷◌, ◌++◌, length, map, take, drop, refl, ap, sym, ◌∙◌}
use Rattle.std.specs.Prelude.{IsTrue, ◌↔◌}
use Rattle.std.specs.Bool.{Decides}
use Rattle.std.specs.Cmp.Lexicographic.{pointwise}
use Rattle.std.specs.List.{ends_with}
use Rattle.std.proofs.Math.Seq.{drop-append_seam}
use Rattle.std.proofs.lemmas.List.{drop-map, take-append-drop}
use Rattle.std.proofs.lemmas.Slice.Eq.{slice_eq-Decides, ends_is}
use Rattle.lrgrammar.specs.declared.idx.Symbol.{Symbol}
use Rattle.lrgrammar.specs.declared.idx.Symbol.TheVariants as code
use Rattle.lrgrammar.specs.declared.idx.RIdx.{RIdx}
use Rattle.lrgrammar.specs.declared.idx.TIdx.{TIdx}
use Rattle.lrgrammar.specs.Symbols.{symbol_of}
use Rattle.lrspec.specs.grammars.Grammar as math

-- symbols are tested by kinds, and then by their numbers
pub record Tests {T : Type 0} (test : T → T → Bool) (both : Symbol T → Symbol T → Bool) : Type 0 where
  pub rules : (r s : RIdx T) → both (code.Rule r) (code.Rule s) ≡ test r.0 s.0
  pub rule_token : (r : RIdx T) (t : TIdx T) → both (code.Rule r) (code.Token t) ≡ false
  pub token_rule : (t : TIdx T) (r : RIdx T) → both (code.Token t) (code.Rule r) ≡ false
  pub tokens : (t u : TIdx T) → both (code.Token t) (code.Token u) ≡ test t.0 u.0

module _ {T : Type 0} (number : T → ℕ) (test : T → T → Bool) (same : (x y : T) → IsTrue (test x y) ↔ (number x ≡ number y)) (one : (x y : T) → number x ≡ number y → x ≡ y) (both : Symbol T → Symbol T → Bool) (tests : Tests test both) where
  -- the test tells whether two symbols are one
  symbols_tested : (x y : Symbol T) → Decides (both x y) (x ≡ y)
  symbols_tested (code.Rule r) (code.Rule s) = (
    λ e. let equal : r.0 ≡ s.0 = one r.0 s.0 ((same r.0 s.0).0 (sym (tests.rules r s) ∙ e)) in ap (λ x. code.Rule (record { 0 = x })) equal,
    λ e. let equal : r ≡ s = cc in tests.rules r s ∙ (same r.0 s.0).1 (ap (λ (x : RIdx T). number x.0) equal),
  )
  symbols_tested (code.Rule r) (code.Token t) = (λ e. let no : false ≡ true = sym (tests.rule_token r t) ∙ e in cc, λ e. cc)
  symbols_tested (code.Token t) (code.Rule r) = (λ e. let no : false ≡ true = sym (tests.token_rule t r) ∙ e in cc, λ e. cc)
  symbols_tested (code.Token t) (code.Token u) = (
    λ e. let equal : t.0 ≡ u.0 = one t.0 u.0 ((same t.0 u.0).0 (sym (tests.tokens t u) ∙ e)) in ap (λ x. code.Token (record { 0 = x })) equal,
    λ e. let equal : t ≡ u = cc in tests.tokens t u ∙ (same t.0 u.0).1 (ap (λ (x : TIdx T). number x.0) equal),
  )

  -- lists that are tested to be equal are
  pub lists_equal : (xs ys : List (Symbol T)) → true ≡ pointwise both xs ys → xs ≡ ys
  lists_equal xs ys e = (slice_eq-Decides symbols_tested xs ys true e).0 refl

  -- a list that is tested to end with the other does
  pub list_ends : (xs ys : List (Symbol T)) → true ≡ ends_with both xs ys → xs ≡ take (length xs - length ys) xs ++ ys
  list_ends xs ys e = (ends_is symbols_tested xs ys true e).0 refl

  -- a symbol is known by its number
  symbol_same : (x y : Symbol T) → symbol_of number x ≡ symbol_of number y → x ≡ y
  symbol_same (code.Rule r) (code.Rule s) e = let equal : number r.0 ≡ number s.0 = cc in ap (λ x. code.Rule (record { 0 = x })) (one r.0 s.0 equal)
  symbol_same (code.Rule r) (code.Token t) e = absurd (cc)
  symbol_same (code.Token t) (code.Rule r) e = absurd (cc)
  symbol_same (code.Token t) (code.Token u) e = let equal : number t.0 ≡ number u.0 = cc in ap (λ x. code.Token (record { 0 = x })) (one t.0 u.0 equal)

  -- and so are lists of them
  symbols_same : (xs ys : List (Symbol T)) → map (symbol_of number) xs ≡ map (symbol_of number) ys → xs ≡ ys
  symbols_same [] [] e = refl
  symbols_same [] (y ∷ ys) e = absurd (cc)
  symbols_same (x ∷ xs) [] e = absurd (cc)
  symbols_same (x ∷ xs) (y ∷ ys) e =
      let head : symbol_of number x ≡ symbol_of number y = cc in
      let tail : map (symbol_of number) xs ≡ map (symbol_of number) ys = cc in
      let first : x ≡ y = symbol_same x y head in
      let behind : xs ≡ ys = symbols_same xs ys tail in
      cc

  -- lists of the same numbers are tested to be equal
  pub equal_tested : (xs ys : List (Symbol T)) (r : Bool) → r ≡ pointwise both xs ys → map (symbol_of number) xs ≡ map (symbol_of number) ys → r ≡ true
  equal_tested xs ys r e same_numbers = (slice_eq-Decides symbols_tested xs ys r e).1 (symbols_same xs ys same_numbers)

  -- and a list that ends with the numbers of the other is tested to do so
  pub end_tested :
      (xs ys : List (Symbol T)) (r : Bool) (front : List math.Symbol) → r ≡ ends_with both xs ys → map (symbol_of number) xs ≡ front ++ map (symbol_of number) ys → r ≡ true
  end_tested xs ys r front e split =
      let n : ℕ = length front in
      let last : map (symbol_of number) (drop n xs) ≡ map (symbol_of number) ys =
      sym (drop-map (symbol_of number) n xs) ∙ ap (drop n) split ∙ drop-append_seam front (map (symbol_of number) ys) in
      let whole : xs ≡ take n xs ++ ys = sym (take-append-drop n xs) ∙ ap (λ l. take n xs ++ l) (symbols_same (drop n xs) ys last) in
      (ends_is symbols_tested xs ys r e).1 (take n xs) whole

-- precedences that were listed one after another
use Rattle.std.proofs.Common.{◌≡◌, ◌∙◌, ℕ, zero, suc, ◌+◌, ◌≤◌, Option, None, Some, List, [], ◌∷◌, ◌++◌, length, map, refl, sym, ap, arith}
use Rattle.std.specs.Prelude.{slice_get}
use Rattle.std.proofs.lemmas.List.{map-append}
use Rattle.std.proofs.lemmas.List.FromFn.{map-range_with_len_more}
use Rattle.std.specs.List.{range_with_len}
use Rattle.std.specs.Option.{option_and_then, option_map}
use Rattle.lrspec.specs.grammars.Grammar as math
use Rattle.lrspec.specs.grammars.Grammar.{Grammar, IsGrammar, token_precedence, production_precedence, token_count}
use Rattle.lrtext.specs.StoredParts.{precedence_of}
use Rattle.lrtext.specs.declared.parts.Precedence.{Precedence}
use Rattle.lrfindings.specs.StoredCells.{precedence_at}

module _ (f : ℕ → Option math.Precedence) where
  -- what is listed from `a` on
  listed_from :
      (a n : ℕ) (os : List (Option Precedence)) → map (option_map precedence_of) os ≡ map f (range_with_len a n) → ((k : ℕ) → a + n ≤ k → f k ≡ None)
      → (k m : ℕ) → m ≡ a + k → precedence_at os k ≡ f m
  listed_from a zero [] e past k m is = sym (past m (omega arith))
  listed_from a zero (o ∷ os) e past k m is = absurd cc
  listed_from a (suc n) [] e past k m is = absurd cc
  listed_from a (suc n) (None ∷ os) e past zero m is = let here : None ≡ f a = cc in here ∙ ap f (omega arith)
  listed_from a (suc n) (Some x ∷ os) e past zero m is = let here : Some (precedence_of x) ≡ f a = cc in here ∙ ap f (omega arith)
  listed_from a (suc n) (o ∷ os) e past (suc k) m is =
      let rest : map (option_map precedence_of) os ≡ map f (range_with_len (a + 1) n) = cc in
      listed_from (a + 1) n os rest (λ j l. past j (omega arith)) k m (omega arith)

-- one more is listed
pub one_more_listed :
    (f : ℕ → Option math.Precedence) (k m : ℕ) (x : Option Precedence) (os new : List (Option Precedence)) → m ≡ k
    → option_map precedence_of x ≡ f m → new ≡ os ++ x ∷ [] → map (option_map precedence_of) os ≡ map f (range_with_len 0 k)
    → map (option_map precedence_of) new ≡ map f (range_with_len 0 (k + 1))
one_more_listed f k m x os new same here pushed before =
    let more : map f (range_with_len 0 (k + 1)) ≡ map f (range_with_len 0 k) ++ f m ∷ [] = map-range_with_len_more f 0 k m (omega arith) in
    rw (pushed, map-append (option_map precedence_of) os (x ∷ []), before, here, more) refl

-- nothing is at a place past the end
nothing_past : {X : Type 0} (os : List (Option X)) (k : ℕ) → length os ≤ k → option_and_then (λ o. o) (slice_get os k) ≡ None
nothing_past [] k l = refl
nothing_past (o ∷ os) zero l = absurd (omega arith)
nothing_past (o ∷ os) (suc k) l = nothing_past os k (omega arith)

pub token_listed :
    (g : Grammar) (os : List (Option Precedence)) → IsGrammar g → map (option_map precedence_of) os ≡ map (token_precedence g) (range_with_len 0 (token_count g))
    → (t : ℕ) → precedence_at os t ≡ token_precedence g t
token_listed g os shape e t =
    listed_from (token_precedence g) 0 (token_count g) os e (λ k l. nothing_past g.token_precedences k (omega (arith, shape.precedences))) t t (omega arith)

no_production : {X : Type 0} (xs : List X) (k : ℕ) → length xs ≤ k → slice_get xs k ≡ None
no_production [] k l = refl
no_production (x ∷ xs) zero l = absurd (omega arith)
no_production (x ∷ xs) (suc k) l = no_production xs k (omega arith)

pub production_listed :
    (g : Grammar) (os : List (Option Precedence)) → map (option_map precedence_of) os ≡ map (production_precedence g) (range_with_len 0 (length g.productions))
    → (p : ℕ) → precedence_at os p ≡ production_precedence g p
production_listed g os e p =
    listed_from (production_precedence g) 0 (length g.productions) os e (λ k l. rw (no_production g.productions k (omega arith)) refl) p p (omega arith)

-- what the symbols of a list are to a token, symbol after symbol
use Rattle.std.proofs.Common.{◌≡◌, ◌≢◌, ℕ, suc, true, false, List, [], ◌∷◌, refl}
use Rattle.std.specs.Prelude.{IsTrue}
use Rattle.lrspec.specs.grammars.Grammar as math
use Rattle.lrspec.specs.grammars.Grammar.{Symbol, Rule, Token, Grammar, body_of}
use Rattle.lrspec.specs.grammars.ItemSets.{IsBefore}
use Rattle.lrspec.specs.grammars.First as first
use Rattle.lrspec.specs.grammars.First.{Begins, AllNullable}
use Rattle.lrspec.proofs.grammars.BodyFacts.{rest_next}
use Rattle.lrbits.specs.Bits.{bit}
use Rattle.lrgrammar.specs.Firsts.{Firsts, firsts_of, AreFirstsOf}
use Rattle.lrsearches.specs.declared.rests.Rest.{Rest}
use Rattle.lrsearches.specs.declared.rests.Rest.TheVariants as rest
use Rattle.lrsearches.specs.Rests.{IsRest, IsRestBehind}

-- a list that begins with a token begins with that alone
begins_token : {g : Grammar} {u t : ℕ} {y : List Symbol} → Begins g (Token u ∷ y) t → u ≡ t
begins_token first.Begins.here = refl

module _ (g : Grammar) (p d r t : ℕ) where
  -- what is left behind the rule is what stands behind it
  pub rest_of_behind : (x : Rest) → IsBefore g p d (Rule r) → IsRest g (math.rest g p (suc d)) t x → IsRestBehind g p d r t x
  rest_of_behind rest.Begins b h = (b.0, b.1, rw (rest_next (body_of g p) d (Rule r) b.0 b.1) at h)
  rest_of_behind rest.Nullable b h = (b.0, b.1, rw (rest_next (body_of g p) d (Rule r) b.0 b.1) at h)
  rest_of_behind rest.Neither b h = λ y e. rw (rest_next (body_of g p) d (Rule r) y e) at h

  -- an item that does not stand before the rule has nothing behind it
  pub rest_of_apart : (IsBefore g p d (Rule r) → ⊥) → IsRestBehind g p d r t rest.Neither
  rest_of_apart n = λ y e. absurd (n (y, e))

module _ (g : Grammar) (t : ℕ) where
  -- the empty list
  pub rest_of_none : IsRest g [] t rest.Nullable
  rest_of_none = (λ b. elim b [ ], first.AllNullable.none)

  -- a list that begins with the token
  pub rest_of_token : (y : List Symbol) → IsRest g (Token t ∷ y) t rest.Begins
  rest_of_token y = first.Begins.here

  -- a list that begins with another
  pub rest_of_other : (u : ℕ) (y : List Symbol) → u ≢ t → IsRest g (Token u ∷ y) t rest.Neither
  rest_of_other u y differ = (λ b. differ (begins_token b), λ n. elim n [ ])

  module _ (f : Firsts) (of : AreFirstsOf g f) (r : ℕ) (y : List Symbol) where
    -- a list that begins with a rule that begins with the token
    pub rest_of_first : IsTrue (bit (firsts_of f r) t) → IsRest g (Rule r ∷ y) t rest.Begins
    rest_of_first b = let (p, i, l) = (of.begins r t).0 b in first.Begins.inside p i l

    begins_behind : (bit (firsts_of f r) t ≡ false) → Begins g (Rule r ∷ y) t → Begins g y t
    begins_behind n (first.Begins.inside p i b) = let yes = (of.begins r t).1 (p, i, b) in absurd cc
    begins_behind n (first.Begins.past i b) = b

    nullable_behind : AllNullable g (Rule r ∷ y) → AllNullable g y
    nullable_behind (first.AllNullable.more n m) = m

    nullable_first : AllNullable g (Rule r ∷ y) → bit f.nullable r ≡ true
    nullable_first (first.AllNullable.more n m) = (of.is_nullable r).1 n

    begins_nullable : (bit (firsts_of f r) t ≡ false) → Begins g (Rule r ∷ y) t → bit f.nullable r ≡ true
    begins_nullable n (first.Begins.inside p i b) = let yes = (of.begins r t).1 (p, i, b) in absurd cc
    begins_nullable n (first.Begins.past i b) = (of.is_nullable r).1 i

    -- a list that begins with another rule, which is not nullable
    pub rest_of_stop : bit (firsts_of f r) t ≡ false → bit f.nullable r ≡ false → IsRest g (Rule r ∷ y) t rest.Neither
    rest_of_stop n m = (λ b. let yes = begins_nullable n b in absurd cc, λ a. let yes = nullable_first a in absurd cc)

    -- a list that begins with a nullable rule is what it is behind that
    pub rest_past : bit (firsts_of f r) t ≡ false → bit f.nullable r ≡ true → (x : Rest) → IsRest g y t x → IsRest g (Rule r ∷ y) t x
    rest_past n m rest.Begins h = first.Begins.past ((of.is_nullable r).0 m) h
    rest_past n m rest.Nullable h = (λ b. h.0 (begins_behind n b), first.AllNullable.more ((of.is_nullable r).0 m) h.1)
    rest_past n m rest.Neither h = (λ b. h.0 (begins_behind n b), λ a. h.1 (nullable_behind a))

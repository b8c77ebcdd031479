-- with what a list of symbols begins, symbol after symbol
use Rattle.std.proofs.Common.{◌≡◌, ℕ, Bool, true, false, ◌||◌, ◌<◌, List, ◌∷◌, length, replicate, set, refl, sym, ap, ◌∙◌, ◌⊎◌, inl, inr, ⊎_elim, subst, length-set, get_or-set_same}
use Rattle.std.specs.Prelude.{IsTrue}
use Rattle.std.proofs.lemmas.Bool.{cases_eq}
use Rattle.std.proofs.lemmas.List.{get_or-set_other, length-replicate}
use Rattle.lrspec.specs.grammars.Grammar.{Symbol, Rule, Token, Grammar, token_count}
use Rattle.lrspec.specs.grammars.First as first
use Rattle.lrspec.specs.grammars.First.{AllNullable, Begins}
use Rattle.lrbits.specs.Bits.{bit}
use Rattle.lrgrammar.specs.Firsts.{Firsts, firsts_of, AreFirstsOf}
use Rattle.lrdecided.specs.Beginnings.{BeginsWithin}

-- a bit of a union
or_first : (a b : Bool) → a ≡ true → (a || b) ≡ true
or_first true b e = refl
or_first false b e = cc

or_second : (a b : Bool) → b ≡ true → (a || b) ≡ true
or_second true b e = refl
or_second false b e = e

-- a list that begins with a token begins with that alone
begins_token : {g : Grammar} {u t : ℕ} {y : List Symbol} → Begins g (Token u ∷ y) t → u ≡ t
begins_token first.Begins.here = refl

-- the tokens with which the list begins are set, or begin what is left of it
pub record Begun (g : Grammar) (y left : List Symbol) (v : List Bool) : Type 0 where
  pub tokens : length v ≡ token_count g
  pub empty : AllNullable g y → AllNullable g left
  pub begins : (t : ℕ) → Begins g y t → IsTrue (bit v t) ⊎ Begins g left t

module _ {g : Grammar} {y : List Symbol} where
  -- all of it is left
  pub none_begun : (n : ℕ) (v : List Bool) → v ≡ replicate n false → n ≡ token_count g → Begun g y y v
  none_begun n v e k = record {
    tokens = ap length e ∙ length-replicate n false ∙ k;
    empty = λ a. a;
    begins = λ t b. inr b;
  }

  -- a token is left
  pub token_begun : {z : List Symbol} {u : ℕ} {v : List Bool} → Begun g y (Token u ∷ z) v → u < length v → (w : List Bool) → w ≡ set v u true → BeginsWithin g y w
  token_begun {z} {u} {v} k l w e = record {
    tokens = ap length e ∙ length-set v u true ∙ k.tokens;
    not_empty = λ a. elim (k.empty a) [ ];
    begins = λ t b. rw e (elim (k.begins t b) [ inl s ↦ kept t s | inr c ↦ subst (λ (n : ℕ). IsTrue (bit (set v u true) n)) (begins_token c) here ]);
  }
    where
      here : IsTrue (bit (set v u true) u)
      here = get_or-set_same v u true false l

      kept : (t : ℕ) → IsTrue (bit v t) → IsTrue (bit (set v u true) t)
      kept t s = ⊎_elim
          (λ (i : t ≡ u). subst (λ (n : ℕ). IsTrue (bit (set v u true) n)) (sym i) here)
          (λ (d : t ≡ u → ⊥). get_or-set_other v u t true false d ∙ s)
          (cases_eq t u)

  module _ (f : Firsts) (of : AreFirstsOf g f) {z : List Symbol} {r : ℕ} {v : List Bool} (k : Begun g y (Rule r ∷ z) v)
      (w : List Bool) (size : length w ≡ length v) (each : (i : ℕ) → bit w i ≡ (bit v i || bit (firsts_of f r) i)) where
    of_rule : (t : ℕ) → Begins g (Rule r ∷ z) t → IsTrue (bit w t) ⊎ (IsTrue (bit f.nullable r) × Begins g z t)
    of_rule t (first.Begins.inside p i b) = inl (each t ∙ or_second (bit v t) (bit (firsts_of f r) t) ((of.begins r t).1 (p, i, b)))
    of_rule t (first.Begins.past n b) = inr ((of.is_nullable r).1 n, b)

    set_or_left : (t : ℕ) → Begins g y t → IsTrue (bit w t) ⊎ (IsTrue (bit f.nullable r) × Begins g z t)
    set_or_left t b = elim (k.begins t b) [
      | inl s ↦ inl (each t ∙ or_first (bit v t) (bit (firsts_of f r) t) s)
      | inr c ↦ of_rule t c
    ]

    nullable_first : AllNullable g (Rule r ∷ z) → IsTrue (bit f.nullable r) × AllNullable g z
    nullable_first (first.AllNullable.more n m) = ((of.is_nullable r).1 n, m)

    -- a rule that is not nullable is left
    pub rule_begun : bit f.nullable r ≡ false → BeginsWithin g y w
    rule_begun e = record {
      tokens = size ∙ k.tokens;
      not_empty = λ a. let yes = (nullable_first (k.empty a)).0 in absurd cc;
      begins = λ t b. elim (set_or_left t b) [ inl s ↦ s | inr c ↦ let yes = c.0 in absurd cc ];
    }

    -- what is behind a rule is left
    pub rule_past : Begun g y z w
    rule_past = record {
      tokens = size ∙ k.tokens;
      empty = λ a. (nullable_first (k.empty a)).1;
      begins = λ t b. elim (set_or_left t b) [ inl s ↦ inl s | inr c ↦ inr c.1 ];
    }

-- lists of nullable rules
use Rattle.std.proofs.Common.{◌≡◌, ℕ, ◌<◌, ◌≤◌, Bool, true, false, List, [], ◌∷◌, ◌++◌, length, sym, subst, arith}
use Rattle.std.specs.Prelude.{IsTrue, ◌↔◌}
use Rattle.lrspec.specs.grammars.Grammar.{Symbol, Rule, Token, Grammar}
use Rattle.lrspec.specs.grammars.First as first
use Rattle.lrspec.specs.grammars.First.{Nullable, AllNullable}
use Rattle.lrbits.specs.Bits.{bit}
use Rattle.lrgrammar.specs.declared.idx.Symbol as stored
use Rattle.lrgrammar.specs.declared.idx.Symbol.TheVariants as code
use Rattle.lrgrammar.specs.declared.idx.RIdx.{RIdx}
use Rattle.lrgrammar.specs.declared.idx.TIdx.{TIdx}
use Rattle.lrgrammar.specs.Symbols.{symbol_of, number_of}
use Rattle.lrgrammar.specs.Firsts.{Firsts, AreFirstsOf}

pub null_head : {g : Grammar} {r : ℕ} {y : List Symbol} → AllNullable g (Rule r ∷ y) → Nullable g r
null_head (first.AllNullable.more n a) = n

-- one after the other
pub null_append : {g : Grammar} {x y : List Symbol} → AllNullable g x → AllNullable g y → AllNullable g (x ++ y)
null_append first.AllNullable.none k = k
null_append (first.AllNullable.more n a) k = first.AllNullable.more n (null_append a k)

-- the first, and those behind it
null_first : {g : Grammar} (x : Symbol) {y : List Symbol} → AllNullable g (x ∷ y) → AllNullable g (x ∷ []) × AllNullable g y
null_first (Rule r) (first.AllNullable.more n a) = (first.AllNullable.more n first.AllNullable.none, a)
null_first (Token t) a = elim a [ ]

-- a turn for each symbol
pub null_next :
    (g : Grammar) (x : Symbol) (left next whole : List Symbol) → left ≡ x ∷ next → AllNullable g (x ∷ []) → (AllNullable g left ↔ AllNullable g whole)
    → AllNullable g next ↔ AllNullable g whole
null_next g x left next whole e one k = (
  λ a. k.0 (subst (AllNullable g) (sym e) (null_append one a)),
  λ a. (null_first x (subst (AllNullable g) e (k.1 a))).1,
)

pub null_stop :
    (g : Grammar) (x : Symbol) (left next whole : List Symbol) → left ≡ x ∷ next → ¬ (AllNullable g (x ∷ [])) → (AllNullable g left ↔ AllNullable g whole)
    → IsTrue false ↔ AllNullable g whole
null_stop g x left next whole e none k = (λ t. let no : false ≡ true = t in absurd cc, λ a. absurd (none (null_first x (subst (AllNullable g) e (k.1 a))).0))

module _ (g : Grammar) (f : Firsts) (of : AreFirstsOf g f) where
  -- a rule is nullable as its bit says
  pub rule_null :
      (x : stored.Symbol ℕ) (r : RIdx ℕ) (b : Bool) → x ≡ code.Rule r → b ≡ bit f.nullable r.0 → IsTrue b ↔ AllNullable g (symbol_of number_of x ∷ [])
  rule_null x r b e is =
      rw (e, is)
      (λ t. first.AllNullable.more ((of.is_nullable r.0).0 t) first.AllNullable.none, λ a. (of.is_nullable r.0).1 (null_head a))

  -- there is none past all rules
  pub past_null : (x : stored.Symbol ℕ) (r : RIdx ℕ) → x ≡ code.Rule r → length g.rule_names ≤ r.0 → IsTrue false ↔ AllNullable g (symbol_of number_of x ∷ [])
  past_null x r e l = (λ t. let no : false ≡ true = t in absurd cc, λ a. absurd (beyond (null_head (rw e at a))))
    where
      beyond : Nullable g r.0 → ⊥
      beyond (first.Nullable.by_body p i n) = let below : r.0 < length g.rule_names = of.shape.rules p r.0 i in omega arith

  pub token_null : (x : stored.Symbol ℕ) (t : TIdx ℕ) → x ≡ code.Token t → IsTrue false ↔ AllNullable g (symbol_of number_of x ∷ [])
  token_null x t e = (λ y. let no : false ≡ true = y in absurd cc, λ a. absurd (none (rw e at a)))
    where
      none : AllNullable g (Token t.0 ∷ []) → ⊥
      none a = elim a [ ]

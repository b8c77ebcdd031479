-- rules with those that they derive alone, one after another
use Rattle.std.proofs.Common.{◌≡◌, ℕ, suc, ◌+◌, ◌-◌, ◌<◌, ◌≤◌, List, [], ◌∷◌, ◌++◌, inl, inr, length, get_or, map, take, drop, refl, sym, ap, ◌∙◌, subst, arith}
use Rattle.std.specs.Prelude.{Contains}
use Rattle.std.proofs.lemmas.Bool.{cases_eq}
use Rattle.std.proofs.lemmas.List.{take-map, drop-map, take-append-drop, take_at, drop_at, get_or_default}
use Rattle.std.proofs.lemmas.List.Elements.{Contains-push, Contains-push_cases, Contains-append_left}
use Rattle.lrspec.specs.grammars.Grammar.{Symbol, Rule, Token, Grammar, IsGrammar, body_of, IsProductionOf}
use Rattle.lrspec.specs.grammars.First.{AllNullable}
use Rattle.lrspec.proofs.grammars.BodyFacts.{rule_unique, below_of_production, below_of_drop, rest_next}
use Rattle.lrclosing.proofs.SymbolsBehindDots.{left_at, sliced}
use Rattle.lrkept.specs.Acyclicity.{HasAlone, IsAcyclic}
use Rattle.lrkept.specs.Pairs.{StandsAlone, AreAlone, HasAloneOf, KeepsPairs, ArePairsOf, IsAddedAt, CanBeRanked, LeadFromBelow}

-- an element of a list is there whatever is read past its end
pub element : {X : Type 0} (xs : List X) (i : ℕ) (d y : X) → i < length xs → get_or xs i d ≡ y → y ≡ get_or xs i y
element xs i d y l e = sym e ∙ get_or_default xs i d y l

module _ {X : Type 0} (f : X → Symbol) (g : Grammar) (xs : List X) (place : ℕ) (x : X) (within : place < length xs) (is : x ≡ get_or xs place x) where
  -- what is left at the place
  left_there : drop place (map f xs) ≡ f x ∷ drop (place + 1) (map f xs)
  left_there = drop-map f place xs ∙ (left_at f xs place x x within is refl ∙ ap (λ l. f x ∷ l) (sym (drop-map f (place + 1) xs)))

  -- a rule stands alone among lists of nullable rules
  pub alone_there :
      (s : ℕ) → f x ≡ Rule s → AllNullable g (map f (take place xs)) → AllNullable g (map f (take (length xs - (place + 1)) (drop (place + 1) xs)))
      → StandsAlone g (map f xs) place s
  alone_there s e before behind = record {
    there = left_there ∙ ap (λ y. y ∷ drop (place + 1) (map f xs)) e;
    null_before = subst (AllNullable g) (sym (take-map f place xs)) before;
    null_behind = subst (AllNullable g) (sliced f xs (place + 1) (map f xs) refl) behind;
  }

  -- and nothing does where what stands there is a token, or one of the lists is another
  pub none_at_token : (t : ℕ) → f x ≡ Token t → (s : ℕ) → ¬ (StandsAlone g (map f xs) place s)
  none_at_token t e s a =
      let both : f x ∷ drop (place + 1) (map f xs) ≡ Rule s ∷ drop (place + 1) (map f xs) = sym left_there ∙ a.there in
      let no : Token t ≡ Rule s = cc in
      absurd cc

  pub none_before : ¬ (AllNullable g (map f (take place xs))) → (s : ℕ) → ¬ (StandsAlone g (map f xs) place s)
  none_before none s a = none (subst (AllNullable g) (take-map f place xs) a.null_before)

  pub none_behind :
      ¬ (AllNullable g (map f (take (length xs - (place + 1)) (drop (place + 1) xs)))) → (s : ℕ) → ¬ (StandsAlone g (map f xs) place s)
  none_behind none s a = none (subst (AllNullable g) (sym (sliced f xs (place + 1) (map f xs) refl)) a.null_behind)

-- a rule that stands alone in a body is derived alone
alone_of : {g : Grammar} (p r place s : ℕ) → IsProductionOf g p r → StandsAlone g (body_of g p) place s → HasAlone g r s
alone_of {g} p r place s i a = record {
  production = p;
  before = take place (body_of g p);
  behind = drop (place + 1) (body_of g p);
  of_rule = i;
  body = sym (take-append-drop place (body_of g p)) ∙ ap (λ l. take place (body_of g p) ++ l) a.there;
  null_before = a.null_before;
  null_behind = a.null_behind;
}

-- and the other way round
stands_of : {g : Grammar} {r s : ℕ} (h : HasAlone g r s) → StandsAlone g (body_of g h.production) (length h.before) s
stands_of {g} {r} {s} h =
    let body : List Symbol = body_of g h.production in
    let place : ℕ = length h.before in
    let here : drop place body ≡ Rule s ∷ h.behind = ap (drop place) h.body ∙ drop_at h.before (Rule s ∷ h.behind) place refl in
    let next : suc place ≡ place + 1 = omega arith in
    let behind : drop (place + 1) body ≡ h.behind = ap (λ n. drop n body) (sym next) ∙ rest_next body place (Rule s) h.behind here in
    let before : take place body ≡ h.before = ap (take place) h.body ∙ take_at h.before (Rule s ∷ h.behind) place refl in
    record {
      there = here ∙ ap (λ l. Rule s ∷ l) (sym behind);
      null_before = subst (AllNullable g) (sym before) h.null_before;
      null_behind = subst (AllNullable g) (sym behind) h.null_behind;
    }

module _ (g : Grammar) (p r : ℕ) where
  -- the rules that stand alone in the first places of the body are paired with its rule
  pub record AreAdded (n : ℕ) (old new : List (ℕ × ℕ)) : Type 0 where
    pub alone : AreAlone g old → AreAlone g new
    pub kept : KeepsPairs old new
    pub added : (place s : ℕ) → place < n → StandsAlone g (body_of g p) place s → Contains new (r, s)

  pub begin_added : (old : List (ℕ × ℕ)) → AreAdded 0 old old
  begin_added old = record { alone = λ a. a; kept = λ q s c. c; added = λ place s l a. absurd (omega (arith, l)) }

  module _ (of_rule : IsProductionOf g p r) where
    pub next_added :
        (symbols : List Symbol) (n : ℕ) (old now new : List (ℕ × ℕ)) → symbols ≡ body_of g p → AreAdded n old now → IsAddedAt g symbols n r now new
        → AreAdded (n + 1) old new
    next_added symbols n old now new is a (inl (s, stands, pushed)) =
        let here : StandsAlone g (body_of g p) n s = subst (λ y. StandsAlone g y n s) is stands in record {
          alone = λ k q t c. elim (Contains-push_cases now (r, s) (q, t) (subst (λ l. Contains l (q, t)) pushed c)) [
            | inl i ↦ a.alone k q t i
            | inr e ↦
                let rule : r ≡ q = ap (λ (y : ℕ × ℕ). y.0) e in
                let other : s ≡ t = ap (λ (y : ℕ × ℕ). y.1) e in
                subst (λ m. HasAlone g q m) other (subst (λ m. HasAlone g m s) rule (alone_of p r n s of_rule here))
          ];
          kept = λ q t c. subst (λ l. Contains l (q, t)) (sym pushed) (Contains-append_left now ((r, s) ∷ []) (q, t) (a.kept q t c));
          added = λ place t l b. elim (cases_eq place n) [
            | inl e ↦
                let there : StandsAlone g (body_of g p) n t = subst (λ m. StandsAlone g (body_of g p) m t) e b in
                let both : Rule s ∷ drop (n + 1) (body_of g p) ≡ Rule t ∷ drop (n + 1) (body_of g p) = sym here.there ∙ there.there in
                let same : s ≡ t = cc in
                subst (λ l. Contains l (r, t)) (sym pushed) (subst (λ m. Contains (now ++ (r, s) ∷ []) (r, m)) same (Contains-push now (r, s)))
            | inr d ↦
                subst (λ l. Contains l (r, t)) (sym pushed)
                (Contains-append_left now ((r, s) ∷ []) (r, t) (a.added place t (omega (arith, l, d)) b))
          ];
        }
    next_added symbols n old now new is a (inr (none, same)) = record {
      alone = λ k q t c. a.alone k q t (subst (λ l. Contains l (q, t)) same c);
      kept = λ q t c. subst (λ l. Contains l (q, t)) (sym same) (a.kept q t c);
      added = λ place t l b. elim (cases_eq place n) [
        | inl e ↦ absurd (none t (subst (λ m. StandsAlone g m n t) (sym is) (subst (λ m. StandsAlone g (body_of g p) m t) e b)))
        | inr d ↦ subst (λ l. Contains l (r, t)) (sym same) (a.added place t (omega (arith, l, d)) b)
      ];
    }

    -- in all places
    pub all_added : (n : ℕ) (old new : List (ℕ × ℕ)) → length (body_of g p) ≤ n → AreAdded n old new → HasAloneOf g p new
    all_added n old new l a q place s i b =
        let same : q ≡ r = rule_unique g p q r i of_rule in
        let within = below_of_drop (body_of g p) place (Rule s) (drop (place + 1) (body_of g p)) b.there in
        subst (λ m. Contains new (m, s)) (sym same) (a.added place s (omega (arith, l, within)) b)

-- the pairs of the first productions
pub record ArePairsSoFar (g : Grammar) (n : ℕ) (pairs : List (ℕ × ℕ)) : Type 0 where
  pub alone : AreAlone g pairs
  pub all : (p : ℕ) → p < n → HasAloneOf g p pairs

pub next_pairs :
    (g : Grammar) (n p : ℕ) (old new : List (ℕ × ℕ)) → p ≡ n → ArePairsSoFar g n old → (AreAlone g old → AreAlone g new) → KeepsPairs old new → HasAloneOf g p new
    → ArePairsSoFar g (n + 1) new
next_pairs g n p old new same a alone kept here = record {
  alone = alone a.alone;
  all = λ q l. elim (cases_eq q n) [
    | inl e ↦ subst (λ m. HasAloneOf g m new) (same ∙ sym e) here
    | inr d ↦ λ r place s i b. kept r s (a.all q (omega (arith, l, d)) r place s i b)
  ];
}

pub all_pairs : (g : Grammar) (n : ℕ) (pairs : List (ℕ × ℕ)) → length g.productions ≤ n → ArePairsSoFar g n pairs → ArePairsOf g pairs
all_pairs g n pairs l a r s = (
  a.alone r s,
  λ h.
      let below = below_of_production g h.production r h.of_rule in
      a.all h.production (omega (arith, l, below)) r (length h.before) s h.of_rule (stands_of h),
)

-- they lead from rules
pub pairs_from_rules : (g : Grammar) (pairs : List (ℕ × ℕ)) (count : ℕ) → IsGrammar g → ArePairsOf g pairs → count ≡ length g.rule_names → LeadFromBelow pairs count
pairs_from_rules g pairs count shape are e n m c =
    let h = (are n m).0 c in
    let below = shape.rules h.production n h.of_rule in
    omega (arith, below, e)

-- ranks of pairs are ranks of rules
pub acyclic_by : (g : Grammar) (pairs : List (ℕ × ℕ)) → ArePairsOf g pairs → CanBeRanked pairs → IsAcyclic g
acyclic_by g pairs are (bound, rank, below, falls) = (bound, rank, record { below = below; falls = λ r s h. falls r s ((are r s).1 h) })

pub ranked_by : (g : Grammar) (pairs : List (ℕ × ℕ)) → ArePairsOf g pairs → IsAcyclic g → CanBeRanked pairs
ranked_by g pairs are (bound, rank, k) = (bound, rank, k.below, λ r s c. k.falls r s ((are r s).0 c))

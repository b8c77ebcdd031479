-- stacks that end with symbols, and those with a rule in the place of these
use Rattle.std.proofs.Common.{◌≡◌, ◌≢◌, ℕ, ◌+◌, ◌<◌, ◌≤◌, List, [], ◌∷◌, ◌++◌, length, map, get_or, take, drop, Option, None, Some, refl, sym, ap, ◌∙◌, subst, arith}
use Rattle.std.specs.Prelude.{Contains}
use Rattle.std.proofs.lemmas.List.{append_cancel_right, length-append, length-take-le, take-append-drop, drop_at, take-map, map-append, get_or-map}
use Rattle.lrspec.specs.grammars.Grammar.{Symbol, Rule, Grammar, body_of, IsProductionOf}
use Rattle.lrspec.proofs.grammars.BodyFacts.{below_of_production, rule_unique, push_same}
use Rattle.lrexchange.specs.Asked.{IsCutTo, EndsWith, AsksThem, AsksBoth, AsksUs, AsksHidden}
use Rattle.lrexchange.specs.Exchanges.{at}
use Rattle.lrexchange.specs.Positions.{Mark, Ours, Turn, Even, Position, IsCut, OursCut}

-- nor with one that is not left behind as many
pub no_other_end : (stack end : List Symbol) (n : ℕ) → n + length end ≡ length stack → drop n stack ≢ end → EndsWith stack end None
no_other_end stack end n l differ front e =
    let long : length front ≡ n = omega (arith, l, ap length e, length-append front end) in
    differ (ap (drop n) e ∙ drop_at front end n long)

-- where that is left the list ends with it
pub ends_so : (stack end : List Symbol) (n : ℕ) → n ≤ length stack → drop n stack ≡ end → EndsWith stack end (Some n)
ends_so stack end n l e = (l, sym (take-append-drop n stack) ∙ ap (λ (z : List Symbol). take n stack ++ z) e)

-- first ones of a list, with one more behind them
pub front_with_one :
    {X Y : Type 0} (f : X → Y) (xs front new : List X) (x : X) (n : ℕ) → front ≡ take n xs → new ≡ front ++ x ∷ [] → map f new ≡ take n (map f xs) ++ f x ∷ []
front_with_one f xs front new x n e k =
    ap (map f) k ∙ map-append f front (x ∷ []) ∙ ap (λ z. map f z ++ f x ∷ []) e ∙ ap (λ z. z ++ f x ∷ []) (sym (take-map f n xs))

-- what stands at one place of lists that are the same
pub same_there :
    {X Y : Type 0} (f : X → Y) (xs ys : List X) (i : ℕ) (d e : X) → map f xs ≡ map f ys → i < length xs → i < length ys → f (get_or xs i d) ≡ f (get_or ys i e)
same_there f xs ys i d e same l m = sym (get_or-map f xs i d (f d) l) ∙ ap (λ z. get_or z i (f d)) same ∙ get_or-map f ys i e (f d) m

module _ (g : Grammar) (p d least : ℕ) (stack : List Symbol) where
  -- without the production nothing is cut
  pub none_without_production : length g.productions ≤ p → IsCutTo g p d least stack None
  none_without_production l cut k = absurd (omega (arith, l, below_of_production g p k.rule k.of_rule))

  -- nor without the end
  pub none_without_end : EndsWith stack (take d (body_of g p)) None → IsCutTo g p d least stack None
  none_without_end k cut i = k i.front i.ends

  -- nor where that begins among the first ones
  pub none_below : (n : ℕ) → EndsWith stack (take d (body_of g p)) (Some n) → n < least → IsCutTo g p d least stack None
  none_below n k l cut i =
      let same : i.front ≡ take n stack = append_cancel_right i.front (take n stack) (take d (body_of g p)) (sym i.ends ∙ k.1) in
      absurd (omega (arith, l, i.deep, ap length same, length-take-le n stack k.0))

  -- and else the rule is put there
  pub cut_to :
      (n r : ℕ) (cut : List Symbol) → EndsWith stack (take d (body_of g p)) (Some n) → least ≤ n → IsProductionOf g p r → cut ≡ take n stack ++ Rule r ∷ []
      → IsCut g p d least stack cut
  cut_to n r cut k l of_rule is = record {
    front = take n stack;
    rule = r;
    of_rule = of_rule;
    ends = k.1;
    is = is;
    deep = omega (arith, l, length-take-le n stack k.0);
  }

-- there is but one
pub cut_once : (g : Grammar) (p d least : ℕ) (stack x y : List Symbol) → IsCut g p d least stack x → IsCut g p d least stack y → x ≡ y
cut_once g p d least stack x y i j =
    let fronts : i.front ≡ j.front = append_cancel_right i.front j.front (take d (body_of g p)) (sym i.ends ∙ j.ends) in
    i.is ∙ ap (λ (z : List Symbol). z ++ Rule i.rule ∷ []) fronts ∙ ap (λ (r : ℕ). j.front ++ Rule r ∷ []) (rule_unique g p i.rule j.rule i.of_rule j.of_rule) ∙ sym j.is

module _ (g : Grammar) (asked : List Position) (p d : ℕ) (b : Position) where
  -- what is asked where their stack is cut
  pub them_asked :
      (turn : Turn) (x : List Symbol) → d ≤ length b.theirs → IsCut g p d 0 b.theirs x → Contains asked (at turn b.state x b.ours)
      → AsksThem g (Contains asked) turn p d b
  them_asked turn x l i here = record {
    deep = l;
    reduced = λ cut j. subst (λ (z : List Symbol). Contains asked (at turn b.state z b.ours)) (cut_once g p d 0 b.theirs x cut i j) here;
  }

  -- and where it can't be
  pub them_unasked : (turn : Turn) → d ≤ length b.theirs → IsCutTo g p d 0 b.theirs None → AsksThem g (Contains asked) turn p d b
  them_unasked turn l none = record { deep = l; reduced = λ cut j. absurd (none cut j) }

  pub both_asked :
      (x : List Symbol) (y : Ours) → d ≤ length b.theirs → IsCut g p d 0 b.theirs x → OursCut g p d b.ours y → Contains asked (at Even b.state x y)
      → AsksBoth g (Contains asked) p d b
  both_asked x y l i k here = record {
    deep = l;
    reduced = λ cut j. (y, k, subst (λ (z : List Symbol). Contains asked (at Even b.state z y)) (cut_once g p d 0 b.theirs x cut i j) here);
  }

  pub both_unasked : d ≤ length b.theirs → IsCutTo g p d 0 b.theirs None → AsksBoth g (Contains asked) p d b
  both_unasked l none = record { deep = l; reduced = λ cut j. absurd (none cut j) }

  pub us_asked : (y : Ours) → d ≡ length (body_of g p) → OursCut g p d b.ours y → Contains asked (at b.turn b.state b.theirs y) → AsksUs g (Contains asked) p b
  us_asked y e k here = (y, subst (λ (n : ℕ). OursCut g p n b.ours y) e k, here)

  -- the mark's symbol is what they reduce to
  pub hidden_asked :
      (m : Mark) (y : List Symbol) (x : Symbol) → d ≡ length (body_of g p) → d ≤ length b.theirs → IsCut g p d 0 b.theirs (x ∷ [])
      → Contains asked (at b.turn b.state (x ∷ []) (record { symbols = y; mark = Some (record m { symbol = x }) })) → AsksHidden g (Contains asked) p m y b
  hidden_asked m y x e l i here =
      let rule : x ≡ Rule i.rule = (push_same [] i.front x (Rule i.rule) i.is).1 in
      let Waits : Symbol → Type 0 = λ z. Contains asked (at b.turn b.state (x ∷ []) (record { symbols = y; mark = Some (record m { symbol = z }) })) in
      let Stands : List Symbol → Type 0 = λ z. Contains asked (at b.turn b.state z (record { symbols = y; mark = Some (record m { symbol = Rule i.rule }) })) in
      record {
        deep = subst (λ (n : ℕ). n ≤ length b.theirs) e l;
        reduced = λ cut j.
            let same : x ∷ [] ≡ cut = cut_once g p d 0 b.theirs (x ∷ []) cut i (subst (λ (n : ℕ). IsCut g p n 0 b.theirs cut) (sym e) j) in
            let alone : cut ≡ Rule i.rule ∷ [] = sym same ∙ ap (λ (z : Symbol). z ∷ []) rule in
            (i.rule, i.of_rule, alone, subst Stands same (subst Waits rule here));
      }

  pub hidden_unasked :
      (m : Mark) (y : List Symbol) → d ≡ length (body_of g p) → d ≤ length b.theirs → IsCutTo g p d 0 b.theirs None → AsksHidden g (Contains asked) p m y b
  hidden_unasked m y e l none = record {
    deep = subst (λ (n : ℕ). n ≤ length b.theirs) e l;
    reduced = λ cut j. absurd (none cut (subst (λ (n : ℕ). IsCut g p n 0 b.theirs cut) (sym e) j));
  }

-- where there is no value there is none
pub none_left : {X : Type 0} (o : Option X) → ((x : X) → o ≡ Some x → ⊥) → o ≡ None
none_left None n = refl
none_left (Some x) n = absurd (n x refl)

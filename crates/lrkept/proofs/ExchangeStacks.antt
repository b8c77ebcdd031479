-- our stacks above the symbols that both have: what reductions and cuts make of them
use Rattle.std.proofs.Common.{◌≡◌, ℕ, zero, suc, ◌+◌, ◌≤◌, List, [], ◌∷◌, ◌++◌, length, take, refl, sym, ap, ◌∙◌, subst, append_assoc, length-append, arith, Option, None, Some}
use Rattle.std.proofs.lemmas.List.{take_all}
use Rattle.lrspec.specs.grammars.Grammar.{Symbol, Rule, Grammar, body_of, IsProductionOf}
use Rattle.lrspec.specs.merging.Graph.{Graph}
use Rattle.lrconflicts.specs.Moves.{Move, Reduce}
use Rattle.lrambiguity.specs.Finishing as way
use Rattle.lrambiguity.specs.Finishing.{Finishes}
use Rattle.lrkept.specs.Kept.{GoesOn}
use Rattle.lrexchange.specs.Positions as position
use Rattle.lrexchange.specs.Positions.{Mark, Ours, Reduces, IsHidden, IsOurs, raised, raised_mark, pushed, IsCut, OursCut}

-- of a list that is split twice, the shorter beginning begins the longer one
pub begins_within :
    (c y b e : List Symbol) → c ++ y ≡ b ++ e → length c ≤ length b → (r : List Symbol) × (b ≡ c ++ r) × (y ≡ r ++ e)
begins_within [] y b e k l = (b, refl, k)
begins_within (a ∷ c) y [] e k l = absurd (omega (arith, l))
begins_within (a ∷ c) y (x ∷ b) e k l =
    let head : a ≡ x = cc in
    let tail : c ++ y ≡ b ++ e = cc in
    let (r, i, j) = begins_within c y b e tail (omega (arith, l)) in
    (r, ap (λ z. x ∷ z) i ∙ ap (λ z. z ∷ c ++ r) (sym head), j)

-- and the shorter end ends the longer one
pub ends_within :
    (c y b e : List Symbol) → c ++ y ≡ b ++ e → length e ≤ length y → (r : List Symbol) × (b ≡ c ++ r) × (y ≡ r ++ e)
ends_within c y b e k l =
    begins_within c y b e k (omega (arith, l, ap length k, length-append c y, length-append b e))

-- parts of the same lengths are the same
pub same_parts : (a b c e : List Symbol) → a ++ b ≡ c ++ e → length a ≡ length c → (a ≡ c) × (b ≡ e)
same_parts [] b [] e k l = (refl, k)
same_parts [] b (x ∷ c) e k l = absurd (omega (arith, l))
same_parts (x ∷ a) b [] e k l = absurd (omega (arith, l))
same_parts (x ∷ a) b (z ∷ c) e k l =
    let head : x ≡ z = cc in
    let tail : a ++ b ≡ c ++ e = cc in
    let (i, j) = same_parts a b c e tail (omega (arith, l)) in
    (ap (λ w. x ∷ w) i ∙ ap (λ s. s ∷ c) head, j)

-- no more than so many symbols are taken
pub length_taken : (d : ℕ) (b : List Symbol) → length (take d b) ≤ d
length_taken zero b = omega arith
length_taken (suc d) [] = omega arith
length_taken (suc d) (x ∷ b) = omega (arith, length_taken d b)

-- what is read behind reductions is read from before them
pub goes_back : {g : Grammar} {v w : List Symbol} {text : List ℕ} → Reduces g v w → GoesOn g w text → GoesOn g v text
goes_back position.Reduces.none on = on
goes_back (position.Reduces.more v p r i k) on =
    let (ms, f) = goes_back k on in (Reduce p ∷ ms, way.Finishes.reduce v p r i f)

-- one more reduction behind others
pub reduces_on :
    {g : Grammar} {v w : List Symbol} → Reduces g v w → (u : List Symbol) (p r : ℕ) → w ≡ u ++ body_of g p → IsProductionOf g p r
    → Reduces g v (u ++ Rule r ∷ [])
reduces_on position.Reduces.none u p r e i = rw e (position.Reduces.more u p r i position.Reduces.none)
reduces_on (position.Reduces.more v q s j k) u p r e i = position.Reduces.more v q s j (reduces_on k u p r e i)

-- and others behind them
pub reduces_both : {g : Grammar} {u v w : List Symbol} → Reduces g u v → Reduces g v w → Reduces g u w
reduces_both position.Reduces.none k = k
reduces_both (position.Reduces.more v p r i j) k = position.Reduces.more v p r i (reduces_both j k)

-- a mark that was raised is one with more symbols before it
pub lowered : (n : ℕ) (o : Option Mark) (m : Mark) → raised_mark n o ≡ Some m → (a : Mark) × (o ≡ Some a) × (m ≡ record a { place = n + a.place })
lowered n None m e = absurd cc
lowered n (Some a) m e = (a, refl, cc)

no_mark : (n : ℕ) (o : Option Mark) → raised_mark n o ≡ None → o ≡ None
no_mark n None e = refl
no_mark n (Some a) e = absurd cc

-- our stack ends with the symbols before a dot, and with their rule in their place it is one of the cut ones
pub record CutStack (g : Grammar) (h : Graph) (p d : ℕ) (z : List Symbol) (cut : Ours) (v : List Symbol) : Type 0 where
  pub front : List Symbol
  pub rule : ℕ
  pub of_rule : IsProductionOf g p rule
  pub ends : v ≡ front ++ take d (body_of g p)
  pub ours : IsOurs g h z cut (front ++ Rule rule ∷ [])

module _ {g : Grammar} {h : Graph} where
  -- without a mark our stack is known
  pub unmarked_is : {z : List Symbol} {y : Ours} {v : List Symbol} → y.mark ≡ None → IsOurs g h z y v → v ≡ z ++ y.symbols
  unmarked_is none (position.IsOurs.known same is) = is
  unmarked_is none (position.IsOurs.marked m before hidden behind mark place symbols there is) = absurd cc

  -- our stack above more symbols that both have is one above fewer, which count as ours
  pub raise_ours : (front c : List Symbol) {y : Ours} {v : List Symbol} → IsOurs g h (front ++ c) y v → IsOurs g h front (raised c y) v
  raise_ours front c {y} (position.IsOurs.known none is) =
      position.IsOurs.known (ap (raised_mark (length c)) none) (is ∙ append_assoc front c y.symbols)
  raise_ours front c (position.IsOurs.marked m before hidden behind mark place symbols there is) =
      let lower = append_assoc front c before in
      position.IsOurs.marked (record m { place = length c + m.place }) (c ++ before) hidden behind
      (ap (raised_mark (length c)) mark)
      (omega (arith, place, length-append c before))
      (ap (λ l. c ++ l) symbols ∙ sym (append_assoc c before behind))
      (record { leads = rw (← lower) there.leads; reduced = rw (← lower) there.reduced })
      (is ∙ ap (λ l. (l ++ hidden) ++ behind) lower)

  -- and the other way round
  pub lower_ours : (front c : List Symbol) {y : Ours} {v : List Symbol} → IsOurs g h front (raised c y) v → IsOurs g h (front ++ c) y v
  lower_ours front c {y} (position.IsOurs.known none is) =
      position.IsOurs.known (no_mark (length c) y.mark none) (is ∙ sym (append_assoc front c y.symbols))
  lower_ours front c {y} {v} (position.IsOurs.marked m before hidden behind mark place symbols there is) =
      let (a, one, raise) = lowered (length c) y.mark m mark in
      let high : length c + a.place ≡ length before = sym (ap (λ n. n.place) raise) ∙ place in
      let (r, i, j) = begins_within c y.symbols before behind symbols (omega (arith, high)) in
      let lower : front ++ before ≡ (front ++ c) ++ r = ap (λ l. front ++ l) i ∙ sym (append_assoc front c r) in
      let hides : IsHidden g h (record a { place = length c + a.place }) ((front ++ c) ++ r) hidden =
      subst (λ l. IsHidden g h (record a { place = length c + a.place }) l hidden) lower (rw raise at there) in
      position.IsOurs.marked a r hidden behind one
      (omega (arith, high, ap length i, length-append c r))
      j
      (record { leads = hides.leads; reduced = hides.reduced })
      (is ∙ ap (λ l. (l ++ hidden) ++ behind) lower)

  -- symbols behind ours are behind our stack
  pub push_ours : {z : List Symbol} {y : Ours} {v : List Symbol} (xs : List Symbol) → IsOurs g h z y v → IsOurs g h z (pushed y xs) (v ++ xs)
  push_ours {z} {y} xs (position.IsOurs.known none is) =
      position.IsOurs.known none (ap (λ l. l ++ xs) is ∙ append_assoc z y.symbols xs)
  push_ours {z} xs (position.IsOurs.marked m before hidden behind mark place symbols there is) =
      position.IsOurs.marked m before hidden (behind ++ xs) mark place
      (ap (λ l. l ++ xs) symbols ∙ append_assoc before behind xs)
      there
      (ap (λ l. l ++ xs) is ∙ append_assoc ((z ++ before) ++ hidden) behind xs)

  -- our stack ends with what is cut
  pub cut_ours : {p d : ℕ} {z : List Symbol} {y cut : Ours} {v : List Symbol} → OursCut g p d y cut → IsOurs g h z y v → CutStack g h p d z cut v
  cut_ours {p} {d} {z} {y} {cut} k (position.IsOurs.known none is) = record {
    front = z ++ k.0.front;
    rule = k.0.rule;
    of_rule = k.0.of_rule;
    ends = is ∙ (ap (λ l. z ++ l) k.0.ends ∙ sym (append_assoc z k.0.front (take d (body_of g p))));
    ours = position.IsOurs.known (k.1 ∙ none) (append_assoc z k.0.front (Rule k.0.rule ∷ []) ∙ ap (λ l. z ++ l) (sym k.0.is));
  }
  cut_ours {p} {d} {z} {y} {cut} {v} k (position.IsOurs.marked m before hidden behind mark place symbols there is) =
      let deep : m.place ≤ length k.0.front = rw mark at k.0.deep in
      let (r, i, j) = begins_within before behind k.0.front (take d (body_of g p)) (sym symbols ∙ k.0.ends) (omega (arith, deep, place)) in
      let base : List Symbol = (z ++ before) ++ hidden in
      record {
        front = base ++ r;
        rule = k.0.rule;
        of_rule = k.0.of_rule;
        ends = is ∙ (ap (λ l. base ++ l) j ∙ sym (append_assoc base r (take d (body_of g p))));
        ours = position.IsOurs.marked m before hidden (r ++ Rule k.0.rule ∷ []) (k.1 ∙ mark) place
            (k.0.is ∙ (ap (λ l. l ++ Rule k.0.rule ∷ []) i ∙ append_assoc before r (Rule k.0.rule ∷ [])))
            there
            (append_assoc base r (Rule k.0.rule ∷ []));
      }

  -- what goes on behind our reduction goes on before it
  pub cut_reduced :
      {p : ℕ} {z : List Symbol} {cut : Ours} {v : List Symbol} (k : CutStack g h p (length (body_of g p)) z cut v) {ms : List Move} {text : List ℕ}
      → Finishes g (k.front ++ Rule k.rule ∷ []) ms text → Finishes g v (Reduce p ∷ ms) text
  cut_reduced {p} {v = v} k {ms} {text} f =
      let whole : take (length (body_of g p)) (body_of g p) ≡ body_of g p = take_all (length (body_of g p)) (body_of g p) (omega arith) in
      let stack : v ≡ k.front ++ body_of g p = k.ends ∙ ap (λ l. k.front ++ l) whole in
      subst (λ l. Finishes g l (Reduce p ∷ ms) text) (sym stack) (way.Finishes.reduce k.front p k.rule k.of_rule f)

  -- symbols that are hidden become their symbol by our reductions
  pub unmark_ours :
      {z : List Symbol} {y : Ours} {v : List Symbol} (m : Mark) (before : List Symbol) → y.mark ≡ Some m → m.place ≡ length before
      → y.symbols ≡ before ++ m.under ∷ [] → IsOurs g h z y v
      → Reduces g v ((z ++ before) ++ m.symbol ∷ [])
      × IsOurs g h z (record { symbols = before ++ m.symbol ∷ []; mark = None }) ((z ++ before) ++ m.symbol ∷ [])
  unmark_ours m before mark place symbols (position.IsOurs.known none is) = absurd cc
  unmark_ours {z} {y} {v} m before mark place symbols (position.IsOurs.marked n front hidden behind other at parts there is) =
      let same : n ≡ m = cc in
      let (i, j) = same_parts before (m.under ∷ []) front behind (sym symbols ∙ parts) (omega (arith, place, at, ap (λ k. k.place) same)) in
      let hides : IsHidden g h m (z ++ before) hidden = rw (i, ← same) there in (
        rw (is, ← j, ← i) hides.reduced,
        position.IsOurs.known refl (append_assoc z before (m.symbol ∷ [])),
      )

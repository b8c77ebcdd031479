-- both stacks at a position, and how a mark is tied to theirs before they have read the token
use Rattle.std.proofs.Common.{◌≡◌, ◌≢◌, ℕ, ◌+◌, ◌≤◌, List, [], ◌∷◌, ◌++◌, length, take, refl, sym, ap, ◌∙◌, subst, append_assoc, append-nil, length-append, arith, None, Some}
use Rattle.lrspec.specs.grammars.Grammar.{Symbol, Rule, Grammar, body_of, IsProductionOf}
use Rattle.lrspec.specs.merging.Graph.{Graph, Leads}
use Rattle.lrexchange.specs.Positions as position
use Rattle.lrexchange.specs.Positions.{Mark, Ours, Ahead, Position, Reduces, Sinks, IsOurs, raised, raised_mark, OursCut}
use Rattle.lrkept.proofs.ExchangeEdges.{leads_after}
use Rattle.lrkept.proofs.ExchangeStacks.{begins_within, lowered, lower_ours, reduces_on}

-- a list of no length is empty
pub no_length : (l : List Symbol) → length l ≡ 0 → l ≡ []
no_length [] e = refl
no_length (x ∷ l) e = absurd (omega (arith, e))

-- reductions make their stack of what is before the mark, and its symbol
pub record IsTied (g : Grammar) (z x : List Symbol) (y : Ours) : Type 0 where
  pub made :
      (m : Mark) (before behind : List Symbol) → y.mark ≡ Some m → m.place ≡ length before → y.symbols ≡ before ++ behind
      → Reduces g ((z ++ before) ++ m.symbol ∷ []) (z ++ x)

-- both stacks are at the position above these symbols
pub record AreAt (g : Grammar) (h : Graph) (a : Position) (z v : List Symbol) : Type 0 where
  pub leads : Leads h z a.state
  pub ours : IsOurs g h z a.ours v
  pub tied : (t : ℕ) → a.turn ≡ Ahead t → IsTied g z a.theirs a.ours

module _ {g : Grammar} where
  -- ours without a mark is tied
  pub none_tied : {z x : List Symbol} (y : Ours) → y.mark ≡ None → IsTied g z x y
  none_tied y none = record { made = λ m before behind mark place symbols. absurd cc }

  -- a mark is where they have its symbol alone
  pub mark_tied : {z x : List Symbol} (y : Ours) (m : Mark) → y.mark ≡ Some m → m.place ≡ 0 → x ≡ m.symbol ∷ [] → IsTied g z x y
  mark_tied {z} {x} y m one bottom is = record {
    made = λ n before behind mark place symbols.
        let same : n ≡ m = cc in
        let empty : before ≡ [] = no_length before (omega (arith, place, bottom, ap (λ k. k.place) same)) in
        rw (empty, append-nil z, same, is) position.Reduces.none;
  }

  -- a tie stays where both stacks part lower
  pub raise_tied : (front c x : List Symbol) (y : Ours) → IsTied g (front ++ c) x y → IsTied g front (c ++ x) (raised c y)
  raise_tied front c x y tied = record {
    made = λ m before behind mark place symbols.
        let (a, one, raise) = lowered (length c) y.mark m mark in
        let high : length c + a.place ≡ length before = sym (ap (λ n. n.place) raise) ∙ place in
        let (r, i, j) = begins_within c y.symbols before behind symbols (omega (arith, high)) in
        let lower : (front ++ c) ++ r ≡ front ++ before = append_assoc front c r ∙ ap (λ l. front ++ l) (sym i) in
        let reduces : Reduces g ((front ++ before) ++ a.symbol ∷ []) (front ++ (c ++ x)) =
        rw (lower, append_assoc front c x) at (tied.made a r behind one (omega (arith, high, ap length i, length-append c r)) j) in
        let same : a.symbol ≡ m.symbol = sym (ap (λ n. n.symbol) raise) in
        rw same at reduces;
  }

  -- or higher
  pub lower_tied : (front c x : List Symbol) (y : Ours) → IsTied g front (c ++ x) (raised c y) → IsTied g (front ++ c) x y
  lower_tied front c x y tied = record {
    made = λ m before behind mark place symbols.
        let lower = append_assoc front c before in
        rw (lower, append_assoc front c x)
        (tied.made (record m { place = length c + m.place }) (c ++ before) behind
        (ap (raised_mark (length c)) mark)
        (omega (arith, place, length-append c before))
        (ap (λ l. c ++ l) symbols ∙ sym (append_assoc c before behind)));
  }

  -- and where ours is cut
  pub cut_tied : {p d : ℕ} {z x : List Symbol} {y cut : Ours} → OursCut g p d y cut → IsTied g z x y → IsTied g z x cut
  cut_tied {p} {d} {y = y} {cut = cut} k tied = record {
    made = λ m before behind mark place symbols.
        let one : y.mark ≡ Some m = sym k.1 ∙ mark in
        let deep : m.place ≤ length k.0.front = rw one at k.0.deep in
        let (r, i, j) = begins_within before behind k.0.front (Rule k.0.rule ∷ []) (sym symbols ∙ k.0.is) (omega (arith, deep, place)) in
        tied.made m before (r ++ take d (body_of g p)) one place
        (k.0.ends ∙ (ap (λ l. l ++ take d (body_of g p)) i ∙ append_assoc before r (take d (body_of g p))));
  }

  -- a reduction of theirs is one more
  pub reduce_tied :
      {z x cut : List Symbol} {y : Ours} (f : List Symbol) (p r : ℕ) → IsProductionOf g p r → z ++ x ≡ f ++ body_of g p → z ++ cut ≡ f ++ Rule r ∷ []
      → IsTied g z x y → IsTied g z cut y
  reduce_tied f p r i stack is tied = record {
    made = λ m before behind mark place symbols. rw is (reduces_on (tied.made m before behind mark place symbols) f p r stack i);
  }

module _ {g : Grammar} {h : Graph} where
  -- where the token is not read, nothing is tied
  pub level_at : {a : Position} {z v : List Symbol} → Leads h z a.state → IsOurs g h z a.ours v → ((t : ℕ) → a.turn ≢ Ahead t) → AreAt g h a z v
  level_at leads ours differ = record { leads = leads; ours = ours; tied = λ t e. absurd (differ t e) }

  -- where a position sinks, both stacks are at the one below
  pub sunk_at : {a b : Position} {z v : List Symbol} (k : Sinks h a b) → AreAt g h a z v → AreAt g h b (z ++ k.both) v
  sunk_at {a} {b} {z} {v} k there = record {
    leads = leads_after there.leads k.leads;
    ours = lower_ours z k.both (subst (λ y. IsOurs g h z y v) k.ours there.ours);
    tied = λ t e.
        lower_tied z k.both b.theirs b.ours
        (subst (λ y. IsTied g z (k.both ++ b.theirs) y) k.ours (subst (λ x. IsTied g z x a.ours) k.theirs (there.tied t (k.turn ∙ e))));
  }

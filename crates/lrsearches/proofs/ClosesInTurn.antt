-- what closes a need, one item after another
use Rattle.std.proofs.Common.{◌≡◌, ℕ, ◌<◌, Bool, true, false, List, length, Option, None, Some, [], ◌∷◌, ◌++◌, refl, sym, ap, ◌∙◌, ◌⊎◌, inl, inr, ⊎_elim}
use Rattle.std.specs.Prelude.{Contains, IsTrue, ◌↔◌}
use Rattle.std.specs.Option.{IsSome}
use Rattle.std.proofs.lemmas.List.Elements.{Contains-append_left, Contains-push, Contains-push_cases}
use Rattle.lrspec.specs.grammars.Grammar.{Symbol, Rule, Grammar, IsProductionOf}
use Rattle.lrspec.specs.grammars.First.{Begins, AllNullable}
use Rattle.lrspec.specs.grammars.ItemSets.{Items, HasItem, LooksIn, Fits, item_at}
use Rattle.lrspec.proofs.grammars.BodyFacts.{rule_unique}
use Rattle.lrspec.proofs.grammars.Closures.{has_of_looks}
use Rattle.lrspec.proofs.grammars.ListMembers.{contains_one, only_one, among_from_contains, contains_from_among}
use Rattle.lrsearches.specs.declared.rests.Rest.TheVariants as rest
use Rattle.lrsearches.specs.Rests as behind
use Rattle.lrsearches.specs.Rests.{HasBehind, IsRestBehind, IsClosedBy}
use Rattle.lrsearches.specs.Searches as search
use Rattle.lrsearches.specs.Searches.{Need, Met, Look, Closes, IsLooking, AreClosesOf}

module _ (g : Grammar) (c : Items) (t r : ℕ) where
  -- the item cannot begin with the token behind the rule, and closes a need only where that is listed
  pub record IsPassed (zs : List Need) (q d : ℕ) : Type 0 where
    pub begins : (y : List Symbol) → HasBehind g q d r y → Begins g y t → ⊥
    pub inherit : (y : List Symbol) → HasBehind g q d r y → AllNullable g y → LooksIn c q d t → Contains zs (Look q d)

  passed_grows : (zs : List Need) (z : Need) (q d : ℕ) → IsPassed zs q d → IsPassed (zs ++ z ∷ []) q d
  passed_grows zs z q d k = record {
    begins = k.begins;
    inherit = λ y e n l. Contains-append_left zs (z ∷ []) (Look q d) (k.inherit y e n l);
  }

  -- an item that is not there closes nothing
  passed_absent : (zs : List Need) (q d : ℕ) → (HasItem c q d → ⊥) → HasItem c q d → IsPassed zs q d
  passed_absent zs q d none i = absurd (none i)

  module _ (p : ℕ) where
    -- the needs that are listed close that of the production, and the items before the rule that are not left are passed
    pub record AreClosing (zs : List Need) (Left : ℕ → ℕ → Type 0) : Type 0 where
      pub sound : (z : Need) → Contains zs z → Closes g c t (Look p 0) z
      pub looking : (z : Need) → Contains zs z → IsLooking c t z
      pub passed :
          (q d : ℕ) → HasItem c q d → (y : List Symbol) → HasBehind g q d r y
          → Left q d ⊎ IsPassed zs q d

    -- nothing is listed, and all items before the rule are left
    pub begin_closing :
        (Left : ℕ → ℕ → Type 0) → ((q d : ℕ) → HasItem c q d → (y : List Symbol) → HasBehind g q d r y → Left q d)
        → AreClosing [] Left
    begin_closing Left all = record {
      sound = λ z k. absurd (among_from_contains z [] k);
      looking = λ z k. absurd (among_from_contains z [] k);
      passed = λ q d i y b. inl (all q d i y b);
    }

    module _
        (q d : ℕ) (zs : List Need) (Left Rest : ℕ → ℕ → Type 0)
        (split : (i e : ℕ) → Left i e → ((i ≡ q) × (e ≡ d)) ⊎ Rest i e) where
      -- one item is passed by what is listed
      next_passed :
          (ys : List Need) → (HasItem c q d → IsPassed ys q d) → ((i e : ℕ) → IsPassed zs i e → IsPassed ys i e)
          → ((i e : ℕ) → HasItem c i e → (y : List Symbol) → HasBehind g i e r y → Left i e ⊎ IsPassed zs i e)
          → (i e : ℕ) → HasItem c i e → (y : List Symbol) → HasBehind g i e r y → Rest i e ⊎ IsPassed ys i e
      next_passed ys here grows k i e h y b =
          ⊎_elim
          (λ (a : Left i e).
          ⊎_elim
          (λ (s : (i ≡ q) × (e ≡ d)). let n : IsPassed ys i e = rw (s.0, s.1) (here (rw (s.0, s.1) at h)) in inr n)
          (λ (x : Rest i e). inl x)
          (split i e a))
          (λ (a : IsPassed zs i e). inr (grows i e a))
          (k i e h y b)

      -- an item that is not there
      pub absent_closing : (HasItem c q d → ⊥) → AreClosing zs Left → AreClosing zs Rest
      absent_closing none k = record {
        sound = k.sound;
        looking = k.looking;
        passed = next_passed zs (passed_absent zs q d none) (λ i e h. h) k.passed;
      }

      -- an item before another symbol, or with other symbols behind the rule
      neither_closing : IsRestBehind g q d r t rest.Neither → AreClosing zs Left → AreClosing zs Rest
      neither_closing n k = record {
        sound = k.sound;
        looking = k.looking;
        passed = next_passed zs (λ i. record { begins = λ y e. (n y e).0; inherit = λ y e a l. absurd ((n y e).1 a) }) (λ i e h. h) k.passed;
      }

      -- what stands behind the rule is told by the item
      same_behind : (x y : List Symbol) → HasBehind g q d r x → HasBehind g q d r y → x ≡ y
      same_behind x y e f = let both : Rule r ∷ x ≡ Rule r ∷ y = sym e ∙ f in cc

      -- an item with nullable symbols behind the rule that does not look at the token
      blind_closing : IsRestBehind g q d r t rest.Nullable → (LooksIn c q d t → ⊥) → AreClosing zs Left → AreClosing zs Rest
      blind_closing n blind k = record {
        sound = k.sound;
        looking = k.looking;
        passed = next_passed zs (λ i. record { begins = λ y e b. n.2.0 (rw (same_behind n.0 y n.1 e) b); inherit = λ y e a l. absurd (blind l) }) (λ i e h. h) k.passed;
      }

      -- one that does
      nullable_closing :
          IsProductionOf g p r → IsRestBehind g q d r t rest.Nullable → LooksIn c q d t → AreClosing zs Left
          → AreClosing (zs ++ Look q d ∷ []) Rest
      nullable_closing of n look k = record {
        sound = λ z h. elim (Contains-push_cases zs (Look q d) z h) [
          | inl a ↦ k.sound z a
          | inr e ↦ rw (← e) (search.Closes.inherit q d (has_of_looks c q d t look) n.1 of n.2.1)
        ];
        looking = λ z h. elim (Contains-push_cases zs (Look q d) z h) [ inl a ↦ k.looking z a | inr e ↦ rw (← e) look ];
        passed = next_passed (zs ++ Look q d ∷ [])
            (λ i. record { begins = λ y e b. n.2.0 (rw (same_behind n.0 y n.1 e) b); inherit = λ y e a l. Contains-push zs (Look q d) })
            (passed_grows zs (Look q d)) k.passed;
      }

      -- an item of the closed state, by what it adds
      pub next_closing :
          {b : Bool} {ys : List Need} {done : Bool} → IsTrue b ↔ LooksIn c q d t → IsClosedBy g q d r t b zs ys done → done ≡ false → IsProductionOf g p r
          → AreClosing zs Left → AreClosing ys Rest
      next_closing reads (behind.IsClosedBy.begins n) e of k = absurd cc
      next_closing reads (behind.IsClosedBy.looks n look) e of k = nullable_closing of n (reads.0 look) k
      next_closing reads (behind.IsClosedBy.blind n look) e of k = blind_closing n (λ i. let no : false ≡ true = sym look ∙ reads.1 i in cc) k
      next_closing reads (behind.IsClosedBy.neither n) e of k = neither_closing n k

    -- an item behind whose rule the symbols can begin with the token closes the need
    met_closing :
        (q d : ℕ) → IsProductionOf g p r → IsRestBehind g q d r t rest.Begins → HasItem c q d → AreClosesOf g c t p (Met ∷ [])
    met_closing q d of n i = record {
      sound = λ z h. rw (only_one Met z h) (search.Closes.begins q d i n.1 of n.2);
      looking = λ z h. rw (only_one Met z h) tt;
      all = λ z h l. inr (contains_one Met);
    }

    -- so where nothing more is needed, that alone closes it
    pub all_closed :
        {q d : ℕ} {b : Bool} {zs ys : List Need} {done : Bool} → IsClosedBy g q d r t b zs ys done → done ≡ true → IsProductionOf g p r → HasItem c q d
        → AreClosesOf g c t p ys
    all_closed {q = q} {d = d} (behind.IsClosedBy.begins n) e of i = met_closing q d of n i
    all_closed (behind.IsClosedBy.looks n look) e of i = absurd cc
    all_closed (behind.IsClosedBy.blind n look) e of i = absurd cc
    all_closed (behind.IsClosedBy.neither n) e of i = absurd cc

    -- where no item is left, they are all that close the need
    pub end_closing :
        (zs : List Need) (Left : ℕ → ℕ → Type 0) → IsProductionOf g p r → AreClosing zs Left → ((q d : ℕ) → Left q d → ⊥)
        → AreClosesOf g c t p zs
    end_closing zs Left of k none = record {
      sound = k.sound;
      looking = k.looking;
      all = λ z h l. covered h refl l;
    }
      where
        passed : (q d : ℕ) (y : List Symbol) → HasItem c q d → HasBehind g q d r y → IsPassed zs q d
        passed q d y i b = ⊎_elim (λ (a : Left q d). absurd (none q d a)) (λ (a : IsPassed zs q d). a) (k.passed q d i y b)

        covered : {x z : Need} → Closes g c t x z → x ≡ Look p 0 → IsLooking c t z → Contains zs z ⊎ Contains zs Met
        covered (search.Closes.begins {r = s} {q = q} {y = y} m d i e j b) f l =
            let same : q ≡ p = cc in
            let rule : s ≡ r = rule_unique g q s r j (rw same of) in
            let behind : HasBehind g m d r y = rw (← rule) e in
            absurd ((passed m d y i behind).begins y behind b)
        covered (search.Closes.inherit {r = s} {q = q} {y = y} m d i e j n) f l =
            let same : q ≡ p = cc in
            let rule : s ≡ r = rule_unique g q s r j (rw same of) in
            let behind : HasBehind g m d r y = rw (← rule) e in
            inl ((passed m d y i behind).inherit y behind n l)

-- an item of an empty list of items
pub none_left : (left : Items) → left ≡ [] → (q d : ℕ) → HasItem left q d → ⊥
none_left left none q d h = let b : HasItem [] q d = rw none at h in absurd cc

-- an item is the first of a list, or among the rest
pub first_or_behind : (ks : List (ℕ × ℕ)) (q d i e : ℕ) → Contains ((q, d) ∷ ks) (i, e) → ((i ≡ q) × (e ≡ d)) ⊎ Contains ks (i, e)
first_or_behind ks q d i e h = elim (among_from_contains (i, e) ((q, d) ∷ ks) h) [
  | inl s ↦ inl (ap (λ (x : ℕ × ℕ). x.0) s, ap (λ (x : ℕ × ℕ). x.1) s)
  | inr a ↦ inr (contains_from_among (i, e) ks a)
]

-- none is in an empty list
pub none_behind : (ks : List (ℕ × ℕ)) → ks ≡ [] → (q d : ℕ) → Contains ks (q, d) → ⊥
none_behind ks none q d h = let b : Contains [] (q, d) = rw none at h in absurd (among_from_contains (q, d) [] b)

-- an item that is there is of a production of the grammar
pub below_of_item : (g : Grammar) (c : Items) (p d : ℕ) → Fits g c → HasItem c p d → p < length g.productions
below_of_item g c p d fits h = go (item_at c p d) refl h
  where
    go : (o : Option (List Bool)) → item_at c p d ≡ o → IsSome o → p < length g.productions
    go (Some v) e k = (fits p d v e).production
    go None e k = absurd cc

-- one that is not found is not there
pub absent_item : (c : Items) (p d : ℕ) → item_at c p d ≡ None → HasItem c p d → ⊥
absent_item c p d e h = let k : IsSome {T = List Bool} None = rw e at h in absurd cc

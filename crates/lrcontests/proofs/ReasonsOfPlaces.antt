-- lists with the core of a state, after which what is needed looks at the token
use Rattle.std.proofs.Common.{◌≡◌, ℕ, ◌+◌, ◌<◌, Bool, false, List, [], ◌∷◌, ◌++◌, length, Option, None, Some, refl, ap, arith, ◌⊎◌, inl, inr}
use Rattle.std.specs.Prelude.{Contains, IsTrue, slice_index_or, Result, Ok, Err, IfOk, option_map}
use Rattle.std.specs.Option.{IsSome, IsSomeAnd}
use Rattle.std.proofs.lemmas.Bool.{cases_eq}
use Rattle.std.proofs.lemmas.List.Elements.{Contains-append_left, Contains-push, Contains-push_cases}
use Rattle.lrspec.specs.grammars.Grammar.{Symbol, Token, Grammar, IsGrammar, body_of, token_count}
use Rattle.lrspec.specs.grammars.CanonicalItems.{Looks}
use Rattle.lrspec.specs.grammars.Candidates as candidate
use Rattle.lrspec.specs.grammars.Candidates.{Candidate, IsCandidate}
use Rattle.lrspec.specs.grammars.ItemSets.{Items, HasItem, LooksIn, Fits, item_at}
use Rattle.lrspec.specs.merging.Cores.{HasCoreAfter}
use Rattle.lrspec.specs.merging.Graph.{Graph, core_of, closed_of, IsGraphOf}
use Rattle.lrspec.specs.merging.WeakCompatibility.{SameItems}
use Rattle.lrspec.specs.tables.Table.{shift_reduce_of, reduce_reduce_of}
use Rattle.lrspec.specs.tables.Conflicts.{AreReductionsContested}
use Rattle.lrspec.proofs.grammars.CanonicalItemFacts.{stands_of_looks}
use Rattle.lrspec.proofs.grammars.CanonicalClosures.{core_same, core_closes}
use Rattle.lrspec.proofs.grammars.ListMembers.{among_from_contains}
use Rattle.lrspec.proofs.merging.StatesHoldWhatStands.{leads_below}
use Rattle.lrspec.proofs.tables.CellFacts.{reduction_looks}
use Rattle.lrspec.proofs.tables.ConflictEntries.{reduction_below}
use Rattle.lrspec.proofs.tables.ListedConflicts.{listed_mix, listed_pair}
use Rattle.lrspec.proofs.tables.ConflictsAreContested.{shifts_contested}
use Rattle.lrclosing.proofs.WalksOverItems.{first_or_rest}
use Rattle.lrclosing.proofs.MarkedProductions.{below_of_bit}
use Rattle.lrsearches.specs.Searches.{Met, Look, Place, Serves, AreLooking, IsAnswer}
use Rattle.lrcontests.specs.Contests.{IsShiftContest, IsReductionContest, HasNoReductionContest, IsReason, IsReasonIfAny, at_state, AreStartsBelow}
use Rattle.lrsearches.proofs.FinishedSearches.{looking}

-- two item sets with the core after one list have the same items
same_of_cores : {g : Grammar} {w : List Symbol} (a b : Items) → HasCoreAfter g w a → HasCoreAfter g w b → SameItems a b
same_of_cores a b m n p d = (λ i. (n.items p d).1 ((m.items p d).0 i), λ i. (m.items p d).1 ((n.items p d).0 i))

swapped : (a b : Items) → SameItems a b → SameItems b a
swapped a b k p d = ((k p d).1, (k p d).0)

-- an item more that is in the other item set
pub next_within :
    (a b : Items) (q e : ℕ) (v : List Bool) (left : Items) → HasItem b q e → ((p d : ℕ) → HasItem a p d → HasItem (((q, e), v) ∷ left) p d ⊎ HasItem b p d)
    → (p d : ℕ) → HasItem a p d → HasItem left p d ⊎ HasItem b p d
next_within a b q e v left here k p d h = elim (k p d h) [
  | inl i ↦ elim (first_or_rest q e v left p d i) [ inl s ↦ inr (rw (s.0, s.1) here) | inr j ↦ inl j ]
  | inr i ↦ inr i
]

module _ (h : Graph) (t : ℕ) (a : Place) where
  -- no state was looked at
  pub no_starts : AreStartsBelow h t a 0 []
  no_starts = record {
    needs = λ b k. absurd (among_from_contains b [] k);
    below = λ b k. absurd (among_from_contains b [] k);
    same = λ b k. absurd (among_from_contains b [] k);
    looking = λ b k. absurd (among_from_contains b [] k);
    all = λ s l k m. absurd (omega arith);
  }

  -- one state more, at which the search does not begin
  pub other_start :
      (n : ℕ) (ps : List Place) → (SameItems (core_of h a.state) (core_of h n) → AreLooking h t (at_state a n) → ⊥)
      → AreStartsBelow h t a n ps → AreStartsBelow h t a (n + 1) ps
  other_start n ps none k = record {
    needs = k.needs;
    below = k.below;
    same = k.same;
    looking = k.looking;
    all = λ s l m o. elim (cases_eq s n) [ inl e ↦ absurd (none (rw e at m) (rw e at o)) | inr e ↦ k.all s (omega (arith, l, e)) m o ];
  }

  -- one at which it does
  pub next_start :
      (n : ℕ) (ps : List Place) → n < length h → SameItems (core_of h a.state) (core_of h n) → AreLooking h t (at_state a n)
      → AreStartsBelow h t a n ps → AreStartsBelow h t a (n + 1) (ps ++ at_state a n ∷ [])
  next_start n ps l same look k = record {
    needs = λ b i. elim (Contains-push_cases ps (at_state a n) b i) [ inl j ↦ k.needs b j | inr e ↦ rw (← e) refl ];
    below = λ b i. elim (Contains-push_cases ps (at_state a n) b i) [ inl j ↦ k.below b j | inr e ↦ rw (← e) l ];
    same = λ b i. elim (Contains-push_cases ps (at_state a n) b i) [ inl j ↦ k.same b j | inr e ↦ rw (← e) same ];
    looking = λ b i. elim (Contains-push_cases ps (at_state a n) b i) [ inl j ↦ k.looking b j | inr e ↦ rw (← e) look ];
    all = λ s m o q. elim (cases_eq s n) [
      | inl e ↦ rw e (Contains-push ps (at_state a n))
      | inr e ↦ Contains-append_left ps (at_state a n ∷ []) (at_state a s) (k.all s (omega (arith, m, e)) o q)
    ];
  }

module _ (g : Grammar) (h : Graph) (t : ℕ) (grammar : IsGrammar g) (of : IsGraphOf g h) where
  -- a list that serves one of the places is a reason
  reason_of_serves : (a b : Place) (w : List Symbol) → b ≡ at_state a b.state → SameItems (core_of h a.state) (core_of h b.state) → Serves g h t w b → IsReason g h t a w
  reason_of_serves a b w e same s = record {
    core = core_same (of.hold.cores w b.state s.leads) (swapped (core_of h a.state) (core_of h b.state) same);
    first = let f : b.first ≡ a.first = ap (λ (c : Place). c.first) e in rw f at s.first;
    second = let f : b.second ≡ a.second = ap (λ (c : Place). c.second) e in rw f at s.second;
  }

  -- a reason serves one of them
  serves_of_reason :
      (a : Place) (ps : List Place) (p d : ℕ) (w : List Symbol) → a.first ≡ Look p d → AreStartsBelow h t a (length h) ps → IsReason g h t a w
      → (b : Place) × Contains ps b × Serves g h t w b
  serves_of_reason a ps p d w e k r =
      let first : Looks g w p d t = rw e at r.first in
      let (s, leads) = of.hold.leads w p d (stands_of_looks first) in
      let core = of.hold.cores w s leads in
      let same = same_of_cores (core_of h a.state) (core_of h s) r.core core in
      let look : AreLooking h t (at_state a s) = (looking g h t grammar of.hold w s a.first leads r.first, looking g h t grammar of.hold w s a.second leads r.second) in (
        at_state a s,
        k.all s (leads_below grammar of.closures of.gotos leads) same look,
        record { leads = leads; first = r.first; second = r.second },
      )

  -- so the answer of a search that began at them tells whether there is a reason
  pub reason_of_answer :
      (a : Place) (ps : List Place) (p d : ℕ) (o : Option (List Symbol)) → a.first ≡ Look p d → AreStartsBelow h t a (length h) ps → IsAnswer g h t ps o
      → IsReasonIfAny g h t a o
  reason_of_answer a ps p d None e k n = λ w r. let (b, c, s) = serves_of_reason a ps p d w e k r in n b w c s
  reason_of_answer a ps p d (Some w) e k (b, c, s) = reason_of_serves a b w (k.needs b c) (k.same b c) s

  -- and so it is of an answer that was made
  pub reason_made :
      {X E : Type 0} (f : X → List Symbol) (r : Result (Option X) E) (a : Place) (ps : List Place) (p d : ℕ) → a.first ≡ Look p d
      → AreStartsBelow h t a (length h) ps → IfOk r (λ o. IsAnswer g h t ps (option_map f o)) → IfOk r (λ o. IsReasonIfAny g h t a (option_map f o))
  reason_made f (Ok o) a ps p d e k n = reason_of_answer a ps p d (option_map f o) e k n
  reason_made f (Err x) a ps p d e k n = n

module _ (g : Grammar) (h : Graph) (of : IsGraphOf g h) where
  -- what an entry of the list of shift/reduce conflicts names
  pub mix_below : (t p s : ℕ) → Contains (shift_reduce_of g h) (t, p, s) → (s < length h) × (p < length g.productions) × (t < token_count g)
  mix_below t p s i =
      let k = listed_mix g h t p s (among_from_contains (t, p, s) (shift_reduce_of g h) i) in
      (k.below, reduction_below g (closed_of h s) t p k.reduces, k.token)

  looks_of_reduce : {w : List Symbol} {t p : ℕ} {x : Candidate} → IsCandidate g w t x → x ≡ candidate.Candidate.Reduce p → Looks g w p (length (body_of g p)) t
  looks_of_reduce (candidate.IsCandidate.shift s b) e = absurd cc
  looks_of_reduce (candidate.IsCandidate.reduce {p = q} n l) e = let same : q ≡ _ = cc in rw same at l
  looks_of_reduce (candidate.IsCandidate.accept l) e = absurd cc

  module _ (t p s : ℕ) (i : Contains (shift_reduce_of g h) (t, p, s)) (a : Place) (state : a.state ≡ s) (first : a.first ≡ Look p (length (body_of g p))) where
    -- an entry has a reason
    pub mix_reason : a.second ≡ Met → (o : Option (List Symbol)) → IsReasonIfAny g h t a o → IsSome o
    mix_reason second None k =
        let (w, core, one, other) = shifts_contested g h of t p s i in
        absurd (k w (record { core = rw state core; first = rw first (looks_of_reduce other refl); second = rw second tt }))
    mix_reason second (Some w) k = refl

    -- and a reason is a contest
    pub mix_contest : (w : List Symbol) → IsReason g h t a w → IsShiftContest g h t p s w
    mix_contest w r =
        let k = listed_mix g h t p s (among_from_contains (t, p, s) (shift_reduce_of g h) i) in
        let (n, x) = reduction_looks g (closed_of h s) t p k.reduces in
        let core = rw state at r.core in
        let (q, e, f, before) = (of.gotos.edges s (Token t)).0 (rw k.leads refl) in
        let stands = (core_closes core (of.closures.closures s k.below) q e).0 f in
        record {
          core = core;
          shift = candidate.IsCandidate.shift stands before;
          reduce = candidate.IsCandidate.reduce n (rw first at r.first);
        }

  -- what an entry of the list of reduce/reduce conflicts names
  pub pair_below :
      (t p q s : ℕ) → Contains (reduce_reduce_of g h) (t, p, q, s)
      → (s < length h) × (p < length g.productions) × (q < length g.productions) × (t < token_count g)
  pair_below t p q s i =
      let k = listed_pair g h t p q s (among_from_contains (t, p, q, s) (reduce_reduce_of g h) i) in
      (k.below, reduction_below g (closed_of h s) t p k.first, reduction_below g (closed_of h s) t q k.second, k.token)

  -- an item that looks at a token looks at one of the grammar
  token_below : IsGrammar g → (w : List Symbol) (p d t : ℕ) → Looks g w p d t → t < token_count g
  token_below grammar w p d t l =
      let (s, leads) = of.hold.leads w p d (stands_of_looks l) in
      some (closed_of h s) p d t (of.closures.fit_closed s (leads_below grammar of.closures of.gotos leads)) (of.hold.looks w s p d t leads l)
    where
      some : (c : Items) (p d t : ℕ) → Fits g c → LooksIn c p d t → t < token_count g
      some c p d t fits look = go (item_at c p d) refl look
        where
          go : (o : Option (List Bool)) → item_at c p d ≡ o → IsSomeAnd o (λ v. IsTrue (slice_index_or v t false)) → t < token_count g
          go None e l = absurd l
          go (Some v) e l = let below = below_of_bit v t l in omega (arith, below, (fits p d v e).bits)

  module _
      (t p q s : ℕ) (i : Contains (reduce_reduce_of g h) (t, p, q, s)) (a : Place) (state : a.state ≡ s)
      (first : a.first ≡ Look p (length (body_of g p))) (second : a.second ≡ Look q (length (body_of g q)))
    where
      -- a reason at some token is a contest there
      pub pair_contest : (u : ℕ) (w : List Symbol) → IsReason g h u a w → IsReductionContest g h u p q s w
      pair_contest u w r =
          let k = listed_pair g h t p q s (among_from_contains (t, p, q, s) (reduce_reduce_of g h) i) in
          let (n, x) = reduction_looks g (closed_of h s) t p k.first in
          let (m, y) = reduction_looks g (closed_of h s) t q k.second in
          record {
            differ = λ e. omega (arith, e, k.order);
            core = rw state at r.core;
            first = candidate.IsCandidate.reduce n (rw first at r.first);
            second = candidate.IsCandidate.reduce m (rw second at r.second);
          }

      -- without a reason there is no contest
      pub pair_none : (u : ℕ) → ((w : List Symbol) → IsReason g h u a w → ⊥) → HasNoReductionContest g h u p q s
      pair_none u none w c =
          none w (record { core = rw state c.core; first = rw first (looks_of_reduce c.first refl); second = rw second (looks_of_reduce c.second refl) })

      -- at some token there is a contest
      pub pair_some : IsGrammar g → AreReductionsContested g h → ((u : ℕ) → u < token_count g → HasNoReductionContest g h u p q s) → ⊥
      pair_some grammar contested none =
          let (w, u, differ, core, one, other) = contested t p q s i in
          let below = token_below grammar w p (length (body_of g p)) u (looks_of_reduce one refl) in
          none u below w (record { differ = differ; core = core; first = one; second = other })

-- where there is what is made of a value there is the value
pub some_of_map : {X Y : Type 0} (f : X → Y) (o : Option X) → IsSome (option_map f o) → IsSome o
some_of_map f None e = e
some_of_map f (Some x) e = refl

-- what holds below a number and at it holds below the next one
pub none_below : (P : ℕ → Type 0) (n : ℕ) → ((k : ℕ) → k < n → P k) → P n → (k : ℕ) → k < n + 1 → P k
none_below P n before here k l = elim (cases_eq k n) [ inl e ↦ rw e here | inr e ↦ before k (omega (arith, l, e)) ]

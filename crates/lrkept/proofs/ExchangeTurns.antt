-- claims that hold of all listed positions at a turn
use Rattle.std.proofs.Common.{◌≡◌, ℕ, zero, suc, ◌<◌, ◌≤◌, inl, inr, List, [], ◌∷◌, ◌++◌, length, take, refl, sym, ap, ◌∙◌, subst, append_assoc, arith, Some}
use Rattle.std.specs.Prelude.{slice_get}
use Rattle.std.proofs.lemmas.List.{take_all}
use Rattle.lrspec.specs.grammars.Grammar.{Symbol, Rule, Grammar, body_of, IsProductionOf}
use Rattle.lrspec.specs.merging.Graph.{Graph}
use Rattle.lrexchange.specs.Positions.{Turn, Ahead, Position, IsCut, raised}
use Rattle.lrexchange.specs.Exchanges.{EachReduced, Proceeds, IsLevel, IsListed, AreWon}
use Rattle.lrkept.proofs.ExchangeStacks.{ends_within, length_taken, raise_ours}
use Rattle.lrkept.proofs.ExchangeTies.{IsTied, AreAt, raise_tied, reduce_tied}
use Rattle.lrkept.proofs.ExchangeClaims.{Reading, Claim, ReadsOn, retreat_claim, listed_claim}

-- above where both stacks part, theirs is cut where it ends with the symbols before a dot
pub cut_theirs :
    {g : Grammar} {p d : ℕ} (r : ℕ) (front c x f : List Symbol) → d ≤ length (c ++ x) → (front ++ c) ++ x ≡ f ++ take d (body_of g p)
    → IsProductionOf g p r
    → (cut : List Symbol) × IsCut g p d 0 (c ++ x) cut × (front ++ cut ≡ f ++ Rule r ∷ [])
cut_theirs {g} {p} {d} r front c x f deep stack i =
    let short : length (take d (body_of g p)) ≤ length (c ++ x) = omega (arith, deep, length_taken d (body_of g p)) in
    let (high, whole, ends) = ends_within front (c ++ x) f (take d (body_of g p)) (sym (append_assoc front c x) ∙ stack) short in (
      high ++ Rule r ∷ [],
      record { front = high; rule = r; of_rule = i; ends = ends; is = refl; deep = omega arith },
      sym (append_assoc front high (Rule r ∷ [])) ∙ ap (λ l. l ++ Rule r ∷ []) (sym whole),
    )

-- so many symbols of a body are all of it
taken_whole : (g : Grammar) (p d : ℕ) → d ≡ length (body_of g p) → take d (body_of g p) ≡ body_of g p
taken_whole g p d e = take_all d (body_of g p) (omega (arith, e))

module _ (g : Grammar) (h : Graph) where
  -- where they reduce what is claimed behind that is claimed
  pub reduced_claim :
      {Member : Position → Type 0} {turn : Turn} {p d : ℕ} (a : Position) (Theirs Ours : Reading) → EachReduced g h Member turn p d a
      → ((b : Position) → b.turn ≡ turn → Member b → Claim g h Theirs Ours b)
      → ((t : ℕ) → turn ≡ Ahead t → (a.turn ≡ Ahead t) × (d ≡ length (body_of g p)))
      → (z v : List Symbol) (w : List ℕ) → AreAt g h a z v
      → (f : List Symbol) (r : ℕ) → IsProductionOf g p r → z ++ a.theirs ≡ f ++ take d (body_of g p) → Theirs (f ++ Rule r ∷ []) w → Ours v w
  reduced_claim {turn = turn} {p = p} {d = d} a Theirs Ours each claims ahead z v w there f r i stack theirs =
      let (front, c, q, parts, below, (deep, members)) = each z there.leads in
      let whole : (front ++ c) ++ a.theirs ≡ f ++ take d (body_of g p) = ap (λ l. l ++ a.theirs) (sym parts) ∙ stack in
      let (cut, is_cut, same) = cut_theirs r front c a.theirs f deep whole i in
      let tied : (t : ℕ) → turn ≡ Ahead t → IsTied g front cut (raised c a.ours) = λ t e.
      reduce_tied f p r i (sym (append_assoc front c a.theirs) ∙ (whole ∙ ap (λ l. f ++ l) (taken_whole g p d (ahead t e).1))) same
      (raise_tied front c a.theirs a.ours (subst (λ l. IsTied g l a.theirs a.ours) parts (there.tied t (ahead t e).0))) in
      claims _ refl (members cut is_cut) front v w (record { leads = below; ours = raise_ours front c (rw parts at there.ours); tied = tied })
      (subst (λ l. Theirs l w) (sym same) theirs)

  module _ (positions : List Position) where
    -- the position is the same at once, or listed
    abbrev pub Listed : Position → Type 0
    Listed a = IsListed h positions (length positions) a

    -- the claim holds of all that are so at the turn
    abbrev pub Holds : Turn → Reading → (List ℕ → List ℕ) → Type 0
    Holds turn Theirs before = (a : Position) → a.turn ≡ turn → Listed a → Claim g h Theirs (ReadsOn g h before) a

    module _ (won : AreWon g h positions) where
      module _ (turn : Turn) (Theirs : Reading) (before : List ℕ → List ℕ)
          (level : IsLevel turn → (u : List Symbol) (w : List ℕ) → Theirs u w → ReadsOn g h before u w)
          (goes : (a : Position) → a.turn ≡ turn → Proceeds g h Listed a → Claim g h Theirs (ReadsOn g h before) a) where
        -- it holds of the first of the list, one after the other
        first_hold :
            (n k : ℕ) (a : Position) → k < n → slice_get positions k ≡ Some a → a.turn ≡ turn → Claim g h Theirs (ReadsOn g h before) a
        first_hold zero k a l at is = absurd (omega (arith, l))
        first_hold (suc n) k a l at is = elim (won k a at) [
          | inl proceeds ↦ goes a is proceeds
          | inr retreats ↦
              retreat_claim g h Theirs before retreats λ b same member.
              listed_claim g h Theirs before positions member
              (λ j c below there equal. first_hold n j c (omega (arith, l, below)) there (equal ∙ (same ∙ is)))
              (λ k. level (subst IsLevel (same ∙ is) k))
        ]

        -- and so of all, if it does where they go on
        pub turn_holds : Holds turn Theirs before
        turn_holds a is listed =
            listed_claim g h Theirs before positions listed
            (λ k b below at same. first_hold (suc k) k b (omega arith) at (same ∙ is))
            (λ k. level (subst IsLevel is k))

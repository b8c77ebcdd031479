-- what is claimed of positions, and of those at which we alone reduce
use Rattle.std.proofs.Common.{◌≡◌, ℕ, ◌<◌, inl, inr, List, [], ◌∷◌, ◌++◌, refl, sym, ap, ◌∙◌, subst, append_assoc, Some}
use Rattle.std.specs.Prelude.{slice_get}
use Rattle.lrspec.specs.grammars.Grammar.{Symbol, Rule, Grammar}
use Rattle.lrspec.specs.merging.Graph.{Graph}
use Rattle.lrconflicts.specs.Moves.{Move, Reduce}
use Rattle.lrambiguity.specs.Finishing.{Finishes}
use Rattle.lrkept.specs.Kept.{GoesOn}
use Rattle.lrexchange.specs.Positions.{Ahead, Position, Sinks}
use Rattle.lrexchange.specs.Exchanges as exchange
use Rattle.lrexchange.specs.Exchanges.{EachOwn, Proceeds, Retreats, IsLevel, IsSame, IsListed, AreWon}
use Rattle.lrkept.proofs.ExchangeTies.{IsTied, AreAt, none_tied, raise_tied, cut_tied, sunk_at}
use Rattle.lrkept.proofs.ExchangeStacks.{unmarked_is, raise_ours, cut_ours, cut_reduced, unmark_ours, goes_back}

-- of a stack and a text
abbrev pub Reading : Type 1
Reading = List Symbol → List ℕ → Type 0

module _ (g : Grammar) (h : Graph) where
  -- wherever theirs holds of their stack and a text, ours holds of our stack and that text
  abbrev pub Claim : Reading → Reading → Position → Type 0
  Claim Theirs Ours a =
      (z v : List Symbol) (w : List ℕ) → AreAt g h a z v → Theirs (z ++ a.theirs) w → Ours v w

  -- the text, with what comes before it, can be read
  abbrev pub ReadsOn : (List ℕ → List ℕ) → Reading
  ReadsOn before v w = GoesOn g v (before w)

  -- it can be read by a way that begins with the reduction
  abbrev pub ReducesFirst : (List ℕ → List ℕ) → ℕ → Reading
  ReducesFirst before p v w = (ms : List Move) × Finishes g v (Reduce p ∷ ms) (before w)

  module _ (Theirs : Reading) where
    -- a claim of a position is one of each that sinks to it
    pub sunk_claim : {Ours : Reading} {a b : Position} → Sinks h a b → Claim Theirs Ours b → Claim Theirs Ours a
    sunk_claim {a = a} {b = b} k claim z v w there theirs =
        claim (z ++ k.both) v w (sunk_at k there)
        (subst (λ l. Theirs l w) (ap (λ l. z ++ l) k.theirs ∙ sym (append_assoc z k.both b.theirs)) theirs)

    module _ (before : List ℕ → List ℕ) where
      -- where they have what we have, what they read is read
      pub same_claim : {a : Position} → IsSame a → ((u : List Symbol) (w : List ℕ) → Theirs u w → ReadsOn before u w) → Claim Theirs (ReadsOn before) a
      same_claim {a} k goes z v w there theirs =
          rw (unmarked_is k.known there.ours ∙ ap (λ l. z ++ l) (sym k.same)) (goes (z ++ a.theirs) w theirs)

      -- where we alone reduce, we do so first
      pub own_claim :
          {Member : Position → Type 0} (a : Position) (p : ℕ) → EachOwn g h Member p a
          → ((b : Position) → b.turn ≡ a.turn → Member b → Claim Theirs (ReadsOn before) b)
          → Claim Theirs (ReducesFirst before p) a
      own_claim a p each claims z v w there theirs =
          let (front, c, q, parts, below, (cut, is_cut, member)) = each z there.leads in
          let k = cut_ours is_cut (raise_ours front c (rw parts at there.ours)) in
          let same : z ++ a.theirs ≡ front ++ (c ++ a.theirs) = ap (λ l. l ++ a.theirs) parts ∙ append_assoc front c a.theirs in
          let tied : (t : ℕ) → a.turn ≡ Ahead t → IsTied g front (c ++ a.theirs) cut =
          λ t e. cut_tied is_cut (raise_tied front c a.theirs a.ours (subst (λ l. IsTied g l a.theirs a.ours) parts (there.tied t e))) in
          let (ms, f) = claims _ refl member front (k.front ++ Rule k.rule ∷ []) w (record { leads = below; ours = k.ours; tied = tied })
          (subst (λ l. Theirs l w) same theirs) in
          (ms, cut_reduced k f)

      -- so what is claimed of the positions behind our reductions is claimed
      pub retreat_claim :
          {Member : Position → Type 0} {a : Position} → Retreats g h Member a
          → ((b : Position) → b.turn ≡ a.turn → Member b → Claim Theirs (ReadsOn before) b)
          → Claim Theirs (ReadsOn before) a
      retreat_claim (exchange.Retreats.own p each) claims z v w there theirs =
          let (ms, f) = own_claim _ p each claims z v w there theirs in (Reduce p ∷ ms, f)
      retreat_claim (exchange.Retreats.unmark m front mark place symbols member) claims z v w there theirs =
          let (reduces, bare) = unmark_ours m front mark place symbols there.ours in
          goes_back reduces
          (claims _ refl member z ((z ++ front) ++ m.symbol ∷ []) w (record { leads = there.leads; ours = bare; tied = λ t e. none_tied _ refl }) theirs)

      module _ (positions : List Position) where
        -- what is claimed of the first positions, and of those that are the same, is claimed of the listed ones
        pub listed_claim :
            {bound : ℕ} {a : Position} → IsListed h positions bound a
            → ((k : ℕ) (b : Position) → k < bound → slice_get positions k ≡ Some b → b.turn ≡ a.turn → Claim Theirs (ReadsOn before) b)
            → (IsLevel a.turn → (u : List Symbol) (w : List ℕ) → Theirs u w → ReadsOn before u w)
            → Claim Theirs (ReadsOn before) a
        listed_claim (b, sinks, inl same) claims level =
            sunk_claim sinks (same_claim same (level (rw sinks.turn same.level)))
        listed_claim (b, sinks, inr (k, below, at)) claims level = sunk_claim sinks (claims k b below at (sym sinks.turn))

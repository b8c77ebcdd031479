-- what is claimed of positions at which they go on holds
use Rattle.std.proofs.Common.{◌≡◌, ℕ, zero, suc, ◌<◌, inl, inr, List, ◌++◌, length, refl, sym, ap, arith}
use Rattle.lrspec.specs.grammars.Grammar.{Symbol, Grammar, IsGrammar, body_of}
use Rattle.lrspec.specs.merging.Graph.{Graph, IsGraphOf}
use Rattle.lrspec.proofs.tables.MachineStacks.{start_body}
use Rattle.lrconflicts.specs.Moves.{Move}
use Rattle.lrambiguity.specs.Finishing.{Finishes}
use Rattle.lrkept.specs.Kept.{GoesOn}
use Rattle.lrexchange.specs.Positions.{Even, Open, Position}
use Rattle.lrexchange.specs.Exchanges.{Proceeds, AreWon}
use Rattle.lrkept.proofs.OpenStacks.{open_item}
use Rattle.lrkept.proofs.OpenItemsStand.{leads_there, state_of_open, state_of_start}
use Rattle.lrkept.proofs.ExchangeEdges.{follows_end}
use Rattle.lrkept.proofs.ExchangeTies.{AreAt, level_at}
use Rattle.lrkept.proofs.ExchangeTurns.{Listed, Holds, turn_holds}
use Rattle.lrkept.proofs.ExchangeAnswers.{answered}
use Rattle.lrkept.proofs.ExchangeOpen.{plainly, Going, Opening, deep_stack, start_holds, open_hold}

module _ {g : Grammar} {h : Graph} (shape : IsGrammar g) (k : IsGraphOf g h) (positions : List Position) (won : AreWon g h positions) where
  -- what holds where neither has read more, for fewer moves than so many
  record Level (n : ℕ) : Type 0 where
    pub even : Holds g h positions Even (Going g n) plainly
    pub opens : (p d : ℕ) → Holds g h positions (Open p d) (Opening g p d n) plainly

  module _ (n : ℕ) (before : Level n) where
    -- where some item is open
    with_item :
        (a : Position) → a.turn ≡ Even → Proceeds g h (Listed g h positions) a
        → (z v : List Symbol) (w : List ℕ) (ms : List Move) → AreAt g h a z v → length ms < suc n → Finishes g (z ++ a.theirs) ms w
        → GoesOn g v w
    with_item a is proceeds z v w ms both few f =
        let (deep, members) = answered is proceeds in
        let (u, there) = leads_there shape k f in
        let follows = follows_end z a.theirs both.leads there in
        elim (open_item shape f (deep_stack z a deep both.leads)) [
          | inl e ↦
              let one : Open g.start_production 1 ≡ Open g.start_production (length (body_of g g.start_production)) =
              ap (Open g.start_production) (sym (ap length (start_body shape))) in
              let member = members u g.start_production 1 follows (state_of_start shape k u there e.0) in
              start_holds shape k positions won _ one member z v w (level_at both.leads both.ours (λ t x. cc)) (e.0, e.2)
          | inr e ↦
              open_hold shape k positions won n before.even before.opens e.0 e.1 _ refl
              (members u e.0 e.1 follows (state_of_open shape k u there e.3 e.2)) z v w (level_at both.leads both.ours (λ t x. cc)) (ms, e.3, few)
        ]

    even_on : Holds g h positions Even (Going g (suc n)) plainly
    even_on =
        turn_holds g h positions won Even (Going g (suc n)) plainly
        (λ l u w i. (i.0, i.2))
        (λ a is proceeds z v w both i. with_item a is proceeds z v w i.0 both i.1 i.2)

  levels : (n : ℕ) → Level n
  levels zero = record {
    even = λ a is listed z v w both i. absurd (omega (arith, i.1));
    opens = λ p d a is listed z v w both i. absurd (omega (arith, i.2));
  }
  levels (suc n) =
      let before = levels n in
      record { even = even_on n before; opens = open_hold shape k positions won n before.even before.opens }

  -- so all holds
  pub even_holds : Holds g h positions Even (GoesOn g) plainly
  even_holds a is listed z v w both (ms, f) = (levels (suc (length ms))).even a is listed z v w both (ms, omega arith, f)

-- what is asked of some positions may be asked of more
use Rattle.std.proofs.Common.{ℕ, List, [], ◌∷◌, length, None}
use Rattle.lrspec.specs.grammars.Grammar.{Symbol, Token, Grammar, body_of}
use Rattle.lrspec.specs.merging.Graph.{Graph}
use Rattle.lrconflicts.specs.Moves.{Move}
use Rattle.lrexchange.specs.Asked.{Act, They, Both, We, Hide, AsksThem, AsksBoth, AsksHidden, Asks}
use Rattle.lrexchange.specs.Exchanges as game
use Rattle.lrexchange.specs.Exchanges.{at, EachReduced, EachReducedByBoth, EachOwn, EachMarked, TakesReduction, TakesAllMoves, Proceeds, Retreats, Begins}
use Rattle.lrexchange.specs.Positions.{Mark, Turn, Even, Ahead, Before, Behind, Position, EachBelow}

-- what is below each stack holds more
pub below_more : (h : Graph) (s : ℕ) (P Q : ℕ → List Symbol → Type 0) → ((q : ℕ) (c : List Symbol) → P q c → Q q c) → EachBelow h s P → EachBelow h s Q
below_more h s P Q more k z l = let f = k z l in (f.0, f.1, f.2, f.3, f.4, more f.2 f.1 f.5)

module _ (M N : Position → Type 0) (more : (a : Position) → M a → N a) (g : Grammar) where
  them_more : (turn : Turn) (p d : ℕ) (b : Position) → AsksThem g M turn p d b → AsksThem g N turn p d b
  them_more turn p d b k = record { deep = k.deep; reduced = λ cut i. more (at turn b.state cut b.ours) (k.reduced cut i) }

  both_more : (p d : ℕ) (b : Position) → AsksBoth g M p d b → AsksBoth g N p d b
  both_more p d b k = record { deep = k.deep; reduced = λ cut i. let y = k.reduced cut i in (y.0, y.1, more _ y.2) }

  hidden_more : (p : ℕ) (m : Mark) (y : List Symbol) (b : Position) → AsksHidden g M p m y b → AsksHidden g N p m y b
  hidden_more p m y b k = record { deep = k.deep; reduced = λ cut i. let r = k.reduced cut i in (r.0, r.1, r.2, more _ r.3) }

  pub asks_more : (act : Act) (a b : Position) → Asks g M act a b → Asks g N act a b
  asks_more (They turn p d) a b k = them_more turn p d b k
  asks_more (Both p d) a b k = both_more p d b k
  asks_more (We p) a b k = (k.0, k.1, more _ k.2)
  asks_more (Hide p m) a b k = hidden_more p m a.ours.symbols b k

  module _ (h : Graph) where
    pub reduced_more : (turn : Turn) (p d : ℕ) (a : Position) → EachReduced g h M turn p d a → EachReduced g h N turn p d a
    reduced_more turn p d a k z l = let f = k z l in (f.0, f.1, f.2, f.3, f.4, (f.5.0, λ cut i. more _ (f.5.1 cut i)))

    by_both_more : (p d : ℕ) (a : Position) → EachReducedByBoth g h M p d a → EachReducedByBoth g h N p d a
    by_both_more p d a k z l =
        let f = k z l in (f.0, f.1, f.2, f.3, f.4, (f.5.0, λ cut i. let y = f.5.1 cut i in (y.0, y.1, more _ y.2)))

    pub own_more : (p : ℕ) (a : Position) → EachOwn g h M p a → EachOwn g h N p a
    own_more p a k z l = let f = k z l in (f.0, f.1, f.2, f.3, f.4, (f.5.0, f.5.1, more _ f.5.2))

    marked_more : (p : ℕ) (m : Mark) (a : Position) → EachMarked g h M p m a → EachMarked g h N p m a
    marked_more p m a k z l =
        let f = k z l in (f.0, f.1, f.2, f.3, f.4, (f.5.0, λ cut i. let r = f.5.1 cut i in (r.0, r.1, r.2, more _ r.3)))

    pub reduction_more : (p : ℕ) (a : Position) → TakesReduction g h M p a → TakesReduction g h N p a
    reduction_more p a (game.TakesReduction.plain k) = game.TakesReduction.plain (reduced_more a.turn p (length (body_of g p)) a k)
    reduction_more p a (game.TakesReduction.marked m t e i k) = game.TakesReduction.marked m t e i (marked_more p m a k)

    all_moves_more : (t : ℕ) (shifted : Turn) (a : Position) → TakesAllMoves g h t M shifted a → TakesAllMoves g h t N shifted a
    all_moves_more t shifted a k = record {
      shift = λ u f e. more _ (k.shift u f e);
      reduce = λ u p f n l. reduction_more p a (k.reduce u p f n l);
    }

    pub proceeds_more : (a : Position) → Proceeds g h M a → Proceeds g h N a
    proceeds_more a (game.Proceeds.items e deep k) = game.Proceeds.items e deep (λ u p d f i. more _ (k u p d f i))
    proceeds_more a (game.Proceeds.mirror p d e n k) = game.Proceeds.mirror p d e n (by_both_more p d a k)
    proceeds_more a (game.Proceeds.release p d e n none k) = game.Proceeds.release p d e n none (reduced_more Even p d a k)
    proceeds_more a (game.Proceeds.step p d x xs e n rest k) = game.Proceeds.step p d x xs e n rest (more _ k)
    proceeds_more a (game.Proceeds.ahead t e deep k) = game.Proceeds.ahead t e deep (all_moves_more t Even a k)
    proceeds_more a (game.Proceeds.before t e deep k start) = game.Proceeds.before t e deep (all_moves_more t (Behind t) a k) (λ i. more _ (start i))
    proceeds_more a (game.Proceeds.read t e k) = game.Proceeds.read t e (more _ k)

    pub retreats_more : (a : Position) → Retreats g h M a → Retreats g h N a
    retreats_more a (game.Retreats.own p k) = game.Retreats.own p (own_more p a k)
    retreats_more a (game.Retreats.unmark m before e l s k) = game.Retreats.unmark m before e l s (more _ k)

-- what is asked of a cell
pub begins_more :
    {M N : Position → Type 0} {g : Grammar} {h : Graph} {s t : ℕ} {m n : Move} → ((a : Position) → M a → N a) → Begins g h s t M m n → Begins g h s t N m n
begins_more {M} {N} {g} {h} {s} {t} more (game.Begins.shifting p k) =
    game.Begins.shifting p (reduced_more M N more g h (Ahead t) p (length (body_of g p)) (at (Ahead t) s [] (record { symbols = Token t ∷ []; mark = None })) k)
begins_more {M} {N} {g} {h} {s} {t} more (game.Begins.reducing p k) =
    game.Begins.reducing p (own_more M N more g h p (at (Behind t) s (Token t ∷ []) (record { symbols = []; mark = None })) k)
begins_more {M} {N} {g} {h} {s} {t} more (game.Begins.both_reducing p q k) =
    game.Begins.both_reducing p q
    (reduced_more (λ a. EachOwn g h M q a) (λ a. EachOwn g h N q a) (λ a i. own_more M N more g h q a i) g h (Before t) p (length (body_of g p))
    (at (Before t) s [] (record { symbols = []; mark = None })) k)

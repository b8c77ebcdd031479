-- what is asked of others where a position is won
use Rattle.std.proofs.Common.{◌≡◌, ℕ, List, [], ◌∷◌, length, map, get_or, None, refl, sym, subst, ap, arith}
use Rattle.std.specs.Prelude.{Contains}
use Rattle.lrspec.specs.grammars.Grammar.{Symbol, Token, Grammar, body_of, rest}
use Rattle.lrspec.specs.merging.Graph.{Graph}
use Rattle.lrconflicts.specs.Moves.{Shift, Reduce}
use Rattle.lrexchange.specs.Asked.{Act, They, Both, We, Hide, AllAsked, AreBelow, Asks, EachAsked, AllOwn, IsOpen, OpensItems, GoesAhead, GoesBefore, Steps, ReadsToo, Unmarks, deepened}
use Rattle.lrexchange.specs.Exchanges as game
use Rattle.lrexchange.specs.Exchanges.{at, EachReduced, EachReducedByBoth, EachOwn, EachMarked, IsMarkOf, TakesReduction, Proceeds, Retreats, Begins}
use Rattle.lrexchange.specs.Positions.{Mark, Turn, Even, Ahead, Before, Behind, Position}
use Rattle.lrexchange.proofs.GrowingAnswers.{below_more, reduced_more}

-- the same is asked
pub asks_so :
    (g : Grammar) (M : Position → Type 0) (act other : Act) (a b d : Position) → act ≡ other → b ≡ d → Asks g M other a b → Asks g M act a d
asks_so g M act other a b d e f k = subst (λ (z : Position). Asks g M act a z) f (subst (λ (z : Act). Asks g M z a b) (sym e) k)

module _ (g : Grammar) (h : Graph) (M : Position → Type 0) where
  -- what is asked above all that is below is asked above each stack
  pub asked_above_each :
      (act : Act) (a : Position) (belows : List (ℕ × List Symbol)) → AreBelow h a.state belows → AllAsked g M act a belows → EachAsked g h M act a
  asked_above_each act a belows below all =
      below_more h a.state (λ q c. Contains belows (q, c)) (λ q c. Asks g M act a (deepened a q c)) (λ q c k. all q c k) below

  -- they reduce
  pub reduced_by_them : (turn : Turn) (p d : ℕ) (a : Position) → EachAsked g h M (They turn p d) a → EachReduced g h M turn p d a
  reduced_by_them turn p d a k z l = let f = k z l in (f.0, f.1, f.2, f.3, f.4, (f.5.deep, f.5.reduced))

  pub reduced_whole : (turn : Turn) (p d : ℕ) (a : Position) → d ≡ length (body_of g p) → EachAsked g h M (They turn p d) a → EachReduced g h M turn p (length (body_of g p)) a
  reduced_whole turn p d a e k = subst (λ (n : ℕ). EachReduced g h M turn p n a) e (reduced_by_them turn p d a k)

  -- and so do we
  pub reduced_by_both : (p d : ℕ) (a : Position) → EachAsked g h M (Both p d) a → EachReducedByBoth g h M p d a
  reduced_by_both p d a k z l = let f = k z l in (f.0, f.1, f.2, f.3, f.4, (f.5.deep, f.5.reduced))

  -- we alone reduce
  pub reduced_by_us : (p : ℕ) (a : Position) → EachAsked g h M (We p) a → EachOwn g h M p a
  reduced_by_us p a k = k

  -- they reduce to one symbol
  pub reduced_to_one : (p : ℕ) (m : Mark) (a : Position) → EachAsked g h M (Hide p m) a → EachMarked g h M p m a
  reduced_to_one p m a k z l = let f = k z l in (f.0, f.1, f.2, f.3, f.4, (f.5.deep, f.5.reduced))

  -- a reduction before they have read the token
  pub plain_reduction : (p d : ℕ) (a : Position) → d ≡ length (body_of g p) → EachAsked g h M (They a.turn p d) a → TakesReduction g h M p a
  plain_reduction p d a e k = game.TakesReduction.plain (reduced_whole a.turn p d a e k)

  pub marked_reduction : (p t : ℕ) (m : Mark) (a : Position) → a.turn ≡ Ahead t → IsMarkOf a m → EachAsked g h M (Hide p m) a → TakesReduction g h M p a
  marked_reduction p t m a e i k = game.TakesReduction.marked m t e i (reduced_to_one p m a k)

  module _ (a : Position) where
    -- what they do next
    pub proceeds_by_items : a.turn ≡ Even → OpensItems h M a → Proceeds g h M a
    proceeds_by_items e k = game.Proceeds.items e k.deep k.open_ones

    pub proceeds_ahead : (t : ℕ) → a.turn ≡ Ahead t → GoesAhead g h t M a → Proceeds g h M a
    proceeds_ahead t e k = game.Proceeds.ahead t e k.deep k.all

    pub proceeds_before : (t : ℕ) → a.turn ≡ Before t → GoesBefore g h t M a → Proceeds g h M a
    proceeds_before t e k = game.Proceeds.before t e k.deep k.all k.start

    pub proceeds_by_mirror : (p d : ℕ) → IsOpen g a p d → EachAsked g h M (Both p d) a → Proceeds g h M a
    proceeds_by_mirror p d i k = game.Proceeds.mirror p d i.turn i.not_start (reduced_by_both p d a k)

    pub proceeds_by_release : (p d : ℕ) → IsOpen g a p d → rest g p d ≡ [] → EachAsked g h M (They Even p d) a → Proceeds g h M a
    proceeds_by_release p d i none k = game.Proceeds.release p d i.turn i.not_start none (reduced_by_them Even p d a k)

    pub proceeds_by_step : Steps g M a → Proceeds g h M a
    proceeds_by_step k = game.Proceeds.step k.p k.d k.x k.xs k.item.turn k.item.not_start k.behind k.next

    pub proceeds_by_read : ReadsToo M a → Proceeds g h M a
    proceeds_by_read k = game.Proceeds.read k.t k.turn k.next

  -- we alone reduce
  pub retreats_by_own : (p : ℕ) (a : Position) → EachAsked g h M (We p) a → Retreats g h M a
  retreats_by_own p a k = game.Retreats.own p (reduced_by_us p a k)

  pub retreats_by_unmark : (a : Position) → Unmarks M a → Retreats g h M a
  retreats_by_unmark a k = game.Retreats.unmark k.m k.before k.marked k.behind.long k.behind.is k.next

  -- what is asked of a cell
  module _ (s t : ℕ) where
    pub begins_by_shift :
        (p d : ℕ) (a : Position) → d ≡ length (body_of g p) → a ≡ at (Ahead t) s [] (record { symbols = Token t ∷ []; mark = None }) → EachAsked g h M (They (Ahead t) p d) a
        → Begins g h s t M (Reduce p) Shift
    begins_by_shift p d a e is k = game.Begins.shifting p (subst (λ (b : Position). EachReduced g h M (Ahead t) p (length (body_of g p)) b) is (reduced_whole (Ahead t) p d a e k))

    pub begins_by_reduction :
        (p : ℕ) (a : Position) → a ≡ at (Behind t) s (Token t ∷ []) (record { symbols = []; mark = None }) → EachAsked g h M (We p) a → Begins g h s t M Shift (Reduce p)
    begins_by_reduction p a is k = game.Begins.reducing p (subst (λ (b : Position). EachOwn g h M p b) is (reduced_by_us p a k))

-- both reduce
pub begins_by_reductions :
    (g : Grammar) (h : Graph) (s t : ℕ) (firsts asked : List Position) (p q d : ℕ) (a : Position) → d ≡ length (body_of g p)
    → a ≡ at (Before t) s [] (record { symbols = []; mark = None }) → EachAsked g h (Contains firsts) (They (Before t) p d) a → AllOwn g h (Contains asked) q firsts
    → Begins g h s t (Contains asked) (Reduce p) (Reduce q)
begins_by_reductions g h s t firsts asked p q d a e is k all =
    let own : Position → Type 0 = λ b. EachOwn g h (Contains asked) q b in
    game.Begins.both_reducing p q
    (subst (λ (b : Position). EachReduced g h own (Before t) p (length (body_of g p)) b) is
    (reduced_more (Contains firsts) own all g h (Before t) p (length (body_of g p)) a (reduced_whole g h (Contains firsts) (Before t) p d a e k)))

-- a mark
pub first_mark :
    (a : Position) (m : Mark) (x : Symbol) → a.theirs ≡ x ∷ [] → a.ours.mark ≡ None → m ≡ record { place = 0; symbol = x; under = x; state = a.state } → IsMarkOf a m
first_mark a m x e none is = game.IsMarkOf.first e none is

-- one symbol alone
pub one_alone : {X Y : Type 0} (f : X → Y) (xs : List X) (x : X) → length xs ≡ 1 → x ≡ get_or xs 0 x → map f xs ≡ f x ∷ []
one_alone f [] x l e = absurd (omega (arith, l))
one_alone f (y ∷ []) x l e = ap (λ z. f z ∷ []) (sym e)
one_alone f (y ∷ z ∷ zs) x l e = absurd (omega (arith, l))

-- nothing is behind a dot before no symbol
pub none_behind : (xs : List Symbol) → ((x : Symbol) (ys : List Symbol) → xs ≡ x ∷ ys → ⊥) → xs ≡ []
none_behind [] n = refl
none_behind (x ∷ xs) n = absurd (n x xs refl)

-- marks that stand for what both stacks have above where they part, when they reduce it to one symbol
use Rattle.std.proofs.Common.{◌≡◌, ℕ, List, [], ◌∷◌, ◌++◌, refl, sym, ap, ◌∙◌, append_assoc, append-nil, arith, Some}
use Rattle.lrspec.specs.grammars.Grammar.{Symbol, Rule, Grammar, body_of, IsProductionOf}
use Rattle.lrspec.specs.merging.Graph.{Graph, Leads}
use Rattle.lrexchange.specs.Positions as position
use Rattle.lrexchange.specs.Positions.{Mark, Ours, Position, Reduces, IsHidden, IsOurs}
use Rattle.lrexchange.specs.Exchanges as exchange
use Rattle.lrexchange.specs.Exchanges.{IsMarkOf}
use Rattle.lrkept.proofs.ExchangeStacks.{unmarked_is, reduces_on, reduces_both}
use Rattle.lrkept.proofs.ExchangeTies.{IsTied, no_length}

-- no symbols of ours are before it
pub mark_stands : (a : Position) (m : Mark) → IsMarkOf a m → m.place ≡ 0
mark_stands a m (exchange.IsMarkOf.first one none same) = ap (λ k. k.place) same
mark_stands a m (exchange.IsMarkOf.next mark place) = place

module _ {g : Grammar} {h : Graph} where
  -- a mark without symbols before it stands for what is hidden
  at_bottom :
      {front hidden v : List Symbol} (y : Ours) (m : Mark) → m.place ≡ 0 → IsHidden g h m front hidden → v ≡ (front ++ hidden) ++ y.symbols
      → IsOurs g h front (record { symbols = y.symbols; mark = Some m }) v
  at_bottom {front} {hidden} y m place there is =
      position.IsOurs.marked m [] hidden y.symbols refl place refl (rw (append-nil front) there) (rw (append-nil front) is)

  -- the first mark stands for the symbols of both
  first_marked :
      {v : List Symbol} (front c : List Symbol) (a : Position) (m : Mark) (p r : ℕ) (x : Symbol)
      → m ≡ record { place = 0; symbol = x; under = x; state = a.state } → v ≡ (front ++ c) ++ a.ours.symbols
      → Leads h (front ++ c) a.state → c ++ x ∷ [] ≡ body_of g p → IsProductionOf g p r
      → IsOurs g h front (record { symbols = a.ours.symbols; mark = Some (record m { symbol = Rule r }) }) v
  first_marked front c a m p r x same is leads whole i =
      let reduced : Reduces g ((front ++ c) ++ x ∷ []) (front ++ Rule r ∷ []) =
      rw (append_assoc front c (x ∷ []), whole) (position.Reduces.more front p r i position.Reduces.none) in
      let hides : IsHidden g h (record { place = 0; symbol = Rule r; under = x; state = a.state }) front c = record { leads = leads; reduced = reduced } in
      rw same (at_bottom a.ours (record { place = 0; symbol = Rule r; under = x; state = a.state }) refl hides is)

  -- the next one for them, and for what the one before it stands for
  next_marked :
      {v hidden : List Symbol} (front c : List Symbol) (a : Position) (m : Mark) (p r : ℕ) → m.place ≡ 0 → v ≡ ((front ++ c) ++ hidden) ++ a.ours.symbols
      → IsHidden g h m (front ++ c) hidden → Reduces g ((front ++ c) ++ m.symbol ∷ []) ((front ++ c) ++ a.theirs) → c ++ a.theirs ≡ body_of g p
      → IsProductionOf g p r → IsOurs g h front (record { symbols = a.ours.symbols; mark = Some (record m { symbol = Rule r }) }) v
  next_marked {hidden = hidden} front c a m p r place is there tied whole i =
      let parts : (front ++ c) ++ hidden ≡ front ++ (c ++ hidden) = append_assoc front c hidden in
      let stack : (front ++ c) ++ a.theirs ≡ front ++ body_of g p = append_assoc front c a.theirs ∙ ap (λ l. front ++ l) whole in
      let hides : IsHidden g h (record m { symbol = Rule r }) front (c ++ hidden) = record {
        leads = rw parts at there.leads;
        reduced = rw parts at (reduces_on (reduces_both there.reduced tied) front p r stack i);
      } in
      at_bottom a.ours (record m { symbol = Rule r }) place hides (is ∙ ap (λ l. l ++ a.ours.symbols) parts)

  -- so either is a mark of our stack
  pub marked_ours :
      {v : List Symbol} (front c : List Symbol) (a : Position) (m : Mark) (p r : ℕ) → IsMarkOf a m → Leads h (front ++ c) a.state
      → IsTied g (front ++ c) a.theirs a.ours → c ++ a.theirs ≡ body_of g p → IsProductionOf g p r → IsOurs g h (front ++ c) a.ours v
      → IsOurs g h front (record { symbols = a.ours.symbols; mark = Some (record m { symbol = Rule r }) }) v
  marked_ours front c a m p r (exchange.IsMarkOf.first {x = x} one none same) leads tied whole i ours =
      first_marked front c a m p r x same (unmarked_is none ours) leads (rw one at whole) i
  marked_ours front c a m p r (exchange.IsMarkOf.next mark place) leads tied whole i (position.IsOurs.known known is) = absurd cc
  marked_ours front c a m p r (exchange.IsMarkOf.next mark place) leads tied whole i (position.IsOurs.marked n before hidden behind other at symbols there is) =
      let same : n ≡ m = cc in
      let empty : before ≡ [] = no_length before (omega (arith, at, place, ap (λ k. k.place) same)) in
      let bottom : (front ++ c) ++ before ≡ front ++ c = ap (λ l. (front ++ c) ++ l) empty ∙ append-nil (front ++ c) in
      let ours : a.ours.symbols ≡ behind = symbols ∙ ap (λ l. l ++ behind) empty in
      let hides : IsHidden g h m (front ++ c) hidden = rw (bottom, same) at there in
      next_marked front c a m p r place
      (is ∙ (ap (λ l. (l ++ hidden) ++ behind) bottom ∙ ap (λ l. ((front ++ c) ++ hidden) ++ l) (sym ours)))
      hides (rw append-nil at (tied.made m [] a.ours.symbols mark place refl)) whole i

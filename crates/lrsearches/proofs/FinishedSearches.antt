-- a finished search has seen no place that a list serves
use Rattle.std.proofs.Common.{◌≡◌, ℕ, suc, List, [], ◌∷◌, ◌++◌, refl, sym}
use Rattle.lrspec.specs.grammars.Grammar.{Symbol, Grammar, IsGrammar}
use Rattle.lrspec.specs.grammars.CanonicalItems as item
use Rattle.lrspec.specs.grammars.CanonicalItems.{Looks}
use Rattle.lrspec.specs.merging.Graph as graph
use Rattle.lrspec.specs.merging.Graph.{Graph, closed_of, edge, Leads, HoldWhatStands}
use Rattle.lrspec.proofs.grammars.BodyFacts.{push_not_empty}
use Rattle.lrspec.proofs.grammars.CanonicalItemFacts.{stands_of_looks, looks_back, looks_last, start_looks_first}
use Rattle.lrsearches.specs.Searches as search
use Rattle.lrsearches.specs.Searches.{Need, Met, Look, IsMet, GoesBack, IsSettled, IsMetAtStart, IsLooking, IsFinished}

module _ (g : Grammar) (h : Graph) (t : ℕ) (grammar : IsGrammar g) (hold : HoldWhatStands g h) where
  -- what a list has looks at the token in the state
  pub looking : (w : List Symbol) (s : ℕ) (x : Need) → Leads h w s → IsMet g t w x → IsLooking (closed_of h s) t x
  looking w s Met l m = m
  looking w s (Look p d) l m = hold.looks w s p d t l m

  -- what is settled and the empty list has is met at the start
  met_at_start : (x : Need) → IsSettled g x → IsMet g t [] x → IsMetAtStart g t x
  met_at_start x search.IsSettled.met m = m
  met_at_start x search.IsSettled.moved m = let (w, v, e, l, b) = looks_last m in absurd (push_not_empty w v (sym e))
  met_at_start x search.IsSettled.start m = (refl, refl, (start_looks_first grammar m refl refl).1)

  -- what is settled and a longer list has was there before its last symbol, with its dot moved back
  met_before : (w : List Symbol) (v : Symbol) (x : Need) → IsSettled g x → IsMet g t (w ++ v ∷ []) x → (a : Need) × GoesBack x a × IsMet g t w a
  met_before w v x search.IsSettled.met m = (Met, search.GoesBack.met, m)
  met_before w v x (search.IsSettled.moved {p = p} {d = d}) m = (Look p d, search.GoesBack.look, (looks_back w v m refl).0)
  met_before w v x search.IsSettled.start m = absurd (push_not_empty w v (start_looks_first grammar m refl refl).0)

  module _ (Seen : ℕ → Need → Need → Type 0) (done : IsFinished g h t Seen) where
    -- no place that was seen at the state, with both candidates settled, is served by the list
    abbrev AreSettledUnserved : List Symbol → ℕ → Type 0
    AreSettledUnserved w s = (x y : Need) → IsSettled g x → IsSettled g y → IsMet g t w x → IsMet g t w y → Seen s x y → ⊥

    -- then none is where the first is settled
    second_by_look :
        {w : List Symbol} {p d u : ℕ} (s : ℕ) (x : Need) → Leads h w s → AreSettledUnserved w s → IsSettled g x → IsMet g t w x
        → Looks g w p d u → u ≡ t → Seen s x (Look p d) → ⊥
    second_by_look s x l h i m item.Looks.begin e k = h x (Look g.start_production 0) i search.IsSettled.start m (rw (← e) item.Looks.begin) k
    second_by_look s x l h i m (item.Looks.expand {w = w} {p = p} {d = d} {r = r} {q = q} a e j b) f k =
        let closes = search.Closes.begins p d ((hold.closed w s p d l).1 a) e j (rw (← f) b) in
        elim ((done.covered s x (Look q 0) k).seconds Met i closes tt) [
          | search.IsCovered.seen c ↦ h x Met i search.IsSettled.met m tt c
          | search.IsCovered.first_met c ↦ h Met Met search.IsSettled.met search.IsSettled.met tt tt c
          | search.IsCovered.second_met c ↦ h x Met i search.IsSettled.met m tt c
        ]
    second_by_look s x l h i m (item.Looks.inherit {w = w} {p = p} {d = d} {r = r} {q = q} a e j n) f k =
        let closes = search.Closes.inherit p d ((hold.closed w s p d l).1 (stands_of_looks a)) e j n in
        elim ((done.covered s x (Look q 0) k).seconds (Look p d) i closes (looking w s (Look p d) l (rw (← f) a))) [
          | search.IsCovered.seen c ↦ second_by_look s x l h i m a f c
          | search.IsCovered.first_met c ↦ second_by_look s Met l h search.IsSettled.met tt a f c
          | search.IsCovered.second_met c ↦ h x Met i search.IsSettled.met m tt c
        ]
    second_by_look s x l h i m (item.Looks.advance {w = w} {p = p} {d = d} {x = v} a e) f k =
        h x (Look p (suc d)) i search.IsSettled.moved m (rw (← f) (item.Looks.advance a e)) k

    second_unserved :
        (w : List Symbol) (s : ℕ) (x y : Need) → Leads h w s → AreSettledUnserved w s → IsSettled g x → IsMet g t w x → IsMet g t w y
        → Seen s x y → ⊥
    second_unserved w s x Met l h i m n k = h x Met i search.IsSettled.met m n k
    second_unserved w s x (Look p d) l h i m n k = second_by_look s x l h i m n refl k

    -- and then none at all is
    first_by_look :
        {w : List Symbol} {p d u : ℕ} (s : ℕ) (y : Need) → Leads h w s → AreSettledUnserved w s → IsMet g t w y
        → Looks g w p d u → u ≡ t → Seen s (Look p d) y → ⊥
    first_by_look s y l h n item.Looks.begin e k =
        second_unserved [] s (Look g.start_production 0) y l h search.IsSettled.start (rw (← e) item.Looks.begin) n k
    first_by_look s y l h n (item.Looks.expand {w = w} {p = p} {d = d} {r = r} {q = q} a e j b) f k =
        let closes = search.Closes.begins p d ((hold.closed w s p d l).1 a) e j (rw (← f) b) in
        let met = λ (z : Need) (i : IsMet g t w z) (c : Seen s Met z). second_unserved w s Met z l h search.IsSettled.met tt i c in
        elim ((done.covered s (Look q 0) y k).firsts Met closes tt) [
          | search.IsCovered.seen c ↦ met y n c
          | search.IsCovered.first_met c ↦ met y n c
          | search.IsCovered.second_met c ↦ met Met tt c
        ]
    first_by_look s y l h n (item.Looks.inherit {w = w} {p = p} {d = d} {r = r} {q = q} a e j b) f k =
        let closes = search.Closes.inherit p d ((hold.closed w s p d l).1 (stands_of_looks a)) e j b in
        elim ((done.covered s (Look q 0) y k).firsts (Look p d) closes (looking w s (Look p d) l (rw (← f) a))) [
          | search.IsCovered.seen c ↦ first_by_look s y l h n a f c
          | search.IsCovered.first_met c ↦ second_unserved w s Met y l h search.IsSettled.met tt n c
          | search.IsCovered.second_met c ↦ first_by_look s Met l h tt a f c
        ]
    first_by_look s y l h n (item.Looks.advance {w = w} {p = p} {d = d} {x = v} a e) f k =
        second_unserved (w ++ v ∷ []) s (Look p (suc d)) y l h search.IsSettled.moved (rw (← f) (item.Looks.advance a e)) n k

    closing_unserved :
        (w : List Symbol) (s : ℕ) → Leads h w s → AreSettledUnserved w s → (x y : Need) → IsMet g t w x → IsMet g t w y → Seen s x y → ⊥
    closing_unserved w s l h Met y m n k = second_unserved w s Met y l h search.IsSettled.met m n k
    closing_unserved w s l h (Look p d) y m n k = first_by_look s y l h n m refl k

    -- no place that a finished search has seen is served by a list
    pub unserved : {w : List Symbol} {s : ℕ} → Leads h w s → (x y : Need) → IsMet g t w x → IsMet g t w y → Seen s x y → ⊥
    unserved graph.Leads.start x y m n k =
        closing_unserved [] 0 graph.Leads.start (λ a b i j o u c. done.goals 0 a b c (refl, met_at_start a i o, met_at_start b j u)) x y m n k
    unserved (graph.Leads.follow {w = w} {s = s} {u = u} v l e) x y m n k =
        closing_unserved (w ++ v ∷ []) u (graph.Leads.follow v l e) (back (λ a b. unserved l a b)) x y m n k
      where
        back : ((a b : Need) → IsMet g t w a → IsMet g t w b → Seen s a b → ⊥) → AreSettledUnserved (w ++ v ∷ []) u
        back none x y i j m n k =
            let (a, f, o) = met_before w v x i m in
            let (b, q, c) = met_before w v y j n in
            elim ((done.covered u x y k).backs s v a b e f q (looking w s a l o, looking w s b l c)) [
              | search.IsCovered.seen d ↦ none a b o c d
              | search.IsCovered.first_met d ↦ none Met b tt c d
              | search.IsCovered.second_met d ↦ none a Met o tt d
            ]

-- beginnings that both stacks have, symbol after symbol
use Rattle.std.proofs.Common.{◌≡◌, ℕ, ◌+◌, ◌<◌, ◌≤◌, List, [], ◌∷◌, ◌++◌, length, map, get_or, take, drop, Option, None, Some, refl, sym, subst, ap, ◌∙◌, arith}
use Rattle.std.proofs.lemmas.List.{append-nil, length-take-le, take-append-drop, take-append-le, take_more, get_or-map}
use Rattle.lrspec.specs.grammars.Grammar.{Symbol}
use Rattle.lrspec.specs.merging.Graph.{Graph, edge}
use Rattle.lrexchange.specs.Positions as pos
use Rattle.lrexchange.specs.Positions.{Mark, Ours, Position, Follows, Sinks, raised, raised_mark}
use Rattle.lrexchange.specs.Sinking.{IsCommon, AreBeforeMark}
use Rattle.lrexchange.proofs.SamePositions.{the_ours, same_ours}

-- one more edge
pub follows_on : {h : Graph} {s u : ℕ} {xs : List Symbol} → Follows h s xs u → (x : Symbol) (v : ℕ) → edge h u x ≡ Some v → Follows h s (xs ++ x ∷ []) v
follows_on pos.Follows.here x v e = pos.Follows.there e pos.Follows.here
follows_on (pos.Follows.there e f) x v k = pos.Follows.there e (follows_on f x v k)

module _ (h : Graph) (s : ℕ) (theirs ours : List Symbol) where
  pub begin_common : IsCommon h s s 0 theirs ours
  begin_common = record { within = omega arith; fits = omega arith; same = refl; leads = pos.Follows.here }

  pub next_common :
      (u v n : ℕ) (x y : Symbol) → IsCommon h s u n theirs ours → n < length theirs → n < length ours → x ≡ get_or theirs n x → y ≡ get_or ours n y → x ≡ y
      → edge h u x ≡ Some v → IsCommon h s v (n + 1) theirs ours
  next_common u v n x y k l m e f same to = record {
    within = omega arith;
    fits = omega arith;
    same =
        take_more theirs n x l ∙ ap (λ (z : List Symbol). z ++ get_or theirs n x ∷ []) k.same ∙ ap (λ (z : Symbol). take n ours ++ z ∷ []) (sym e ∙ same ∙ f)
        ∙ sym (take_more ours n y m);
    leads = subst (λ (z : List Symbol). Follows h s z v) (ap (λ (z : Symbol). take n theirs ++ z ∷ []) e ∙ sym (take_more theirs n x l)) (follows_on k.leads x v to);
  }

-- what stands at a place
pub at_mapped : {X Y : Type 0} (f : X → Y) (xs : List X) (i : ℕ) (d : X) → i < length xs → f (get_or xs i d) ≡ get_or (map f xs) i (f (get_or xs i d))
at_mapped f xs i d l = sym (get_or-map f xs i d (f (get_or xs i d)) l)

-- all our symbols, where no mark is among them
pub all_before : (y : Ours) (v : List Symbol) → y.symbols ≡ v → ((m : Mark) → y.mark ≡ Some m → length v ≤ m.place) → AreBeforeMark y v
all_before y v e below = record { others = []; begins = e ∙ sym (append-nil v); below = below }

-- those before the mark
pub first_before : (y : Ours) (k : Mark) (v : List Symbol) → y.mark ≡ Some k → v ≡ take k.place y.symbols → length v ≤ k.place → AreBeforeMark y v
first_before y k v some e l = record {
  others = drop k.place y.symbols;
  begins = sym (take-append-drop k.place y.symbols) ∙ ap (λ (z : List Symbol). z ++ drop k.place y.symbols) (sym e);
  below = λ m f.
      let there : Some k ≡ Some m = sym some ∙ f in
      let same : k ≡ m = cc in
      subst (λ (i : Mark). length v ≤ i.place) same l;
}

pub same_first : (y : Ours) (v : List Symbol) (n : ℕ) → AreBeforeMark y v → n ≤ length v → take n v ≡ take n y.symbols
same_first y v n k l = sym (ap (take n) k.begins ∙ take-append-le n v k.others l)

-- ours without first symbols
pub sunk_known : (y : Ours) (zs : List Symbol) (n : ℕ) → y.mark ≡ None → zs ≡ drop n y.symbols → y ≡ raised (take n y.symbols) (the_ours zs None)
sunk_known y zs n none e =
    same_ours y.symbols (take n y.symbols ++ zs) y.mark None (sym (take-append-drop n y.symbols) ∙ ap (λ (z : List Symbol). take n y.symbols ++ z) (sym e)) none

pub sunk_marked :
    (y : Ours) (zs : List Symbol) (n : ℕ) (m k : Mark) → n ≤ length y.symbols → y.mark ≡ Some m → m ≡ record k { place = n + k.place } → zs ≡ drop n y.symbols
    → y ≡ raised (take n y.symbols) (the_ours zs (Some k))
sunk_marked y zs n m k l some same e =
    let there : Mark → Option Mark = λ i. Some i in
    let at_place : ℕ → Option Mark = λ i. Some (record k { place = i + k.place }) in
    same_ours y.symbols (take n y.symbols ++ zs) y.mark (Some (record k { place = length (take n y.symbols) + k.place }))
    (sym (take-append-drop n y.symbols) ∙ ap (λ (z : List Symbol). take n y.symbols ++ z) (sym e))
    (some ∙ ap there same ∙ ap at_place (sym (length-take-le n y.symbols l)))

-- the position sinks
pub sinks :
    (h : Graph) (a b : Position) (n : ℕ) (v : List Symbol) (u : ℕ) → IsCommon h a.state u n a.theirs v → AreBeforeMark a.ours v → a.turn ≡ b.turn → b.theirs ≡ drop n a.theirs
    → a.ours ≡ raised (take n a.ours.symbols) b.ours → b.state ≡ u → Sinks h a b
sinks h a b n v u k before turn theirs ours state =
    let first : take n a.theirs ≡ take n a.ours.symbols = k.same ∙ same_first a.ours v n before k.fits in
    record {
      both = take n a.theirs;
      turn = turn;
      theirs = sym (take-append-drop n a.theirs) ∙ ap (λ (z : List Symbol). take n a.theirs ++ z) (sym theirs);
      ours = ours ∙ ap (λ (z : List Symbol). raised z b.ours) (sym first);
      leads = subst (λ (r : ℕ). Follows h a.state (take n a.theirs) r) (sym state) k.leads;
    }

-- none
pub none_before : (y : Ours) (v : List Symbol) → v ≡ [] → AreBeforeMark y v
none_before y v e = record { others = y.symbols; begins = ap (λ (z : List Symbol). z ++ y.symbols) (sym e); below = λ m k. rw e (omega arith) }

-- a position of which nothing is counted to what is not named
not_higher : (o : Option Mark) → o ≡ raised_mark 0 o
not_higher None = refl
not_higher (Some m) = let same : m.place ≡ 0 + m.place = omega arith in ap (λ (n : ℕ). Some (record m { place = n })) same

not_raised : (y : Ours) → y ≡ raised [] y
not_raised y = same_ours y.symbols y.symbols y.mark (raised_mark 0 y.mark) refl (not_higher y.mark)

pub sinks_itself : (h : Graph) (a : Position) → Sinks h a a
sinks_itself h a = record { both = []; turn = refl; theirs = refl; ours = not_raised a.ours; leads = pos.Follows.here }

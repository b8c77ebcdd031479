-- an entry with a certificate is decided
use Rattle.std.proofs.Common.{◌≡◌, ℕ, zero, suc, ◌+◌, ◌<◌, false, List, [], ◌∷◌, ◌++◌, Option, None, length, take, drop, refl, sym, ap, ◌∙◌, append-nil, arith}
use Rattle.std.proofs.lemmas.List.{take-append-drop}
use Rattle.lrspec.specs.grammars.Grammar.{Symbol, Grammar, IsGrammar, body_of, rest}
use Rattle.lrspec.specs.grammars.Trees.{Bare, bare}
use Rattle.lrspec.specs.grammars.CanonicalItems.{Stands}
use Rattle.lrspec.specs.grammars.ItemSets.{Items, HasItem}
use Rattle.lrspec.specs.merging.Cores.{HasCoreAfter}
use Rattle.lrspec.specs.merging.Graph.{Graph, IsGraphOf, core_of, closed_of}
use Rattle.lrspec.specs.merging.WeakCompatibility.{SameItems}
use Rattle.lrspec.specs.tables.Machine.{next_token}
use Rattle.lrspec.proofs.grammars.CanonicalClosures.{core_closes}
use Rattle.lrconflicts.specs.Moves.{Move}
use Rattle.lrdecided.specs.Nodes as nodes
use Rattle.lrdecided.specs.Nodes.{Side}
use Rattle.lrdecided.specs.Certificates as certificate
use Rattle.lrdecided.specs.Certificates.{StandsBefore, IsCertificate}
use Rattle.lrdecided.specs.Decided.{IsDecided, IsDecidedWithin}
use Rattle.lrdecided.proofs.OpenItems.{weight, open_stands}
use Rattle.lrdecided.proofs.Ways.{SideHolds}
use Rattle.lrdecided.proofs.Openings as opening
use Rattle.lrdecided.proofs.Openings.{Opening, opening_there}
use Rattle.lrdecided.proofs.Taken.{first_leaf}
use Rattle.lrdecided.proofs.Settled.{none_settled}

-- a state whose core has an item is one of the graph
state_below : (h : Graph) (s p d : ℕ) → HasItem (core_of h s) p d → s < length h
state_below [] s p d i = absurd cc
state_below (x ∷ h) zero p d i = omega arith
state_below (x ∷ h) (suc s) p d i = let k : s < length h = state_below h s p d i in omega arith

-- so is one that has the core after a list
pub core_below : {g : Grammar} (h : Graph) (s : ℕ) {w : List Symbol} → HasCoreAfter g w (core_of h s) → s < length h
core_below h s c = state_below h s c.some.0 c.some.1 c.some.2

-- two item sets with the core after one list have the same items
same_core : {g : Grammar} {w : List Symbol} {a b : Items} → HasCoreAfter g w a → HasCoreAfter g w b → SameItems a b
same_core c k p d = (λ i. (k.items p d).1 ((c.items p d).0 i), λ i. (c.items p d).1 ((k.items p d).0 i))

-- a side as which a way stands before its next move, whose rest this is
record Begins (g : Grammar) (h : Graph) (s t : ℕ) (w : List Symbol) (m : Move) (text : List ℕ) : Type 0 where
  side : Side
  before : StandsBefore g h s t m side
  weighs : ℕ
  holds : SideHolds g w side text weighs
  p : ℕ
  d : ℕ
  stands : Stands g w p d

module _ (g : Grammar) (h : Graph) (s t : ℕ) (graph : IsGraphOf g h) where
  begins_by :
      {w : List Symbol} {m : Move} {x : List ℕ} → HasCoreAfter g w (core_of h s) → next_token g x ≡ t → Opening g w x m → Begins g h s t w m x
  begins_by {x = x} core next (opening.Opening.reduce {n = n} p o) = record {
    side = record { production = p; dot = length (body_of g p); symbols = []; is_cut = false };
    before = certificate.StandsBefore.reduce p;
    weighs = n + 0;
    holds = record {
      behind = x;
      depth = n;
      item = o;
      others = [];
      trees = Bare;
      forest = bare;
      whole = λ e. refl;
      splits = refl;
      weighs = refl;
    };
    p = p;
    d = length (body_of g p);
    stands = open_stands o;
  }
  begins_by {x = x} core next (opening.Opening.shift {n = n} p d u y ts v o e f k) =
      let one = first_leaf f u y e in
      let token : u ≡ t = ap (next_token g) (sym (k ∙ ap (λ l. l ++ v) one.leaves)) ∙ next in
      let closed : HasItem (closed_of h s) p d = ((core_closes core (graph.closures.closures s (core_below h s core))) p d).1 (open_stands o) in
      record {
        side = record { production = p; dot = d; symbols = rest g p d; is_cut = false };
        before = certificate.StandsBefore.shift p d closed (y, rw token at e);
        weighs = n + weight ts;
        holds = record {
          behind = v;
          depth = n;
          item = o;
          others = [];
          trees = ts;
          forest = rw (append-nil (rest g p d)) f;
          whole = λ i. refl;
          splits = k;
          weighs = refl;
        };
        p = p;
        d = d;
        stands = open_stands o;
      }

  module _ (shape : IsGrammar g) (m n : Move) where
    pub decided_within : (left : Option ℕ) (listed : List nodes.Node) → IsCertificate g h s t m n left listed → IsDecidedWithin g h s t m n left
    decided_within left listed c text x y before one other there first second agree =
        let (ms, is) = first.first in
        let (ns, follow) = second.first in
        let a = begins_by there.core first.next (opening_there m ms first.whole.0 there.reads (rw is at first.whole.1)) in
        let b = begins_by there.core second.next (opening_there n ns second.whole.0 there.reads (rw follow at second.whole.1)) in
        let (q, leads) = graph.hold.leads there.roots a.p a.d a.stands in
        let core = graph.hold.cores there.roots q leads in
        none_settled g h shape graph listed c.proceeds (c.begins a.side b.side a.before b.before)
        (record {
          roots = there.roots;
          state = q;
          leads = leads;
          within = c.cores q (core_below h q core) (same_core {a = core_of h q} {b = core_of h s} core there.core);
          one_text = x;
          other_text = y;
          one_weight = a.weighs;
          other_weight = b.weighs;
          one = a.holds;
          other = b.holds;
          agree = agree;
          next = λ u e. let is : t ≡ u = cc in (first.next ∙ is, second.next ∙ is);
          weighs = refl;
        })

    -- what is decided by all tokens that come is decided
    pub decided : IsDecidedWithin g h s t m n None → IsDecided g h s t m n
    decided k text before one other a b p first second =
        let split = take-append-drop p.used text in
        k (take p.used text) (drop p.used text) (drop p.used text) before one other
        (record { roots = p.roots; trees = p.trees; reads = p.reads; core = p.core })
        (record { next = p.next; first = p.first; whole = (a, rw (sym split) at first) })
        (record { next = p.next; first = p.second; whole = (b, rw (sym split) at second) })
        refl

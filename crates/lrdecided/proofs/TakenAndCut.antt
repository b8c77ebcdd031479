-- nodes whose ways take tokens, and are cut
use Rattle.std.proofs.Common.{◌≡◌, ℕ, zero, suc, ◌<◌, true, List, [], ◌∷◌, length, map, get_or, take, drop, Option, None, refl, sym, ap, subst, arith}
use Rattle.lrspec.specs.grammars.Grammar.{Symbol, Token, Grammar}
use Rattle.lrdecided.specs.Agreements.{Spends}
use Rattle.lrdecided.specs.Nodes.{Side, Node, SideCovers, Covers, with_symbols}
use Rattle.lrdecided.specs.Rules as rule
use Rattle.lrdecided.specs.Rules.{IsSettled}
use Rattle.lrdecided.proofs.GrowingLists.{side_cut}

-- the first symbol, and those behind it
pub first_is : {X Y : Type 0} (f : X → Y) (xs : List X) (x : X) → 0 < length xs → x ≡ get_or xs 0 x → map f xs ≡ f x ∷ drop 1 (map f xs)
first_is f [] x l e = absurd (omega (arith, l))
first_is f (y ∷ ys) x l e = ap (λ z. f z ∷ map f ys) (sym e)

-- a node of which only the sides are others
pub sides_cover : (a : Node) (x y : Side) → SideCovers x a.one → SideCovers y a.other → Covers (record a { one = x; other = y }) a
sides_cover a x y b c = record { one = b; other = c; states = λ s h. h; next = λ t e. e; left = refl }

-- a side whose symbols are so many of the first
pub cut_so : (x : Side) (ys : List Symbol) (n : ℕ) → ys ≡ take n x.symbols → SideCovers (record x { symbols = ys; is_cut = true }) x
cut_so x ys n e = subst (λ (zs : List Symbol). SideCovers (record x { symbols = zs; is_cut = true }) x) (sym e) (side_cut n x)

-- a node from which both ways take a token
pub take_so :
    (g : Grammar) (listed : List Node) (a : Node) (t : ℕ) (x y : Side) (l : Option ℕ) → Spends a.left l → a.one.symbols ≡ Token t ∷ drop 1 a.one.symbols
    → a.other.symbols ≡ Token t ∷ drop 1 a.other.symbols → x ≡ with_symbols a.one (drop 1 a.one.symbols) → y ≡ with_symbols a.other (drop 1 a.other.symbols)
    → IsSettled g listed (record a { one = x; other = y; next = None; left = l }) → IsSettled g listed a
take_so g listed a t x y l s e f i j k =
    let first : IsSettled g listed (record a { one = with_symbols a.one (drop 1 a.one.symbols); other = y; next = None; left = l }) =
    subst (λ (z : Side). IsSettled g listed (record a { one = z; other = y; next = None; left = l })) i k in
    rule.IsSettled.take t (drop 1 a.one.symbols) (drop 1 a.other.symbols) s e f
    (subst (λ (z : Side). IsSettled g listed (record a { one = with_symbols a.one (drop 1 a.one.symbols); other = z; next = None; left = l })) j first)

-- so many of a list
pub take_mapped : {X Y : Type 0} (f : X → Y) (n : ℕ) (xs : List X) → map f (take n xs) ≡ take n (map f xs)
take_mapped f zero xs = refl
take_mapped f (suc n) [] = refl
take_mapped f (suc n) (x ∷ xs) = ap (λ ys. f x ∷ ys) (take_mapped f n xs)

-- the first is the same token by another number
pub heads_so : (t u : ℕ) (xs : List Symbol) → t ≡ u → xs ≡ Token t ∷ drop 1 xs → xs ≡ Token u ∷ drop 1 xs
heads_so t u xs e i = subst (λ (n : ℕ). xs ≡ Token n ∷ drop 1 xs) e i

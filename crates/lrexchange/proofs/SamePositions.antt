-- positions with the same parts
use Rattle.std.proofs.Common.{◌≡◌, ℕ, List, Option, ap, ◌∙◌}
use Rattle.lrspec.specs.grammars.Grammar.{Symbol}
use Rattle.lrexchange.specs.Positions.{Mark, Ours, Turn, Position}

-- positions with the same parts
abbrev pub the_position : Turn → ℕ → List Symbol → Ours → Position
the_position t s x y = record { turn = t; state = s; theirs = x; ours = y }

pub same_position :
    (t u : Turn) (s r : ℕ) (x z : List Symbol) (y w : Ours) → t ≡ u → s ≡ r → x ≡ z → y ≡ w → the_position t s x y ≡ the_position u r z w
same_position t u s r x z y w e f i j =
    ap (λ (a : Turn). the_position a s x y) e ∙ ap (λ (n : ℕ). the_position u n x y) f ∙ ap (λ (v : List Symbol). the_position u r v y) i ∙ ap (the_position u r z) j

-- ours by their parts
abbrev pub the_ours : List Symbol → Option Mark → Ours
the_ours ys o = record { symbols = ys; mark = o }

pub same_ours : (ys zs : List Symbol) (o p : Option Mark) → ys ≡ zs → o ≡ p → the_ours ys o ≡ the_ours zs p
same_ours ys zs o p e f = ap (λ (xs : List Symbol). the_ours xs o) e ∙ ap (the_ours zs) f

-- known bytes over several calls
use Rattle.std.proofs.Common.{◌≡◌, ℕ, ◌∙◌, sym, ap, refl, List, [], ◌++◌, take, drop, Option, None, Some, append_assoc}
use Rattle.std.proofs.lemmas.List.{append-nil, take-append-drop}
use Rattle.std.specs.Io.KnownBytes.{Appends, Consumes, Keeps}
use Rattle.lrspec.specs.texts.Devices.{AppendsBeginning}

-- nothing has moved
pub Keeps-same : (o : Option (List ℕ)) → Keeps o o
Keeps-same None = tt
Keeps-same (Some xs) = refl

-- ---- writers

pub Appends-nothing : (o : Option (List ℕ)) → Appends o o []
Appends-nothing None = tt
Appends-nothing (Some xs) = sym (append-nil xs)

pub Appends-from_Keeps : (old new : Option (List ℕ)) → Keeps old new → Appends old new []
Appends-from_Keeps None new h = tt
Appends-from_Keeps (Some xs) None h = h
Appends-from_Keeps (Some xs) (Some ys) h = h ∙ sym (append-nil xs)

-- one text, and then another
pub Appends-append : (old new newer : Option (List ℕ)) (a b : List ℕ)
    → Appends old new a → Appends new newer b → Appends old newer (a ++ b)
Appends-append None new newer a b g h = tt
Appends-append (Some xs) None newer a b g h = absurd g
Appends-append (Some xs) (Some ys) None a b g h = absurd h
Appends-append (Some xs) (Some ys) (Some zs) a b g h = h ∙ ap (λ l. l ++ b) g ∙ append_assoc xs a b

-- a text, and then the beginning of another that stands in front of a third
pub beginning_behind : (old new newer : Option (List ℕ)) (a b c text : List ℕ)
    → Appends old new a → AppendsBeginning new newer b → text ≡ a ++ (b ++ c)
    → AppendsBeginning old newer text
beginning_behind old new newer a b c text g (wrote, more, h, e) t = (
  a ++ wrote,
  more ++ c,
  Appends-append old new newer a wrote g h,
  t ∙ ap (λ l. a ++ (l ++ c)) e ∙ ap (λ l. a ++ l) (append_assoc wrote more c)
      ∙ sym (append_assoc a wrote (more ++ c)),
)

-- a text of which `behind` is still to be written
pub record IsWritingPart (old new : Option (List ℕ)) (part behind : List ℕ) : Type 0 where
  pub wrote : List ℕ
  pub appended : Appends old new wrote
  pub together : part ≡ wrote ++ behind

pub IsWritingPart-step : (old new newer : Option (List ℕ)) (part behind later : List ℕ) (n : ℕ)
    → IsWritingPart old new part behind → Appends new newer (take n behind) → later ≡ drop n behind
    → IsWritingPart old newer part later
IsWritingPart-step old new newer part behind later n w h e = record {
  wrote = w.wrote ++ take n behind;
  appended = Appends-append old new newer w.wrote (take n behind) w.appended h;
  together =
      w.together ∙ ap (λ l. w.wrote ++ l) (sym (take-append-drop n behind))
      ∙ ap (λ l. w.wrote ++ (take n behind ++ l)) (sym e) ∙ sym (append_assoc w.wrote (take n behind) later);
}

-- ---- readers

-- some bytes, and then others
pub Consumes-append : (old new newer : Option (List ℕ)) (a b : List ℕ)
    → Consumes old new a → Consumes new newer b → Consumes old newer (a ++ b)
Consumes-append None new newer a b g h = tt
Consumes-append (Some xs) None newer a b g h = absurd g
Consumes-append (Some xs) (Some ys) None a b g h = absurd h
Consumes-append (Some xs) (Some ys) (Some zs) a b g h =
    g ∙ ap (λ l. a ++ l) h ∙ sym (append_assoc a b zs)

-- nothing is read
pub Consumes-nothing : (o : Option (List ℕ)) → Consumes o o []
Consumes-nothing None = tt
Consumes-nothing (Some xs) = refl

-- some bytes, and then nothing
pub Consumes-kept : (old new newer : Option (List ℕ)) (a : List ℕ)
    → Consumes old new a → Keeps new newer → Consumes old newer a
Consumes-kept None new newer a g h = tt
Consumes-kept (Some xs) None newer a g h = absurd g
Consumes-kept (Some xs) (Some ys) None a g h = absurd h
Consumes-kept (Some xs) (Some ys) (Some zs) a g h = g ∙ ap (λ l. a ++ l) (sym h)

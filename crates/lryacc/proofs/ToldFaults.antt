-- faults that are told
use Rattle.std.proofs.Common.{◌≡◌, ℕ, ◌+◌, ◌<◌, List, ◌++◌, All, Contains, get_or, length, map, refl, subst, sym, ◌∙◌, arith}
use Rattle.std.proofs.lemmas.List.{get_or_default, get_or-append-add, get_or-map, length-append, length-map}
use Rattle.lryacc.specs.declared.faults.Fault.{Fault}
use Rattle.lryacc.specs.declared.places.Span.{Span}
use Rattle.lryacc.specs.Spans.{IsInside}
use Rattle.lryacc.specs.Told.{IsToldOf}

-- the images of a list stand at the end of another one
pub images-there : {A B : Type 0} (f : A → B) (old new : List B) (xs : List A) → new ≡ old ++ map f xs → All (λ x. Contains new (f x)) xs
images-there {A} {B} f old new xs is = λ k d l.
    let there : (x : B) → get_or (old ++ map f xs) (length old + k) x ≡ f (get_or xs k d) =
    λ x. get_or-append-add old (map f xs) k x ∙ get_or-map f xs k d x l in
    let within : length old + k < length (old ++ map f xs) = omega (arith, l, length-append old (map f xs), length-map xs f) in
    subst (λ ys. Contains ys (f (get_or xs k d))) (sym is) (length old + k, within, there (f (get_or xs k d)))

-- a fault at its place in the text is told of those in hand
pub told-of : (text : List ℕ) (faults : List Fault) (at : ℕ) (d : Fault) (span : Span) → at < length faults → (IsInside (get_or faults at d).span text → span ≡ (get_or faults at d).span) → IsToldOf text faults (record { kind = (get_or faults at d).kind; span = span })
told-of text faults at d span within same = record {
  given = get_or faults at d;
  is = (at, within, get_or_default faults at _ d within);
  kind = refl;
  place = same;
}

-- names that a loop adds, one by one or list by list
use Rattle.std.proofs.Common.{◌≡◌, ℕ, ◌+◌, ◌<◌, List, [], ◌∷◌, ◌++◌, length, get_or, take, map, sym, ap, ◌∙◌, append-nil, false, cond}
use Rattle.std.specs.Prelude.{flat_map}
use Rattle.std.proofs.lemmas.Grind.{take_at_read, flat_map-append}
use Rattle.std.proofs.lemmas.List.{map-append}
use Rattle.std.proofs.lemmas.List.Sums.{fold_push, fold-append}
use denote.Ref.{Bor}
use Rattle.lrspec.specs.texts.Names.{has_name}
use Rattle.lrtext.specs.NumberedNames.{names_of, with_name, with_names}
use Rattle.lrtext.proofs.ListSteps.{mapped_more}

module _ {X : Type 0} (ys xs : List X) (i : ℕ) (d : X) (first old new : List (List ℕ)) (same : ys ≡ xs) (lt : i < length ys) where
  -- one more name was added; the list is another's equal
  pub name_added : (f : X → List ℕ) → old ≡ with_names first (map f (take i xs)) → new ≡ with_name old (f (get_or ys i d)) → new ≡ with_names first (map f (take (i + 1) xs))
  name_added f before more =
      more
      ∙ ap (λ us. with_name us (f (get_or ys i d))) (before ∙ ap (λ zs. with_names first (map f (take i zs))) (sym same))
      ∙ sym (fold_push with_name first (map f (take i ys)) (f (get_or ys i d)))
      ∙ ap (with_names first) (sym (mapped_more f ys i d lt))
      ∙ ap (λ zs. with_names first (map f (take (i + 1) zs))) same

  -- the names of one more list were added
  pub names_added : (f : X → List (List ℕ)) → old ≡ with_names first (flat_map f (take i xs)) → new ≡ with_names old (f (get_or ys i d)) → new ≡ with_names first (flat_map f (take (i + 1) xs))
  names_added f before more =
      let x = get_or ys i d in
      let longer : flat_map f (take (i + 1) ys) ≡ flat_map f (take i ys) ++ f x =
      ap (flat_map f) (take_at_read ys i d lt).1 ∙ flat_map-append f (take i ys) (x ∷ []) ∙ ap (λ ws. flat_map f (take i ys) ++ ws) (append-nil (f x)) in
      more
      ∙ ap (λ us. with_names us (f x)) (before ∙ ap (λ zs. with_names first (flat_map f (take i zs))) (sym same))
      ∙ sym (fold-append with_name first (flat_map f (take i ys)) (f x))
      ∙ ap (with_names first) (sym longer)
      ∙ ap (λ zs. with_names first (flat_map f (take (i + 1) zs))) same

-- a name that is not listed was pushed
pub new_name : (ws vs : List (Bor (List ℕ))) (us : List (List ℕ)) (v : Bor (List ℕ)) → vs ≡ ws ++ v ∷ [] → names_of ws ≡ us → has_name us v.now ≡ false → names_of vs ≡ with_name us v.now
new_name ws vs us v all seen absent =
    ap names_of all
    ∙ map-append (λ (w : Bor (List ℕ)). w.now) ws (v ∷ [])
    ∙ ap (λ qs. qs ++ v.now ∷ []) seen
    ∙ sym (ap (λ b. cond b us (us ++ v.now ∷ [])) absent)

-- a map from names to their numbers, as a name is added
use Rattle.std.proofs.Common.{◌≡◌, ℕ, Bool, true, false, cond, List, [], ◌∷◌, ◌++◌, length, Some, None, refl, sym, ap, ◌∙◌}
use Rattle.std.specs.Option.{is_some}
use Rattle.std.specs.Str.{bytes_eq}
use Rattle.std.specs.HashMap.{HashMap, UpdatesBy}
use Rattle.std.proofs.lemmas.List.{map-append, length-map}
use Rattle.std.proofs.lemmas.Map.Text.{hash_map_updates_str}
use denote.Ref.{Bor}
use Rattle.lrtext.specs.NumberedNames.{names_of, IsNumbered, number_in}
use Rattle.lrspec.specs.texts.Names.{has_name, place_of}
use Rattle.lrtext.proofs.NumberedNames.{number_in_push}

-- a choice that gives nothing fails its test
listed_by_test : (b : Bool) (n : ℕ) → is_some (cond b (Some n) None) ≡ false → b ≡ false
listed_by_test true n h = h
listed_by_test false n h = refl

-- a name without a number isn't listed
pub not_listed : (ws : List (List ℕ)) (w : List ℕ) → is_some (number_in ws w) ≡ false → has_name ws w ≡ false
not_listed ws w h = listed_by_test (has_name ws w) (place_of ws w) h

-- the map behind a further name with the next number
pub numbered_push : {S : Type 0} (old new : HashMap (Bor (List ℕ)) ℕ S) (ws vs : List (Bor (List ℕ))) (v : Bor (List ℕ)) (k : ℕ) → vs ≡ ws ++ v ∷ [] → k ≡ length ws → IsNumbered old (names_of ws) → has_name (names_of ws) v.now ≡ false → UpdatesBy (λ x y. bytes_eq x.now y.now) (λ q. bytes_eq v.now q.now) old new (Some k) → IsNumbered new (names_of vs)
numbered_push old new ws vs v k all next h absent u w =
    hash_map_updates_str v.now old new (Some k) u w
    ∙ ap (λ o. cond (bytes_eq v.now w) (Some k) o) (h w)
    ∙ ap (λ n. cond (bytes_eq v.now w) (Some n) (number_in (names_of ws) w)) (next ∙ sym (length-map ws (λ (q : Bor (List ℕ)). q.now)))
    ∙ sym (number_in_push (names_of ws) v.now w absent)
    ∙ ap (λ qs. number_in qs w) (sym (map-append (λ (q : Bor (List ℕ)). q.now) ws (v ∷ [])) ∙ ap names_of (sym all))

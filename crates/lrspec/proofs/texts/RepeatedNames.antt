-- a list of names repeats none or has one first repeat
use Rattle.std.proofs.Common.{◌≡◌, ℕ, Bool, true, false, not, ◌&&◌, ◌||◌, ◌⊎◌, inl, inr, bytes_eq, List, [], ◌∷◌, ◌++◌, refl, ap, ◌∙◌, sym, append_assoc, append-nil}
use Rattle.std.proofs.lemmas.Bool.{and_from, and_left, and_right, or_cases, or_left, or_right, not_from_true, both_ways}
use Rattle.std.proofs.lemmas.List.Folds.{list_any-append}
use Rattle.std.proofs.lemmas.Slice.Eq.{bytes_eq-Decides}
use Rattle.std.specs.Cmp.{both_ways as both_same}
use Rattle.lrspec.specs.texts.Names.{has_name, has_no_repeats}
use Rattle.lrspec.specs.texts.Meaning.{IsFirstRepeat}

-- a name is equal to itself
same_name : (v : List ℕ) → bytes_eq v v ≡ true
same_name v = (bytes_eq-Decides v v).1 refl

-- a name is among names that it stands in
pub has_name_at : (before after : List (List ℕ)) (w : List ℕ) → has_name (before ++ w ∷ after) w ≡ true
has_name_at [] after w = or_left (bytes_eq w w) (has_name after w) (same_name w)
has_name_at (v ∷ before) after w = or_right (bytes_eq w v) (has_name (before ++ w ∷ after) w) (has_name_at before after w)

-- a first name that comes again is no new one
repeated_head : (x w : List ℕ) (b c : List (List ℕ)) → w ≡ x → not (has_name (b ++ w ∷ c) x) ≡ false
repeated_head x w b c e = not_from_true _ (rw (← e) (has_name_at b c w))

-- a repeat of the first name or of a later one
repeated_by : (x w : List ℕ) (b c : List (List ℕ)) → (bytes_eq w x ≡ true) ⊎ (has_name b w ≡ true) → (has_name b w ≡ true → has_no_repeats (b ++ w ∷ c) ≡ false) → has_no_repeats (x ∷ b ++ w ∷ c) ≡ false
repeated_by x w b c (inl h) go = and_left (not (has_name (b ++ w ∷ c) x)) (has_no_repeats (b ++ w ∷ c)) (repeated_head x w b c ((bytes_eq-Decides w x).0 h))
repeated_by x w b c (inr h) go = and_right (not (has_name (b ++ w ∷ c) x)) (has_no_repeats (b ++ w ∷ c)) (go h)

-- names behind which one of them comes again have a repeat
pub repeated : (b : List (List ℕ)) (w : List ℕ) (c : List (List ℕ)) → has_name b w ≡ true → has_no_repeats (b ++ w ∷ c) ≡ false
repeated [] w c h = absurd (cc)
repeated (x ∷ b) w c h = repeated_by x w b c (or_cases (bytes_eq w x) (has_name b w) h) (λ k. repeated b w c k)

-- where two splits of a list part: at one place, or one behind the other
pub two_splits : (b c d e : List (List ℕ)) (w v : List ℕ) → b ++ w ∷ c ≡ d ++ v ∷ e → (w ≡ v) ⊎ (((f : List (List ℕ)) × (d ≡ b ++ w ∷ f)) ⊎ ((f : List (List ℕ)) × (b ≡ d ++ v ∷ f)))
two_splits [] c [] e w v h = inl (cc)
two_splits [] c (x ∷ d) e w v h = inr (inl (d, let same : w ≡ x = cc in ap (λ x. x ∷ d) (sym same)))
two_splits (x ∷ b) c [] e w v h = inr (inr (b, let same : x ≡ v = cc in ap (λ x. x ∷ b) same))
two_splits (x ∷ b) c (y ∷ d) e w v h = two_splits_later x y b d w v (cc) (two_splits b c d e w v (cc))
  where
    two_splits_later : (x y : List ℕ) (b d : List (List ℕ)) (w v : List ℕ) → x ≡ y → (w ≡ v) ⊎ (((f : List (List ℕ)) × (d ≡ b ++ w ∷ f)) ⊎ ((f : List (List ℕ)) × (b ≡ d ++ v ∷ f))) → (w ≡ v) ⊎ (((f : List (List ℕ)) × (y ∷ d ≡ x ∷ b ++ w ∷ f)) ⊎ ((f : List (List ℕ)) × (x ∷ b ≡ y ∷ d ++ v ∷ f)))
    two_splits_later x y b d w v e (inl h) = inl h
    two_splits_later x y b d w v e (inr (inl (f, h))) = inr (inl (f, λ i. sym e i ∷ h i))
    two_splits_later x y b d w v e (inr (inr (f, h))) = inr (inr (f, λ i. e i ∷ h i))

-- a list has one first repeat at most
pub first_repeat_same : {ws : List (List ℕ)} {w v : List ℕ} → IsFirstRepeat ws w → IsFirstRepeat ws v → w ≡ v
first_repeat_same {w = w} {v = v} h k = part (two_splits h.before h.after k.before k.after w v (sym h.splits ∙ k.splits))
  where
    part : (w ≡ v) ⊎ (((f : List (List ℕ)) × (k.before ≡ h.before ++ w ∷ f)) ⊎ ((f : List (List ℕ)) × (h.before ≡ k.before ++ v ∷ f))) → w ≡ v
    part (inl e) = e
    part (inr (inl (f, e))) = absurd (both_ways _ (repeated h.before w f h.second) (rw (← e) k.first))
    part (inr (inr (f, e))) = absurd (both_ways _ (repeated k.before v f k.second) (rw (← e) h.first))

-- a list with a first repeat has a repeat
pub first_repeat_repeats : {ws : List (List ℕ)} {w : List ℕ} → IsFirstRepeat ws w → has_no_repeats ws ≡ true → ⊥
first_repeat_repeats {w = w} h k = both_ways _ (repeated h.before w h.after h.second) (rw (← h.splits) k)

-- equality of names goes both ways
pub bytes_eq_swaps : (v w : List ℕ) → bytes_eq v w ≡ bytes_eq w v
bytes_eq_swaps v w = both_same (bytes_eq v w) (bytes_eq w v) (λ h. (bytes_eq-Decides w v).1 (sym ((bytes_eq-Decides v w).0 h))) (λ h. (bytes_eq-Decides v w).1 (sym ((bytes_eq-Decides w v).0 h)))

-- the four tests of a name behind a list
one_more : (a b c d : Bool) → (not (a || (b || false)) && (c && not d)) ≡ ((not a && c) && not (b || d))
one_more true b c d = refl
one_more false true true d = refl
one_more false true false d = refl
one_more false false c d = refl

-- a name behind names without repeats makes a repeat exactly where it is one of them
pub no_repeats_more : (ws : List (List ℕ)) (w : List ℕ) → has_no_repeats (ws ++ w ∷ []) ≡ (has_no_repeats ws && not (has_name ws w))
no_repeats_more [] w = refl
no_repeats_more (v ∷ ws) w =
    ap (λ b. not b && has_no_repeats (ws ++ w ∷ [])) (list_any-append (bytes_eq v) ws (w ∷ []))
    ∙ ap (λ c. not (has_name ws v || (bytes_eq v w || false)) && c) (no_repeats_more ws w)
    ∙ one_more (has_name ws v) (bytes_eq v w) (has_no_repeats ws) (has_name ws w)
    ∙ ap (λ b. (not (has_name ws v) && has_no_repeats ws) && not (b || has_name ws w)) (bytes_eq_swaps v w)

-- a list without repeats, or with a first one
abbrev HasRepeatOrNone : List (List ℕ) → Type 0
HasRepeatOrNone ws = (has_no_repeats ws ≡ true) ⊎ ((w : List ℕ) × IsFirstRepeat ws w)

-- the next name, by whether it came before
repeat_by : (before after : List (List ℕ)) (w : List ℕ) (b : Bool) → has_name before w ≡ b → has_no_repeats before ≡ true → (has_no_repeats (before ++ w ∷ []) ≡ true → HasRepeatOrNone (before ++ w ∷ [] ++ after)) → HasRepeatOrNone (before ++ w ∷ after)
repeat_by before after w true e h go = inr (w, record { before = before; after = after; splits = refl; second = e; first = h })
repeat_by before after w false e h go = rw append_assoc at (go (no_repeats_more before w ∙ and_from (has_no_repeats before) (not (has_name before w)) h (ap not e)))

-- the first repeat behind names without repeats
repeat_from : (after before : List (List ℕ)) → has_no_repeats before ≡ true → HasRepeatOrNone (before ++ after)
repeat_from [] before h = inl (rw append-nil h)
repeat_from (w ∷ after) before h = repeat_by before after w (has_name before w) refl h (λ k. repeat_from after (before ++ w ∷ []) k)

-- a list has no repeat, or a first one
pub first_repeat_or_none : (ws : List (List ℕ)) → (has_no_repeats ws ≡ true) ⊎ ((w : List ℕ) × IsFirstRepeat ws w)
first_repeat_or_none ws = repeat_from ws [] refl

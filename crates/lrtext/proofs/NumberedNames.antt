-- names that are numbered one by one: their numbers, their first appearances, their repeats
use Rattle.std.proofs.Common.{◌≡◌, ℕ, suc, ◌+◌, Bool, true, false, cond, not, ◌&&◌, ◌||◌, List, [], ◌∷◌, ◌++◌, length, Option, None, Some, refl, sym, ap, ◌∙◌, append_assoc, append-nil, arith}
use Rattle.std.specs.Prelude.{filter, IsTrue, bytes_eq}
use Rattle.std.specs.Cmp.Lexicographic.{bytes_decides, nat_list_eq_equiv}
use Rattle.std.specs.Option.{option_map, unwrap_or}
use Rattle.std.proofs.lemmas.List.Folds.{list_any-append}
use Rattle.lrspec.specs.texts.Names.{has_name, has_no_repeats, first_appearances, place_of}
use Rattle.lrtext.specs.NumberedNames.{number_in, with_name, with_names}

-- ---- numbers

-- the number of a name behind a first one
number_in_cons : (u : List ℕ) (ws : List (List ℕ)) (w : List ℕ) (b c : Bool) → bytes_eq w u ≡ b → has_name ws w ≡ c → number_in (u ∷ ws) w ≡ cond (bytes_eq w u) (Some 0) (option_map suc (number_in ws w))
number_in_cons u ws w true c e f = rw e refl
number_in_cons u ws w false true e f = rw (e, f) (ap (λ n. Some n) (omega arith))
number_in_cons u ws w false false e f = rw (e, f) refl

-- neither of two tests passes
both_false : (a b : Bool) → (a || b) ≡ false → (a ≡ false) × (b ≡ false)
both_false true b h = (cc, cc)
both_false false b h = (refl, h)

-- two tests that don't pass together may be made in either order
swapped : (b c : Bool) (n : ℕ) (o : Option ℕ) → (b ≡ true → c ≡ false) → cond c (Some 0) (option_map suc (cond b (Some n) o)) ≡ cond b (Some (suc n)) (cond c (Some 0) (option_map suc o))
swapped true true n o h = let e = h refl in cc
swapped true false n o h = refl
swapped false true n o h = refl
swapped false false n o h = refl

-- the same name differs from the same names
other_name : (v w u : List ℕ) → bytes_eq v u ≡ false → bytes_eq v w ≡ true → bytes_eq w u ≡ false
other_name v w u differs same = ap (λ x. bytes_eq x u) (sym ((bytes_decides v w).0 same)) ∙ differs

-- the first name has number 0
first_number : (b : Bool) → cond {A = Option ℕ} (b || false) (Some (cond {A = ℕ} (not b) 1 0)) None ≡ cond b (Some 0) None
first_number true = refl
first_number false = refl

-- a name that stands last has the last number
pub number_in_push : (ws : List (List ℕ)) (v w : List ℕ) → has_name ws v ≡ false → number_in (ws ++ v ∷ []) w ≡ cond (bytes_eq v w) (Some (length ws)) (number_in ws w)
number_in_push [] v w h = ap (λ b. cond {A = Option ℕ} (b || false) (Some (cond {A = ℕ} (not b) 1 0)) None) (nat_list_eq_equiv.symm w v) ∙ first_number (bytes_eq v w)
number_in_push (u ∷ ws) v w h =
    let apart = both_false _ _ h in
    number_in_cons u (ws ++ v ∷ []) w _ _ refl refl
    ∙ ap (λ o. cond (bytes_eq w u) (Some 0) (option_map suc o)) (number_in_push ws v w apart.1)
    ∙ swapped (bytes_eq v w) (bytes_eq w u) (length ws) (number_in ws w) (other_name v w u apart.0)
    ∙ ap (λ o. cond (bytes_eq v w) (Some (suc (length ws))) o) (sym (number_in_cons u ws w _ _ refl refl))

-- a name that isn't listed has no place but the end
place_of_none : (ws : List (List ℕ)) (w : List ℕ) → has_name ws w ≡ false → place_of ws w ≡ length ws
place_of_none [] w h = refl
place_of_none (u ∷ ws) w h =
    let apart = both_false (bytes_eq w u) (has_name ws w) h in
    rw apart.0 (ap (λ n. 1 + n) (place_of_none ws w apart.1) ∙ omega arith)

-- the place of a name is its number, or the end where it has none
pub place_by_number : (ws : List (List ℕ)) (w : List ℕ) (b : Bool) → has_name ws w ≡ b → place_of ws w ≡ unwrap_or (number_in ws w) (length ws)
place_by_number ws w true h = rw h refl
place_by_number ws w false h = rw h (place_of_none ws w h)

-- ---- names that are added

-- a name is listed if it was or if it is the new one
has_with_name : (ws : List (List ℕ)) (v w : List ℕ) (b c : Bool) → has_name ws v ≡ b → bytes_eq w v ≡ c → has_name (with_name ws v) w ≡ (has_name ws w || bytes_eq w v)
has_with_name ws v w true true h e = rw (h, e, (bytes_decides w v).0 e, h) refl
has_with_name ws v w true false h e = rw (h, e) (elim (has_name ws w) as (λ b. b ≡ (b || false)) [ true ↦ refl | false ↦ refl ])
has_with_name ws v w false c h e = rw (h, list_any-append) (elim (bytes_eq w v) as (λ b. (has_name ws w || (b || false)) ≡ (has_name ws w || b)) [ true ↦ refl | false ↦ refl ])

-- three tests
or_assoc : (a b c : Bool) → ((a || b) || c) ≡ (a || (b || c))
or_assoc true b c = refl
or_assoc false b c = refl

-- a name is listed if it was or if it is a new one
has_with_names : (us ws : List (List ℕ)) (w : List ℕ) → has_name (with_names us ws) w ≡ (has_name us w || has_name ws w)
has_with_names us [] w = elim (has_name us w) as (λ b. b ≡ (b || false)) [ true ↦ refl | false ↦ refl ]
has_with_names us (v ∷ ws) w =
    has_with_names (with_name us v) ws w ∙ ap (λ b. b || has_name ws w) (has_with_name us v w _ _ refl refl) ∙ or_assoc (has_name us w) (bytes_eq w v) (has_name ws w)

-- one more name that passes both tests, or not
kept : (p q r : List ℕ → Bool) (w : List ℕ) (ws : List (List ℕ)) → r w ≡ (p w && q w) → filter p (filter q ws) ≡ filter r ws → (b c : Bool) → p w ≡ b → q w ≡ c → filter p (filter q (w ∷ ws)) ≡ filter r (w ∷ ws)
kept p q r w ws both rest true true e f = rw (f, e, both, e, f) (ap (λ vs. w ∷ vs) rest)
kept p q r w ws both rest true false e f = rw (f, both, e, f) rest
kept p q r w ws both rest false true e f = rw (f, e, both, e) rest
kept p q r w ws both rest false false e f = rw (f, both, e) rest

-- what passes two tests passes one that is both
filter_both : (p q r : List ℕ → Bool) → ((w : List ℕ) → r w ≡ (p w && q w)) → (ws : List (List ℕ)) → filter p (filter q ws) ≡ filter r ws
filter_both p q r both [] = refl
filter_both p q r both (w ∷ ws) = kept p q r w ws (both w) (filter_both p q r both ws) (p w) (q w) refl refl

-- whether the name is new
abbrev is_new : List (List ℕ) → List ℕ → Bool
is_new us v = not (has_name us v)

-- a test, and one that passes
and_true : (b : Bool) → b ≡ (b && true)
and_true true = refl
and_true false = refl

-- a new name isn't one that is listed
listed_then_other : (us : List (List ℕ)) (v w : List ℕ) (b : Bool) → has_name us v ≡ true → bytes_eq v w ≡ b → is_new us w ≡ (is_new us w && not (bytes_eq v w))
listed_then_other us v w true h e = rw (← (bytes_decides v w).0 e, h) refl
listed_then_other us v w false h e = rw e (and_true (is_new us w))

-- what passes none of two tests
neither : (a b c : Bool) → b ≡ c → not (a || (b || false)) ≡ (not a && not c)
neither true b c e = refl
neither false true c e = rw (← e) refl
neither false false c e = rw (← e) refl

-- a name is new behind one more where it is new and another
new_behind : (us : List (List ℕ)) (v w : List ℕ) → is_new (us ++ v ∷ []) w ≡ (is_new us w && not (bytes_eq v w))
new_behind us v w = ap not (list_any-append (bytes_eq w) us (v ∷ [])) ∙ neither (has_name us w) (bytes_eq w v) (bytes_eq v w) (nat_list_eq_equiv.symm w v)

-- names that are added behind a first one
added_first : (us ws : List (List ℕ)) (v : List ℕ) (b : Bool) → has_name us v ≡ b → ((xs : List (List ℕ)) → with_names xs ws ≡ xs ++ filter (is_new xs) (first_appearances ws)) → with_names us (v ∷ ws) ≡ us ++ filter (is_new us) (first_appearances (v ∷ ws))
added_first us ws v true h go =
    rw h (go us ∙ ap (λ vs. us ++ vs) (sym (filter_both (is_new us) (λ w. not (bytes_eq v w)) (is_new us) (λ w. listed_then_other us v w _ h refl) (first_appearances ws))))
added_first us ws v false h go =
    rw h (go (us ++ v ∷ []) ∙ append_assoc us (v ∷ []) _ ∙ ap (λ vs. us ++ (v ∷ vs)) (sym (filter_both (is_new us) (λ w. not (bytes_eq v w)) (is_new (us ++ v ∷ [])) (new_behind us v) (first_appearances ws))))

-- added names stand by first appearance, without those that were there
with_names_is : (us ws : List (List ℕ)) → with_names us ws ≡ us ++ filter (is_new us) (first_appearances ws)
with_names_is us [] = sym (append-nil us)
with_names_is us (v ∷ ws) = added_first us ws v _ refl (λ xs. with_names_is xs ws)

-- every name is new to none
all_new : (ws : List (List ℕ)) → filter (is_new []) ws ≡ ws
all_new [] = refl
all_new (w ∷ ws) = ap (λ vs. w ∷ vs) (all_new ws)

-- names that are added in turn to none stand by first appearance
pub first_appearances_added : (ws : List (List ℕ)) → with_names [] ws ≡ first_appearances ws
first_appearances_added ws = with_names_is [] ws ∙ all_new (first_appearances ws)

-- names that are kept once are the same names
pub has_first_appearances : (ws : List (List ℕ)) (w : List ℕ) → has_name (first_appearances ws) w ≡ has_name ws w
has_first_appearances ws w = ap (λ vs. has_name vs w) (sym (first_appearances_added ws)) ∙ has_with_names [] ws w

-- ---- repeats

-- two tests that both pass
both_true : (a b : Bool) → (a && b) ≡ true → (a ≡ true) × (b ≡ true)
both_true true b h = (refl, h)
both_true false b h = (cc, cc)

-- a new name behind another
new_last : (ws : List (List ℕ)) (w u : List ℕ) → not (has_name ws u) ≡ true → bytes_eq w u ≡ false → not (has_name (ws ++ w ∷ []) u) ≡ true
new_last ws w u h e = new_behind ws w u ∙ rw (h, e) refl

-- a new name behind names that don't repeat
pub no_repeats_push : (ws : List (List ℕ)) (w : List ℕ) → IsTrue (has_no_repeats ws) → has_name ws w ≡ false → IsTrue (has_no_repeats (ws ++ w ∷ []))
no_repeats_push [] w h new = refl
no_repeats_push (u ∷ ws) w h new =
    let once = both_true (not (has_name ws u)) (has_no_repeats ws) h in
    let apart = both_false (bytes_eq w u) (has_name ws w) new in
    rw (new_last ws w u once.0 apart.0) (no_repeats_push ws w once.1 apart.1)

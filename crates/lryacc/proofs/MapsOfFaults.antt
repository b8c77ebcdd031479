-- faults by their places
use Rattle.std.proofs.Common.{◌≡◌, ◌<◌, Bool, true, List, [], ◌∷◌, is_some, length, sym, subst, arith}
use Rattle.std.specs.declared.cmp.Ordering.{Ordering}
use Rattle.std.specs.declared.cmp.Ordering.TheVariants.{Less, Equal, Greater}
use Rattle.std.specs.BTreeMap.{insert_entry}
use Rattle.std.specs.Ordering.{match_ordering}
use Rattle.std.specs.Map.{lookup}

longer : {X : Type 0} (x : X) (xs : List X) → 0 < length (x ∷ xs)
longer x xs = omega arith

some-match : {X : Type 0} (o : Ordering) (xs ys zs : List X) → 0 < length xs → 0 < length ys → 0 < length zs → 0 < length (match_ordering o xs ys zs)
some-match Less xs ys zs p q r = p
some-match Equal xs ys zs p q r = q
some-match Greater xs ys zs p q r = r

length-insert_entry : {K X : Type 0} (cmp : K → K → Ordering) (es : List (K × X)) (k : K) (v : X) → 0 < length (insert_entry cmp es k v)
length-insert_entry {K} {X} cmp [] k v = longer {X = K × X} (k, v) []
length-insert_entry {K} {X} cmp (e ∷ es) k v =
    some-match {X = K × X} (cmp k e.0) ((k, v) ∷ e ∷ es) ((e.0, v) ∷ es) (e ∷ insert_entry cmp es k v) (longer (k, v) (e ∷ es))
    (longer (e.0, v) es) (longer e (insert_entry cmp es k v))

-- after an entry is put in there is one
pub some-inserted : {K X : Type 0} (cmp : K → K → Ordering) (es : List (K × X)) (k : K) (v : X) (new : List (K × X)) → new ≡ insert_entry cmp es k v → 0 < length new
some-inserted {K} {X} cmp es k v new is =
    subst (λ (xs : List (K × X)). 0 < length xs) (sym is) (length-insert_entry cmp es k v)

-- where there is something at a key, there is some
pub some-held : {K X : Type 0} (at : K → Bool) (es : List (K × X)) → true ≡ is_some (lookup at es) → 0 < length es
some-held {K} {X} at [] held = absurd (cc)
some-held {K} {X} at (e ∷ es) held = longer {X = K × X} e es

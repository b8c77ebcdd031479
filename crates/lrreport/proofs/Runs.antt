-- runs of entries at which the same meets in the same state
use Rattle.std.proofs.Common.{◌≡◌, ℕ, zero, suc, ◌+◌, ◌<◌, ◌≤◌, Bool, true, false, ◌&&◌, cond, List, [], ◌∷◌, ◌++◌, Option, None, Some, length, map, take, drop, get_or, refl, sym, ap, subst, ◌∙◌, add-one, append_assoc, arith}
use Rattle.std.specs.Prelude.{nat_eq, ◌==◌}
use Rattle.std.specs.Bool.{Decides}
use Rattle.std.specs.List.{All, HoldsAt}
use Rattle.std.specs.Option.{option_eq}
use Rattle.std.proofs.lemmas.Bool.{false≢true}
use Rattle.std.proofs.lemmas.Bool.Decides.{Decides-and, Decides-eqb, Decides-like}
use Rattle.std.proofs.lemmas.List.{drop-drop, map_push}
use Rattle.std.proofs.lemmas.List.Elements.{All-head, All-tail, All-weaker}
use Rattle.lrverdicts.specs.declared.conflicts.Entry.{Entry}
use Rattle.lrverdicts.specs.Listed.{MeetsLike}
use Rattle.lrshown.specs.declared.evidence.Evidence.{Evidence}
use Rattle.lrreport.specs.Causes.{meet_alike, run_before, runs_of}

pub options_decide : {X : Type 0} (E : X → X → Bool) → ((x y : X) → Decides (E x y) (x ≡ y)) → (p q : Option X) → Decides (option_eq E p q) (p ≡ q)
options_decide E decides None None = (λ is. refl, λ is. refl)
options_decide E decides None (Some y) = (λ is. absurd (false≢true is), λ is. cc)
options_decide E decides (Some x) None = (λ is. absurd (false≢true is), λ is. cc)
options_decide E decides (Some x) (Some y) = (λ is. ap Some ((decides x y).0 is), λ is. let same : x ≡ y = cc in (decides x y).1 same)

alike_decides : (e f : Entry) → Decides (meet_alike e f) (MeetsLike e f)
alike_decides e f = Decides-like (meet_alike e f) to from (Decides-and _ _ (Decides-eqb e.state f.state) both)
  where
    both : Decides ((e.production == f.production) && option_eq nat_eq e.other f.other) ((e.production ≡ f.production) × (e.other ≡ f.other))
    both = Decides-and _ _ (Decides-eqb e.production f.production) (options_decide nat_eq Decides-eqb e.other f.other)

    to : (e.state ≡ f.state) × ((e.production ≡ f.production) × (e.other ≡ f.other)) → MeetsLike e f
    to is = record { state = is.0; production = is.1.0; other = is.1.1 }

    from : MeetsLike e f → (e.state ≡ f.state) × ((e.production ≡ f.production) × (e.other ≡ f.other))
    from is = (is.state, (is.production, is.other))

is_false : (b : Bool) → ¬ (b ≡ true) → b ≡ false
is_false true unless = absurd (unless refl)
is_false false unless = refl

like_both : (e f g : Entry) → MeetsLike e f → MeetsLike f g → MeetsLike e g
like_both e f g one two = record { state = one.state ∙ two.state; production = one.production ∙ two.production; other = one.other ∙ two.other }

like_back : (e f g : Entry) → MeetsLike e f → MeetsLike e g → MeetsLike f g
like_back e f g one two =
    record { state = sym one.state ∙ two.state; production = sym one.production ∙ two.production; other = sym one.other ∙ two.other }

-- runs with an entry before them: the first one begins with it
record Begun (e : Evidence) (runs : List (List Evidence)) : Type 0 where
  first : List Evidence
  others : List (List Evidence)
  are : runs ≡ (e ∷ first) ∷ others

begun_by : (e f : Evidence) (es : List Evidence) (runs : List (List Evidence)) (b : Bool) → Begun e (cond b ((e ∷ f ∷ es) ∷ runs) ((e ∷ []) ∷ (f ∷ es) ∷ runs))
begun_by e f es runs true = record { first = f ∷ es; others = runs; are = refl }
begun_by e f es runs false = record { first = []; others = (f ∷ es) ∷ runs; are = refl }

begun : (e : Evidence) (runs : List (List Evidence)) → Begun e (run_before e runs)
begun e [] = record { first = []; others = []; are = refl }
begun e ([] ∷ runs) = record { first = []; others = [] ∷ runs; are = refl }
begun e ((f ∷ es) ∷ runs) = begun_by e f es runs (meet_alike e.entry f.entry)

-- the first run of entries, if they are cut behind the last one that is like the first
run_at : (e : Evidence) (es : List Evidence) (n : ℕ) → n ≤ length es → All (λ f. MeetsLike e.entry f.entry) (take n es)
    → (n < length es → HoldsAt (λ f. ¬ (MeetsLike e.entry f.entry)) es n) → runs_of (e ∷ es) ≡ (e ∷ take n es) ∷ runs_of (drop n es)
run_at e [] zero inside like last = refl
run_at e (f ∷ es) zero inside like last =
    let behind = begun f (runs_of es) in
    let unlike : ¬ (MeetsLike e.entry f.entry) = last (omega arith) f in
    let fails : meet_alike e.entry f.entry ≡ false = is_false _ (λ is. unlike ((alike_decides e.entry f.entry).0 is)) in
    let apart : run_before e ((f ∷ behind.first) ∷ behind.others) ≡ (e ∷ []) ∷ (f ∷ behind.first) ∷ behind.others = rw fails refl in
    ap (run_before e) behind.are ∙ apart ∙ ap (λ runs. (e ∷ []) ∷ runs) (sym behind.are)
run_at e [] (suc n) inside like last = absurd (omega (arith, inside))
run_at e (f ∷ es) (suc n) inside like last =
    let P = λ (g : Evidence). MeetsLike e.entry g.entry in
    let Q = λ (g : Evidence). MeetsLike f.entry g.entry in
    let here : MeetsLike e.entry f.entry = All-head P f (take n es) like in
    let is : meet_alike e.entry f.entry ≡ true = (alike_decides e.entry f.entry).1 here in
    let like_f : All Q (take n es) = All-weaker P Q (λ g two. like_back e.entry f.entry g.entry here two) (take n es) (All-tail P f (take n es) like) in
    let behind = run_at f es n (omega (arith, inside)) like_f (λ less d two. last (omega (arith, less)) d (like_both e.entry f.entry _ here two)) in
    let joined : run_before e ((f ∷ take n es) ∷ runs_of (drop n es)) ≡ (e ∷ f ∷ take n es) ∷ runs_of (drop n es) = rw is refl in
    ap (run_before e) behind ∙ joined

pub first_run :
    (es : List Evidence) (first : Evidence) (n : ℕ) → 0 < length es → first ≡ get_or es 0 first → n ≤ length (drop 1 es)
    → All (λ f. MeetsLike first.entry f.entry) (take n (drop 1 es))
    → (n < length (drop 1 es) → HoldsAt (λ f. ¬ (MeetsLike first.entry f.entry)) (drop 1 es) n)
    → runs_of es ≡ take (n + 1) es ∷ runs_of (drop (n + 1) es)
first_run [] first n some is inside like last = absurd (omega (arith, some))
first_run (e ∷ es) first n some is inside like last =
    let P : Evidence → Type 0 = λ one. All (λ f. MeetsLike one.entry f.entry) (take n es) in
    let Q : Evidence → Type 0 = λ one. n < length es → HoldsAt (λ f. ¬ (MeetsLike one.entry f.entry)) es n in
    rw (add-one n) (run_at e es n inside (subst P is like) (subst Q is last))

-- one run more of those so far, which stand before the runs of the rest
pub run_more :
    {X : Type 0} (g : X → List Evidence) (done : List X) (one : X) (all : List Evidence) (i n : ℕ)
    → runs_of (drop i all) ≡ g one ∷ runs_of (drop n (drop i all)) → map g done ++ runs_of (drop i all) ≡ runs_of all
    → map g (done ++ one ∷ []) ++ runs_of (drop (i + n) all) ≡ runs_of all
run_more g done one all i n is before =
    ap (λ v. v ++ runs_of (drop (i + n) all)) (map_push g done one) ∙ append_assoc (map g done) (g one ∷ []) (runs_of (drop (i + n) all))
    ∙ ap (λ v. map g done ++ (g one ∷ runs_of v)) (sym (drop-drop n i all)) ∙ ap (λ v. map g done ++ v) (sym is) ∙ before

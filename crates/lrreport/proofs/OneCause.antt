-- entries that stand together, and meetings that have one cause
use Rattle.std.proofs.Common.{◌≡◌, ℕ, ◌<◌, List, [], ◌∷◌, ◌++◌, length, map, take, get_or, refl, sym, ap, subst, ◌∙◌, append-nil, ◌+◌, drop, add-one, arith}
use Rattle.std.proofs.lemmas.List.{take_more, take-append-drop, take-take, drop-take, map-append}
use Rattle.std.proofs.lemmas.List.Sorted.{IsPermutation-map, IsPermutation-trans}
use Rattle.std.specs.List.Sorted.{IsPermutation}
use Rattle.lrreport.proofs.JoinedInOrder.{joined_in_order}
use Rattle.std.proofs.lemmas.List.Concat.{flat_map-append}
use Rattle.std.proofs.lemmas.List.Elements.{All-nil, All-append, All-cons, All-head, All-tail, All-map, All-same}
use Rattle.std.proofs.lemmas.List.Folds.{flat_map-map}
use Rattle.std.specs.List.{All, Contains, flat_map}
use Rattle.lrverdicts.specs.declared.conflicts.Entry.{Entry}
use Rattle.lrverdicts.specs.Listed.{MeetsLike, told}
use Rattle.lrshown.specs.declared.evidence.Evidence.{Evidence}
use Rattle.lrreport.specs.declared.causes.Cause.{Cause}
use Rattle.lrreport.specs.declared.causes.Meeting.{Meeting}
use Rattle.lrreport.proofs.Groups.{in_group}
use Rattle.lrreport.specs.Causes.{entries_in, states_of, AreAlike, IsMet, IsOneCause, MeetTogether}

-- what an entry tells that meets like the first one
like_first : (first e : Entry) → MeetsLike first e → told e ≡ (e.token, first.production, first.other, first.state)
like_first first e like = rw (like.state, like.production, like.other) refl

-- what entries tell that meet like the first one
all_like_first :
    (first : Entry) (es : List Evidence) → All (λ e. MeetsLike first e.entry) es
    → map (λ e. told e.entry) es ≡ map (λ token. (token, first.production, first.other, first.state)) (map (λ e. e.entry.token) es)
all_like_first first [] each = refl
all_like_first first (e ∷ es) each =
    let one = like_first first e.entry (All-head (λ e. MeetsLike first e.entry) e es each) in
    rw (one, all_like_first first es (All-tail (λ e. MeetsLike first e.entry) e es each)) refl

pub meet_together :
    (first : Entry) (tokens : List ℕ) (es : List Evidence) → All (λ e. MeetsLike first e.entry) es → tokens ≡ map (λ e. e.entry.token) es
    → MeetTogether first.production first.other tokens es
meet_together first tokens es each are = record {
  state = first.state;
  are = rw are (all_like_first first es each);
}

-- a meeting that keeps what the first one does has its cause
of_first : (first m : Meeting) → AreAlike first.kind m.kind → IsMet m → MeetTogether first.kind.production first.kind.other first.kind.tokens.items m.evidence.now
of_first first m like met = rw (like.production, like.other, like.tokens) met

pub are_one_cause :
    (first : Meeting) (ms : List Meeting) (cause : Cause) → All (λ m. AreAlike first.kind m.kind) ms → All IsMet ms
    → cause.meetings.items ≡ map (λ m. m.evidence) ms → IsOneCause cause
are_one_cause first ms cause like met are = record {
  production = first.kind.production;
  other = first.kind.other;
  tokens = first.kind.tokens.items;
  alike =
      let P = λ (meeting : _). MeetTogether first.kind.production first.kind.other first.kind.tokens.items meeting.now in
      All-same P _ _ are (All-map P (λ m. m.evidence) ms (λ k d inside. of_first first (get_or ms k d) (like k d inside) (met k d inside)));
}

-- entries of the first states, and those of one more
module _ {X Y Z : Type 0} (f : X → List Y) (g : Y → Z) where
  pub one_state_more :
      (xs : List X) (i : ℕ) (x : X) → i < length xs → x ≡ get_or xs i x
      → map g (flat_map f (take i xs)) ++ map g (f x) ≡ map g (flat_map f (take (i + 1) xs))
  one_state_more xs i x inside is =
      let taken : take (i + 1) xs ≡ take i xs ++ x ∷ [] = take_more xs i x inside ∙ ap (λ y. take i xs ++ y ∷ []) (sym is) in
      let joined : flat_map f (take (i + 1) xs) ≡ flat_map f (take i xs) ++ f x =
      ap (flat_map f) taken ∙ flat_map-append f (take i xs) (x ∷ []) ∙ ap (λ v. flat_map f (take i xs) ++ v) (append-nil (f x)) in
      sym (ap (map g) joined ∙ map-append g (flat_map f (take i xs)) (f x))

-- the first ones, and some behind them
taken_on : {X : Type 0} (xs : List X) (i n : ℕ) → take i xs ++ take n (drop i xs) ≡ take (i + n) xs
taken_on xs i n = rw (take-take i (i + n) xs (omega arith), drop-take i n xs) at (take-append-drop i (take (i + n) xs))

-- a step of joining: what stands next is the part of one more
module _ {X B : Type 0} (f : X → List B) where
  pub one_more :
      (done : List X) (one : X) (all : List B) (i n : ℕ) → f one ≡ take n (drop i all) → flat_map f done ≡ take i all
      → flat_map f (done ++ one ∷ []) ≡ take (i + n) all
  one_more done one all i n is before =
      flat_map-append f done (one ∷ []) ∙ ap (λ v. flat_map f done ++ v) (append-nil (f one) ∙ is) ∙ ap (λ v. v ++ take n (drop i all)) before ∙ taken_on all i n

-- the first one, and some of those behind it
pub with_first :
    {X : Type 0} (P : X → Type 0) (xs : List X) (first : X) (n : ℕ) → 0 < length xs → first ≡ get_or xs 0 first → P first → All P (take n (drop 1 xs))
    → All P (take (n + 1) xs)
with_first P [] first n some is one others = absurd (omega (arith, some))
with_first P (x ∷ xs) first n some is one others = rw (add-one n) (All-cons P x (take n xs) (subst P is one) others)

-- the entries of causes are those of their states
entries_by_states : (causes : List Cause) → flat_map entries_in causes ≡ flat_map (λ state. state) (flat_map states_of causes)
entries_by_states [] = refl
entries_by_states (cause ∷ causes) =
    let state = λ (es : List Evidence). es in
    let first : entries_in cause ≡ flat_map state (states_of cause) = sym (flat_map-map state (λ m. m.now) cause.meetings.items) in
    ap (λ v. v ++ flat_map entries_in causes) first ∙ ap (λ v. flat_map state (states_of cause) ++ v) (entries_by_states causes)
    ∙ sym (flat_map-append state (states_of cause) (flat_map states_of causes))

module _ (met sorted : List Meeting) (causes told : List Cause) (order : IsPermutation met sorted)
    (states : flat_map states_of causes ≡ map (λ m. m.evidence.now) sorted) (later : IsPermutation causes told) where
  -- states that are put in order, the causes that they have, and these put in order
  pub states_in_order : IsPermutation (map (λ m. m.evidence.now) met) (flat_map states_of told)
  states_in_order =
      let one : IsPermutation (map (λ m. m.evidence.now) met) (flat_map states_of causes) =
      rw states (IsPermutation-map (λ m. m.evidence.now) met sorted order) in
      IsPermutation-trans _ _ _ one (joined_in_order states_of causes told later)

  -- and their entries
  pub in_order : (evidence : List Evidence) → flat_map (λ m. m.evidence.now) met ≡ evidence → IsPermutation evidence (flat_map entries_in told)
  in_order evidence whole =
      let state = λ (es : List Evidence). es in
      let parts : flat_map entries_in causes ≡ flat_map (λ m. m.evidence.now) sorted =
      entries_by_states causes ∙ ap (flat_map state) states ∙ flat_map-map state (λ m. m.evidence.now) sorted in
      let one : IsPermutation evidence (flat_map (λ m. m.evidence.now) sorted) = rw whole at (joined_in_order (λ m. m.evidence.now) met sorted order) in
      let two : IsPermutation (flat_map (λ m. m.evidence.now) sorted) (flat_map entries_in told) =
      rw parts at (joined_in_order entries_in causes told later) in
      IsPermutation-trans _ _ _ one two

-- what holds of all the entries of lists that are joined holds of those of one of them
pub among :
    {X Y : Type 0} (P : X → Type 0) (items : Y → List X) (lists : List Y) (one : Y) → All P (flat_map items lists) → Contains lists one
    → All P (items one)
among P items lists one each (k, inside, is) = in_group P items lists (flat_map items lists) refl each k one inside (sym is)

-- and what holds of those of each holds of all
pub of_each :
    {X Y : Type 0} (P : X → Type 0) (items : Y → List X) (lists : List Y) → All (λ one. All P (items one)) lists → All P (flat_map items lists)
of_each P items [] each = All-nil P
of_each P items (one ∷ lists) each =
    All-append P (items one) (flat_map items lists) (All-head (λ one. All P (items one)) one lists each)
    (of_each P items lists (All-tail (λ one. All P (items one)) one lists each))

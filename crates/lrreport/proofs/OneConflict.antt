-- conflicts of meetings and their kinds: both are the same in two meetings, or neither is
use Rattle.std.proofs.Common.{◌≡◌, ◌≢◌, ℕ, ◌+◌, ◌-◌, ◌<◌, false, List, [], ◌∷◌, Option, length, map, take, drop, get_or, refl, sym, ap, subst, ◌∙◌, arith}
use Rattle.std.proofs.lemmas.List.{drop-map, get_or-drop, get_or-take, get_or_default, length-drop, length-map, length-take, take-map}
use Rattle.std.proofs.lemmas.List.Elements.{All-drop, All-map, All-same, All-take}
use Rattle.std.proofs.lemmas.Simd.{map-map}
use Rattle.std.specs.List.{All, HoldsAt}
use denote.Ref.{Bor}
use Rattle.lrverdicts.specs.Listed.{Listing, told}
use Rattle.lrshown.specs.declared.evidence.Evidence.{Evidence}
use Rattle.lrreport.specs.declared.causes.Cause.{Cause}
use Rattle.lrreport.specs.declared.causes.Kind.{Kind}
use Rattle.lrreport.specs.declared.causes.Meeting.{Meeting}
use Rattle.lrreport.specs.declared.conflicts.Checked.{Checked}
use Rattle.lrreport.specs.Conflicts.{Conflict, conflict_of}
use Rattle.lrreport.specs.Causes.{states_of, AreAlike, AreApart, AreOneKind, HasKind, IsMet, IsOneConflict, MeetTogether, StandTogether}
use Rattle.lrreport.proofs.OneCause.{with_first}

alike_back : (k l m : Kind) → AreAlike k l → AreAlike k m → AreAlike l m
alike_back k l m a b = record {
  production = sym a.production ∙ b.production;
  other = sym a.other ∙ b.other;
  choice = sym a.choice ∙ b.choice;
  tokens = sym a.tokens ∙ b.tokens;
  items = sym a.items ∙ b.items;
  decided = sym a.decided ∙ b.decided;
}

alike_both : (k l m : Kind) → AreAlike k l → AreAlike l m → AreAlike k m
alike_both k l m a b = record {
  production = a.production ∙ b.production;
  other = a.other ∙ b.other;
  choice = a.choice ∙ b.choice;
  tokens = a.tokens ∙ b.tokens;
  items = a.items ∙ b.items;
  decided = a.decided ∙ b.decided;
}

alike_itself : (k : Kind) → AreAlike k k
alike_itself k = record { production = refl; other = refl; choice = refl; tokens = refl; items = refl; decided = refl }

-- the first meeting, and those behind it that are of its kind
pub of_first :
    (ms : List Meeting) (first : Meeting) (n : ℕ) → 0 < length ms → first ≡ get_or ms 0 first
    → All (λ m. AreAlike first.kind m.kind) (take n (drop 1 ms)) → All (λ m. AreAlike first.kind m.kind) (take (n + 1) ms)
of_first ms first n some is others = with_first (λ m. AreAlike first.kind m.kind) ms first n some is (alike_itself first.kind) others

pub are_one_kind : (first : Meeting) (ms : List Meeting) → All (λ m. AreAlike first.kind m.kind) ms → AreOneKind ms
are_one_kind first ms each = λ k d inside l e also. alike_back first.kind _ _ (each k d inside) (each l e also)

-- the next one is not like one of them if it is not like the first
pub next_unlike :
    (ms : List Meeting) (first : Meeting) (n : ℕ) → All (λ m. AreAlike first.kind m.kind) (take (n + 1) ms)
    → (n < length (drop 1 ms) → HoldsAt (λ m. ¬ (AreAlike first.kind m.kind)) (drop 1 ms) n) → n + 1 < length ms
    → HoldsAt (λ x. All (λ m. ¬ (AreAlike m.kind x.kind)) (take (n + 1) ms)) ms (n + 1)
next_unlike ms first n each last inside = λ d k e among like.
    let behind : n < length (drop 1 ms) = omega (arith, length-drop 1 ms, inside) in
    let unlike = last behind d in
    let order : 1 + n ≡ n + 1 = omega arith in
    let here : get_or (drop 1 ms) n d ≡ get_or ms (n + 1) d = get_or-drop 1 ms n d ∙ ap (λ k. get_or ms k d) order in
    let P : Meeting → Type 0 = λ x. ¬ (AreAlike first.kind x.kind) in
    (subst P here unlike) (alike_both first.kind _ _ (each k e among) like)

-- what an entry tells, but for its state
abbrev Met : Type 0
Met = ℕ × ℕ × Option ℕ

abbrev met_at : Evidence → Met
met_at e = (e.entry.token, e.entry.production, e.entry.other)

abbrev at_token : ℕ → Option ℕ → ℕ → Met
at_token p o t = (t, p, o)

abbrev token_of : Met → ℕ
token_of x = x.0

told_by : (p : ℕ) (o : Option ℕ) (ts : List ℕ) (es : List Evidence) → MeetTogether p o ts es
    → map met_at es ≡ map (at_token p o) ts
told_by p o ts es together =
    let strip : Listing → Met = λ l. (l.0, l.1, l.2) in
    sym (map-map strip (λ e. told e.entry) es) ∙ ap (map strip) together.are ∙ map-map strip (λ token. (token, p, o, together.state)) ts

tokens_in : (p : ℕ) (o : Option ℕ) (ts : List ℕ) → map token_of (map (at_token p o) ts) ≡ ts
tokens_in p o [] = refl
tokens_in p o (t ∷ ts) = ap (λ v. t ∷ v) (tokens_in p o ts)

heads : (p q : ℕ) (o r : Option ℕ) (ts us : List ℕ) → 0 < length ts → map (at_token p o) ts ≡ map (at_token q r) us → (p ≡ q) × (o ≡ r)
heads p q o r [] us some is = absurd (omega (arith, some))
heads p q o r (t ∷ ts) [] some is = absurd (cc)
heads p q o r (t ∷ ts) (u ∷ us) some is =
    let same : at_token p o t ≡ at_token q r u = cc in
    (ap (λ x. x.1) same, ap (λ x. x.2) same)

same_parts : (one other : Conflict) → one.met ≡ other.met → one.shifting ≡ other.shifting → one.choice ≡ other.choice → one.decided ≡ other.decided → one ≡ other
same_parts one other a b c d = λ i. record { met = a i; shifting = b i; choice = c i; decided = d i }

module _ (c : Checked) where
  -- no state of the cause has the conflict of one of the meetings
  abbrev pub AreOthers : List Meeting → Cause → Type 0
  AreOthers ms cause = All (λ one. All (λ m. conflict_of c one.now ≢ conflict_of c m.evidence.now) ms) cause.meetings.items

  -- so it is apart from a cause of some of these
  pub apart_from : (old new : Cause) (n : ℕ) (ms : List Meeting) → new.meetings.items ≡ map (λ m. m.evidence) (take n ms) → AreOthers ms old → AreApart c old new
  apart_from old new n ms are others = λ k d inside.
      let P : Bor (List Evidence) → Type 0 = λ e. conflict_of c (get_or old.meetings.items k d).now ≢ conflict_of c e.now in
      All-same P _ _ are (All-map P (λ m. m.evidence) (take n ms) (All-take (λ m. P m.evidence) n ms (others k d inside)))

  pub others_behind : (n : ℕ) (ms : List Meeting) (cause : Cause) → AreOthers ms cause → AreOthers (drop n ms) cause
  others_behind n ms cause others = λ k d inside.
      All-drop (λ m. conflict_of c (get_or cause.meetings.items k d).now ≢ conflict_of c m.evidence.now) n ms (others k d inside)

  pub apart_turns : (one other : Cause) → AreApart c one other → AreApart c other one
  apart_turns one other apart = λ k d inside l e also same. apart l e also k d inside (sym same)

module _ (c : Checked) (grouped : c.told.options.detail.all ≡ false) where
  module _ (m n : Meeting) (met_m : IsMet m) (met_n : IsMet n) (kind_m : HasKind c m) (kind_n : HasKind c n) where
    same_conflict : AreAlike m.kind n.kind → conflict_of c m.evidence.now ≡ conflict_of c n.evidence.now
    same_conflict a =
        let told_m = told_by _ _ _ _ met_m in
        let told_n = told_by _ _ _ _ met_n in
        let between : map (at_token m.kind.production m.kind.other) m.kind.tokens.items ≡ map (at_token n.kind.production n.kind.other) n.kind.tokens.items =
        rw (a.production, a.other, a.tokens) refl in
        same_parts (conflict_of c m.evidence.now) (conflict_of c n.evidence.now) (told_m ∙ between ∙ sym told_n)
        (sym (kind_m.shifting grouped) ∙ a.items ∙ kind_n.shifting grouped) (sym (kind_m.choice grouped) ∙ a.choice ∙ kind_n.choice grouped)
        (sym kind_m.decided ∙ a.decided ∙ kind_n.decided)

    same_kind : conflict_of c m.evidence.now ≡ conflict_of c n.evidence.now → AreAlike m.kind n.kind
    same_kind is =
        let told_m = told_by _ _ _ _ met_m in
        let told_n = told_by _ _ _ _ met_n in
        let between : map (at_token m.kind.production m.kind.other) m.kind.tokens.items ≡ map (at_token n.kind.production n.kind.other) n.kind.tokens.items =
        sym told_m ∙ ap (λ x. x.met) is ∙ told_n in
        let some : 0 < length m.kind.tokens.items = omega (arith, kind_m.some, simp length-map at (ap length met_m.are)) in
        let (production, other) = heads _ _ _ _ m.kind.tokens.items n.kind.tokens.items some between in
        record {
          production = production;
          other = other;
          choice = kind_m.choice grouped ∙ ap (λ x. x.choice) is ∙ sym (kind_n.choice grouped);
          tokens = sym (tokens_in _ _ m.kind.tokens.items) ∙ ap (map token_of) between ∙ tokens_in _ _ n.kind.tokens.items;
          items = kind_m.shifting grouped ∙ ap (λ x. x.shifting) is ∙ sym (kind_n.shifting grouped);
          decided = kind_m.decided ∙ ap (λ x. x.decided) is ∙ sym kind_n.decided;
        }

  -- some meetings of one kind, of which those behind them are not
  module _ (ms : List Meeting) (i n : ℕ) (met : All IsMet ms) (kinds : All (HasKind c) ms) (one : AreOneKind (take n (drop i ms)))
      (cause : Cause) (are : cause.meetings.items ≡ map (λ m. m.evidence) (take n (drop i ms))) where
    group_met : All IsMet (take n (drop i ms))
    group_met = All-take IsMet n (drop i ms) (All-drop IsMet i ms met)

    group_kinds : All (HasKind c) (take n (drop i ms))
    group_kinds = All-take (HasKind c) n (drop i ms) (All-drop (HasKind c) i ms kinds)

    pub is_one_conflict : IsOneConflict c cause
    is_one_conflict =
        let group = take n (drop i ms) in
        let P : Bor (List Evidence) → Bor (List Evidence) → Type 0 = λ x y. conflict_of c x.now ≡ conflict_of c y.now in
        let Q : Bor (List Evidence) → Type 0 = λ x. All (P x) cause.meetings.items in
        All-same Q _ _ are (All-map Q (λ m. m.evidence) group (λ k d inside.
        let m = get_or group k d in
        All-same (P m.evidence) _ _ are (All-map (P m.evidence) (λ m. m.evidence) group (λ l e also.
        same_conflict m _ (group_met k d inside) (group_met l e also) (group_kinds k d inside) (group_kinds l e also) (one k d inside l e also)))))

    pub are_others :
        StandTogether ms → (n < length (drop i ms) → HoldsAt (λ x. All (λ m. ¬ (AreAlike m.kind x.kind)) (take n (drop i ms))) (drop i ms) n)
        → AreOthers c (drop n (drop i ms)) cause
    are_others together last =
        let rest = drop i ms in
        let group = take n rest in
        let behind = drop n rest in
        let rest_kinds = All-drop (HasKind c) i ms kinds in
        let rest_met = All-drop IsMet i ms met in
        let P : Bor (List Evidence) → Type 0 = λ x. All (λ m. conflict_of c x.now ≢ conflict_of c m.evidence.now) behind in
        All-same P _ _ are (All-map P (λ m. m.evidence) group (λ k d inside l e also same.
        let long_rest : length rest ≡ length ms - i = length-drop i ms in
        let in_group : k < n = omega (arith, inside, length-take n rest) in
        let past : n + l < length rest = omega (arith, also, length-drop n rest) in
        let x : get_or group k d ≡ get_or ms (i + k) d = get_or-take n rest k d in_group ∙ get_or-drop i ms k d in
        let y : get_or behind l e ≡ get_or ms (i + (n + l)) d =
        get_or_default behind l e d also ∙ get_or-drop n rest l d ∙ get_or-drop i ms (n + l) d in
        let next : get_or rest n d ≡ get_or ms (i + n) d = get_or-drop i ms n d in
        let like = same_kind (get_or group k d) (get_or behind l e) (group_met k d inside) (All-drop IsMet n rest rest_met l e also)
        (group_kinds k d inside) (All-drop (HasKind c) n rest rest_kinds l e also) same in
        let far : AreAlike (get_or ms (i + k) d).kind (get_or ms (i + (n + l)) d).kind = rw (x, y) at like in
        let near = together (i + k) (i + n) (i + (n + l)) d (omega (arith, in_group)) (omega arith) (omega (arith, past, long_rest)) far in
        last (omega (arith, past)) d k d inside (rw (x, next) near)))

-- the states of a cause of some meetings
pub states_are :
    (cause : Cause) (ms : List Meeting) (i n : ℕ) → cause.meetings.items ≡ map (λ m. m.evidence) (take n (drop i ms))
    → states_of cause ≡ take n (drop i (map (λ m. m.evidence.now) ms))
states_are cause ms i n are =
    ap (map (λ meeting. meeting.now)) are ∙ map-map (λ meeting. meeting.now) (λ m. m.evidence) (take n (drop i ms))
    ∙ sym (ap (take n) (drop-map (λ m. m.evidence.now) i ms) ∙ take-map (λ m. m.evidence.now) n (drop i ms))

-- what lies in a row, and what a closed chart has of it
use Rattle.std.proofs.Common.{◌≡◌, ℕ, ◌+◌, ◌-◌, ◌<◌, ◌≤◌, List, [], ◌∷◌, ◌++◌, length, map, reverse, take, get_or, refl, sym, ap, ◌∙◌, subst, append_assoc, append-nil, length-append, Some, arith}
use Rattle.std.specs.Prelude.{slice_get}
use Rattle.std.proofs.lemmas.List.{take_more, take_all, length-map, map-append, get_or-map, reverse-append, reverse-reverse, length-reverse}
use Rattle.lrspec.specs.grammars.Grammar.{Symbol, Rule, Token, Grammar, IsGrammar, body_of}
use Rattle.lrspec.specs.merging.Graph.{Graph}
use Rattle.lrspec.specs.tables.Machine.{top}
use Rattle.lrspec.proofs.tables.MachineStacks as stack
use Rattle.lrspec.proofs.tables.MachineStacks.{IsStack, stack_length, start_body}
use Rattle.lrambiguity.specs.Finishing as way
use Rattle.lrambiguity.specs.Finishing.{Finishes}
use Rattle.lrconflicts.specs.Moves.{Move}
use Rattle.lrcharts.specs.Charts.{HasSpan, Laid, IsClosed, HasStates, HasTokens, LacksWhole, symbols_of}
use Rattle.lrtable.specs.RunAnswers.{text_of}
use Rattle.lrgrammar.specs.Symbols.{number_of, symbol_of}
use Rattle.lrgrammar.specs.declared.idx.Symbol as code
use Rattle.lrcharts.specs.Machines.{left_of}
use Rattle.lrcharts.specs.Ways.{reading, IsDeadEnd}
use Rattle.lrcharts.specs.declared.machine.Machine.{Machine}
use Rattle.lrgrammar.specs.declared.idx.StIdx.{StIdx}
use Rattle.lrgrammar.specs.declared.idx.TIdx.{TIdx}
use Rattle.lrcharts.specs.Charts as chart
use Rattle.lrcharts.specs.declared.charts.Chart.{Chart}

module _ {c : Chart} where
  -- where symbols lie between two places, these are places of the row
  pub laid_begins : {w : List Symbol} {i j : ℕ} → Laid c w i j → i < c.places
  laid_begins (chart.Laid.none l) = l
  laid_begins (chart.Laid.more h k) = h.first

  -- lists of symbols one behind another
  pub laid_append : {v w : List Symbol} {i k j : ℕ} → Laid c v i k → Laid c w k j → Laid c (v ++ w) i j
  laid_append (chart.Laid.none l) b = b
  laid_append (chart.Laid.more h a) b = chart.Laid.more h (laid_append a b)

  -- and apart
  pub laid_apart : (v w : List Symbol) {i j : ℕ} → Laid c (v ++ w) i j → (k : ℕ) × Laid c v i k × Laid c w k j
  laid_apart [] w {i} l = (i, chart.Laid.none (laid_begins l), l)
  laid_apart (x ∷ v) w (chart.Laid.more h l) = let (k, a, b) = laid_apart v w l in (k, chart.Laid.more h a, b)

  -- one symbol
  pub one_laid : {x : Symbol} {i j : ℕ} → HasSpan c x i j → Laid c (x ∷ []) i j
  one_laid h = chart.Laid.more h (chart.Laid.none h.last)

  pub span_laid : {x : Symbol} {i j : ℕ} → Laid c (x ∷ []) i j → HasSpan c x i j
  span_laid (chart.Laid.more h (chart.Laid.none l)) = h

  -- the last of some symbols
  pub laid_last :
      (w : List Symbol) (n : ℕ) (x : Symbol) {i j : ℕ} → n < length w → get_or w n x ≡ x → Laid c (take (n + 1) w) i j
      → (k : ℕ) × Laid c (take n w) i k × HasSpan c x k j
  laid_last w n x {i} {j} l is laid =
      let (k, a, b) = laid_apart (take n w) (x ∷ []) (subst (λ v. Laid c v i j) (take_more w n x l ∙ ap (λ y. take n w ++ y ∷ []) is) laid) in
      (k, a, span_laid b)

  -- the same of stored symbols
  pub last_laid :
      (xs : List (code.Symbol ℕ)) (n : ℕ) (d : code.Symbol ℕ) {i j : ℕ} → n < length xs → Laid c (take (n + 1) (symbols_of xs)) i j
      → (k : ℕ) × Laid c (take n (symbols_of xs)) i k × HasSpan c (symbol_of number_of (get_or xs n d)) k j
  last_laid xs n d l laid =
      let f = symbol_of number_of in
      laid_last (symbols_of xs) n (f (get_or xs n d)) (omega (arith, l, length-map xs f)) (get_or-map f xs n d (f (get_or xs n d)) l) laid

  -- one token more
  pub token_laid :
      (tokens : List (TIdx ℕ)) (n : ℕ) (d : TIdx ℕ) {i j : ℕ} → n < length tokens → Laid c (map Token (text_of number_of (take n tokens))) i j
      → HasSpan c (Token (get_or tokens n d).0) j (j + 1) → Laid c (map Token (text_of number_of (take (n + 1) tokens))) i (j + 1)
  token_laid tokens n d {i} {j} l laid span =
      let all : map Token (text_of number_of (take (n + 1) tokens)) ≡ map Token (text_of number_of (take n tokens)) ++ Token (get_or tokens n d).0 ∷ [] =
      ap (λ ts. map Token (text_of number_of ts)) (take_more tokens n d l)
      ∙ (ap (map Token) (map-append (λ (t : TIdx ℕ). number_of t.0) (take n tokens) (get_or tokens n d ∷ []))
      ∙ map-append Token (text_of number_of (take n tokens)) ((get_or tokens n d).0 ∷ [])) in
      subst (λ w. Laid c w i (j + 1)) (sym all) (laid_append laid (one_laid span))

  -- all of them
  pub tokens_laid :
      (tokens : List (TIdx ℕ)) (n i j : ℕ) → length tokens ≤ n → n ≤ length tokens → j ≡ i + n → Laid c (map Token (text_of number_of (take n tokens))) i j
      → HasTokens c i (text_of number_of tokens)
  tokens_laid tokens n i j l u e laid =
      let all : take n tokens ≡ tokens = take_all n tokens l in
      let count : j ≡ i + length (text_of number_of tokens) = omega (arith, e, l, u, length-map tokens (λ (t : TIdx ℕ). number_of t.0)) in
      subst (λ k. Laid c (map Token (text_of number_of tokens)) i k) count (rw all at laid)

  -- in a closed chart the start rule is derived from a stack, which ends at the place `q`, and from the tokens behind that which a
  -- way reads from there
  pub start_derived :
      {g : Grammar} {v : List Symbol} {ms : List Move} {left : List ℕ} (shape : IsGrammar g) → IsClosed g c → (q n : ℕ) → c.top ≤ q
      → Finishes g v ms left → Laid c v 0 q → Laid c (map Token left) q n → HasSpan c (Rule shape.start.0) 0 n
  start_derived shape closed q n high way.Finishes.done l (chart.Laid.none b) = span_laid (subst (λ w. Laid c w 0 q) (start_body shape) l)
  start_derived shape closed q n high (way.Finishes.shift t f) l (chart.Laid.more {k = k} h rest) =
      start_derived shape closed k n (omega (arith, high, h.order)) f (laid_append l (one_laid h)) rest
  start_derived {g} shape closed q n high (way.Finishes.reduce v p r i f) l rest =
      let (k, a, b) = laid_apart v (body_of g p) l in
      start_derived shape closed q n high f (laid_append a (one_laid (closed p r k q i high b))) rest

-- what stands between two lists, and behind that
at_seam : {X : Type 0} (xs : List X) (y : X) (ys : List X) → slice_get (xs ++ y ∷ ys) (length xs) ≡ Some y
at_seam [] y ys = refl
at_seam (x ∷ xs) y ys = at_seam xs y ys

behind_seam : {X : Type 0} (xs : List X) (y z : X) (zs : List X) → slice_get (xs ++ y ∷ z ∷ zs) (length xs + 1) ≡ Some z
behind_seam xs y z zs =
    ap (λ l. slice_get l (length xs + 1)) (sym (append_assoc xs (y ∷ []) (z ∷ zs)))
    ∙ (ap (λ n. slice_get ((xs ++ y ∷ []) ++ z ∷ zs) n) (sym (length-append xs (y ∷ []))) ∙ at_seam (xs ++ y ∷ []) z zs)

-- the states of a stack from its top
record Topped (ss : List ℕ) (n : ℕ) : Type 0 where
  below : List ℕ
  are : ss ≡ top ss ∷ below
  count : length below ≡ n

stack_topped : {h : Graph} {w : List Symbol} {ss : List ℕ} → IsStack h w ss → Topped ss (length w)
stack_topped stack.IsStack.bottom = record { below = []; are = refl; count = refl }
stack_topped (stack.IsStack.push {w = w} {ss = ss} x st e) = record {
  below = ss;
  are = refl;
  count = omega (arith, stack_length st, length-append w (x ∷ []));
}

module _ {c : Chart} {h : Graph} (states : List ℕ) (has : HasStates h c states) (some : 0 < c.places) where
  -- the symbols of a stack lie along its states, the first of these that are listed
  stack_laid : {w : List Symbol} {ss : List ℕ} → IsStack h w ss → (rest : List ℕ) → states ≡ reverse ss ++ rest → Laid c w 0 (length w)
  stack_laid stack.IsStack.bottom rest e = chart.Laid.none some
  stack_laid (stack.IsStack.push {w = w} {ss = ss} {u = u} x st leads) rest e =
      let t = stack_topped st in
      let turned : reverse ss ≡ reverse t.below ++ top ss ∷ [] = ap reverse t.are ∙ reverse-append (top ss ∷ []) t.below in
      let pushed : states ≡ reverse ss ++ u ∷ rest =
      e ∙ (ap (λ l. l ++ rest) (reverse-append (u ∷ []) ss) ∙ append_assoc (reverse ss) (u ∷ []) rest) in
      let all : states ≡ reverse t.below ++ top ss ∷ u ∷ rest =
      pushed ∙ (ap (λ l. l ++ u ∷ rest) turned ∙ append_assoc (reverse t.below) (top ss ∷ []) (u ∷ rest)) in
      let count : length (reverse t.below) ≡ length w = length-reverse t.below ∙ t.count in
      let one = ap (λ l. slice_get l (length w)) all ∙ (ap (λ n. slice_get (reverse t.below ++ top ss ∷ u ∷ rest) n) (sym count) ∙ at_seam (reverse t.below) (top ss) (u ∷ rest)) in
      let other = ap (λ l. slice_get l (length w + 1)) all
      ∙ (ap (λ n. slice_get (reverse t.below ++ top ss ∷ u ∷ rest) (n + 1)) (sym count) ∙ behind_seam (reverse t.below) (top ss) u rest) in
      let last : length (w ++ x ∷ []) ≡ length w + 1 = length-append w (x ∷ []) in
      let here : HasSpan c x (length w) (length w + 1) = has (length w) (top ss) u one other x leads in
      subst (λ n. Laid c (w ++ x ∷ []) 0 n) (sym last) (laid_append (stack_laid st (u ∷ rest) pushed) (one_laid here))

  -- and so those of the whole stack
  pub whole_stack_laid : {w : List Symbol} → IsStack h w (reverse states) → Laid c w 0 (length states - 1)
  whole_stack_laid {w} st =
      let all : states ≡ reverse (reverse states) ++ [] = sym (append-nil (reverse (reverse states)) ∙ reverse-reverse states) in
      let count : length w ≡ length states - 1 = omega (arith, stack_length st, length-reverse states) in
      subst (λ n. Laid c w 0 n) count (stack_laid st [] all)

-- the first symbol of a body that has one alone
pub first_is :
    (xs : List (code.Symbol ℕ)) (x : code.Symbol ℕ) (y : Symbol) → Some x ≡ slice_get xs 0 → symbols_of xs ≡ y ∷ [] → symbol_of number_of x ≡ y
first_is [] x y e f = cc
first_is (z ∷ zs) x y e f =
    let same : x ≡ z = cc in
    let is : symbol_of number_of z ≡ y = cc in ap (symbol_of number_of) same ∙ is

-- a closed chart that lacks the start rule over a row shows that no moves read it
pub dead_end :
    (g : Grammar) (h : Graph) (c : Chart) (shape : IsGrammar g) (text : List (TIdx ℕ)) (m : Machine)
    → IsClosed g c → LacksWhole g h c (map (λ s. s.0) m.stack.items) (left_of m text) → IsDeadEnd (reading g h text) m
dead_end g h c shape text m closed l ms on =
    let states = map (λ (s : StIdx ℕ). s.0) m.stack.items in
    let laid = whole_stack_laid states l.stack (omega (arith, l.some, l.within)) on.is_stack in
    l.lacks shape (start_derived shape closed (length states - 1) (length states - 1 + length (left_of m text)) l.top on.finishes laid l.tokens)

-- what the machine shifts begins a sentence
use Rattle.std.proofs.Common.{◌≡◌, ℕ, ◌<◌, List, [], ◌∷◌, ◌++◌, take, subst, arith}
use Rattle.std.specs.Prelude.{All}
use Rattle.std.proofs.lemmas.List.{take_all, length_push}
use Rattle.std.proofs.lemmas.List.Elements.{All-nil, All-cons, All-head, All-tail, All-push}
use Rattle.lrspec.specs.grammars.Grammar.{end_token}
use Rattle.lrspec.specs.tables.Recognition.{AreNamed, BeginsSentence, ShiftsBeginnings, shifted}
use Rattle.lrparsing.specs.Machines.{Tabled, run_by}
use Rattle.lrparsing.specs.Expected.{IsShiftedBehind}

module _ (m : Tabled) (w : List ℕ) (shift : ShiftsBeginnings m.grammar m.table) (named : AreNamed m.grammar w) where
  -- a token that it shifts behind a text
  one_begins : (t : ℕ) → t < end_token m.grammar → IsShiftedBehind m w t → BeginsSentence m.grammar (w ++ t ∷ [])
  one_begins t below here =
      let text = w ++ t ∷ [] in
      let all : take (shifted (run_by m text)) text ≡ text = take_all (shifted (run_by m text)) text (omega (arith, here, length_push w t)) in
      subst (BeginsSentence m.grammar) all (shift m.steps text (All-push (λ t. t < end_token m.grammar) w t named below)).1

  -- and so do others
  pub all_begin : (ts : List ℕ) → All (λ t. t < end_token m.grammar) ts → All (IsShiftedBehind m w) ts → All (λ t. BeginsSentence m.grammar (w ++ t ∷ [])) ts
  all_begin [] below are = All-nil (λ t. BeginsSentence m.grammar (w ++ t ∷ []))
  all_begin (t ∷ ts) below are =
      let N : ℕ → Type 0 = λ t. t < end_token m.grammar in
      All-cons (λ t. BeginsSentence m.grammar (w ++ t ∷ [])) t ts
      (one_begins t (All-head N t ts below) (All-head (IsShiftedBehind m w) t ts are))
      (all_begin ts (All-tail N t ts below) (All-tail (IsShiftedBehind m w) t ts are))

-- the texts of reasons, as the code stores these
use Rattle.std.specs.Prelude.{ℕ, ◌==◌, ◌&&◌, not, Bool, List, [], ◌∷◌, ◌++◌, Option, None, Some, codes, filter, is_some, map, if◌then◌else◌}
use Rattle.std.specs.List.{flat_map, list_any}
use Rattle.lrspec.specs.grammars.Grammar.{Symbol, Token, Grammar}
use Rattle.lrgrammar.specs.declared.idx.TIdx.{TIdx}
use Rattle.lrspec.specs.texts.PrintedTexts.{rule_name}
use Rattle.lrgrammar.specs.Symbols.{symbol_of, number_of}
use Rattle.lrambiguity.specs.declared.ambiguities.Ambiguity.{Ambiguity}
use Rattle.lrconflicts.specs.declared.moves.Written.{Written}
use Rattle.lrconflicts.specs.Moves.{Move, Reduce}
use Rattle.lrambiguity.specs.StoredItems.{items_of}
use Rattle.lrconflicts.specs.StoredMoves.{move_of, moves_stored}
use Rattle.lrconflicts.specs.declared.conflicts.Conflict.{Conflict}
use Rattle.lrforms.specs.declared.ambiguous.Form.{Form}
use Rattle.lrforms.specs.declared.outlooks.Outlook.{Outlook}
use Rattle.lrreasons.specs.declared.ambiguities.ProvedAmbiguity.{ProvedAmbiguity}
use Rattle.lrreasons.specs.declared.examples.Example.{Example}
use Rattle.lrreasons.specs.declared.reasons.Reason.{Reason}
use Rattle.lrreasons.specs.Words.{words_of, first_words, with_dot}
use Rattle.lrreasons.specs.Lines.{line_text}
use Rattle.lrreasons.specs.Brackets.{bracketed_words}
use Rattle.lrreasons.specs.StoredForms.{form_words}
use Rattle.lrconflicts.specs.Entries.{entry_of, other_of}
use Rattle.lrreasons.specs.Texts.{conflict_line, is_same_move, move_label, contest_text, shifts, item_line, is_rule, before_line, other_token_text, likewise_line}

-- the words of tokens
abbrev pub token_words : Grammar → List (TIdx ℕ) → List (List ℕ)
token_words g ts = words_of g (map (λ t. Token t.0) ts)

-- ---- ambiguities

-- the line of a form
abbrev pub form_text : Grammar → Form → List ℕ
form_text g f =
    line_text 6 (codes "AMBIGUOUS " ++ rule_name g f.rule.0 ++ codes ":")
    (with_dot f.dot (form_words g f))

-- what a candidate makes of the form, against another one: these are its moves from the dot on
abbrev pub way_text : Grammar → Form → Move → Move → List Move → List ℕ
way_text g f m other ms =
    line_text 9 (move_label g m other)
    (bracketed_words g f.dot (form_words g f)
    (moves_stored number_of f.ways.before.items ++ ms))

-- the text that has two trees
abbrev pub sentence_text : Grammar → Ambiguity ℕ → List ℕ
sentence_text g a =
    line_text 9 (codes "sentence:")
    (with_dot (shifts (moves_stored number_of a.before.items)) (token_words g a.text.items))

-- an ambiguity at a conflict: the form; which candidates contend, if not the conflict's own; what
-- either makes of the form; and the text
abbrev pub ambiguity_text : Grammar → Conflict ℕ → ProvedAmbiguity → List ℕ
ambiguity_text g c a =
    let one = move_of number_of a.contest.one in
    let other = move_of number_of a.contest.other in
    form_text g a.form
    ++ contest_text g c.production.0 (other_of (entry_of number_of c)) one other
    ++ way_text g a.form one other (moves_stored number_of a.form.ways.first.items)
    ++ way_text g a.form other one (moves_stored number_of a.form.ways.second.items)
    ++ sentence_text g a.ambiguity

-- that no ambiguity is known, or an ambiguity
abbrev pub ambiguity_or_none : Grammar → Conflict ℕ → Option ProvedAmbiguity → List ℕ
ambiguity_or_none g c None = line_text 6 (codes "not known to be ambiguous") []
ambiguity_or_none g c (Some a) = ambiguity_text g c a

-- ---- examples

-- how a text goes on, where that is known
abbrev pub rest_text : Grammar → Option (Written ℕ) → List ℕ
rest_text g None = []
rest_text g (Some w) =
    line_text 9 (codes "then:") (first_words (token_words g w.tokens.items))

-- how a text goes on by a candidate against another one, where that is known: the items, each in
-- the one before it, and the rest
abbrev pub outlook_text : Grammar → Move → Move → Option Outlook → List ℕ
outlook_text g m other None = []
outlook_text g m other (Some o) =
    line_text 6 (move_label g m other) []
    ++ flat_map (item_line g) (items_of number_of o.items.items)
    ++ rest_text g o.rest

-- a text after which a conflict is real on the token `t`, if one is known
abbrev pub input_line : Grammar → Option (Written ℕ) → ℕ → List ℕ
input_line g None t = line_text 6 (codes "input: none is found") []
input_line g (Some w) t =
    before_line g (codes "input:") (map (λ t. Token t.0) w.tokens.items) t

-- the same, where the list is not such a text itself
abbrev pub input_text : Grammar → List Symbol → Option (Written ℕ) → ℕ → List ℕ
input_text g w input t = if list_any is_rule w then input_line g input t else []

-- after what a conflict is real, and how it goes on by either candidate
abbrev pub example_text : Grammar → Conflict ℕ → Example → List ℕ
example_text g c x =
    let w = map (symbol_of number_of) x.list.items in
    let reduce = Reduce c.production.0 in
    let other = other_of (entry_of number_of c) in
    other_token_text g c.token.0 x.token.0
    ++ before_line g (codes "reason:") w x.token.0
    ++ input_text g w x.input x.token.0
    ++ outlook_text g reduce other x.one
    ++ outlook_text g other reduce x.other

-- the same, if there is an example
abbrev pub example_or_none : Grammar → Conflict ℕ → Option Example → List ℕ
example_or_none g c None = []
example_or_none g c (Some x) = example_text g c x

-- ---- reasons

-- a reason: the line of its conflict, whether that is ambiguous, and after what it is real
abbrev pub reason_text : Grammar → Reason → List ℕ
reason_text g r =
    conflict_line g (entry_of number_of r.conflict) ++ ambiguity_or_none g r.conflict r.ambiguity
    ++ example_or_none g r.conflict r.example

-- whether truth values are the same
abbrev pub are_same : Bool → Bool → Bool
are_same a b = if a then b else not b

-- whether reasons are told together: they are of one state and the same candidates, ambiguous or
-- not
abbrev pub are_alike : Reason → Reason → Bool
are_alike r s =
    r.conflict.state.0 == s.conflict.state.0
    && r.conflict.production.0 == s.conflict.production.0
    && is_same_move (other_of (entry_of number_of r.conflict))
    (other_of (entry_of number_of s.conflict))
    && are_same (is_some r.ambiguity) (is_some s.ambiguity)

-- the token of a reason's conflict
abbrev pub conflict_token : Reason → Symbol
conflict_token r = Token r.conflict.token.0

-- the tokens of the conflicts of reasons
abbrev pub conflict_tokens : List Reason → List Symbol
conflict_tokens rs = map conflict_token rs

-- the tokens of those that are alike
abbrev pub likewise_text : Grammar → Reason → List Reason → List ℕ
likewise_text g r rs =
    likewise_line g (conflict_tokens (filter (are_alike r) rs))

-- reasons behind others, which have been told: each is left out where one before it is alike, and
-- else told with the tokens of those behind it that are alike
abbrev pub reasons_text : Grammar → List Reason → List Reason → List ℕ
reasons_text g told [] = []
reasons_text g told (r ∷ rs) =
    (if list_any (are_alike r) told then []
    else reason_text g r ++ likewise_text g r rs)
    ++ reasons_text g (told ++ r ∷ []) rs

-- what has to follow in each reading state to make a document
use Rattle.std.proofs.Common.{◌≡◌, ℕ, ◌+◌, ◌≤◌, Bool, true, false, List, [], ◌∷◌, ◌++◌, length, map, Option, None, Some, flat_map, refl, ap, ◌∙◌, append_assoc, arith}
use Rattle.lrspec.specs.texts.Lexemes.{Lexeme, Name, Quoted, StartWord, TokenWord, KindWord, PrecedenceWord, Separator, Colon, Bar, Semicolon, Misfit}
use Rattle.lrspec.specs.texts.Documents.{NameText, Plain, InQuotes, Declaration, StartLine, TokenLine, KindLine, BodyText, RuleText, name_lexeme, declaration_lexemes, body_lexemes, other_body_lexemes, rule_lexemes, behind_lexemes, start_names}
use Rattle.lrspec.specs.texts.ReadingStates.{ReadingState, AtDeclaration, WantsStart, WantsName, InLine, AtRule, WantsColon, InBody, WantsPrecedence, BehindBody, Behind, may_end, declare, next_state, state_behind}

-- how often `%start` came
abbrev pub count_seen : Bool → ℕ
count_seen true = 1
count_seen false = 0

-- rules, and perhaps a second `%%` with anything behind it
abbrev pub RulesRest : List Lexeme → Type 0
RulesRest is = (rs : List RuleText) × (o : Option (List Lexeme)) × (flat_map rule_lexemes rs ++ behind_lexemes o ≡ is)

-- declarations and what follows them
abbrev pub DeclarationsRest : Bool → List Lexeme → Type 0
DeclarationsRest seen is = (ds : List Declaration) × (rest : List Lexeme) × (flat_map declaration_lexemes ds ++ Separator ∷ rest ≡ is) × (length (start_names ds) + count_seen seen ≤ 1) × RulesRest rest

-- the rest of a line of tokens and what follows it
abbrev pub LineRest : Bool → List Lexeme → Type 0
LineRest seen is = (ns : List NameText) × (rest : List Lexeme) × (map name_lexeme ns ++ rest ≡ is) × DeclarationsRest seen rest

-- other bodies, and what follows the rule
abbrev pub BodiesRest : List Lexeme → Type 0
BodiesRest is = (bs : List BodyText) × (rest : List Lexeme) × (flat_map other_body_lexemes bs ++ Semicolon ∷ rest ≡ is) × RulesRest rest

-- the name behind `%prec`, and what follows the body
abbrev pub PrecedenceRest : List Lexeme → Type 0
PrecedenceRest is = (n : NameText) × (rest : List Lexeme) × (name_lexeme n ∷ rest ≡ is) × BodiesRest rest

-- the rest of a body, and what follows it
abbrev pub BodyRest : List Lexeme → Type 0
BodyRest is = (b : BodyText) × (rest : List Lexeme) × (body_lexemes b ++ rest ≡ is) × BodiesRest rest

-- the lexemes that make what was read up to a state a document
abbrev pub Rest : ReadingState → List Lexeme → Type 0
Rest (AtDeclaration seen) is = DeclarationsRest seen is
Rest WantsStart is = (w : List ℕ) × (rest : List Lexeme) × (Name w ∷ rest ≡ is) × DeclarationsRest true rest
Rest (WantsName seen) is = (n : NameText) × (rest : List Lexeme) × (name_lexeme n ∷ rest ≡ is) × LineRest seen rest
Rest (InLine seen) is = LineRest seen is
Rest AtRule is = RulesRest is
Rest WantsColon is = (rest : List Lexeme) × (Colon ∷ rest ≡ is) × BodyRest rest
Rest InBody is = BodyRest is
Rest WantsPrecedence is = PrecedenceRest is
Rest BehindBody is = BodiesRest is
Rest Behind is = Unit {0}

-- the same where there is a state behind a lexeme
abbrev pub RestIf : Option ReadingState → List Lexeme → Type 0
RestIf None is = ⊥
RestIf (Some s) is = Rest s is

-- the lexemes of a line of tokens before other declarations
line_lexemes : (word : Lexeme) (n : NameText) (ns : List NameText) (ds : List Declaration) (behind rest rest' is : List Lexeme) → name_lexeme n ∷ rest ≡ is → map name_lexeme ns ++ rest' ≡ rest → flat_map declaration_lexemes ds ++ Separator ∷ behind ≡ rest' → word ∷ map name_lexeme (n ∷ ns) ++ flat_map declaration_lexemes ds ++ Separator ∷ behind ≡ word ∷ is
line_lexemes word n ns ds behind rest rest' is e f g =
    ap (λ l. word ∷ l) (ap (λ l. name_lexeme n ∷ l) (append_assoc (map name_lexeme ns) (flat_map declaration_lexemes ds) (Separator ∷ behind) ∙ ap (λ l. map name_lexeme ns ++ l) g ∙ f) ∙ e)

-- one `%start` is at most one
seen_once : (seen : Bool) → 0 + count_seen seen ≤ 1
seen_once true = omega arith
seen_once false = omega arith

-- the first `%%` alone may follow declarations
at_separator : (seen : Bool) → DeclarationsRest seen (Separator ∷ [])
at_separator seen = ([], [], refl, seen_once seen, ([], None, refl))

-- a declaration or the first `%%` may come before what follows it
declare_rest : (seen : Bool) (i : Lexeme) (is : List Lexeme) → RestIf (declare seen i) is → DeclarationsRest seen (i ∷ is)
declare_rest true StartWord is h = absurd h
declare_rest false StartWord is (w, rest, e, (ds, behind, f, one, rules)) = (StartLine w ∷ ds, behind, ap (λ l. StartWord ∷ l) (ap (λ l. Name w ∷ l) f ∙ e), omega arith, rules)
declare_rest seen TokenWord is (n, rest, e, (ns, rest', f, (ds, behind, g, one, rules))) = (TokenLine n ns ∷ ds, behind, line_lexemes TokenWord n ns ds behind rest rest' is e f g, one, rules)
declare_rest seen (KindWord k) is (n, rest, e, (ns, rest', f, (ds, behind, g, one, rules))) = (KindLine k n ns ∷ ds, behind, line_lexemes (KindWord k) n ns ds behind rest rest' is e f g, one, rules)
declare_rest seen Separator is h = ([], is, refl, seen_once seen, h)
declare_rest seen PrecedenceWord is h = absurd h
declare_rest seen (Name w) is h = absurd h
declare_rest seen (Quoted w) is h = absurd h
declare_rest seen Colon is h = absurd h
declare_rest seen Bar is h = absurd h
declare_rest seen Semicolon is h = absurd h
declare_rest seen Misfit is h = absurd h

-- one more name of a line
name_rest : (seen : Bool) (n : NameText) (is : List Lexeme) → LineRest seen is → LineRest seen (name_lexeme n ∷ is)
name_rest seen n is (ns, rest, e, h) = (n ∷ ns, rest, ap (λ l. name_lexeme n ∷ l) e, h)

-- a line may have no more names
line_rest : (seen : Bool) (is : List Lexeme) → DeclarationsRest seen is → LineRest seen is
line_rest seen is h = ([], is, refl, h)

-- one more name of a body
body_rest : (n : NameText) (is : List Lexeme) → BodyRest is → BodyRest (name_lexeme n ∷ is)
body_rest n is (b, rest, e, h) = (record b { names = n ∷ b.names }, rest, ap (λ l. name_lexeme n ∷ l) e, h)

-- one more body
bar_rest : (is : List Lexeme) → BodyRest is → BodiesRest (Bar ∷ is)
bar_rest is (b, rest, e, (bs, rest', f, h)) =
    (b ∷ bs, rest', ap (λ l. Bar ∷ l) (append_assoc (body_lexemes b) (flat_map other_body_lexemes bs) (Semicolon ∷ rest') ∙ ap (λ l. body_lexemes b ++ l) f ∙ e), h)

-- the end of a body
end_rest : (is : List Lexeme) → RulesRest is → BodiesRest (Semicolon ∷ is)
end_rest is h = ([], is, refl, h)

-- a body may have no more names
bodies_rest : (is : List Lexeme) → BodiesRest is → BodyRest is
bodies_rest is h = (record { names = []; precedence = None }, is, refl, h)

-- the lexemes of a rule and what follows it, grouped to the right
rule_ends : (a b c d : List Lexeme) → a ++ (b ++ Semicolon ∷ []) ++ c ++ d ≡ a ++ (b ++ Semicolon ∷ (c ++ d))
rule_ends a b c d = simp append_assoc

-- a rule before others
rule_rest : (w : List ℕ) (is : List Lexeme) → Rest WantsColon is → RulesRest (Name w ∷ is)
rule_rest w is (rest, e, (b, rest', f, (bs, rest'', g, (rs, o, k)))) = (
  record { name = w; first = b; others = bs } ∷ rs,
  o,
  ap (λ l. Name w ∷ l) (ap (λ l. Colon ∷ l) (rule_ends (body_lexemes b) (flat_map other_body_lexemes bs) (flat_map rule_lexemes rs) (behind_lexemes o)
      ∙ ap (λ l. body_lexemes b ++ (flat_map other_body_lexemes bs ++ Semicolon ∷ l)) k ∙ ap (λ l. body_lexemes b ++ l) g ∙ f) ∙ e),
)

-- a lexeme that may come makes what followed it follow the state before it
pub next_rest : (s : ReadingState) (i : Lexeme) (is : List Lexeme) → RestIf (next_state s i) is → Rest s (i ∷ is)
next_rest (AtDeclaration seen) i is h = declare_rest seen i is h
next_rest WantsStart (Name w) is h = (w, is, refl, h)
next_rest WantsStart _ is h = absurd h
next_rest (WantsName seen) (Name w) is h = (Plain w, is, refl, h)
next_rest (WantsName seen) (Quoted w) is h = (InQuotes w, is, refl, h)
next_rest (WantsName seen) _ is h = absurd h
next_rest (InLine seen) (Name w) is h = name_rest seen (Plain w) is h
next_rest (InLine seen) (Quoted w) is h = name_rest seen (InQuotes w) is h
next_rest (InLine seen) i is h = line_rest seen (i ∷ is) (declare_rest seen i is h)
next_rest AtRule (Name w) is h = rule_rest w is h
next_rest AtRule Separator is h = ([], Some is, refl)
next_rest AtRule _ is h = absurd h
next_rest WantsColon Colon is h = (is, refl, h)
next_rest WantsColon _ is h = absurd h
next_rest InBody (Name w) is h = body_rest (Plain w) is h
next_rest InBody (Quoted w) is h = body_rest (InQuotes w) is h
next_rest InBody Bar is h = bodies_rest (Bar ∷ is) (bar_rest is h)
next_rest InBody Semicolon is h = bodies_rest (Semicolon ∷ is) (end_rest is h)
next_rest InBody PrecedenceWord is (n, rest, e, h) = (record { names = []; precedence = Some n }, rest, ap (λ l. PrecedenceWord ∷ l) e, h)
next_rest InBody _ is h = absurd h
next_rest WantsPrecedence (Name w) is h = (Plain w, is, refl, h)
next_rest WantsPrecedence (Quoted w) is h = (InQuotes w, is, refl, h)
next_rest WantsPrecedence _ is h = absurd h
next_rest BehindBody Bar is h = bar_rest is h
next_rest BehindBody Semicolon is h = end_rest is h
next_rest BehindBody _ is h = absurd h
next_rest Behind i is h = tt

-- the first of some lexemes, by the state behind it
leads_by : (o : Option ReadingState) (is rest : List Lexeme) (t : ReadingState) → elim o [ None ↦ None | Some u ↦ state_behind u is ] ≡ Some t → ((u : ReadingState) → state_behind u is ≡ Some t → Rest u (is ++ rest)) → RestIf o (is ++ rest)
leads_by None is rest t h go = elim (is_none h) [ ]
  where
    is_none : None ≡ Some t → ⊥
    is_none e = cc
leads_by (Some u) is rest t h go = go u h

-- where the lexemes lead from one state to another, they and what follows the second state follow the first
pub leads_rest : (is : List Lexeme) (s t : ReadingState) (rest : List Lexeme) → state_behind s is ≡ Some t → Rest t rest → Rest s (is ++ rest)
leads_rest [] s t rest h r = let same : s ≡ t = cc in rw same r
leads_rest (i ∷ is) s t rest h r = next_rest s i (is ++ rest) (leads_by (next_state s i) is rest t h (λ u k. leads_rest is u t rest k r))

-- where a document may end, nothing needs to follow
pub ended_rest : (s : ReadingState) → may_end s ≡ true → Rest s []
ended_rest AtRule h = ([], None, refl)
ended_rest Behind h = tt
ended_rest (AtDeclaration seen) h = absurd (cc)
ended_rest WantsStart h = absurd (cc)
ended_rest (WantsName seen) h = absurd (cc)
ended_rest (InLine seen) h = absurd (cc)
ended_rest WantsColon h = absurd (cc)
ended_rest InBody h = absurd (cc)
ended_rest WantsPrecedence h = absurd (cc)
ended_rest BehindBody h = absurd (cc)

-- a body and the document may end with a `;`
last_rest : BodiesRest (Semicolon ∷ [])
last_rest = end_rest [] ([], None, refl)

-- every state has something that may follow it
pub some_rest : (s : ReadingState) → (is : List Lexeme) × Rest s is
some_rest (AtDeclaration seen) = (Separator ∷ [], at_separator seen)
some_rest WantsStart = (Name [] ∷ Separator ∷ [], ([], Separator ∷ [], refl, at_separator true))
some_rest (WantsName seen) = (Name [] ∷ Separator ∷ [], (Plain [], Separator ∷ [], refl, line_rest seen (Separator ∷ []) (at_separator seen)))
some_rest (InLine seen) = (Separator ∷ [], line_rest seen (Separator ∷ []) (at_separator seen))
some_rest AtRule = ([], ([], None, refl))
some_rest WantsColon = (Colon ∷ Semicolon ∷ [], (Semicolon ∷ [], refl, bodies_rest (Semicolon ∷ []) last_rest))
some_rest InBody = (Semicolon ∷ [], bodies_rest (Semicolon ∷ []) last_rest)
some_rest WantsPrecedence = (Name [] ∷ Semicolon ∷ [], (Plain [], Semicolon ∷ [], refl, last_rest))
some_rest BehindBody = (Semicolon ∷ [], last_rest)
some_rest Behind = ([], tt)

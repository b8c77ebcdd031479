-- the reading states go on along documents and their beginnings, and along nothing else
use Rattle.std.proofs.Common.{◌≡◌, ◌+◌, ◌≤◌, Bool, true, false, List, [], ◌∷◌, ◌++◌, length, map, Option, None, Some, flat_map, refl, ap, ◌∙◌, append_assoc, append-nil, add-zero, arith}
use Rattle.lrspec.specs.texts.Lexemes.{Lexeme, Separator, Semicolon}
use Rattle.lrspec.specs.texts.Documents.{NameText, Plain, InQuotes, Declaration, StartLine, TokenLine, KindLine, BodyText, RuleText, name_lexeme, declaration_lexemes, precedence_lexemes, body_lexemes, other_body_lexemes, rule_lexemes, behind_lexemes, start_names, IsDocument, IsBeginning}
use Rattle.lrspec.specs.texts.ReadingStates.{ReadingState, AtDeclaration, InLine, AtRule, InBody, BehindBody, Behind, first_state, may_end, next_state, state_behind}
use Rattle.lrspec.proofs.texts.DocumentRests.{count_seen, DeclarationsRest, leads_rest, ended_rest, some_rest}

-- names go on with a line
line_states : (seen : Bool) (ns : List NameText) (rest : List Lexeme) → state_behind (InLine seen) (map name_lexeme ns ++ rest) ≡ state_behind (InLine seen) rest
line_states seen [] rest = refl
line_states seen (Plain w ∷ ns) rest = line_states seen ns rest
line_states seen (InQuotes w ∷ ns) rest = line_states seen ns rest

-- names go on with a body
names_states : (ns : List NameText) (rest : List Lexeme) → state_behind InBody (map name_lexeme ns ++ rest) ≡ state_behind InBody rest
names_states [] rest = refl
names_states (Plain w ∷ ns) rest = names_states ns rest
names_states (InQuotes w ∷ ns) rest = names_states ns rest

-- from within a body and from behind one the lexemes lead to the same
abbrev BodyLeads : List Lexeme → Option ReadingState → Type 0
BodyLeads is o = (state_behind InBody is ≡ o) × (state_behind BehindBody is ≡ o)

-- `%prec` with its name leads behind the body
precedence_states : (o : Option NameText) (rest : List Lexeme) (t : Option ReadingState) → BodyLeads rest t → state_behind InBody (precedence_lexemes o ++ rest) ≡ t
precedence_states None rest t h = h.0
precedence_states (Some (Plain w)) rest t h = h.1
precedence_states (Some (InQuotes w)) rest t h = h.1

-- a body leads to what follows it
body_states : (b : BodyText) (rest : List Lexeme) (t : Option ReadingState) → BodyLeads rest t → state_behind InBody (body_lexemes b ++ rest) ≡ t
body_states b rest t h =
    ap (state_behind InBody) (append_assoc (map name_lexeme b.names) (precedence_lexemes b.precedence) rest)
    ∙ names_states b.names (precedence_lexemes b.precedence ++ rest) ∙ precedence_states b.precedence rest t h

-- other bodies and the `;` lead behind the rule
bodies_states : (bs : List BodyText) (rest : List Lexeme) → BodyLeads (flat_map other_body_lexemes bs ++ Semicolon ∷ rest) (state_behind AtRule rest)
bodies_states [] rest = (refl, refl)
bodies_states (b ∷ bs) rest =
    let e = ap (state_behind InBody) (append_assoc (body_lexemes b) (flat_map other_body_lexemes bs) (Semicolon ∷ rest)) ∙ body_states b (flat_map other_body_lexemes bs ++ Semicolon ∷ rest) (state_behind AtRule rest) (bodies_states bs rest) in (e, e)

-- a rule and what follows it, grouped to the right
pub rule_grouped : (a b c : List Lexeme) → a ++ (b ++ Semicolon ∷ []) ++ c ≡ a ++ (b ++ Semicolon ∷ c)
rule_grouped a b c = simp append_assoc

-- a rule leads behind itself
rule_states : (r : RuleText) (rest : List Lexeme) → state_behind AtRule (rule_lexemes r ++ rest) ≡ state_behind AtRule rest
rule_states r rest =
    ap (state_behind InBody) (rule_grouped (body_lexemes r.first) (flat_map other_body_lexemes r.others) rest)
    ∙ body_states r.first (flat_map other_body_lexemes r.others ++ Semicolon ∷ rest) (state_behind AtRule rest) (bodies_states r.others rest)

-- rules lead behind themselves
rules_states : (rs : List RuleText) (rest : List Lexeme) → state_behind AtRule (flat_map rule_lexemes rs ++ rest) ≡ state_behind AtRule rest
rules_states [] rest = refl
rules_states (r ∷ rs) rest = ap (state_behind AtRule) (append_assoc (rule_lexemes r) (flat_map rule_lexemes rs) rest) ∙ rule_states r (flat_map rule_lexemes rs ++ rest) ∙ rules_states rs rest

-- behind the second `%%` everything may come
behind_states : (is : List Lexeme) → state_behind Behind is ≡ Some Behind
behind_states [] = refl
behind_states (i ∷ is) = behind_states is

-- what a document ends with leads to a state where it may end
ends_states : (o : Option (List Lexeme)) → (t : ReadingState) × (state_behind AtRule (behind_lexemes o) ≡ Some t) × (may_end t ≡ true)
ends_states None = (AtRule, refl, refl)
ends_states (Some is) = (Behind, behind_states is, refl)

-- the names of a line lead to the declarations behind it
line_leads : (seen : Bool) (ns : List NameText) (ds : List Declaration) (rest : List Lexeme) → state_behind (InLine seen) (map name_lexeme ns ++ flat_map declaration_lexemes ds ++ Separator ∷ rest) ≡ state_behind (InLine seen) (flat_map declaration_lexemes ds ++ Separator ∷ rest)
line_leads seen ns ds rest = ap (state_behind (InLine seen)) (append_assoc (map name_lexeme ns) (flat_map declaration_lexemes ds) (Separator ∷ rest)) ∙ line_states seen ns (flat_map declaration_lexemes ds ++ Separator ∷ rest)

-- declarations and the first `%%` lead to the rules, also from within a line
declarations_states : (ds : List Declaration) (seen : Bool) (rest : List Lexeme) → length (start_names ds) + count_seen seen ≤ 1
    → (state_behind (AtDeclaration seen) (flat_map declaration_lexemes ds ++ Separator ∷ rest) ≡ state_behind AtRule rest) × (state_behind (InLine seen) (flat_map declaration_lexemes ds ++ Separator ∷ rest) ≡ state_behind AtRule rest)
declarations_states [] seen rest h = (refl, refl)
declarations_states (StartLine w ∷ ds) true rest h = absurd (omega arith)
declarations_states (StartLine w ∷ ds) false rest h = let e = (declarations_states ds true rest (omega arith)).0 in (e, e)
declarations_states (TokenLine (Plain w) ns ∷ ds) seen rest h = let e = line_leads seen ns ds rest ∙ (declarations_states ds seen rest h).1 in (e, e)
declarations_states (TokenLine (InQuotes w) ns ∷ ds) seen rest h = let e = line_leads seen ns ds rest ∙ (declarations_states ds seen rest h).1 in (e, e)
declarations_states (KindLine k (Plain w) ns ∷ ds) seen rest h = let e = line_leads seen ns ds rest ∙ (declarations_states ds seen rest h).1 in (e, e)
declarations_states (KindLine k (InQuotes w) ns ∷ ds) seen rest h = let e = line_leads seen ns ds rest ∙ (declarations_states ds seen rest h).1 in (e, e)

-- a document leads from the first state to one where it may end
pub document_leads : (is : List Lexeme) → IsDocument is → (t : ReadingState) × (state_behind first_state is ≡ Some t) × (may_end t ≡ true)
document_leads is (d, h) =
    let (t, ends, may) = ends_states d.behind in
    (t, rw (← h.lexemes) ((declarations_states d.declarations false (flat_map rule_lexemes d.rules ++ behind_lexemes d.behind) (rw add-zero h.one_start)).0 ∙ rules_states d.rules (behind_lexemes d.behind) ∙ ends), may)

-- what may follow the first state is a document
rests_document : (is : List Lexeme) → DeclarationsRest false is → IsDocument is
rests_document is (ds, rest, e, one, (rs, o, f)) =
    (record { declarations = ds; rules = rs; behind = o }, record { lexemes = ap (λ l. flat_map declaration_lexemes ds ++ Separator ∷ l) f ∙ e; one_start = omega arith })

-- lexemes that lead from the first state to one where a document may end are a document
pub leads_document : (is : List Lexeme) (t : ReadingState) → state_behind first_state is ≡ Some t → may_end t ≡ true → IsDocument is
leads_document is t h may = rests_document is (rw append-nil at (leads_rest is first_state t [] h (ended_rest t may)))

-- lexemes that lead anywhere from the first state are a beginning of a document
pub leads_beginning : (is : List Lexeme) (t : ReadingState) → state_behind first_state is ≡ Some t → IsBeginning is
leads_beginning is t h = let (more, r) = some_rest t in (more, rests_document (is ++ more) (leads_rest is first_state t more h r))

-- the first of some lexemes, by the state behind it
behind_part_by : (o : Option ReadingState) (is more : List Lexeme) (t : ReadingState) → elim o [ None ↦ None | Some u ↦ state_behind u (is ++ more) ] ≡ Some t → ((u : ReadingState) → state_behind u (is ++ more) ≡ Some t → (v : ReadingState) × (state_behind u is ≡ Some v) × (state_behind v more ≡ Some t)) → (v : ReadingState) × (elim o [ None ↦ None | Some u ↦ state_behind u is ] ≡ Some v) × (state_behind v more ≡ Some t)
behind_part_by None is more t h go = absurd (cc)
behind_part_by (Some u) is more t h go = go u h

-- a part of lexemes that lead somewhere leads somewhere, from where the others lead on
pub behind_part : (is more : List Lexeme) (s t : ReadingState) → state_behind s (is ++ more) ≡ Some t → (v : ReadingState) × (state_behind s is ≡ Some v) × (state_behind v more ≡ Some t)
behind_part [] more s t h = (s, refl, h)
behind_part (i ∷ is) more s t h = behind_part_by (next_state s i) is more t h (λ u k. behind_part is more u t k)

-- a beginning of a document leads somewhere
pub beginning_leads : (is : List Lexeme) → IsBeginning is → (t : ReadingState) × (state_behind first_state is ≡ Some t)
beginning_leads is (more, d) =
    let (t, h, may) = document_leads (is ++ more) d in
    let (v, at, on) = behind_part is more first_state t h in
    (v, at)

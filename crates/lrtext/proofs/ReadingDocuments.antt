-- what is read of rules and of a whole document is what the document says
use Rattle.std.proofs.Common.{◌≡◌, ℕ, ◌≤◌, false, List, [], ◌∷◌, ◌++◌, length, map, Option, None, Some, flat_map, filter_map, refl, ap, ◌∙◌, sym, append_assoc, append-nil, add-zero, arith}
use Rattle.lrspec.specs.texts.Lexemes.{Lexeme, Semicolon}
use Rattle.lrspec.specs.texts.Documents.{NameText, Plain, InQuotes, Declaration, StartLine, TokenLine, KindLine, BodyText, RuleText, Document, name_lexeme, precedence_lexemes, body_lexemes, other_body_lexemes, rule_lexemes, behind_lexemes, start_names, IsDocumentOf}
use Rattle.lrspec.specs.texts.ReadingStates.{ReadingState, AtRule, InBody, BehindBody, Behind}
use Rattle.lrspec.specs.texts.Meaning.{Contents, bare_name, token_line_names, kind_line, alternatives_of, contents_of}
use Rattle.lrspec.proofs.texts.ReadingStateFacts.{rule_grouped}
use Rattle.lrtext.specs.Readings.{Reading, first_reading, body_in_hand, reading_behind, starts_in, contents_in}
use Rattle.lrtext.proofs.ReadingDeclarations.{read_declarations, declarations_read}

-- rules with their bodies
abbrev Alternatives : Type 0
Alternatives = List (List ℕ × BodyText)

-- the lexemes of other bodies, the `;` and what follows it
abbrev bodies_lexemes : List BodyText → List Lexeme → List Lexeme
bodies_lexemes bs rest = flat_map other_body_lexemes bs ++ Semicolon ∷ rest

-- the names of a body
names_read : (ns : List NameText) (x : Reading) (rest : List Lexeme) → reading_behind (record x { state = InBody }) (map name_lexeme ns ++ rest) ≡ reading_behind (record x { state = InBody; body = x.body ++ ns }) rest
names_read [] x rest = ap (λ b. reading_behind (record x { state = InBody; body = b }) rest) (sym (append-nil x.body))
names_read (Plain w ∷ ns) x rest = names_read ns (record x { body = x.body ++ Plain w ∷ [] }) rest ∙ ap (λ b. reading_behind (record x { state = InBody; body = b }) rest) (append_assoc x.body (Plain w ∷ []) ns)
names_read (InQuotes w ∷ ns) x rest = names_read ns (record x { body = x.body ++ InQuotes w ∷ [] }) rest ∙ ap (λ b. reading_behind (record x { state = InBody; body = b }) rest) (append_assoc x.body (InQuotes w ∷ []) ns)

-- what follows a body is read alike behind its `%prec` and where it has none
bodies_alike : (bs : List BodyText) (x : Reading) (rest : List Lexeme) → reading_behind (record x { state = BehindBody }) (bodies_lexemes bs rest) ≡ reading_behind (record x { state = InBody }) (bodies_lexemes bs rest)
bodies_alike [] x rest = refl
bodies_alike (b ∷ bs) x rest = refl

-- `%prec` with its name, where a body has one
precedence_read : (o : Option NameText) (bs : List BodyText) (x : Reading) (rest : List Lexeme) → reading_behind (record x { state = InBody; precedence = None }) (precedence_lexemes o ++ bodies_lexemes bs rest)
    ≡ reading_behind (record x { state = InBody; precedence = o }) (bodies_lexemes bs rest)
precedence_read None bs x rest = refl
precedence_read (Some (Plain w)) bs x rest = bodies_alike bs (record x { precedence = Some (Plain w) }) rest
precedence_read (Some (InQuotes w)) bs x rest = bodies_alike bs (record x { precedence = Some (InQuotes w) }) rest

-- a body before others
body_read : (b : BodyText) (bs : List BodyText) (x : Reading) (rest : List Lexeme) → reading_behind (record x { state = InBody; body = []; precedence = None }) (body_lexemes b ++ bodies_lexemes bs rest)
    ≡ reading_behind (record x { state = InBody; body = b.names; precedence = b.precedence }) (bodies_lexemes bs rest)
body_read b bs x rest =
    let y : Reading = record x { body = []; precedence = None } in
    ap (reading_behind (record y { state = InBody })) (append_assoc (map name_lexeme b.names) (precedence_lexemes b.precedence) (bodies_lexemes bs rest))
    ∙ names_read b.names y (precedence_lexemes b.precedence ++ bodies_lexemes bs rest)
    ∙ precedence_read b.precedence bs (record x { body = b.names }) rest

-- other bodies and the `;`
bodies_read : (bs : List BodyText) (x : Reading) (rest : List Lexeme) → reading_behind (record x { state = InBody }) (bodies_lexemes bs rest)
    ≡ reading_behind (record x { state = AtRule; body = []; precedence = None; alternatives = x.alternatives ++ (x.rule, body_in_hand x) ∷ map (λ b. (x.rule, b)) bs }) rest
bodies_read [] x rest = refl
bodies_read (b ∷ bs) x rest =
    let y : Reading = record x { body = []; precedence = None; alternatives = x.alternatives ++ (x.rule, body_in_hand x) ∷ [] } in
    let more : Alternatives = map (λ b. (x.rule, b)) (b ∷ bs) in
    ap (reading_behind (record y { state = InBody })) (append_assoc (body_lexemes b) (flat_map other_body_lexemes bs) (Semicolon ∷ rest))
    ∙ body_read b bs y rest
    ∙ bodies_read bs (record y { body = b.names; precedence = b.precedence }) rest
    ∙ ap (λ a. reading_behind (record x { state = AtRule; body = []; precedence = None; alternatives = a }) rest) (append_assoc x.alternatives ((x.rule, body_in_hand x) ∷ []) more)

-- what rules add
abbrev read_rules : List RuleText → Reading → Reading
read_rules [] x = x
read_rules (r ∷ rs) x = read_rules rs (record x { rule = r.name; alternatives = x.alternatives ++ alternatives_of r })

-- no body is in hand at a rule
abbrev at_rule : Reading → Reading
at_rule x = record x { state = AtRule; body = []; precedence = None }

-- a rule
rule_read : (r : RuleText) (x : Reading) (rest : List Lexeme) → reading_behind (at_rule x) (rule_lexemes r ++ rest) ≡ reading_behind (at_rule (record x { rule = r.name; alternatives = x.alternatives ++ alternatives_of r })) rest
rule_read r x rest =
    let y : Reading = record x { body = []; precedence = None; rule = r.name } in
    ap (reading_behind (record y { state = InBody })) (rule_grouped (body_lexemes r.first) (flat_map other_body_lexemes r.others) rest)
    ∙ body_read r.first r.others y rest
    ∙ bodies_read r.others (record y { body = r.first.names; precedence = r.first.precedence }) rest

-- rules are read one by one
rules_read : (rs : List RuleText) (x : Reading) (rest : List Lexeme) → reading_behind (at_rule x) (flat_map rule_lexemes rs ++ rest) ≡ reading_behind (at_rule (read_rules rs x)) rest
rules_read [] x rest = refl
rules_read (r ∷ rs) x rest =
    ap (reading_behind (at_rule x)) (append_assoc (rule_lexemes r) (flat_map rule_lexemes rs) rest)
    ∙ rule_read r x (flat_map rule_lexemes rs ++ rest) ∙ rules_read rs (record x { rule = r.name; alternatives = x.alternatives ++ alternatives_of r }) rest

-- what stands behind the second `%%` adds nothing
pub behind_read : (is : List Lexeme) (x : Reading) → reading_behind (record x { state = Behind }) is ≡ Some (record x { state = Behind })
behind_read [] x = refl
behind_read (i ∷ is) x = behind_read is x

-- without `%start` its name stays
start_kept : (ds : List Declaration) (x : Reading) → length (start_names ds) ≤ 0 → (read_declarations ds x).start ≡ x.start
start_kept [] x h = refl
start_kept (StartLine w ∷ ds) x h = absurd (omega arith)
start_kept (TokenLine n ns ∷ ds) x h = start_kept ds _ h
start_kept (KindLine k n ns ∷ ds) x h = start_kept ds _ h

-- no names, where their number is 0
none_named : (ws : List (List ℕ)) → length ws ≤ 0 → ws ≡ []
none_named [] h = refl
none_named (w ∷ ws) h = absurd (omega arith)

-- the name of `%start`
declared_start : (ds : List Declaration) (x : Reading) → x.start ≡ None → length (start_names ds) ≤ 1 → starts_in (read_declarations ds x).start ≡ start_names ds
declared_start [] x e h = ap starts_in e
declared_start (StartLine w ∷ ds) x e h = ap starts_in (start_kept ds _ (omega arith)) ∙ ap (λ ws. w ∷ ws) (sym (none_named (start_names ds) (omega arith)))
declared_start (TokenLine n ns ∷ ds) x e h = declared_start ds _ e h
declared_start (KindLine k n ns ∷ ds) x e h = declared_start ds _ e h

-- the tokens of `%token` lines
declared_tokens : (ds : List Declaration) (x : Reading) → (read_declarations ds x).declared ≡ x.declared ++ flat_map token_line_names ds
declared_tokens [] x = sym (append-nil x.declared)
declared_tokens (StartLine w ∷ ds) x = declared_tokens ds _
declared_tokens (TokenLine n ns ∷ ds) x = declared_tokens ds _ ∙ append_assoc x.declared (map bare_name (n ∷ ns)) (flat_map token_line_names ds)
declared_tokens (KindLine k n ns ∷ ds) x = declared_tokens ds _

-- the precedence lines
declared_lines : (ds : List Declaration) (x : Reading) → (read_declarations ds x).kind_lines ≡ x.kind_lines ++ filter_map kind_line ds
declared_lines [] x = sym (append-nil x.kind_lines)
declared_lines (StartLine w ∷ ds) x = declared_lines ds _
declared_lines (TokenLine n ns ∷ ds) x = declared_lines ds _
declared_lines (KindLine k n ns ∷ ds) x = declared_lines ds _ ∙ append_assoc x.kind_lines ((k, map bare_name (n ∷ ns)) ∷ []) (filter_map kind_line ds)

-- declarations leave the rules as they are
declared_kept : (ds : List Declaration) (x : Reading) → ((read_declarations ds x).body ≡ x.body) × ((read_declarations ds x).precedence ≡ x.precedence) × ((read_declarations ds x).alternatives ≡ x.alternatives)
declared_kept [] x = (refl, refl, refl)
declared_kept (StartLine w ∷ ds) x = declared_kept ds (record x { start = Some w })
declared_kept (TokenLine n ns ∷ ds) x = declared_kept ds (record x { declared = x.declared ++ map bare_name (n ∷ ns) })
declared_kept (KindLine k n ns ∷ ds) x = declared_kept ds (record x { kind_lines = x.kind_lines ++ (k, map bare_name (n ∷ ns)) ∷ [] })

-- the alternatives of the rules
ruled_alternatives : (rs : List RuleText) (x : Reading) → (read_rules rs x).alternatives ≡ x.alternatives ++ flat_map alternatives_of rs
ruled_alternatives [] x = sym (append-nil x.alternatives)
ruled_alternatives (r ∷ rs) x = ruled_alternatives rs _ ∙ append_assoc x.alternatives (alternatives_of r) (flat_map alternatives_of rs)

-- rules leave the declarations as they are
ruled_kept : (rs : List RuleText) (x : Reading) → ((read_rules rs x).start ≡ x.start) × ((read_rules rs x).declared ≡ x.declared) × ((read_rules rs x).kind_lines ≡ x.kind_lines) × ((read_rules rs x).line ≡ x.line) × ((read_rules rs x).names ≡ x.names)
ruled_kept [] x = (refl, refl, refl, refl, refl)
ruled_kept (r ∷ rs) x = ruled_kept rs (record x { rule = r.name; alternatives = x.alternatives ++ alternatives_of r })

-- what a document ends with adds nothing
ended_by : (o : Option (List Lexeme)) (x : Reading) → (s : ReadingState) × (reading_behind (record x { state = AtRule }) (behind_lexemes o) ≡ Some (record x { state = s }))
ended_by None x = (AtRule, refl)
ended_by (Some is) x = (Behind, behind_read is x)

-- what is said, list by list
contents_same : (x : Reading) (s : Contents) → starts_in x.start ≡ s.starts → x.declared ≡ s.declared → x.kind_lines ≡ s.kind_lines → x.alternatives ≡ s.alternatives → contents_in x ≡ s
contents_same x s a b c d = λ i. record { starts = a i; declared = b i; kind_lines = c i; alternatives = d i }

-- behind the lexemes of a document, what was read is what the document says
pub document_reading : (d : Document) (is : List Lexeme) → IsDocumentOf d is → (x : Reading) × (reading_behind first_reading is ≡ Some x) × (contents_in x ≡ contents_of d)
document_reading d is h =
    let x = record (read_declarations d.declarations first_reading) { line = None; names = [] } in
    let y = read_rules d.rules x in
    let (start, declared, lines, line, names) = ruled_kept d.rules x in
    let (body, precedence, alternatives) = declared_kept d.declarations first_reading in
    let (s, e) = ended_by d.behind (at_rule y) in (
      record (at_rule y) { state = s },
      rw (← h.lexemes) (declarations_read d.declarations false first_reading (flat_map rule_lexemes d.rules ++ behind_lexemes d.behind) (rw add-zero h.one_start)
          ∙ ap (λ b. reading_behind (record x { state = AtRule; body = b }) (flat_map rule_lexemes d.rules ++ behind_lexemes d.behind)) body
          ∙ ap (λ p. reading_behind (record x { state = AtRule; body = []; precedence = p }) (flat_map rule_lexemes d.rules ++ behind_lexemes d.behind)) precedence
          ∙ rules_read d.rules x (behind_lexemes d.behind) ∙ e),
      contents_same (record (at_rule y) { state = s }) (contents_of d)
          (ap starts_in start ∙ declared_start d.declarations first_reading refl h.one_start)
          (declared ∙ declared_tokens d.declarations first_reading)
          (lines ∙ declared_lines d.declarations first_reading)
          (ruled_alternatives d.rules x ∙ ap (λ l. l ++ flat_map alternatives_of d.rules) alternatives),
    )

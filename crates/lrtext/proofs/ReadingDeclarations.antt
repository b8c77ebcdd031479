-- what is read of declarations and the first `%%`
use Rattle.std.proofs.Common.{◌≡◌, ℕ, ◌+◌, ◌≤◌, Bool, true, false, List, [], ◌∷◌, ◌++◌, length, map, None, Some, flat_map, refl, ap, ◌∙◌, sym, append_assoc, append-nil, arith}
use Rattle.lrspec.specs.grammars.Grammar.{Kind}
use Rattle.lrspec.specs.texts.Lexemes.{Lexeme, Separator}
use Rattle.lrspec.specs.texts.Documents.{NameText, Plain, InQuotes, Declaration, StartLine, TokenLine, KindLine, name_lexeme, declaration_lexemes, start_names}
use Rattle.lrspec.specs.texts.ReadingStates.{AtDeclaration, InLine, AtRule}
use Rattle.lrspec.specs.texts.Meaning.{bare_name}
use Rattle.lrspec.proofs.texts.DocumentRests.{count_seen}
use Rattle.lrtext.specs.Readings.{Reading, reading_behind}

-- the lexemes of declarations and of what follows them
abbrev declarations_lexemes : List Declaration → List Lexeme → List Lexeme
declarations_lexemes ds rest = flat_map declaration_lexemes ds ++ Separator ∷ rest

-- the names of a `%token` line
token_names_read : (seen : Bool) (ns : List NameText) (x : Reading) (rest : List Lexeme) → reading_behind (record x { state = InLine seen; line = None; names = [] }) (map name_lexeme ns ++ rest)
    ≡ reading_behind (record x { state = InLine seen; line = None; names = []; declared = x.declared ++ map bare_name ns }) rest
token_names_read seen [] x rest = ap (λ ts. reading_behind (record x { state = InLine seen; line = None; names = []; declared = ts }) rest) (sym (append-nil x.declared))
token_names_read seen (Plain w ∷ ns) x rest = token_names_read seen ns (record x { declared = x.declared ++ w ∷ [] }) rest
    ∙ ap (λ ts. reading_behind (record x { state = InLine seen; line = None; names = []; declared = ts }) rest) (append_assoc x.declared (w ∷ []) (map bare_name ns))
token_names_read seen (InQuotes w ∷ ns) x rest = token_names_read seen ns (record x { declared = x.declared ++ w ∷ [] }) rest
    ∙ ap (λ ts. reading_behind (record x { state = InLine seen; line = None; names = []; declared = ts }) rest) (append_assoc x.declared (w ∷ []) (map bare_name ns))

-- the names of a precedence line
kind_names_read : (seen : Bool) (k : Kind) (ws : List (List ℕ)) (ns : List NameText) (x : Reading) (rest : List Lexeme) → reading_behind (record x { state = InLine seen; line = Some k; names = ws }) (map name_lexeme ns ++ rest)
    ≡ reading_behind (record x { state = InLine seen; line = Some k; names = ws ++ map bare_name ns }) rest
kind_names_read seen k ws [] x rest = ap (λ ts. reading_behind (record x { state = InLine seen; line = Some k; names = ts }) rest) (sym (append-nil ws))
kind_names_read seen k ws (Plain w ∷ ns) x rest = kind_names_read seen k (ws ++ w ∷ []) ns x rest
    ∙ ap (λ ts. reading_behind (record x { state = InLine seen; line = Some k; names = ts }) rest) (append_assoc ws (w ∷ []) (map bare_name ns))
kind_names_read seen k ws (InQuotes w ∷ ns) x rest = kind_names_read seen k (ws ++ w ∷ []) ns x rest
    ∙ ap (λ ts. reading_behind (record x { state = InLine seen; line = Some k; names = ts }) rest) (append_assoc ws (w ∷ []) (map bare_name ns))

-- what follows a `%token` line ends it
token_line_ends : (seen : Bool) (ds : List Declaration) (x : Reading) (rest : List Lexeme) → reading_behind (record x { state = InLine seen; line = None; names = [] }) (declarations_lexemes ds rest)
    ≡ reading_behind (record x { state = AtDeclaration seen; line = None; names = [] }) (declarations_lexemes ds rest)
token_line_ends seen [] x rest = refl
token_line_ends true (StartLine w ∷ ds) x rest = refl
token_line_ends false (StartLine w ∷ ds) x rest = refl
token_line_ends seen (TokenLine n ns ∷ ds) x rest = refl
token_line_ends seen (KindLine k n ns ∷ ds) x rest = refl

-- what follows a precedence line ends it
kind_line_ends : (seen : Bool) (k : Kind) (ws : List (List ℕ)) (ds : List Declaration) (x : Reading) (rest : List Lexeme) → reading_behind (record x { state = InLine seen; line = Some k; names = ws }) (declarations_lexemes ds rest)
    ≡ reading_behind (record x { state = AtDeclaration seen; line = None; names = []; kind_lines = x.kind_lines ++ (k, ws) ∷ [] }) (declarations_lexemes ds rest)
kind_line_ends seen k ws [] x rest = refl
kind_line_ends true k ws (StartLine w ∷ ds) x rest = refl
kind_line_ends false k ws (StartLine w ∷ ds) x rest = refl
kind_line_ends seen k ws (TokenLine n ns ∷ ds) x rest = refl
kind_line_ends seen k ws (KindLine l n ns ∷ ds) x rest = refl

-- what declarations add
abbrev pub read_declarations : List Declaration → Reading → Reading
read_declarations [] x = x
read_declarations (StartLine w ∷ ds) x = read_declarations ds (record x { start = Some w })
read_declarations (TokenLine n ns ∷ ds) x = read_declarations ds (record x { declared = x.declared ++ map bare_name (n ∷ ns) })
read_declarations (KindLine k n ns ∷ ds) x = read_declarations ds (record x { kind_lines = x.kind_lines ++ (k, map bare_name (n ∷ ns)) ∷ [] })

-- a `%token` line before other declarations
token_line_read : (seen : Bool) (n : NameText) (ns : List NameText) (ds : List Declaration) (x : Reading) (rest : List Lexeme) → reading_behind (record x { state = InLine seen; line = None; names = [] }) (map name_lexeme (n ∷ ns) ++ declarations_lexemes ds rest)
    ≡ reading_behind (record x { state = AtDeclaration seen; line = None; names = []; declared = x.declared ++ map bare_name (n ∷ ns) }) (declarations_lexemes ds rest)
token_line_read seen n ns ds x rest =
    token_names_read seen (n ∷ ns) x (declarations_lexemes ds rest) ∙ token_line_ends seen ds (record x { declared = x.declared ++ map bare_name (n ∷ ns) }) rest

-- a precedence line before other declarations
kind_line_read : (seen : Bool) (k : Kind) (n : NameText) (ns : List NameText) (ds : List Declaration) (x : Reading) (rest : List Lexeme) → reading_behind (record x { state = InLine seen; line = Some k; names = [] }) (map name_lexeme (n ∷ ns) ++ declarations_lexemes ds rest)
    ≡ reading_behind (record x { state = AtDeclaration seen; line = None; names = []; kind_lines = x.kind_lines ++ (k, map bare_name (n ∷ ns)) ∷ [] }) (declarations_lexemes ds rest)
kind_line_read seen k n ns ds x rest = kind_names_read seen k [] (n ∷ ns) x (declarations_lexemes ds rest) ∙ kind_line_ends seen k (map bare_name (n ∷ ns)) ds x rest

-- the names of a line and what follows it, grouped to the right
line_grouped : (ns : List NameText) (ds : List Declaration) (rest : List Lexeme) → (map name_lexeme ns ++ flat_map declaration_lexemes ds) ++ Separator ∷ rest ≡ map name_lexeme ns ++ declarations_lexemes ds rest
line_grouped ns ds rest = append_assoc (map name_lexeme ns) (flat_map declaration_lexemes ds) (Separator ∷ rest)

-- declarations and the first `%%` are read
pub declarations_read : (ds : List Declaration) (seen : Bool) (x : Reading) (rest : List Lexeme) → length (start_names ds) + count_seen seen ≤ 1
    → reading_behind (record x { state = AtDeclaration seen; line = None; names = [] }) (flat_map declaration_lexemes ds ++ Separator ∷ rest) ≡ reading_behind (record (read_declarations ds x) { state = AtRule; line = None; names = [] }) rest
declarations_read [] seen x rest h = refl
declarations_read (StartLine w ∷ ds) true x rest h = absurd (omega arith)
declarations_read (StartLine w ∷ ds) false x rest h = declarations_read ds true (record x { start = Some w }) rest (omega arith)
declarations_read (TokenLine (Plain w) ns ∷ ds) seen x rest h =
    ap (reading_behind (record x { state = InLine seen; line = None; names = [] })) (line_grouped (Plain w ∷ ns) ds rest)
    ∙ token_line_read seen (Plain w) ns ds x rest ∙ declarations_read ds seen (record x { declared = x.declared ++ map bare_name (Plain w ∷ ns) }) rest h
declarations_read (TokenLine (InQuotes w) ns ∷ ds) seen x rest h =
    ap (reading_behind (record x { state = InLine seen; line = None; names = [] })) (line_grouped (InQuotes w ∷ ns) ds rest)
    ∙ token_line_read seen (InQuotes w) ns ds x rest ∙ declarations_read ds seen (record x { declared = x.declared ++ map bare_name (InQuotes w ∷ ns) }) rest h
declarations_read (KindLine k (Plain w) ns ∷ ds) seen x rest h =
    ap (reading_behind (record x { state = InLine seen; line = Some k; names = [] })) (line_grouped (Plain w ∷ ns) ds rest)
    ∙ kind_line_read seen k (Plain w) ns ds x rest ∙ declarations_read ds seen (record x { kind_lines = x.kind_lines ++ (k, map bare_name (Plain w ∷ ns)) ∷ [] }) rest h
declarations_read (KindLine k (InQuotes w) ns ∷ ds) seen x rest h =
    ap (reading_behind (record x { state = InLine seen; line = Some k; names = [] })) (line_grouped (InQuotes w ∷ ns) ds rest)
    ∙ kind_line_read seen k (InQuotes w) ns ds x rest ∙ declarations_read ds seen (record x { kind_lines = x.kind_lines ++ (k, map bare_name (InQuotes w ∷ ns)) ∷ [] }) rest h

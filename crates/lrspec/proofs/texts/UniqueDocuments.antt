-- lexemes are of one document at most, and so is a text
use Rattle.std.proofs.Common.{◌≡◌, ℕ, List, [], ◌∷◌, ◌++◌, map, Option, None, Some, flat_map, refl, ap, ◌∙◌, sym, subst, append_assoc}
use Rattle.lrspec.specs.texts.Lexemes.{Lexeme, Name, Quoted, KindWord, Separator, Bar, Semicolon}
use Rattle.lrspec.specs.texts.Documents.{NameText, Plain, InQuotes, Declaration, StartLine, TokenLine, KindLine, BodyText, RuleText, Document, name_lexeme, declaration_lexemes, precedence_lexemes, body_lexemes, other_body_lexemes, rule_lexemes, behind_lexemes, document_lexemes, lexemes_of, Reads}
use Rattle.lrspec.proofs.texts.ReadingStateFacts.{rule_grouped}
use Rattle.lrspec.proofs.texts.LexemesOfText.{text_lexemes_only}

-- the lexemes don't begin with a name
abbrev NoName : List Lexeme → Type 0
NoName [] = Unit {0}
NoName (Name w ∷ is) = ⊥
NoName (Quoted w ∷ is) = ⊥
NoName (_ ∷ is) = Unit {0}

-- the lexeme of a name is a name
name_first : (n : NameText) (is : List Lexeme) → NoName (name_lexeme n ∷ is) → ⊥
name_first (Plain w) is h = h
name_first (InQuotes w) is h = h

-- names with one lexeme are equal
name_same : (n m : NameText) → name_lexeme n ≡ name_lexeme m → n ≡ m
name_same (Plain w) (Plain v) e = cc
name_same (Plain w) (InQuotes v) e = cc
name_same (InQuotes w) (Plain v) e = cc
name_same (InQuotes w) (InQuotes v) e = cc

-- names and what follows them
names_same : (ns ms : List NameText) (x y : List Lexeme) → NoName x → NoName y → map name_lexeme ns ++ x ≡ map name_lexeme ms ++ y → (ns ≡ ms) × (x ≡ y)
names_same [] [] x y h k e = (refl, e)
names_same [] (m ∷ ms) x y h k e = absurd (name_first m (map name_lexeme ms ++ y) (subst NoName e h))
names_same (n ∷ ns) [] x y h k e = absurd (name_first n (map name_lexeme ns ++ x) (subst NoName (sym e) k))
names_same (n ∷ ns) (m ∷ ms) x y h k e =
    let first : name_lexeme n ≡ name_lexeme m = cc in
    let (others, rest) = names_same ns ms x y h k (cc) in
    (λ i. name_same n m first i ∷ others i, rest)

-- the lexemes end a body
abbrev EndsBody : List Lexeme → Type 0
EndsBody (Bar ∷ is) = Unit {0}
EndsBody (Semicolon ∷ is) = Unit {0}
EndsBody _ = ⊥

-- what follows a body ends it
bodies_end : (bs : List BodyText) (x : List Lexeme) → EndsBody (flat_map other_body_lexemes bs ++ Semicolon ∷ x)
bodies_end [] x = tt
bodies_end (b ∷ bs) x = tt

-- what ends a body begins with no name
no_name_at_end : (x : List Lexeme) → EndsBody x → NoName x
no_name_at_end (Bar ∷ is) h = tt
no_name_at_end (Semicolon ∷ is) h = tt
no_name_at_end _ h = absurd h

-- what follows the names of a body begins with no name
no_name_behind : (o : Option NameText) (x : List Lexeme) → EndsBody x → NoName (precedence_lexemes o ++ x)
no_name_behind None x h = no_name_at_end x h
no_name_behind (Some n) x h = tt

-- `%prec` with its name and what follows it
precedence_same : (o p : Option NameText) (x y : List Lexeme) → EndsBody x → EndsBody y → precedence_lexemes o ++ x ≡ precedence_lexemes p ++ y → (o ≡ p) × (x ≡ y)
precedence_same None None x y h k e = (refl, e)
precedence_same None (Some m) x y h k e = absurd (subst EndsBody e h)
precedence_same (Some n) None x y h k e = absurd (subst EndsBody (sym e) k)
precedence_same (Some n) (Some m) x y h k e =
    let first : name_lexeme n ≡ name_lexeme m = cc in
    (λ i. Some (name_same n m first i), cc)

-- a body and what follows it
body_same : (b c : BodyText) (x y : List Lexeme) → EndsBody x → EndsBody y → body_lexemes b ++ x ≡ body_lexemes c ++ y → (b ≡ c) × (x ≡ y)
body_same b c x y h k e =
    let (names, rest) = names_same b.names c.names _ _ (no_name_behind b.precedence x h) (no_name_behind c.precedence y k)
    (sym (append_assoc (map name_lexeme b.names) (precedence_lexemes b.precedence) x) ∙ e ∙ append_assoc (map name_lexeme c.names) (precedence_lexemes c.precedence) y) in
    let (precedence, last) = precedence_same b.precedence c.precedence x y h k rest in
    (λ i. record { names = names i; precedence = precedence i }, last)

-- other bodies and what follows the `;`
bodies_same : (bs cs : List BodyText) (x y : List Lexeme) → flat_map other_body_lexemes bs ++ Semicolon ∷ x ≡ flat_map other_body_lexemes cs ++ Semicolon ∷ y → (bs ≡ cs) × (x ≡ y)
bodies_same [] [] x y e = (refl, cc)
bodies_same [] (c ∷ cs) x y e = cc
bodies_same (b ∷ bs) [] x y e = cc
bodies_same (b ∷ bs) (c ∷ cs) x y e =
    let tails : body_lexemes b ++ flat_map other_body_lexemes bs ++ Semicolon ∷ x ≡ body_lexemes c ++ flat_map other_body_lexemes cs ++ Semicolon ∷ y = cc in
    let (first, rest) = body_same b c _ _ (bodies_end bs x) (bodies_end cs y)
    (sym (append_assoc (body_lexemes b) (flat_map other_body_lexemes bs) (Semicolon ∷ x)) ∙ tails ∙ append_assoc (body_lexemes c) (flat_map other_body_lexemes cs) (Semicolon ∷ y)) in
    let (others, last) = bodies_same bs cs x y rest in
    (λ i. first i ∷ others i, last)

-- a rule and what follows it
rule_same : (r s : RuleText) (x y : List Lexeme) → rule_lexemes r ++ x ≡ rule_lexemes s ++ y → (r ≡ s) × (x ≡ y)
rule_same r s x y e =
    let head : Name r.name ≡ Name s.name = cc in
    let name : r.name ≡ s.name = cc in
    let bodies : body_lexemes r.first ++ (flat_map other_body_lexemes r.others ++ Semicolon ∷ []) ++ x ≡ body_lexemes s.first ++ (flat_map other_body_lexemes s.others ++ Semicolon ∷ []) ++ y = cc in
    let (first, rest) = body_same r.first s.first _ _ (bodies_end r.others x) (bodies_end s.others y)
    (sym (rule_grouped (body_lexemes r.first) (flat_map other_body_lexemes r.others) x) ∙ bodies ∙ rule_grouped (body_lexemes s.first) (flat_map other_body_lexemes s.others) y) in
    let (others, last) = bodies_same r.others s.others x y rest in
    (λ i. record { name = name i; first = first i; others = others i }, last)

-- what documents end with, by its lexemes
behind_same : (o p : Option (List Lexeme)) → behind_lexemes o ≡ behind_lexemes p → o ≡ p
behind_same None None e = refl
behind_same None (Some y) e = cc
behind_same (Some x) None e = cc
behind_same (Some x) (Some y) e = cc

-- what a document ends with is no rule
behind_no_rule : (o : Option (List Lexeme)) (w : List ℕ) (is : List Lexeme) → behind_lexemes o ≡ Name w ∷ is → ⊥
behind_no_rule None w is e = cc
behind_no_rule (Some x) w is e = cc

-- rules and what a document ends with
rules_same : (rs ss : List RuleText) (o p : Option (List Lexeme)) → flat_map rule_lexemes rs ++ behind_lexemes o ≡ flat_map rule_lexemes ss ++ behind_lexemes p → (rs ≡ ss) × (o ≡ p)
rules_same [] [] o p e = (refl, behind_same o p e)
rules_same [] (s ∷ ss) o p e = absurd (behind_no_rule o s.name _ e)
rules_same (r ∷ rs) [] o p e = absurd (behind_no_rule p r.name _ (sym e))
rules_same (r ∷ rs) (s ∷ ss) o p e =
    let (first, rest) = rule_same r s (flat_map rule_lexemes rs ++ behind_lexemes o) (flat_map rule_lexemes ss ++ behind_lexemes p)
    (sym (append_assoc (rule_lexemes r) (flat_map rule_lexemes rs) (behind_lexemes o)) ∙ e ∙ append_assoc (rule_lexemes s) (flat_map rule_lexemes ss) (behind_lexemes p)) in
    let (others, last) = rules_same rs ss o p rest in
    (λ i. first i ∷ others i, last)

-- what follows a line of tokens begins with no name
no_name_in_declarations : (ds : List Declaration) (x : List Lexeme) → NoName (flat_map declaration_lexemes ds ++ Separator ∷ x)
no_name_in_declarations [] x = tt
no_name_in_declarations (StartLine w ∷ ds) x = tt
no_name_in_declarations (TokenLine n ns ∷ ds) x = tt
no_name_in_declarations (KindLine k n ns ∷ ds) x = tt

-- a line of names and what follows it
line_same : (ns ms : List NameText) (ds es : List Declaration) (x y : List Lexeme) → map name_lexeme ns ++ flat_map declaration_lexemes ds ++ Separator ∷ x ≡ map name_lexeme ms ++ flat_map declaration_lexemes es ++ Separator ∷ y
    → (ns ≡ ms) × (flat_map declaration_lexemes ds ++ Separator ∷ x ≡ flat_map declaration_lexemes es ++ Separator ∷ y)
line_same ns ms ds es x y e = names_same ns ms _ _ (no_name_in_declarations ds x) (no_name_in_declarations es y)
    (sym (append_assoc (map name_lexeme ns) (flat_map declaration_lexemes ds) (Separator ∷ x)) ∙ e ∙ append_assoc (map name_lexeme ms) (flat_map declaration_lexemes es) (Separator ∷ y))

-- declarations and what follows the `%%`
declarations_same : (ds es : List Declaration) (x y : List Lexeme) → flat_map declaration_lexemes ds ++ Separator ∷ x ≡ flat_map declaration_lexemes es ++ Separator ∷ y → (ds ≡ es) × (x ≡ y)
declarations_same [] [] x y e = (refl, cc)
declarations_same [] (StartLine w ∷ es) x y e = cc
declarations_same [] (TokenLine n ns ∷ es) x y e = cc
declarations_same [] (KindLine k n ns ∷ es) x y e = cc
declarations_same (StartLine w ∷ ds) [] x y e = cc
declarations_same (TokenLine n ns ∷ ds) [] x y e = cc
declarations_same (KindLine k n ns ∷ ds) [] x y e = cc
declarations_same (StartLine w ∷ ds) (StartLine v ∷ es) x y e =
    let same : w ≡ v = cc in
    let (others, last) = declarations_same ds es x y (cc) in
    (λ i. StartLine (same i) ∷ others i, last)
declarations_same (StartLine w ∷ ds) (TokenLine n ns ∷ es) x y e = cc
declarations_same (StartLine w ∷ ds) (KindLine k n ns ∷ es) x y e = cc
declarations_same (TokenLine n ns ∷ ds) (StartLine w ∷ es) x y e = cc
declarations_same (TokenLine n ns ∷ ds) (TokenLine m ms ∷ es) x y e =
    let (names, rest) = line_same (n ∷ ns) (m ∷ ms) ds es x y (cc) in
    let (others, last) = declarations_same ds es x y rest in
    let first : n ≡ m = cc in
    let more : ns ≡ ms = cc in
    (λ i. TokenLine (first i) (more i) ∷ others i, last)
declarations_same (TokenLine n ns ∷ ds) (KindLine k m ms ∷ es) x y e = cc
declarations_same (KindLine k n ns ∷ ds) (StartLine w ∷ es) x y e = cc
declarations_same (KindLine k n ns ∷ ds) (TokenLine m ms ∷ es) x y e = cc
declarations_same (KindLine k n ns ∷ ds) (KindLine j m ms ∷ es) x y e =
    let (names, rest) = line_same (n ∷ ns) (m ∷ ms) ds es x y (cc) in
    let (others, last) = declarations_same ds es x y rest in
    let words : KindWord k ≡ KindWord j = cc in
    let kind : k ≡ j = cc in
    let first : n ≡ m = cc in
    let more : ns ≡ ms = cc in
    (λ i. KindLine (kind i) (first i) (more i) ∷ others i, last)

-- lexemes are of one document at most
pub document_same : (d e : Document) → document_lexemes d ≡ document_lexemes e → d ≡ e
document_same d e h =
    let (declared, rest) = declarations_same d.declarations e.declarations _ _ h in
    let (rules, behind) = rules_same d.rules e.rules d.behind e.behind rest in
    λ i. record { declarations = declared i; rules = rules i; behind = behind i }

-- a text is one document at most
pub reads_same : {bs : List ℕ} {d e : Document} → Reads bs d → Reads bs e → d ≡ e
reads_same {d = d} {e = e} h k = document_same d e (h.is.lexemes ∙ ap lexemes_of (text_lexemes_only h.has ∙ sym (text_lexemes_only k.has)) ∙ sym k.is.lexemes)

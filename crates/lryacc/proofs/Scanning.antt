-- lexemes that are found one after another
use Rattle.std.proofs.Common.{◌≡◌, ℕ, ◌≤◌, ◌+◌, inl, inr, true, length, None, if◌then◌else◌, List, [], ◌∷◌, ◌++◌, Result, Ok, Err, Some, refl, ap, subst, sym, ◌∙◌, arith}
use Rattle.lryacc.specs.declared.dialects.Dialect.{Dialect}
use Rattle.lryacc.specs.declared.faults.Fault.{Fault}
use Rattle.lryacc.specs.declared.lexemes.Lexeme.{Lexeme}
use Rattle.lryacc.specs.declared.scanner.Scanner.{Scanner}
use Rattle.lryacc.specs.declared.scanner.Scanned.{Scanned}
use Rattle.lryacc.specs.Lexemes.{AreInOrder, AreLexemesOf, IsLexemeOf, go_before_colon, is_colon, with_rules}
use Rattle.lryacc.specs.AllLexemes.{AreAllLexemesOf, is_separator, separators}
use Rattle.lryacc.specs.Gaps.{IsGap}
use Rattle.lryacc.specs.Scans.{Adds, AreAllScanned, AreScanned, IsNext, Scans}
use Rattle.lryacc.proofs.RuleNames.{one_more}

-- a lexeme more behind those that stand in their order
pub in_order-more : (MayBeBetween : ℕ → ℕ → Type 0) (text : List ℕ) (dialect : Dialect) (from : ℕ) (lexemes : List Lexeme)
    (to : ℕ) (lexeme : Lexeme) → AreInOrder MayBeBetween text dialect from lexemes to
    → MayBeBetween to lexeme.span.start → IsLexemeOf text dialect lexeme
    → AreInOrder MayBeBetween text dialect from (lexemes ++ lexeme ∷ []) lexeme.span.end
in_order-more MayBeBetween text dialect from [] to lexeme order between is =
    (subst (λ at. MayBeBetween at lexeme.span.start) (sym order) between, is, refl)
in_order-more MayBeBetween text dialect from (first ∷ lexemes) to lexeme order between is =
    (order.0, order.1, in_order-more MayBeBetween text dialect first.span.end lexemes to lexeme order.2 between is)

-- a lexeme that was found next is one of the text
pub found-is : (text : List ℕ) (dialect : Dialect) (old : Scanner) (lexeme : Lexeme) → old.text.now ≡ text
    → old.dialect ≡ dialect → IsLexemeOf old.text.now old.dialect lexeme → IsLexemeOf text dialect lexeme
found-is text dialect old lexeme text_is dialect_is is =
    subst (λ t. IsLexemeOf t dialect lexeme) text_is
    (subst (λ d. IsLexemeOf old.text.now d lexeme) dialect_is is)

-- separators of lexemes with one more
separators-more : (lexemes : List Lexeme) (lexeme : Lexeme)
    → separators (lexemes ++ lexeme ∷ []) ≡ separators lexemes + separators (lexeme ∷ [])
separators-more [] lexeme = omega arith
separators-more (first ∷ lexemes) lexeme = omega (arith, separators-more lexemes lexeme)

one_separator : (lexeme : Lexeme) → is_separator lexeme.kind ≡ true → separators (lexeme ∷ []) ≡ 1
one_separator lexeme is = rw is refl

not_empty : {A : Type 0} (xs : List A) (x : A) → xs ++ x ∷ [] ≡ [] → ⊥
not_empty [] x e = cc
not_empty (y ∷ xs) x e = cc

next-gap : (text : List ℕ) (dialect : Dialect) (old : Scanner) (from to : ℕ) → old.text.now ≡ text
    → old.dialect ≡ dialect → old.at ≡ from → IsGap old.dialect old.text.now old.at to → IsGap dialect text from to
next-gap text dialect old from to text_is dialect_is at gap =
    subst (λ t. IsGap dialect t from to) text_is
    (subst (λ d. IsGap d old.text.now from to) dialect_is
    (subst (λ k. IsGap old.dialect old.text.now k to) at gap))

-- so are all of them
all-more : (text : List ℕ) (dialect : Dialect) (lexemes after : List Lexeme) (old new : Scanner) (lexeme : Lexeme)
    → old.text.now ≡ text → old.dialect ≡ dialect → new.text ≡ old.text
    → AreAllScanned text dialect lexemes old → IsNext old new lexeme
    → after ≡ (if is_colon lexeme.kind then with_rules go_before_colon lexemes else lexemes) ++ lexeme ∷ []
    → AreAllScanned text dialect after new
all-more text dialect lexemes after old new lexeme text_is dialect_is same had next adds =
    let add : List Lexeme → List Lexeme = λ xs. (if is_colon lexeme.kind then with_rules go_before_colon xs else xs) ++ lexeme ∷ [] in
    let one = separators-more had.bare lexeme in
    let count = had.count in
    let is : IsLexemeOf text dialect lexeme = found-is text dialect old lexeme text_is dialect_is next.is in
    elim had.reached [
      | inl stands ↦
          let counts = next.counts stands.1 in
          let order =
          in_order-more (IsGap dialect text) text dialect 0 had.bare had.last lexeme had.order
          (next-gap text dialect old had.last lexeme.span.start text_is dialect_is stands.0 next.gap) is in
          record {
            bare = had.bare ++ lexeme ∷ [];
            last = lexeme.span.end;
            order = order;
            named = adds ∙ ap add had.named ∙ sym (one_more had.bare lexeme);
            count = cc;
            reached = elim next.reaches [
              | inl behind ↦ inl (behind.at, behind.before_second stands.1)
              | inr end ↦ inr (
                end.at ∙ ap (λ t. length t.now) same ∙ ap length text_is,
                record {
                  front = had.bare;
                  mark = lexeme;
                  are = refl;
                  is = end.is;
                  one = omega (arith, end.second, one_separator lexeme end.is);
                },
              )
            ];
          }
      | inr ended ↦
          let at : old.at ≡ length text = ended.0 in
          absurd (omega (arith, next.from, is.some, is.inside))
    ]

-- what was found next is added
-- what was found next is added
pub scanned-more : (text : List ℕ) (dialect : Dialect) (before after : Scanned) (old new : Scanner)
    (found : Result Lexeme Fault) → AreScanned text dialect before old → Scans old (Some found) new
    → Adds found before after → AreScanned text dialect after new
scanned-more text dialect before after old new (Ok lexeme) are step adds =
    let next : IsNext old new lexeme = step.lexeme in
    let had : AreLexemesOf text dialect before.lexemes.items = are.lexemes in
    let add : List Lexeme → List Lexeme = λ xs. (if is_colon lexeme.kind then with_rules go_before_colon xs else xs) ++ lexeme ∷ [] in
    let ordered : had.last ≤ lexeme.span.start = omega (arith, are.reached, next.from) in
    record {
      text_is = ap (λ t. t.now) step.text ∙ are.text_is;
      dialect_is = step.dialect ∙ are.dialect_is;
      lexemes = record {
        bare = had.bare ++ lexeme ∷ [];
        last = lexeme.span.end;
        order =
            in_order-more (λ end start. end ≤ start) text dialect 0 had.bare had.last lexeme had.order ordered
            (found-is text dialect old lexeme are.text_is are.dialect_is next.is);
        named = adds.0 ∙ ap add had.named ∙ sym (one_more had.bare lexeme);
      };
      reached = next.to;
      all = λ none.
          all-more text dialect before.lexemes.items after.lexemes.items old new lexeme are.text_is are.dialect_is step.text
          (are.all (sym adds.1 ∙ none)) next adds.0;
    }
scanned-more text dialect before after old new (Err fault) are step adds =
    let had : AreLexemesOf text dialect before.lexemes.items = are.lexemes in
    record {
      text_is = ap (λ t. t.now) step.text ∙ are.text_is;
      dialect_is = step.dialect ∙ are.dialect_is;
      lexemes = record {
        bare = had.bare;
        last = had.last;
        order = had.order;
        named = adds.0 ∙ had.named;
      };
      reached = omega (arith, are.reached, step.on);
      all = λ none. absurd (not_empty _ fault (sym adds.1 ∙ none));
    }

-- at the end, all were found
pub all-found : (text : List ℕ) (dialect : Dialect) (scanned : Scanned) (old new : Scanner)
    → AreScanned text dialect scanned old → Scans old None new → scanned.faults.items ≡ []
    → AreAllLexemesOf text dialect scanned.lexemes.items
all-found text dialect scanned old new are step none =
    let had : AreAllScanned text dialect scanned.lexemes.items old = are.all none in
    record {
      bare = had.bare;
      last = had.last;
      order = had.order;
      named = had.named;
      ends = elim had.reached [
        | inl stands ↦ inl (subst (IsGap dialect text had.last) (ap length are.text_is)
            (next-gap text dialect old had.last _ are.text_is are.dialect_is stands.0 step.ends))
        | inr ended ↦ inr ended.1
      ];
    }

pub none-of : {A : Type 0} (xs : List A) → length xs ≡ 0 → xs ≡ []
none-of [] none = refl
none-of (x ∷ xs) none = absurd (omega arith)

-- other names of symbols, while declarations are taken in
use Rattle.std.proofs.Common.{◌≡◌, ◌≢◌, ℕ, ◌<◌, ◌≤◌, ◌⊎◌, List, [], ◌∷◌, ◌++◌, Bool, true, false, Option, None, Some, is_some, min, codes, vec_len, refl, ap, sym, ◌∙◌, subst, inl, inr, arith}
use Rattle.std.proofs.lemmas.Bool.{cases_eq, false≢true}
use Rattle.std.proofs.lemmas.List.{append_assoc, append-nil}
use Rattle.std.proofs.lemmas.List.Elements.{Contains-push_cases}
use Rattle.std.proofs.lemmas.Option.{same_Some}
use Rattle.std.specs.BTreeMap.{get}
use Rattle.std.specs.Option.{option_map}
use Rattle.std.specs.Ordering.{nat_cmp}
use Rattle.lrgrammar.specs.declared.grammar.PartSymbol.{PartSymbol}
use Rattle.lryacc.specs.declared.contents.Contents.{Contents}
use Rattle.lryacc.specs.declared.contents.Statement.{Statement}
use Rattle.lryacc.specs.declared.contents.Statement.TheVariants as says
use Rattle.lryacc.specs.declared.dialects.Dialect.{Dialect}
use Rattle.lryacc.specs.declared.dialects.Dialect.TheVariants.{Bison, Grmtools}
use Rattle.lryacc.specs.declared.lexemes.Lexeme.{Lexeme}
use Rattle.lryacc.specs.declared.meaning.Meaning.{Meaning}
use Rattle.lryacc.specs.declared.numbering.FileGrammar.{FileGrammar}
use Rattle.lryacc.specs.declared.symbols.Symbols.{Symbols}
use Rattle.lryacc.specs.Aliases.{AreHeeded, AreSettled, HasNoOther, HasOtherName, HasText, IsHeeded, IsSettled, TakesAliases}
use Rattle.lryacc.specs.Aliases.IsHeeded.{one, symbol_has, alias_has, has_none}
use Rattle.lryacc.specs.Aliases.HasText.{is_error, is_undefined}
use Rattle.lryacc.specs.Aliases.IsSettled.{same, first_has, second_has}
use Rattle.lryacc.specs.EndTokens.{for_bison}
use Rattle.lryacc.specs.NamedSymbols.{AreApart, ArePartnered, KeepsNames, KeepsSymbols, Name, Names, Pairs, called, earlier, first_name, names_in, number_in, number_of, partner_in}
use Rattle.lryacc.proofs.NamesOfOne.{names-turned, number-kept, number-same}

-- names stay as they are, what has another one has one, and no fault is taken back
pub record KeepsOthers (old new : Meaning) : Type 0 where
  pub names : KeepsNames old.symbols new.symbols
  pub partners : (n p : ℕ) → partner_in old.symbols n ≡ Some p → (q : ℕ) × (partner_in new.symbols n ≡ Some q)
  pub faults : vec_len old.faults ≤ vec_len new.faults

pub others_kept : {old new : Meaning} → KeepsSymbols old.symbols new.symbols → vec_len old.faults ≤ vec_len new.faults → KeepsOthers old new
others_kept keeps faults = record {
  names = keeps.names;
  partners = λ n p e. (p, ap (λ ps. get nat_cmp ps n) keeps.partners ∙ e);
  faults = faults;
}

pub others_same : (meaning : Meaning) → KeepsOthers meaning meaning
others_same meaning = record {
  names = record { text = refl; dialect = refl; words = refl; characters = refl };
  partners = λ n p e. (p, e);
  faults = omega arith;
}

-- a name with another one has it
some-other : (s : Symbols) (n : ℕ) (found : Option ℕ) → partner_in s n ≡ found → is_some found ≡ true → (p : ℕ) × (partner_in s n ≡ Some p)
some-other s n None of is = absurd (false≢true is)
some-other s n (Some p) of is = (p, of)

pub text_by : (s : Symbols) (n : ℕ) → is_some (partner_in s n) ≡ true → HasText s n
text_by s n is = let p = some-other s n (partner_in s n) refl is in HasText.other p.0 p.1

pub settled_by : (s : Symbols) (n m : ℕ) (found : Option ℕ) → partner_in s m ≡ found → is_some found ≡ true → IsSettled s n m
settled_by s n m None of is = absurd (false≢true is)
settled_by s n m (Some p) of is = second_has p of

bison-kept : (old new : Symbols) → KeepsNames old new → (name : Name) → for_bison new.dialect (number_in new name) ≡ for_bison old.dialect (number_in old name)
bison-kept old new keeps name =
    ap (λ d. for_bison d (number_in new name)) keeps.dialect ∙ ap (for_bison old.dialect) (number-same old new keeps name)

text-kept : (old new : Meaning) → KeepsOthers old new → (n : ℕ) → HasText old.symbols n → HasText new.symbols n
text-kept old new keeps n (HasText.other p e) = let q = keeps.partners n p e in HasText.other q.0 q.1
text-kept old new keeps n (is_error e) =
    is_error (bison-kept old.symbols new.symbols keeps.names (Name.word (codes "error")) ∙ e)
text-kept old new keeps n (is_undefined e) =
    is_undefined (bison-kept old.symbols new.symbols keeps.names (Name.word (codes "YYUNDEF")) ∙ e)

pub settled-kept : (old new : Meaning) → KeepsOthers old new → (n m : ℕ) → IsSettled old.symbols n m → IsSettled new.symbols n m
settled-kept old new keeps n m (same e) = same e
settled-kept old new keeps n m (first_has h) = first_has (text-kept old new keeps n h)
settled-kept old new keeps n m (second_has p e) = let q = keeps.partners m p e in second_has q.0 q.1

pub all-kept : (statements : List Statement) (old new : Meaning) → KeepsOthers old new → AreSettled statements old → AreSettled statements new
all-kept statements old new keeps h = λ symbol alias n m is e d.
    let turned = names-turned keeps.names in
    let first = number-kept new.symbols old.symbols turned symbol n e in
    let second = number-kept new.symbols old.symbols turned alias m d in
    elim (h symbol alias n m is first second) [
      | inl k ↦ inl (settled-kept old new keeps n m k)
      | inr f ↦ inr (omega (arith, f, keeps.faults))
    ]

-- whether a declaration gives a symbol another name
abbrev pub is_alias : Statement → Bool
is_alias (says.Alias symbol alias) = true
is_alias _ = false

-- one that does not
pub takes_no_alias : (statement : Statement) {old new : Meaning} → is_alias statement ≡ false → KeepsSymbols old.symbols new.symbols → vec_len old.faults ≤ vec_len new.faults → TakesAliases (statement ∷ []) old new
takes_no_alias statement {old} {new} other keeps faults = record {
  settled = λ so_far h symbol alias n m is e d. elim (Contains-push_cases so_far statement (says.Alias symbol alias) is) [
    | inl k ↦ all-kept so_far old new (others_kept keeps faults) h symbol alias n m k e d
    | inr k ↦ absurd (false≢true (sym other ∙ ap is_alias k))
  ];
}

-- one that does
pub takes_alias : (symbol alias : Lexeme) {old new : Meaning} → KeepsOthers old new → ((n m : ℕ) → number_of old.symbols symbol ≡ Some n → number_of old.symbols alias ≡ Some m → IsSettled new.symbols n m ⊎ (0 < vec_len new.faults)) → TakesAliases (says.Alias symbol alias ∷ []) old new
takes_alias symbol alias {old} {new} keeps here = record {
  settled = λ so_far h other text n m is e d. elim (Contains-push_cases so_far (says.Alias symbol alias) (says.Alias other text) is) [
    | inl k ↦ all-kept so_far old new keeps h other text n m k e d
    | inr k ↦
        let turned = names-turned keeps.names in
        let one_is : other ≡ symbol = cc in
        let text_is : text ≡ alias = cc in
        here n m
        (subst (λ (l : Lexeme). number_of old.symbols l ≡ Some n) one_is (number-kept new.symbols old.symbols turned other n e))
        (subst (λ (l : Lexeme). number_of old.symbols l ≡ Some m) text_is (number-kept new.symbols old.symbols turned text m d))
  ];
}

-- two known names
pub takes_known : (symbol alias : Lexeme) (n m : ℕ) {old new : Meaning} → number_of old.symbols symbol ≡ Some n → number_of old.symbols alias ≡ Some m → KeepsOthers old new → (IsSettled new.symbols n m ⊎ (0 < vec_len new.faults)) → TakesAliases (says.Alias symbol alias ∷ []) old new
takes_known symbol alias n m {old} {new} first second keeps settled = takes_alias symbol alias keeps
    (λ k l e d.
    subst (λ (j : ℕ). IsSettled new.symbols j l ⊎ (0 < vec_len new.faults)) (same_Some n k (sym first ∙ e))
    (subst (λ (j : ℕ). IsSettled new.symbols n j ⊎ (0 < vec_len new.faults)) (same_Some m l (sym second ∙ d)) settled))

-- a name that no symbol has
pub takes_unknown : (symbol alias : Lexeme) (meaning : Meaning) → (number_of meaning.symbols symbol ≡ None) ⊎ (number_of meaning.symbols alias ≡ None) → TakesAliases (says.Alias symbol alias ∷ []) meaning meaning
takes_unknown symbol alias meaning none = takes_alias symbol alias (others_same meaning)
    (λ n m e d. elim none [
      | inl is ↦ let no : None ≡ Some n = sym is ∙ e in absurd (cc)
      | inr is ↦ let no : None ≡ Some m = sym is ∙ d in absurd (cc)
    ])

-- two names become those of one symbol
pub others-paired : (old now new : Symbols) (m k : ℕ) → m ≢ k → Pairs old now m k → KeepsSymbols now new → (n p : ℕ) → partner_in old n ≡ Some p → (q : ℕ) × (partner_in new n ≡ Some q)
others-paired old now new m k apart pairs keeps n p e =
    let there : (q : ℕ) → partner_in now n ≡ Some q → partner_in new n ≡ Some q = λ q f. ap (λ ps. get nat_cmp ps n) keeps.partners ∙ f in
    elim (cases_eq n m) [
      | inl is ↦ (k, there k (ap (partner_in now) is ∙ pairs.first apart))
      | inr other ↦ elim (cases_eq n k) [
        | inl is ↦ (m, there m (ap (partner_in now) is ∙ pairs.second))
        | inr third ↦ (p, there p (pairs.others n other third ∙ e))
      ]
    ]

-- one declaration more
pub takes_more_aliases : (some more : List Statement) (statement : Statement) {old now new : Meaning} → more ≡ some ++ statement ∷ [] → TakesAliases some old now → TakesAliases (statement ∷ []) now new → TakesAliases more old new
takes_more_aliases some more statement {old} {now} {new} is takes next = record {
  settled = λ so_far h.
      subst (λ (xs : List Statement). AreSettled (so_far ++ xs) new) (sym is)
      (subst (λ (xs : List Statement). AreSettled xs new) (append_assoc so_far some (statement ∷ [])) (next.settled (so_far ++ some) (takes.settled so_far h)));
}

-- none
pub takes_no_aliases : (meaning : Meaning) → TakesAliases [] meaning meaning
takes_no_aliases meaning = record {
  settled = λ so_far h. subst (λ (xs : List Statement). AreSettled xs meaning) (sym (append-nil so_far)) h;
}

-- no more names are said behind them
pub takes_aliases_rest : (statements : List Statement) {old now new : Meaning} → TakesAliases statements old now → KeepsSymbols now.symbols new.symbols → vec_len now.faults ≤ vec_len new.faults → TakesAliases statements old new
takes_aliases_rest statements {old} {now} {new} takes keeps faults = record {
  settled = λ so_far h. all-kept (so_far ++ statements) now new (others_kept keeps faults) (takes.settled so_far h);
}

-- at first none is declared
pub no-aliases : (meaning : Meaning) → AreSettled [] meaning
no-aliases meaning = λ symbol alias n m is e d. let no : is.0 < 0 = is.1 in absurd (omega arith)

-- ---- of a file

module _ (meaning : Meaning) (contents : Contents) (symbol : ℕ → Option PartSymbol) (file : FileGrammar) (apart : AreApart meaning.symbols) (partnered : ArePartnered contents.statements.items meaning.symbols) where
  abbrev names : Names
  names = names_in meaning contents symbol file

  abbrev s : Symbols
  s = meaning.symbols

  abbrev first : ℕ → ℕ
  first = first_name s

  first-both : (n p : ℕ) → partner_in s n ≡ Some p → first p ≡ first n
  first-both n p is =
      let back : first p ≡ min n p = ap (earlier p) (partnered.both n p is) in
      let here : first n ≡ min p n = ap (earlier n) is in
      omega (arith, back, here)

  -- the lexeme of another name
  named-other : (lexeme other : Lexeme) (n p : ℕ) → number_of s lexeme ≡ Some n → partner_in s n ≡ Some p → number_of s other ≡ Some p → HasOtherName names lexeme
  named-other lexeme other n p is partner of = record {
    other = other;
    same = ap (option_map first) of ∙ ap Some (first-both n p partner) ∙ sym (ap (option_map first) is);
    apart = λ e. partnered.apart n p partner (same_Some n p (sym is ∙ ap (number_in s) (sym e) ∙ of));
  }

  has-other : (lexeme : Lexeme) (n p : ℕ) → number_of s lexeme ≡ Some n → partner_in s n ≡ Some p → HasOtherName names lexeme
  has-other lexeme n p is partner =
      let by = partnered.by n p partner in
      elim by.numbers [
        | inl pair ↦ named-other lexeme by.alias n p is partner pair.second
        | inr pair ↦ named-other lexeme by.symbol n p is partner pair.first
      ]

  called-by : (lexeme : Lexeme) (n : ℕ) (word : List ℕ) → number_of s lexeme ≡ Some n → number_in s (Name.word word) ≡ Some n → called s.text.now s.dialect lexeme ≡ Name.word word
  called-by lexeme n word is of = apart (called s.text.now s.dialect lexeme) (Name.word word) n is of

  error-none : (dialect : Dialect) (lexeme : Lexeme) (n : ℕ) → number_of s lexeme ≡ Some n → for_bison dialect (number_in s (Name.word (codes "error"))) ≡ Some n → HasNoOther dialect (called s.text.now s.dialect lexeme)
  error-none Bison lexeme n is e = inl (called-by lexeme n (codes "error") is e)
  error-none Grmtools lexeme n is e = absurd (cc)

  undefined-none : (dialect : Dialect) (lexeme : Lexeme) (n : ℕ) → number_of s lexeme ≡ Some n → for_bison dialect (number_in s (Name.word (codes "YYUNDEF"))) ≡ Some n → HasNoOther dialect (called s.text.now s.dialect lexeme)
  undefined-none Bison lexeme n is e = inr (called-by lexeme n (codes "YYUNDEF") is e)
  undefined-none Grmtools lexeme n is e = absurd (cc)

  heeded : (lexeme alias : Lexeme) (n m : ℕ) → number_of s lexeme ≡ Some n → number_of s alias ≡ Some m → IsSettled s n m → IsHeeded names lexeme alias
  heeded lexeme alias n m e d (same is) = one (ap (option_map first) (e ∙ ap Some is ∙ sym d))
  heeded lexeme alias n m e d (first_has (HasText.other p is)) = symbol_has (has-other lexeme n p e is)
  heeded lexeme alias n m e d (first_has (is_error is)) = has_none (error-none s.dialect lexeme n e is)
  heeded lexeme alias n m e d (first_has (is_undefined is)) = has_none (undefined-none s.dialect lexeme n e is)
  heeded lexeme alias n m e d (second_has p is) = alias_has (has-other alias m p d is)

  -- the number of a lexeme whose symbol has one
  known : (lexeme : Lexeme) (number : ℕ) (own : Option ℕ) → number_of s lexeme ≡ own → option_map first own ≡ Some number → (n : ℕ) × (number_of s lexeme ≡ Some n)
  known lexeme number None is e = absurd (cc)
  known lexeme number (Some n) is e = (n, is)

  pub all-heeded : vec_len meaning.faults ≡ 0 → AreSettled contents.statements.items meaning → AreHeeded names
  all-heeded no_fault settled = λ lexeme alias number other is e d.
      let n = known lexeme number (number_of s lexeme) refl e in
      let m = known alias other (number_of s alias) refl d in
      elim (settled lexeme alias n.0 m.0 is n.1 m.1) [
        | inl k ↦ heeded lexeme alias n.0 m.0 n.1 m.1 k
        | inr f ↦ absurd (omega (arith, f, no_fault))
      ]

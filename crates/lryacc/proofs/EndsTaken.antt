-- the end token while declarations are taken in
use Rattle.std.proofs.Common.{◌≡◌, ℕ, ◌<◌, ◌≤◌, ◌⊎◌, List, [], ◌∷◌, ◌++◌, Bool, true, false, Contains, Option, None, Some, codes, vec_len, refl, ap, sym, ◌∙◌, subst, inl, inr, arith}
use Rattle.std.proofs.lemmas.Bool.{false≢true}
use Rattle.std.proofs.lemmas.List.Elements.{Contains-append_left, Contains-push, Contains-push_cases}
use Rattle.std.proofs.lemmas.Option.{same_Some}
use Rattle.std.specs.Option.{option_map, option_or}
use Rattle.lrgrammar.specs.declared.grammar.PartSymbol.{PartSymbol}
use Rattle.lryacc.specs.declared.contents.Contents.{Contents}
use Rattle.lryacc.specs.declared.contents.Statement.{Statement}
use Rattle.lryacc.specs.declared.contents.Statement.TheVariants as says
use Rattle.lryacc.specs.declared.dialects.Dialect.{Dialect}
use Rattle.lryacc.specs.declared.dialects.Dialect.TheVariants.{Bison, Grmtools}
use Rattle.lryacc.specs.declared.lexemes.Lexeme.{Lexeme}
use Rattle.lryacc.specs.declared.meaning.Meaning.{Meaning}
use Rattle.lryacc.specs.declared.numbering.FileGrammar.{FileGrammar}
use Rattle.lryacc.specs.declared.symbols.Symbols.{Symbols}
use Rattle.lryacc.specs.EndTokens.{KeepsLines, HasEnd, HasEndBy, HasSome, IsEndByName, IsGivenEnd, IsGivenEndBy, IsGivenZeroBy, KeepsMeaning, KeepsSaid, KeepsTables, TakesEnd, end_by_name, for_bison, written_number}
use Rattle.lryacc.specs.NamedSymbols.{KeepsNames, KeepsSymbols, Name, Names, first_name, names_in, number_in, number_of, text_at}
use Rattle.lryacc.proofs.NamesOfOne.{kept-again, names-turned, number-kept, number-same}

-- lines are kept, and then again
pub lines-again : {old now new : Meaning} → KeepsLines old now → KeepsLines now new → KeepsLines old new
lines-again one other = record {
  has_default = other.has_default ∙ one.has_default;
  levels = other.levels ∙ one.levels;
  lines = other.lines ∙ one.lines;
}

-- so is what is known of starts and of expected conflicts
pub said-again : {old now new : Meaning} → KeepsSaid old now → KeepsSaid now new → KeepsSaid old new
said-again one other = record {
  expected = record {
    expected = other.expected.expected ∙ one.expected.expected;
    reductions = other.expected.reductions ∙ one.expected.reductions;
    generalized = other.expected.generalized ∙ one.expected.generalized;
  };
  starts = other.starts ∙ one.starts;
  started = other.started ∙ one.started;
}

-- names, the end token and lines are among all of it
pub tables : {old new : Meaning} → KeepsMeaning old new → KeepsTables old new
tables keeps = record { symbols = keeps.symbols; end = keeps.end; faults = keeps.faults; lines = keeps.lines }

pub tables-again : {old now new : Meaning} → KeepsTables old now → KeepsTables now new → KeepsTables old new
tables-again one other = record {
  symbols = kept-again one.symbols other.symbols;
  end = other.end ∙ one.end;
  faults = omega (arith, one.faults, other.faults);
  lines = lines-again one.lines other.lines;
}

-- more is kept
pub meaning-again : {old now new : Meaning} → KeepsMeaning old now → KeepsMeaning now new → KeepsMeaning old new
meaning-again one other = record {
  symbols = kept-again one.symbols other.symbols;
  end = other.end ∙ one.end;
  faults = omega (arith, one.faults, other.faults);
  lines = lines-again one.lines other.lines;
  said = said-again one.said other.said;
}

-- a symbol that has the value 0 has it where names stay the same
given-kept : (statements : List Statement) (old new : Meaning) → KeepsNames old.symbols new.symbols → (n : ℕ) → IsGivenZeroBy statements old n → IsGivenZeroBy statements new n
given-kept statements old new keeps n h = record {
  symbol = h.symbol;
  value = h.value;
  is = h.is;
  zero = ap (λ (text : List ℕ). written_number (text_at text h.value.span)) keeps.text ∙ h.zero;
  same = number-kept old.symbols new.symbols keeps h.symbol n h.same;
}

-- it has it among more declarations
given-among : (some more : List Statement) (meaning : Meaning) (n : ℕ) → ((statement : Statement) → Contains some statement → Contains more statement) → IsGivenZeroBy some meaning n → IsGivenZeroBy more meaning n
given-among some more meaning n among h = record {
  symbol = h.symbol;
  value = h.value;
  is = among (says.Code h.symbol h.value) h.is;
  zero = h.zero;
  same = h.same;
}

-- whether a declaration gives a symbol a value
abbrev pub is_code : Statement → Bool
is_code (says.Code symbol value) = true
is_code _ = false

-- the only one of one declaration
only : (one other : Statement) → Contains (one ∷ []) other → one ≡ other
only one other is = elim (Contains-push_cases [] one other is) [
  | inl none ↦ let no : none.0 < 0 = none.1 in absurd (omega arith)
  | inr same ↦ same
]

alone : (one other : Statement) → one ≡ other → Contains (one ∷ []) other
alone one other same = subst (λ (s : Statement). Contains (one ∷ []) s) same (Contains-push [] one)

-- a declaration that gives no symbol a value
pub takes_no_end : (statement : Statement) {old new : Meaning} → is_code statement ≡ false → new.end ≡ old.end → vec_len old.faults ≤ vec_len new.faults → TakesEnd (statement ∷ []) old new
takes_no_end statement other same grow = record {
  given = λ end e. inl (sym same ∙ e);
  some = λ n h. absurd (false≢true (sym other ∙ ap is_code (only statement (says.Code h.symbol h.value) h.is)));
  first = λ end e. same ∙ e;
  faults = grow;
}

-- one that gives a symbol the value 0
module _ (lexeme number : Lexeme) (symbol : ℕ) (old new : Meaning) (keeps : KeepsSymbols old.symbols new.symbols) (zero : written_number (text_at old.symbols.text.now number.span) ≡ 0) (named : number_of old.symbols lexeme ≡ Some symbol) (found : new.end ≡ option_or old.end (Some symbol)) (grow : vec_len old.faults ≤ vec_len new.faults) where
  is-given : IsGivenZeroBy (says.Code lexeme number ∷ []) new symbol
  is-given = record {
    symbol = lexeme;
    value = number;
    is = alone (says.Code lexeme number) (says.Code lexeme number) refl;
    zero = ap (λ (t : List ℕ). written_number (text_at t number.span)) keeps.names.text ∙ zero;
    same = number-kept old.symbols new.symbols keeps.names lexeme symbol named;
  }

  given-by : (was : Option ℕ) → old.end ≡ was → (end : ℕ) → new.end ≡ Some end → (old.end ≡ Some end) ⊎ IsGivenZeroBy (says.Code lexeme number ∷ []) new end
  given-by None none end e =
      let same : symbol ≡ end = same_Some symbol end (ap (λ (o : Option ℕ). option_or o (Some symbol)) (sym none) ∙ sym found ∙ e) in
      inr (subst (λ (n : ℕ). IsGivenZeroBy (says.Code lexeme number ∷ []) new n) same is-given)
  given-by (Some m) is end e =
      inl (is ∙ ap (λ (o : Option ℕ). option_or o (Some symbol)) (sym is) ∙ sym found ∙ e)

  some-by : (was : Option ℕ) → old.end ≡ was → HasSome new
  some-by None none = (symbol, found ∙ ap (λ (o : Option ℕ). option_or o (Some symbol)) none)
  some-by (Some m) is = (m, found ∙ ap (λ (o : Option ℕ). option_or o (Some symbol)) is)

  pub takes_zero_end : TakesEnd (says.Code lexeme number ∷ []) old new
  takes_zero_end = record {
    given = given-by old.end refl;
    some = λ n h. inl (some-by old.end refl);
    first = λ end e. found ∙ ap (λ (o : Option ℕ). option_or o (Some symbol)) e;
    faults = grow;
  }

-- no declaration is taken in
pub takes_none : (meaning : Meaning) → TakesEnd [] meaning meaning
takes_none meaning = record {
  given = λ end e. inl e;
  some = λ n h. let is = h.is in let no : is.0 < 0 = is.1 in absurd (omega arith);
  first = λ end e. e;
  faults = omega arith;
}

-- one more declaration is taken in
module _ (some more : List Statement) (statement : Statement) (old now new : Meaning) (is : more ≡ some ++ statement ∷ []) (takes : TakesEnd some old now) (keeps : KeepsNames now.symbols new.symbols) (one : TakesEnd (statement ∷ []) now new) where
  among-some : (other : Statement) → Contains some other → Contains more other
  among-some other h = subst (λ (xs : List Statement). Contains xs other) (sym is) (Contains-append_left some (statement ∷ []) other h)

  among-one : (other : Statement) → Contains (statement ∷ []) other → Contains more other
  among-one other h =
      subst (λ (xs : List Statement). Contains xs other) (sym is)
      (subst (λ (s : Statement). Contains (some ++ statement ∷ []) s) (only statement other h) (Contains-push some statement))

  still : HasSome now → HasSome new
  still h = (h.0, one.first h.0 h.1)

  pub takes_more_end : TakesEnd more old new
  takes_more_end = record {
    given = λ end e. elim (one.given end e) [
      | inl k ↦ elim (takes.given end k) [
        | inl o ↦ inl o
        | inr g ↦ inr (given-among some more new end among-some (given-kept some now new keeps end g))
      ]
      | inr g ↦ inr (given-among (statement ∷ []) more new end among-one g)
    ];
    some = λ n h. elim (Contains-push_cases some statement (says.Code h.symbol h.value) (subst (λ (xs : List Statement). Contains xs (says.Code h.symbol h.value)) is h.is)) [
      | inl k ↦ elim (takes.some n (given-kept some new now (names-turned keeps) n record { symbol = h.symbol; value = h.value; is = k; zero = h.zero; same = h.same })) [
        | inl end ↦ inl (still end)
        | inr told ↦ inr (omega (arith, told, one.faults))
      ]
      | inr k ↦ one.some n record { symbol = h.symbol; value = h.value; is = alone statement (says.Code h.symbol h.value) k; zero = h.zero; same = h.same }
    ];
    first = λ end e. one.first end (takes.first end e);
    faults = omega (arith, takes.faults, one.faults);
  }

-- nothing is said of symbols any more
pub takes_end_rest : (statements : List Statement) {old now new : Meaning} → TakesEnd statements old now → KeepsTables now new → TakesEnd statements old new
takes_end_rest statements {old} {now} {new} takes keeps = record {
  given = λ end e. elim (takes.given end (sym keeps.end ∙ e)) [ inl o ↦ inl o | inr g ↦ inr (given-kept statements now new keeps.symbols.names end g) ];
  some = λ n h. elim (takes.some n (given-kept statements new now (names-turned keeps.symbols.names) n h)) [
    | inl end ↦ inl (end.0, keeps.end ∙ end.1)
    | inr told ↦ inr (omega (arith, told, keeps.faults))
  ];
  first = λ end e. keeps.end ∙ takes.first end e;
  faults = omega (arith, takes.faults, keeps.faults);
}

-- ---- behind all declarations

-- the same names have the same one for the end token
by_name-kept : (old new : Symbols) → KeepsNames old new → end_by_name new ≡ end_by_name old
by_name-kept old new keeps =
    ap (λ (d : Dialect). for_bison d (number_in new (Name.word (codes "YYEOF")))) keeps.dialect
    ∙ ap (for_bison old.dialect) (number-same old new keeps (Name.word (codes "YYEOF")))

module _ (statements : List Statement) (old now new : Meaning) (takes : TakesEnd statements old now) (none : old.end ≡ None) (keeps : KeepsNames now.symbols new.symbols) (found : new.end ≡ option_or now.end (end_by_name now.symbols)) (same : new.faults ≡ now.faults) where
  -- the end token that was there before its name was looked for
  was : (end : ℕ) → now.end ≡ Some end → IsGivenEndBy statements new
  was end e = record {
    end = end;
    is = found ∙ ap (λ (o : Option ℕ). option_or o (end_by_name now.symbols)) e;
    zero = elim (takes.given end e) [
      | inl o ↦ let no : None ≡ Some end = sym none ∙ o in absurd (cc)
      | inr g ↦ given-kept statements now new keeps end g
    ];
  }

  which : (end : Option ℕ) → now.end ≡ end → IsGivenEndBy statements new ⊎ (new.end ≡ end_by_name new.symbols)
  which None e =
      inr (found ∙ ap (λ (o : Option ℕ). option_or o (end_by_name now.symbols)) e ∙ sym (by_name-kept now.symbols new.symbols keeps))
  which (Some end) e = inl (was end e)

  pub end-found : HasEndBy statements new
  end-found = record {
    is = which now.end refl;
    given = λ n h no_fault. elim (takes.some n (given-kept statements new now (names-turned keeps) n h)) [
      | inl end ↦ was end.0 end.1
      | inr told ↦ let many : vec_len new.faults ≡ vec_len now.faults = ap (λ faults. vec_len faults) same in absurd (omega arith)
    ];
  }

-- it stays
given_end-kept : (statements : List Statement) (old new : Meaning) → KeepsMeaning old new → IsGivenEndBy statements old → IsGivenEndBy statements new
given_end-kept statements old new keeps h = record {
  end = h.end;
  is = keeps.end ∙ h.is;
  zero = given-kept statements old new keeps.symbols.names h.end h.zero;
}

pub end-kept : (statements : List Statement) {old new : Meaning} → KeepsMeaning old new → HasEndBy statements old → HasEndBy statements new
end-kept statements {old} {new} keeps h = record {
  is = elim h.is [
    | inl g ↦ inl (given_end-kept statements old new keeps g)
    | inr e ↦ inr (keeps.end ∙ e ∙ sym (by_name-kept old.symbols new.symbols keeps.symbols.names))
  ];
  given = λ n g no_fault.
      let grow = keeps.faults in
      let none : vec_len old.faults ≡ 0 = omega arith in
      given_end-kept statements old new keeps (h.given n (given-kept statements new old (names-turned keeps.symbols.names) n g) none);
}

-- ---- of a file

module _ (meaning : Meaning) (contents : Contents) (symbol : ℕ → Option PartSymbol) (file : FileGrammar) where
  abbrev names : Names
  names = names_in meaning contents symbol file

  abbrev first : ℕ → ℕ
  first = first_name meaning.symbols

  given-end : IsGivenEndBy contents.statements.items meaning → IsGivenEnd names
  given-end h = record {
    end = first h.end;
    is = ap (option_map first) h.is;
    zero = record {
      symbol = h.zero.symbol;
      value = h.zero.value;
      is = h.zero.is;
      zero = h.zero.zero;
      same = ap (option_map first) h.zero.same;
    };
  }

  by_dialect : (dialect : Dialect) → meaning.symbols.dialect ≡ dialect → meaning.end ≡ end_by_name meaning.symbols → IsEndByName dialect names
  by_dialect Bison is e = λ lexeme named.
      ap (λ (name : Name). option_map first (number_in meaning.symbols name)) named
      ∙ sym (ap (option_map first) (e ∙ ap (λ (d : Dialect). for_bison d (number_in meaning.symbols (Name.word (codes "YYEOF")))) is))
  by_dialect Grmtools is e =
      ap (option_map first) (e ∙ ap (λ (d : Dialect). for_bison d (number_in meaning.symbols (Name.word (codes "YYEOF")))) is)

  -- the number by which a symbol that has the value 0 is found
  some-number : (n : ℕ) (found : Option ℕ) (lexeme : Lexeme) → number_of meaning.symbols lexeme ≡ found → option_map first found ≡ Some n → (m : ℕ) × (number_of meaning.symbols lexeme ≡ Some m)
  some-number n None lexeme is e = absurd (cc)
  some-number n (Some m) lexeme is e = (m, is)

  pub has-end : vec_len meaning.faults ≡ 0 → HasEndBy contents.statements.items meaning → HasEnd names
  has-end no_fault h = record {
    is = elim h.is [ inl g ↦ inl (given-end g) | inr e ↦ inr (by_dialect meaning.symbols.dialect refl e) ];
    given = λ n g.
        let number = some-number n (number_of meaning.symbols g.symbol) g.symbol refl g.same in
        given-end (h.given number.0 record { symbol = g.symbol; value = g.value; is = g.is; zero = g.zero; same = number.1 } no_fault);
  }

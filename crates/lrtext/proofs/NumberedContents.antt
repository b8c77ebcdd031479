-- the names that the code numbers are those of the meaning, and so are the parts that it makes
use Rattle.std.proofs.Common.{◌≡◌, ℕ, List, [], ◌++◌, map, Option, Some, None, Result, true, refl, sym, ap, ◌∙◌}
use Rattle.std.specs.Prelude.{IsTrue, IfErr, not, filter, filter_map, flat_map}
use Rattle.std.specs.Result.{IsErrAnd}
use Rattle.std.proofs.lemmas.Simd.{map-map}
use Rattle.std.proofs.lemmas.List.Sums.{fold-append}
use Rattle.std.proofs.lemmas.List.Folds.{flat_map-map}
use denote.Ref.{Bor}
use Rattle.lrtext.specs.declared.contents.Contents as stored
use Rattle.lrtext.specs.declared.reader.ReadError.{ReadError}
use Rattle.lrtext.specs.declared.reader.ReadError.TheVariants as read_error
use Rattle.lrtext.specs.declared.meaning.precedences.Leveled.{Leveled}
use Rattle.lrtext.specs.NumberedNames.{names_of, with_name, with_names}
use Rattle.lrtext.specs.StoredContents.{plain_contents, alternative_of, rule_name_of, kind_line_of, line_names_of, body_of, starts_of}
use Rattle.lrtext.specs.StoredLevels.{leveled_of, leveled_names, IsRepeat}
use Rattle.lrtext.specs.MeantParts.{numbered_parts, AreMeant, IsCauseIn}
use Rattle.lrspec.specs.grammars.Grammar.{Kind, Precedence}
use Rattle.lrspec.specs.texts.Documents.{BodyText}
use Rattle.lrspec.specs.texts.Parts.{Parts}
use Rattle.lrspec.specs.texts.Names.{has_name, has_no_repeats, first_appearances}
use Rattle.lrspec.specs.texts.Meaning.{Contents, rule_names, token_names, precedence_names, declared_names, body_names, named_precedence, named_precedences, token_in_body, precedences, unknown_in_body, unknown_names}
use Rattle.lrspec.proofs.texts.ResultsPassedOn.{error_passed}
use Rattle.lrtext.proofs.NumberedNames.{first_appearances_added}
use Rattle.lrtext.proofs.MeaningFacts.{precedences_named, unknown_by_numbers}

module _ (d : stored.Contents) where
  -- the rules that were numbered are those that are said
  pub rules_are : (rules : List (List ℕ)) → rules ≡ with_names [] (map rule_name_of d.alternatives.items) → rules ≡ rule_names (plain_contents d)
  rules_are rules e = e ∙ first_appearances_added _ ∙ ap first_appearances (sym (map-map (λ (a : List ℕ × BodyText). a.0) alternative_of d.alternatives.items))

  -- the names of the precedence lines
  lines_are : flat_map line_names_of d.kind_lines.items ≡ precedence_names (plain_contents d)
  lines_are = sym (flat_map-map (λ (l : Kind × List (List ℕ)). l.1) kind_line_of d.kind_lines.items)

  -- the names in bodies
  bodies_are : flat_map body_of d.alternatives.items ≡ body_names (plain_contents d)
  bodies_are = sym (flat_map-map (λ (a : List ℕ × BodyText). a.1.names) alternative_of d.alternatives.items)

  -- the declared names that were numbered are those that are said
  pub declared_are : (declared : List (List ℕ)) → declared ≡ with_names (with_names [] (names_of d.declared.items)) (flat_map line_names_of d.kind_lines.items) → declared ≡ first_appearances (declared_names (plain_contents d))
  declared_are declared e = e ∙ sym (fold-append with_name [] (names_of d.declared.items) _) ∙ ap (λ ws. with_names [] (names_of d.declared.items ++ ws)) lines_are ∙ first_appearances_added _

  -- the tokens that were numbered are those that are said
  pub tokens_are : (rules tokens : List (List ℕ)) → rules ≡ rule_names (plain_contents d) → tokens ≡ with_names (with_names (with_names (with_names [] (names_of d.declared.items)) (filter_map (token_in_body rules) (flat_map body_of d.alternatives.items))) (flat_map line_names_of d.kind_lines.items)) (filter_map named_precedence (map alternative_of d.alternatives.items)) → tokens ≡ token_names (plain_contents d)
  tokens_are rules tokens same e =
      let declared = names_of d.declared.items in
      let used = filter_map (token_in_body rules) (flat_map body_of d.alternatives.items) in
      let lines = flat_map line_names_of d.kind_lines.items in
      let said = precedence_names (plain_contents d) in
      let named = named_precedences (plain_contents d) in
      e
      ∙ ap (λ ws. with_names (with_names ws lines) named) (sym (fold-append with_name [] declared used))
      ∙ ap (λ ws. with_names ws named) (sym (fold-append with_name [] (declared ++ used) lines))
      ∙ sym (fold-append with_name [] (declared ++ used ++ lines) named)
      ∙ ap (λ ws. with_names [] (declared ++ used ++ ws ++ named)) lines_are
      ∙ ap (λ ns. with_names [] (declared ++ filter_map (token_in_body rules) ns ++ said ++ named)) bodies_are
      ∙ ap (λ rs. with_names [] (declared ++ filter_map (token_in_body rs) (body_names (plain_contents d)) ++ said ++ named)) same
      ∙ first_appearances_added _

  -- the unknown names by the names that were numbered
  pub unknown_are : (rules declared : List (List ℕ)) → rules ≡ rule_names (plain_contents d) → declared ≡ first_appearances (declared_names (plain_contents d)) → filter (λ w. not (has_name rules w)) (starts_of d.start) ++ filter_map (unknown_in_body rules declared) (flat_map body_of d.alternatives.items) ≡ unknown_names (plain_contents d)
  unknown_are rules declared e f =
      let s = plain_contents d in
      ap (λ ns. filter (λ w. not (has_name rules w)) (starts_of d.start) ++ filter_map (unknown_in_body rules declared) ns) bodies_are
      ∙ ap (λ ds. filter (λ w. not (has_name rules w)) (starts_of d.start) ++ filter_map (unknown_in_body rules ds) (body_names s)) f
      ∙ ap (λ ns. filter (λ w. not (has_name rules w)) (starts_of d.start) ++ ns) (unknown_by_numbers rules (declared_names s) (body_names s))
      ∙ ap (λ rs. filter (λ w. not (has_name rs w)) (starts_of d.start) ++ filter_map (unknown_in_body rs (declared_names s)) (body_names s)) e

  -- the names that got a level
  pub levels_are : (ls : List Leveled) → map leveled_of ls ≡ precedences (plain_contents d) → leveled_names ls ≡ precedence_names (plain_contents d)
  levels_are ls e = sym (map-map (λ (p : List ℕ × Precedence). p.0) leveled_of ls) ∙ ap (map (λ (p : List ℕ × Precedence). p.0)) e ∙ precedences_named 0 (map kind_line_of d.kind_lines.items)

-- a start rule that is known
pub start_known : (rules : List (List ℕ)) (o : Option (Bor (List ℕ))) (w : Bor (List ℕ)) → o ≡ Some w → has_name rules w.now ≡ true → filter (λ v. not (has_name rules v)) (starts_of o) ≡ []
start_known rules o w e h = rw (e, h) refl

-- no start rule is named
pub no_start : (rules : List (List ℕ)) (o : Option (Bor (List ℕ))) → o ≡ None → filter (λ v. not (has_name rules v)) (starts_of o) ≡ []
no_start rules o e = rw e refl

-- the parts that are meant
pub meant : (s : Contents) (rules tokens : List (List ℕ)) (ps : List (List ℕ × Precedence)) (p : Parts) → rules ≡ rule_names s → tokens ≡ token_names s → ps ≡ precedences s → unknown_names s ≡ [] → IsTrue (has_no_repeats (precedence_names s)) → p ≡ numbered_parts s rules tokens ps → AreMeant s p
meant s rules tokens ps p r t l known once same =
    record {
      known = known;
      once = once;
      parts = sym (same
          ∙ ap (λ x. numbered_parts s x tokens ps) r
          ∙ ap (λ x. numbered_parts s (rule_names s) x ps) t
          ∙ ap (λ x. numbered_parts s (rule_names s) (token_names s) x) l);
    }

-- a name that comes again is the cause where no name is unknown
pub repeat_is_cause : (s : Contents) (e : ReadError) → unknown_names s ≡ [] → IsRepeat (precedence_names s) e → IsCauseIn s e
repeat_is_cause s (read_error.Syntax n) known r = absurd r
repeat_is_cause s (read_error.UnknownSymbol w) known r = absurd r
repeat_is_cause s (read_error.DuplicatePrecedence w) known r = (known, r)
repeat_is_cause s read_error.Memory known r = tt

-- want of memory is a cause of its own
pub memory_is_cause : {T : Type 0} (s : Contents) (r : Result T ReadError) → IsErrAnd r (λ e. e ≡ read_error.Memory) → IfErr r (IsCauseIn s)
memory_is_cause s r h = error_passed (IsCauseIn s) r read_error.Memory h tt

-- some lines of bytes are answered: the next one is, or the call ends
use Rattle.std.proofs.Common.{◌≡◌, ℕ, ◌<◌, ◌∙◌, sym, ap, refl, subst, List, [], ◌∷◌, ◌++◌, length, Option, append_assoc, length-append, arith}
use Rattle.std.specs.Io.KnownBytes.{Appends, Keeps}
use Rattle.std.specs.Str.Lines.{strip_carriage_return}
use Rattle.lrspec.specs.texts.Devices.{AppendsBeginning, AppendsFirstAnswers}
use Rattle.lrspec.specs.texts.Lines.{whole_lines, rest_of, lines, HasNoLineFeed, answers_to, answer_text}
use Rattle.lrspec.proofs.texts.LineFacts.{rest_without_feed, no_whole_line}
use Rattle.lrlines.proofs.KnownBytes.{Appends-nothing, Appends-from_Keeps, beginning_behind}
use Rattle.lrlines.proofs.AnsweredLines.{no_feed_in_both, some_line_of_rest, lines_at_feed, HasAnswered, HasAnswered-append, HasAnswered-rest, one_line, begun_behind, first_behind}

-- of the bytes `all`, `line` and what is `behind` it are left
pub record IsAnswering (answer : List ℕ → List ℕ) (old new : Option (List ℕ)) (all line behind : List ℕ)
    : Type 0 where
  pub front : List ℕ
  pub together : all ≡ front ++ behind
  pub so_far : HasAnswered answer old new front line

-- behind a line feed there is less
pub less_behind : (behind piece more : List ℕ) → behind ≡ piece ++ 10 ∷ more
    → length more < length behind
less_behind behind piece more e = omega (arith, ap length e, length-append piece (10 ∷ more))

module _ (answer : List ℕ → List ℕ) where
  pub IsAnswering-start : (o : Option (List ℕ)) (line bytes : List ℕ) → HasNoLineFeed line
      → IsAnswering answer o o (line ++ bytes) line bytes
  IsAnswering-start o line bytes u = record {
    front = line;
    together = refl;
    so_far = record {
      rest_is = sym (rest_without_feed line u);
      no_feed = u;
      written =
          subst (λ ls. Appends o o (answers_to answer ls)) (sym (no_whole_line line u)) (Appends-nothing o);
    };
  }

  -- ---- no line feed is left

  module _ (old new : Option (List ℕ)) (all line behind : List ℕ)
      (h : IsAnswering answer old new all line behind) (u : HasNoLineFeed behind) where
    at_end : HasAnswered answer old new all (line ++ behind)
    at_end =
        subst (λ l. HasAnswered answer old new l (line ++ behind)) (sym h.together)
        (HasAnswered-rest answer old new new h.front line behind h.so_far u (Appends-nothing new))

    pub rest_at_end : (later : List ℕ) → later ≡ line ++ behind → later ≡ rest_of all
    rest_at_end later e = e ∙ at_end.rest_is

    pub no_feed_at_end : (later : List ℕ) → later ≡ line ++ behind → HasNoLineFeed later
    no_feed_at_end later e = subst (λ l. HasNoLineFeed l) (sym e) at_end.no_feed

    pub written_at_end : Appends old new (answers_to answer (whole_lines all))
    written_at_end = at_end.written

  -- ---- a line feed stands behind `piece`

  module _ (old new newer : Option (List ℕ)) (all line behind piece more asked : List ℕ)
      (h : IsAnswering answer old new all line behind) (e : behind ≡ piece ++ 10 ∷ more)
      (v : HasNoLineFeed piece) (w : asked ≡ strip_carriage_return (line ++ piece)) where
    -- the line that ends there is answered
    pub IsAnswering-next : Appends new newer (answer asked ++ 10 ∷ [])
        → IsAnswering answer old newer all [] more
    IsAnswering-next a = record {
      front = h.front ++ (piece ++ 10 ∷ []);
      together =
          h.together ∙ ap (λ l. h.front ++ l) (e ∙ sym (append_assoc piece (10 ∷ []) more))
          ∙ sym (append_assoc h.front (piece ++ 10 ∷ []) more);
      so_far =
          HasAnswered-append answer old new newer h.front line (piece ++ 10 ∷ []) [] h.so_far
          (subst (λ l. HasAnswered answer new newer l []) (append_assoc line piece (10 ∷ []))
          (one_line answer new newer (line ++ piece) (no_feed_in_both line piece h.so_far.no_feed v)
          (subst (λ t. Appends new newer (answer t ++ 10 ∷ [])) w a)));
    }

    -- the writer failed at its answer
    pub answer_begun : AppendsBeginning new newer (answer asked ++ 10 ∷ [])
        → AppendsBeginning old newer (answer_text answer all)
    answer_begun b =
        let lines_are : lines (line ++ behind) ≡ asked ∷ lines more =
        ap (λ l. lines (line ++ l)) e ∙ ap lines (sym (append_assoc line piece (10 ∷ more)))
        ∙ lines_at_feed (line ++ piece) more (no_feed_in_both line piece h.so_far.no_feed v)
        ∙ ap (λ l. l ∷ lines more) (sym w) in
        subst (λ t. AppendsBeginning old newer (answer_text answer t)) (sym h.together)
        (begun_behind answer old new newer h.front line behind h.so_far
        (beginning_behind new new newer [] _ (answers_to answer (lines more)) _ (Appends-nothing new) b
        (ap (answers_to answer) lines_are)))

  -- ---- want of memory

  out_of_memory : (old new newer : Option (List ℕ)) (all line behind : List ℕ)
      → IsAnswering answer old new all line behind → 0 < length (lines (line ++ behind)) → Keeps new newer
      → AppendsFirstAnswers old newer answer (lines all)
  out_of_memory old new newer all line behind h l k =
      subst (λ t. AppendsFirstAnswers old newer answer (lines t)) (sym h.together)
      (first_behind answer old new newer h.front line behind h.so_far (0, l, Appends-from_Keeps new newer k))

  -- at a line that a line feed ends
  pub out_of_memory_at_feed : (old new newer : Option (List ℕ)) (all line behind piece more : List ℕ)
      → IsAnswering answer old new all line behind → behind ≡ piece ++ 10 ∷ more → HasNoLineFeed piece
      → Keeps new newer → AppendsFirstAnswers old newer answer (lines all)
  out_of_memory_at_feed old new newer all line behind piece more h e v k =
      let both : HasNoLineFeed (line ++ piece) = no_feed_in_both line piece h.so_far.no_feed v in
      let ends : line ++ behind ≡ (line ++ piece) ++ 10 ∷ more =
      ap (λ l. line ++ l) e ∙ sym (append_assoc line piece (10 ∷ more)) in
      out_of_memory old new newer all line behind h
      (omega (arith, ap (λ l. length (lines l)) ends, ap length (lines_at_feed (line ++ piece) more both))) k

  -- at the rest
  pub out_of_memory_at_rest : (old new newer : Option (List ℕ)) (all line behind : List ℕ)
      → IsAnswering answer old new all line behind → HasNoLineFeed behind → 0 < length behind
      → Keeps new newer → AppendsFirstAnswers old newer answer (lines all)
  out_of_memory_at_rest old new newer all line behind h v l k =
      let both : HasNoLineFeed (line ++ behind) = no_feed_in_both line behind h.so_far.no_feed v in
      out_of_memory old new newer all line behind h
      (some_line_of_rest (line ++ behind) both (omega (arith, length-append line behind))) k

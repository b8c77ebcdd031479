-- answers to lines that were read, and beginnings of them
use Rattle.std.proofs.Common.{◌≡◌, ℕ, ◌∙◌, sym, ap, refl, subst, true, false, List, [], ◌∷◌, take, drop, Option, None, Some, Result, Ok, Err}
use Rattle.std.proofs.lemmas.Grind.{flat_map-append}
use Rattle.std.proofs.lemmas.List.{append-nil, take-append-drop}
use Rattle.std.specs.Prelude.{OnOk}
use Rattle.std.specs.Result.{is_ok}
use Rattle.std.specs.Io.KnownBytes.{Appends, Keeps}
use Rattle.std.specs.Option.{IsSomeAnd}
use Rattle.lrspec.specs.texts.Devices.{ConsumesSome, AppendsBeginning, AppendsFirstAnswers}
use Rattle.lrspec.specs.texts.Lines.{nonempty, rest_of, whole_lines, lines, answers_to, answer_text}
use Rattle.lrspec.specs.grammars.Grammar.{Grammar}
use Rattle.lrspec.specs.tables.Table.{Table}
use Rattle.lrtable.specs.Answered.{AreAnswered}
use Rattle.lrtable.specs.declared.machine.LineError.{LineError}
use Rattle.lrtable.specs.declared.machine.LineError.TheVariants as ended
use Rattle.lrcommand.specs.Printing.{MeansGrammar, IsMergedTable, AcceptsAlone}
use Rattle.lrcommand.specs.declared.requests.Reply.{Reply}
use Rattle.lrcommand.specs.Lines.{HasTable, HasMachine, reply_text, AnswersAll, AnswersBeginning}

-- what holds of a grammar that the bytes mean holds of some grammar that they mean
pub some_meant :
    (bytes : Option (List ℕ)) (g : Grammar) (P : Grammar → Type 0) → IsSomeAnd bytes (λ bs. MeansGrammar bs g) → P g
    → IsSomeAnd bytes (λ bs. (h : Grammar) × MeansGrammar bs h × P h)
some_meant (Some bs) g P means holds = (g, means, holds)
some_meant None g P means holds = absurd means

-- what was written stays, if then known bytes are kept
pub Appends-kept : (old mid new : Option (List ℕ)) (text : List ℕ) → Appends old mid text → Keeps mid new → Appends old new text
Appends-kept None mid new text wrote kept = tt
Appends-kept (Some xs) None new text wrote kept = absurd wrote
Appends-kept (Some xs) (Some ys) None text wrote kept = absurd kept
Appends-kept (Some xs) (Some ys) (Some zs) text wrote kept = kept ∙ wrote

-- a whole text is a beginning of itself
beginning_of_all : (old new : Option (List ℕ)) (text : List ℕ) → Appends old new text → AppendsBeginning old new text
beginning_of_all old new text wrote = (text, [], wrote, sym (append-nil text))

-- the answers to the first lines are a beginning of those to all
beginning_of_first :
    (answer : List ℕ → List ℕ) (old new : Option (List ℕ)) (ls : List (List ℕ)) → AppendsFirstAnswers old new answer ls
    → AppendsBeginning old new (answers_to answer ls)
beginning_of_first answer old new ls (k, below, wrote) = (
  answers_to answer (take k ls),
  answers_to answer (drop k ls),
  wrote,
  ap (answers_to answer) (sym (take-append-drop k ls)) ∙ flat_map-append _ (take k ls) (drop k ls),
)

-- so are those to whole lines
beginning_of_whole :
    (answer : List ℕ → List ℕ) (old new : Option (List ℕ)) (read : List ℕ) → Appends old new (answers_to answer (whole_lines read))
    → AppendsBeginning old new (answer_text answer read)
beginning_of_whole answer old new read wrote = (
  answers_to answer (whole_lines read),
  answers_to answer (nonempty (rest_of read ∷ [])),
  wrote,
  flat_map-append _ (whole_lines read) (nonempty (rest_of read ∷ [])),
)

-- a beginning stays one, if then known bytes are kept
beginning_kept : (old mid new : Option (List ℕ)) (text : List ℕ) → AppendsBeginning old mid text → Keeps mid new → AppendsBeginning old new text
beginning_kept old mid new text (wrote, more, appended, e) kept = (wrote, more, Appends-kept old mid new wrote appended kept, e)

-- the same of one kind of written text, as of another
consumes_as :
    (bytes left : Option (List ℕ)) (P Q : List ℕ → Type 0) → ((read : List ℕ) → P read → Q read) → ConsumesSome bytes left P → ConsumesSome bytes left Q
consumes_as bytes left P Q f (read, consumed, p) = (read, consumed, f read p)

module _ {X : Type 0} {answer : List ℕ → List ℕ} {bytes left old new : Option (List ℕ)} where
  -- however the answering of lines ended, a beginning of the answers was written
  pub however_ended : (r : Result X LineError) → AreAnswered answer r bytes left old new → AnswersBeginning answer bytes old new
  however_ended (Ok x) told = (left, consumes_as bytes left _ _ (λ r. beginning_of_all old new (answer_text answer r)) told.ok)
  however_ended (Err ended.Read) told = (left, consumes_as bytes left _ _ (beginning_of_whole answer old new) (told.read refl))
  however_ended (Err ended.Write) told = (left, told.write refl)
  however_ended (Err ended.Memory) told = (left, consumes_as bytes left _ _ (λ r. beginning_of_first answer old new (lines r)) (told.memory refl))

  -- where it ended well, all lines were answered
  pub ended_well : (r : Result X LineError) → AreAnswered answer r bytes left old new → OnOk r (AnswersAll answer bytes old new)
  ended_well (Ok x) told = (left, told.end, told.ok)
  ended_well (Err e) told = tt

-- a beginning of the answers stays one, if then known bytes are kept
begun_kept :
    (answer : List ℕ → List ℕ) (bytes old mid new : Option (List ℕ)) → AnswersBeginning answer bytes old mid → Keeps mid new
    → AnswersBeginning answer bytes old new
begun_kept answer bytes old mid new (left, begun) kept =
    (left, consumes_as bytes left _ _ (λ r wrote. beginning_kept old mid new (answer_text answer r) wrote kept) begun)

-- the same where the devices are those that were given
pub answers_beginning :
    {X Y : Type 0} (bytes : X → Option (List ℕ)) (contents : Y → Option (List ℕ)) (answer : List ℕ → List ℕ) (reader given : X)
    (out taken mid back new : Y) → given ≡ reader → taken ≡ out → back ≡ mid
    → AnswersBeginning answer (bytes given) (contents taken) (contents mid) → Keeps (contents back) (contents new)
    → AnswersBeginning answer (bytes reader) (contents out) (contents new)
answers_beginning bytes contents answer reader given out taken mid back new same_reader same_out same_back begun kept =
    subst (λ x. AnswersBeginning answer (bytes x) (contents out) (contents new)) same_reader
    (subst (λ y. AnswersBeginning answer (bytes given) (contents y) (contents new)) same_out
    (begun_kept answer (bytes given) (contents taken) (contents mid) (contents new) begun
    (subst (λ y. Keeps (contents y) (contents new)) same_back kept)))

-- a grammar text, and the table of its grammar
pub has_table :
    (bytes : Option (List ℕ)) (g : Grammar) (b : Table) → IsSomeAnd bytes (λ bs. MeansGrammar bs g) → IsMergedTable g b → AcceptsAlone g
    → IsSomeAnd bytes (λ bs. HasTable bs g b)
has_table None g b means table accepts = absurd means
has_table (Some bs) g b means table accepts = record { means = means; table = table; accepts = accepts }

-- what holds where lines were answered well by the machine of a table does so where that result is passed on
pub passed_on :
    {X E F : Type 0} (bytes : Option (List ℕ)) (g : Grammar) (b : Table) (reply : Reply) (steps : ℕ) (P : (List ℕ → List ℕ) → Type 0)
    (answered : Result X E) (told : Result X F) → is_ok told ≡ is_ok answered → IsSomeAnd bytes (λ bs. HasTable bs g b)
    → OnOk answered (P (reply_text reply g b steps)) → OnOk told (HasMachine bytes reply steps P)
passed_on None g b reply steps P answered told same has holds = absurd has
passed_on (Some bs) g b reply steps P answered (Err e) same has holds = tt
passed_on (Some bs) g b reply steps P (Ok x) (Ok y) same has holds = (g, b, has, holds)
passed_on (Some bs) g b reply steps P (Err e) (Ok y) same has holds = let wrong : true ≡ false = same in absurd (cc)

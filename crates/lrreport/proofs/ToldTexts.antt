-- texts that tell a conclusion
use Rattle.std.proofs.Common.{◌≡◌, ◌≢◌, ◌++◌, ℕ, Bool, List, [], map, take, Option, None, Some, Result, Ok, Err, String, Global, true, refl, ap, sym, subst, ◌∙◌}
use Rattle.std.specs.Prelude.{IfNone, IfOk, IfSome, IsTrue, string_bytes}
use Rattle.std.specs.declared.alloc.AllocError.{AllocError}
use Rattle.lrwriter.specs.Texts.{Adds, Held}
use Rattle.lrdiagnostics.specs.Places.{AddsPlaces, TellsPlaces}
use Rattle.lrreport.specs.declared.options.Output.{Output}
use Rattle.lrreport.specs.declared.options.Output.TheVariants.{Report, Summary, Json, Grammar, States, Sarif}
use Rattle.lrreport.specs.ToldConclusions.{EndsIn, Tells}
use Rattle.lrreport.specs.declared.known.Unread.{Unread}
use Rattle.lrreport.specs.declared.options.Options.{Options}
use Rattle.lrreport.specs.ToldFaults.{most_told, TellsFaults, TellsRefusal, TellsUnread}

-- a text to which the line is added at last ends in it
pub ends_in :
    (r : Result (String Global) AllocError) (old new : Held) (line : List ℕ)
    → Adds old new line → IfOk r (λ s. new ≡ record { bytes = string_bytes s; is_whole = true })
    → IfOk r (λ s. EndsIn line (string_bytes s))
ends_in (Ok s) old new line adds is =
    let whole : IsTrue new.is_whole = subst (λ held. IsTrue held.is_whole) (sym is) refl in
    record {
      front = old.bytes;
      is = sym (ap (λ held. held.bytes) is) ∙ adds.bytes whole;
    }
ends_in (Err e) old new line adds is = tt

-- a text to which nothing else was added than words that tell places tells them
pub tells_in :
    (r : Result (String Global) AllocError) (old new : Held) (name bytes ats : List ℕ)
    → old.bytes ≡ [] → AddsPlaces old new name bytes ats → IfOk r (λ s. new ≡ record { bytes = string_bytes s; is_whole = true })
    → IfOk r (λ s. TellsPlaces name bytes ats (string_bytes s))
tells_in (Ok s) old new name bytes ats empty added is =
    let whole : IsTrue new.is_whole = subst (λ held. IsTrue held.is_whole) (sym is) refl in
    let words : added.words ≡ string_bytes s =
    sym (ap (λ l. l ++ added.words) empty) ∙ (sym (added.adds.bytes whole) ∙ ap (λ held. held.bytes) is) in
    subst (TellsPlaces name bytes ats) words added.tells
tells_in (Err e) old new name bytes ats empty added is = tt

-- so it is told why nothing is checked, where the places are those of the first faults
pub tells_unread :
    (r : Result (String Global) AllocError) (options : Options) (unread : Unread) (ats : List ℕ) → unread.why ≡ None
    → ats ≡ map (λ fault. fault.span.start) (take (most_told options) unread.faults.now)
    → IfOk r (λ s. TellsPlaces unread.source.now.name.now unread.source.now.bytes.now ats (string_bytes s))
    → IfOk r (λ s. TellsUnread options unread (string_bytes s))
tells_unread (Ok s) options unread ats none is told =
    let places = subst (λ l. TellsPlaces unread.source.now.name.now unread.source.now.bytes.now l (string_bytes s)) is told in
    record {
      faults = subst (λ why. IfNone why (TellsFaults options unread.source.now.name.now unread.source.now.bytes.now unread.faults.now (string_bytes s))) (sym none) places;
      refusal = subst (λ why. IfSome why (λ words. TellsRefusal unread.source.now.name.now (string_bytes s))) (sym none) tt;
    }
tells_unread (Err e) options unread ats none is told = tt

tells_lines :
    (o : Output) (columns : Option ℕ) (line head text : List ℕ) → o ≢ Summary → ((grammar : Bool) → o ≢ Json grammar)
    → (columns ≡ None → EndsIn line text) → Tells o columns line head text
tells_lines Report None line head text no_summary no_json ends = ends refl
tells_lines Report (Some n) line head text no_summary no_json ends = tt
tells_lines Summary columns line head text no_summary no_json ends = absurd (no_summary refl)
tells_lines (Json grammar) columns line head text no_summary no_json ends = absurd (no_json grammar refl)
tells_lines Grammar columns line head text no_summary no_json ends = tt
tells_lines States None line head text no_summary no_json ends = ends refl
tells_lines States (Some n) line head text no_summary no_json ends = tt
tells_lines Sarif columns line head text no_summary no_json ends = tt

-- lines that are no summary tell it by their last one
pub lines_tell :
    (r : Result (String Global) AllocError) (o : Output) (columns : Option ℕ) (line head : List ℕ) → o ≢ Summary → ((grammar : Bool) → o ≢ Json grammar)
    → (columns ≡ None → IfOk r (λ s. EndsIn line (string_bytes s)))
    → IfOk r (λ s. Tells o columns line head (string_bytes s))
lines_tell (Ok s) o columns line head no_summary no_json ends = tells_lines o columns line head (string_bytes s) no_summary no_json ends
lines_tell (Err e) o columns line head no_summary no_json ends = tt

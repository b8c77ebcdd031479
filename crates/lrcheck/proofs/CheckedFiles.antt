-- a file more
use Rattle.std.proofs.Common.{◌≡◌, Bool, Bor, ℕ, ◌+◌, ◌<◌, List, Option, length, map, take, get_or, arith}
use Rattle.std.specs.Prelude.{max}
use Rattle.std.specs.Io.KnownBytes.{Appends}
use Rattle.std.proofs.lemmas.List.{take_more, get_or-map, length-map}
use Rattle.lrreport.specs.declared.options.Options.{Options}
use Rattle.lrcheck.specs.declared.files.Outcome.{Outcome}
use Rattle.lrcheck.specs.Checked.{AreChecked, FileContents, IsOutcomeOf, IsPageStatus, outcome_status, text_of}

pub one_more :
    (options : Options) (contents : FileContents) (asks : Bool) (old before after : Option (List ℕ)) (names : List (Bor (List ℕ))) (k : ℕ) (d : Bor (List ℕ)) (status page : ℕ) (o : Outcome)
    → k < length names
    → AreChecked options contents asks old (take k (map (λ name. name.now) names)) before status
    → IsOutcomeOf options contents (get_or names k d).now o → Appends before after (text_of o) → IsPageStatus asks page
    → AreChecked options contents asks old (take (k + 1) (map (λ name. name.now) names)) after (max (max (outcome_status o) status) page)
one_more options contents asks old before after names k d status page o inside checked outcome appends paged =
    let within : k < length (map (λ name. name.now) names) = omega (arith, inside, length-map names (λ name. name.now)) in
    rw (take_more (map (λ name. name.now) names) k d.now within, get_or-map (λ name. name.now) names k d)
    (AreChecked.more (get_or names k d).now o page checked outcome appends paged)

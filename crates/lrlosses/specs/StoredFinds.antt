-- what is found at the candidates of cells, as the code stores it
use Rattle.lrtable.specs.RunAnswers.{text_of}
use Rattle.lrconflicts.specs.StoredMoves.{move_of}
use Rattle.lrlosses.specs.declared.checks.Candidate as stored
use Rattle.lrlosses.specs.declared.checks.Find.{Find}
use Rattle.lrlosses.specs.FoundLosses.{Tabled, Candidate, IsLostAt}
use Rattle.lrgrammar.specs.Symbols.{number_of}

-- a candidate by its numbers
abbrev pub candidate_of : stored.Candidate → Candidate
candidate_of x = record {
  state = x.state.0;
  token = x.token.0;
  action = move_of number_of x.action;
}

-- what is found is lost at the candidate
abbrev pub IsFoundAt : Tabled → stored.Candidate → Find → Type 0
IsFoundAt b x f = IsLostAt b (candidate_of x) (text_of number_of f.text.tokens.items) f.loss

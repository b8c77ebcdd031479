-- example texts: which are documents, and where the others stop being one
use Rattle.std.proofs.Common.{◌≡◌, [], ◌∷◌, None, Some, map, take, refl, codes}
use Rattle.std.specs.List.{range_with_len}
use Rattle.lrspec.specs.texts.Documents.{IsSyntaxErrorAt}
use Rattle.lrspec.proofs.texts.SyntaxErrors.{text_error, syntax_error_iff}

-- a document
document_passes : text_error (codes "%% S: 'a';") ≡ None
document_passes = refl

-- a rule without its colon
no_colon : IsSyntaxErrorAt (codes "%% S 'a';") 5
no_colon = (syntax_error_iff (codes "%% S 'a';") 5).0 refl

-- a rule without its end
no_semicolon : IsSyntaxErrorAt (codes "%% S: 'a'") 9
no_semicolon = (syntax_error_iff (codes "%% S: 'a'") 9).0 refl

-- a quote that is not closed
open_quote : IsSyntaxErrorAt (codes "%% S: 'a") 6
open_quote = (syntax_error_iff (codes "%% S: 'a") 6).0 refl

-- nothing
empty_text : IsSyntaxErrorAt [] 0
empty_text = (syntax_error_iff [] 0).0 refl

-- two `%start`
second_start : IsSyntaxErrorAt (codes "%start S %start S %% S: ;") 9
second_start = (syntax_error_iff (codes "%start S %start S %% S: ;") 9).0 refl

-- nothing between two quotes
empty_quote : IsSyntaxErrorAt (codes "%% S: '' ;") 6
empty_quote = (syntax_error_iff (codes "%% S: '' ;") 6).0 refl

-- a comment that is not closed
open_comment : IsSyntaxErrorAt (codes "%% S: ; /* x") 8
open_comment = (syntax_error_iff (codes "%% S: ; /* x") 8).0 refl

-- a word ends where its letters do
digit_behind_word : IsSyntaxErrorAt (codes "%start1 S") 6
digit_behind_word = (syntax_error_iff (codes "%start1 S") 6).0 refl

-- a `%` behind `%%`
three_percents : IsSyntaxErrorAt (codes "%%%") 2
three_percents = (syntax_error_iff (codes "%%%") 2).0 refl

-- one `*` does not open and close a comment
unclosed_star : IsSyntaxErrorAt (codes "%% S: ; /*/") 8
unclosed_star = (syntax_error_iff (codes "%% S: ; /*/") 8).0 refl

-- a word that is not in the table
unknown_word : IsSyntaxErrorAt (codes "%% S: 'a' %precedence 'b';") 10
unknown_word = (syntax_error_iff (codes "%% S: 'a' %precedence 'b';") 10).0 refl

-- an open quote behind the second `%%`
unread_quote : text_error (codes "%token a %% S: a \"b\" | 'a'; %% '") ≡ None
unread_quote = refl

-- the beginnings of a document of 10 bytes: those of 2, 3 and 10 bytes are documents
beginnings : map (λ n. text_error (take n (codes "%% S: 'a';"))) (range_with_len 0 11)
    ≡ Some 0 ∷ Some 0 ∷ None ∷ None ∷ Some 4 ∷ Some 5 ∷ Some 6 ∷ Some 6 ∷ Some 6 ∷ Some 9 ∷ None ∷ []
beginnings = refl

-- a name has to stand behind `%prec`
no_precedence_name : IsSyntaxErrorAt (codes "%% S: %prec;") 11
no_precedence_name = (syntax_error_iff _ 11).0 refl

-- and nothing else of the body
name_behind_precedence : IsSyntaxErrorAt (codes "%% S: 'a' %prec 'b' 'c';") 20
name_behind_precedence = (syntax_error_iff _ 20).0 refl

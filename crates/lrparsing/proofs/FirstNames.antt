-- what words begin with, by the first of some spellings
use Rattle.std.proofs.Common.{◌≡◌, ℕ, nat_lt, true, false, List, ◌∷◌, length, None, Some, refl}
use Rattle.std.specs.Prelude.{string_bytes}
use Rattle.lrspec.specs.texts.Lines.{words}
use Rattle.lrparsing.specs.declared.spellings.Spelling.{Spelling}
use Rattle.lrparsing.specs.Lines.{behind, front_of, first_named}

module _ (s : Spelling) (ss : List Spelling) (ws : List (List ℕ)) where
  -- its words stand elsewhere
  pub not_there : behind (words (string_bytes s.name)) ws ≡ None → first_named (s ∷ ss) ws ≡ first_named ss ws
  not_there e = rw e refl

  module _ (rest : List (List ℕ)) (there : behind (words (string_bytes s.name)) ws ≡ Some rest) where
    -- it has no words
    pub no_words : nat_lt (length rest) (length ws) ≡ false → first_named (s ∷ ss) ws ≡ first_named ss ws
    no_words e = rw (there, e) refl

    -- its words stand first
    pub there_first : nat_lt (length rest) (length ws) ≡ true → first_named (s ∷ ss) ws ≡ Some (front_of s.token.0 rest)
    there_first e = rw (there, e) refl

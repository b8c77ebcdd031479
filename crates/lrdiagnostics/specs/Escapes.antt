-- text between the tags of a page, and in the values of attributes
use Rattle.std.specs.Prelude.{◌≢◌, ℕ, ◌==◌, List, [], ◌∷◌, codes, if◌then◌else◌}
use Rattle.std.specs.List.{flat_map}

-- what stands for a byte: for < > & " ' an entity, and for each other one that byte
abbrev pub entity : ℕ → List ℕ
entity b =
    if b == 60 then codes "&lt;"
    else (if b == 62 then codes "&gt;"
    else (if b == 38 then codes "&amp;"
    else (if b == 34 then codes "&quot;"
    else (if b == 39 then codes "&#39;"
    else b ∷ []))))

-- what stands for a text
abbrev pub escaped : List ℕ → List ℕ
escaped text = flat_map entity text

-- a byte is none of < > " '
pub record IsPlain (b : ℕ) : Type 0 where
  pub no_tag : b ≢ 60
  pub no_end : b ≢ 62
  pub no_quote : b ≢ 34
  pub no_apostrophe : b ≢ 39

-- lines that are filled word by word
use Rattle.std.proofs.Common.{◌≡◌, ℕ, ◌+◌, ◌-◌, min, List, ◌++◌, length, append_assoc}
use Rattle.lrspec.specs.texts.PrintedTexts.{spaces}
use Rattle.lrreasons.specs.Lines.{words_text, line_text}

-- a line begins with spaces and its label
pub line_begun :
    (indent hang room : ℕ) (old mid new label : List ℕ) → mid ≡ old ++ spaces indent → new ≡ mid ++ label → hang ≡ min (indent + length label + 1) 40 → room ≡ 80 - indent - length label
    → (ws : List (List ℕ)) → new ++ words_text hang room ws ≡ old ++ line_text indent label ws
unfolding line_text
line_begun indent hang room old mid new label m e h r ws = rw (e, m, h, r) (simp append_assoc)

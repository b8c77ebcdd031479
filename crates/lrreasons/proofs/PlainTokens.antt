-- no token of those without precedences has one
use Rattle.std.proofs.Common.{◌≡◌, ℕ, zero, suc, List, [], ◌∷◌, map, ap, refl}
use Rattle.std.specs.Prelude.{None, slice_get}
use Rattle.lrspec.specs.tables.LrTables.{HasNoPrecedences}
use Rattle.lrspec.specs.texts.Parts.{PartToken, Parts, precedences_of, grammar_of_parts}
use Rattle.lrreasons.specs.Precedences.{plain_token, without_precedences}
use Rattle.std.specs.Option.{option_and_then}

none_at : (ts : List PartToken) (t : ℕ) → option_and_then (λ o. o) (slice_get (precedences_of (map plain_token ts)) t) ≡ None
none_at [] t = refl
none_at (x ∷ ts) zero = refl
none_at (x ∷ ts) (suc t) = none_at ts t

pub none_left : (ps : Parts) → HasNoPrecedences (grammar_of_parts (without_precedences ps))
none_left ps t = none_at ps.tokens t

-- the parts with other tokens
abbrev pub with_tokens : Parts → List PartToken → Parts
with_tokens ps ts = record { rules = ps.rules; tokens = ts; prods = ps.prods; start = ps.start }

pub plain_parts : (ps : Parts) (ts : List PartToken) → ts ≡ map plain_token ps.tokens → with_tokens ps ts ≡ without_precedences ps
plain_parts ps ts e = ap (with_tokens ps) e

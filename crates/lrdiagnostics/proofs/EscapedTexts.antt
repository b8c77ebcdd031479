-- text between tags holds no marks, and only marks are told otherwise
use Rattle.std.proofs.Common.{◌≡◌, ◌≢◌, ℕ, ◌<◌, suc, List, [], ◌∷◌, ◌++◌, length, get_or, drop, All, refl, sym, ap, subst, ◌∙◌, arith, inl, inr, append-nil, encode_utf8, Bool, true, false}
use lib.Utf8.{encodes}
use Rattle.std.proofs.lemmas.Str.{encodes-append}
use Rattle.std.specs.Prelude.{if◌then◌else◌, ◌==◌, IsTrue}
use Rattle.std.specs.List.{list_all}
use Rattle.std.proofs.lemmas.Bool.{and_parts}
use Rattle.std.proofs.lemmas.Bool.{cases_lt}
use Rattle.std.proofs.lemmas.List.Elements.{All-nil, All-cons, All-append}
use Rattle.std.proofs.lemmas.List.Concat.{flat_map-append}
use Rattle.std.proofs.lemmas.Str.{inside_one}
use Rattle.lrwriter.specs.Texts.{Adds, Held}
use Rattle.lrdiagnostics.specs.Escapes.{entity, escaped, IsPlain}

-- a byte that has no entity
entity_other : (b : ℕ) → b ≢ 60 → b ≢ 62 → b ≢ 38 → b ≢ 34 → b ≢ 39 → entity b ≡ b ∷ []
entity_other b p q r s t = grind arith

-- bytes of which none has an entity
escaped_others : (bs : List ℕ) → ((k : ℕ) → k < length bs → entity (get_or bs k 0) ≡ get_or bs k 0 ∷ []) → escaped bs ≡ bs
escaped_others [] f = refl
escaped_others (b ∷ bs) f =
    let first : entity b ≡ b ∷ [] = f 0 (omega arith) in
    let others : escaped bs ≡ bs = escaped_others bs (λ k l. f (suc k) (omega arith)) in
    ap (λ x. x ++ escaped bs) first ∙ ap (λ xs. b ∷ xs) others

-- a character that has no entity
pub escaped_character : (c : ℕ) → c ≢ 60 → c ≢ 62 → c ≢ 38 → c ≢ 34 → c ≢ 39 → escaped (encode_utf8 c) ≡ encode_utf8 c
escaped_character c p q r s t =
    escaped_others (encode_utf8 c) (λ k l. elim (cases_lt (get_or (encode_utf8 c) k 0) 128) [
      | inl small ↦
          let same : c ≡ get_or (encode_utf8 c) k 0 = inside_one c [] (encode_utf8 c) k (sym (append-nil (encode_utf8 c))) l small in
          subst (λ b. entity b ≡ b ∷ []) same (entity_other c p q r s t)
      | inr large ↦ entity_other (get_or (encode_utf8 c) k 0) (omega arith) (omega arith) (omega arith) (omega arith) (omega arith)
    ])

-- a byte that is no mark, by a test
is_plain : ℕ → Bool
is_plain b = if b == 60 then false else (if b == 62 then false else (if b == 34 then false else (if b == 39 then false else true)))

plain_by_test : (b : ℕ) → is_plain b ≡ true → IsPlain b
unfolding is_plain
plain_by_test b e = record {
  no_tag = grind arith;
  no_end = grind arith;
  no_quote = grind arith;
  no_apostrophe = grind arith;
}

all_by_test : (bs : List ℕ) → list_all is_plain bs ≡ true → All IsPlain bs
all_by_test [] e = All-nil IsPlain
all_by_test (b ∷ bs) e =
    let parts = and_parts _ _ e in
    All-cons IsPlain b bs (plain_by_test b parts.0) (all_by_test bs parts.1)

plain_entity : (b : ℕ) → All IsPlain (entity b)
unfolding is_plain
plain_entity b = all_by_test (entity b) (grind arith)

-- what stands for a text has no marks
pub all_plain : (text : List ℕ) → All IsPlain (escaped text)
all_plain [] = All-nil IsPlain
all_plain (b ∷ text) = All-append IsPlain (entity b) (escaped text) (plain_entity b) (all_plain text)

-- a further character
pub escaped_more : (cs : List ℕ) (c : ℕ) → escaped (encodes cs) ++ escaped (encode_utf8 c) ≡ escaped (encodes (cs ++ c ∷ []))
escaped_more cs c =
    let last : encodes (cs ++ c ∷ []) ≡ encodes cs ++ encode_utf8 c = encodes-append cs (c ∷ []) ∙ ap (λ x. encodes cs ++ x) (append-nil (encode_utf8 c)) in
    sym (flat_map-append entity (encodes cs) (encode_utf8 c)) ∙ ap escaped (sym last)

drop_front : (front rest : List ℕ) → drop (length front) (front ++ rest) ≡ rest
drop_front [] rest = refl
drop_front (b ∷ front) rest = drop_front front rest

-- what is added is without marks
pub plain_behind : (old new : Held) (text : List ℕ) → Adds old new (escaped text) → IsTrue new.is_whole → All IsPlain (drop (length old.bytes) new.bytes)
plain_behind old new text adds whole = rw (adds.bytes whole) (rw (drop_front old.bytes (escaped text)) (all_plain text))

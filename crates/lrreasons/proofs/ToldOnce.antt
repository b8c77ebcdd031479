-- reasons that are told one after the other
use Rattle.std.proofs.Common.{◌≡◌, ◌≢◌, ℕ, ◌==◌, ◌+◌, ◌<◌, Bool, true, false, List, [], ◌∷◌, ◌++◌, length, map, get_or, take, drop, append_assoc, append-nil, sym, ap, ◌∙◌, refl, arith}
use Rattle.std.specs.Prelude.{codes, filter, if◌then◌else◌}
use Rattle.std.specs.List.{list_any}
use Rattle.std.proofs.lemmas.List.{map-append, take_more, drop_more}
use Rattle.std.proofs.lemmas.List.Elements.{filter_more}
use Rattle.std.proofs.lemmas.Bool.Decides.{nat_tests}
use Rattle.lrspec.specs.grammars.Grammar.{Symbol, Grammar}
use Rattle.lrreasons.specs.declared.reasons.Reason.{Reason}
use Rattle.lrreasons.specs.Words.{words_of}
use Rattle.lrreasons.specs.Lines.{line_text}
use Rattle.lrreasons.specs.Texts.{likewise_line}
use Rattle.lrreasons.specs.StoredTexts.{are_alike, reason_text, likewise_text, reasons_text}

module _ {X Y Z : Type 0} (p : X → Bool) (f : X → Y) (h : Y → Z) (xs : List X) (i : ℕ) (x : X) (old : List Z) where
  -- an element passes a test, or not
  pub kept_more :
      (new : List Z) → i < length xs → x ≡ get_or xs i x → p x ≡ true → old ≡ map h (map f (filter p (take i xs)))
      → new ≡ old ++ h (f x) ∷ [] → new ≡ map h (map f (filter p (take (i + 1) xs)))
  kept_more new l at passes o n =
      let kept = filter p (take i xs) in
      rw (filter_more p xs i x l, ← at, passes, map-append f kept (x ∷ []), map-append h (map f kept) (f x ∷ []), ← o) n

  pub passed_over :
      i < length xs → x ≡ get_or xs i x → p x ≡ false → old ≡ map h (map f (filter p (take i xs)))
      → old ≡ map h (map f (filter p (take (i + 1) xs)))
  passed_over l at fails o = rw (filter_more p xs i x l, ← at, fails, append-nil (filter p (take i xs))) o

-- what a test of a number with 0 says
pub is_zero : (n : ℕ) (r : Bool) → r ≡ (n == 0) → r ≡ true → n ≡ 0
is_zero n r e t = grind (arith, nat_tests)

pub is_positive : (n : ℕ) (r : Bool) → r ≡ (n == 0) → r ≡ false → n ≢ 0
is_positive n r e t = grind (arith, nat_tests)

module _ (g : Grammar) (old : List ℕ) (ws : List (List ℕ)) where
  -- no tokens to be told, and some
  pub no_others : (xs : List Symbol) → ws ≡ words_of g xs → ws ≡ [] → old ≡ old ++ likewise_line g xs
  no_others [] e none = sym (append-nil old)
  no_others (x ∷ xs) e none = cc

  pub some_others : (xs : List Symbol) → ws ≡ words_of g xs → ¬ (ws ≡ []) → likewise_line g xs ≡ line_text 6 (codes "likewise on") ws
  some_others [] e some = absurd (some e)
  some_others (x ∷ xs) e some = rw e refl

module _ (g : Grammar) (rs : List Reason) (i : ℕ) (r : Reason) where
  -- one reason, and those behind it
  told_more :
      i < length rs → r ≡ get_or rs i r
      → reasons_text g (take i rs) (drop i rs)
      ≡ (if list_any (are_alike r) (take i rs) then [] else reason_text g r ++ likewise_text g r (drop (i + 1) rs))
      ++ reasons_text g (take (i + 1) rs) (drop (i + 1) rs)
  told_more l at =
      let taken : take (i + 1) rs ≡ take i rs ++ r ∷ [] = take_more rs i r l ∙ ap (λ y. take i rs ++ y ∷ []) (sym at) in
      let left : drop i rs ≡ r ∷ drop (i + 1) rs = drop_more rs i r l ∙ ap (λ y. y ∷ drop (i + 1) rs) (sym at) in
      rw (left, taken) refl

  -- a reason is left out
  pub left_out :
      (old whole : List ℕ) → i < length rs → r ≡ get_or rs i r → list_any (are_alike r) (take i rs) ≡ true
      → old ++ reasons_text g (take i rs) (drop i rs) ≡ whole → old ++ reasons_text g (take (i + 1) rs) (drop (i + 1) rs) ≡ whole
  left_out old whole l at alike h = rw (told_more l at, alike) at h

  -- a reason is told
  pub told_next :
      (old mid new whole : List ℕ) → i < length rs → r ≡ get_or rs i r → list_any (are_alike r) (take i rs) ≡ false
      → old ++ reasons_text g (take i rs) (drop i rs) ≡ whole → mid ≡ old ++ reason_text g r
      → new ≡ mid ++ likewise_text g r (drop (i + 1) rs) → new ++ reasons_text g (take (i + 1) rs) (drop (i + 1) rs) ≡ whole
  told_next old mid new whole l at alike h m n =
      rw (n, m) (simp append_assoc (simp append_assoc at (rw (told_more l at, alike) at h)))

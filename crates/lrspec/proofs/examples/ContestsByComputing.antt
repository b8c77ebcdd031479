-- the tokens that a test of the entries lets through are all that are contested
use Rattle.std.proofs.Common.{◌≡◌, ℕ, suc, Bool, true, false, not, ◌||◌, List, [], ◌∷◌, length, refl, sym, ap, ◌∙◌, arith, Option, Some, inl, inr}
use Rattle.std.specs.Prelude.{◌==◌}
use Rattle.std.specs.List.{list_all, list_any}
use Rattle.std.proofs.Math.Seq.{drop-length}
use Rattle.std.proofs.lemmas.Bool.{or_cases, eqb-true, eq-eqb}
use Rattle.lrspec.specs.grammars.Grammar.{Symbol, Rule, Token, Grammar, body_of, rest}
use Rattle.lrspec.specs.grammars.Candidates as candidate
use Rattle.lrspec.specs.grammars.Candidates.{Candidate, IsCandidate, IsContested}
use Rattle.lrspec.specs.merging.Graph.{same_symbol}
use Rattle.lrspec.proofs.grammars.ListMembers.{Among, test_from_among}
use Rattle.lrspec.proofs.examples.ItemEntries.{Entry, same_list, all_among, tokens_at, entry_found, implied, is_asked}
use Rattle.lrspec.proofs.examples.ItemsByComputing.{is_enumeration, stands_listed, looks_listed}

-- the tokens on which something can be done by an item with this rest
abbrev pub acts_by : List Symbol → List ℕ → List ℕ
acts_by [] ts = ts
acts_by (Rule r ∷ y) ts = []
acts_by (Token t ∷ y) ts = t ∷ []

-- what that is: 0 for a shift, and one more than the production that is complete
abbrev pub code_by : List Symbol → ℕ → ℕ
code_by [] p = suc p
code_by (x ∷ y) p = 0

abbrev pub acts : Grammar → Entry → List ℕ
acts g e = acts_by (rest g e.1 e.2) e.3

abbrev pub code : Grammar → Entry → ℕ
code g e = code_by (rest g e.1 e.2) e.1

-- whether two entries say the same wherever both act after one list, but for the tokens that are let through
abbrev pub agree : Grammar → (List Symbol → ℕ → Bool) → Entry → Entry → Bool
agree g allow e f = not (same_list e.0 f.0) || ((code g e == code g f) || list_all (λ t. allow e.0 t || not (list_any (λ u. u == t) (acts g f))) (acts g e))

abbrev pub agree_all : Grammar → (List Symbol → ℕ → Bool) → List Entry → Bool
agree_all g allow es = list_all (λ e. list_all (agree g allow e) es) es

abbrev code_of : Grammar → Candidate → ℕ
code_of g candidate.Candidate.Shift = 0
code_of g (candidate.Candidate.Reduce p) = suc p
code_of g candidate.Candidate.Accept = suc g.start_production

-- two candidates of one code are the same
code_same :
    {g : Grammar} {w : List Symbol} {t : ℕ} {c d : Candidate} → IsCandidate g w t c → IsCandidate g w t d → code_of g c ≡ code_of g d → c ≡ d
code_same (candidate.IsCandidate.shift s b) (candidate.IsCandidate.shift r f) e = refl
code_same (candidate.IsCandidate.shift s b) (candidate.IsCandidate.reduce n l) e = absurd (omega (arith, e))
code_same (candidate.IsCandidate.shift s b) (candidate.IsCandidate.accept l) e = absurd (omega (arith, e))
code_same (candidate.IsCandidate.reduce n l) (candidate.IsCandidate.shift r f) e = absurd (omega (arith, e))
code_same (candidate.IsCandidate.reduce {p = p} n l) (candidate.IsCandidate.reduce {p = q} m k) e = ap candidate.Candidate.Reduce (omega (arith, e))
code_same (candidate.IsCandidate.reduce n l) (candidate.IsCandidate.accept k) e = absurd (n (omega (arith, e)))
code_same (candidate.IsCandidate.accept l) (candidate.IsCandidate.shift r f) e = absurd (omega (arith, e))
code_same (candidate.IsCandidate.accept l) (candidate.IsCandidate.reduce n k) e = absurd (n (omega (arith, e)))
code_same (candidate.IsCandidate.accept l) (candidate.IsCandidate.accept k) e = refl

same_symbol_itself : (x : Symbol) → same_symbol x x ≡ true
same_symbol_itself (Rule r) = eq-eqb r r refl
same_symbol_itself (Token t) = eq-eqb t t refl

same_list_itself : (w : List Symbol) → same_list w w ≡ true
same_list_itself [] = refl
same_list_itself (x ∷ w) = rw (same_symbol_itself x) (same_list_itself w)

unless : (a b : Bool) → (a || not b) ≡ true → b ≡ true → a ≡ true
unless true b e h = refl
unless false true e h = cc
unless false false e h = cc

module _ (g : Grammar) (most : Option ℕ) (null : ℕ → Bool) (begins : ℕ → List ℕ) (es : List Entry) (holds : is_enumeration g most null begins es ≡ true) where
  -- an entry by which the token has the candidate after the list
  record Gives (w : List Symbol) (t : ℕ) (c : Candidate) : Type 0 where
    production : ℕ
    dot : ℕ
    tokens : List ℕ
    among : Among (w, production, dot, tokens) es
    act : Among t (acts g (w, production, dot, tokens))
    same : code g (w, production, dot, tokens) ≡ code_of g c

  complete_gives :
      (w : List Symbol) (p t : ℕ) (c : Candidate) → (ts : List ℕ) × (tokens_at es w p (length (body_of g p)) ≡ Some ts) × Among t ts
      → code_of g c ≡ suc p → Gives w t c
  complete_gives w p t c (ts, k, i) e = record {
    production = p;
    dot = length (body_of g p);
    tokens = ts;
    among = entry_found es w p (length (body_of g p)) ts k;
    act = rw (drop-length (body_of g p)) i;
    same = rw (drop-length (body_of g p)) (sym e);
  }

  gives : {w : List Symbol} {t : ℕ} {c : Candidate} → IsCandidate g w t c → is_asked most w ≡ true → Gives w t c
  gives {w} {t} (candidate.IsCandidate.shift {p = p} {d = d} s b) a =
      let (ts, k) = stands_listed g most null begins es holds s a in
      record { production = p; dot = d; tokens = ts; among = entry_found es w p d ts k; act = rw b.1 (inl refl); same = rw b.1 refl }
  gives {w} {t} (candidate.IsCandidate.reduce {p = p} n l) a = complete_gives w p t (candidate.Candidate.Reduce p) (looks_listed g most null begins es holds l a) refl
  gives {w} {t} (candidate.IsCandidate.accept l) a = complete_gives w g.start_production t candidate.Candidate.Accept (looks_listed g most null begins es holds l a) refl

  allowed_by :
      (allow : List Symbol → ℕ → Bool) (w : List Symbol) (t : ℕ) (e f : Entry) → e.0 ≡ w → f.0 ≡ w → agree g allow e f ≡ true
      → Among t (acts g e) → Among t (acts g f) → ((code g e ≡ code g f) → ⊥) → allow w t ≡ true
  allowed_by allow w t e f i j k m n differ =
      let shared = implied (same_list e.0 f.0) _ k (rw (i, j) (same_list_itself w)) in
      elim (or_cases (code g e == code g f) _ shared) [
        | inl z ↦ absurd (differ (eqb-true (code g e) (code g f) z))
        | inr z ↦
            let at = all_among (λ t. allow e.0 t || not (list_any (λ u. u == t) (acts g f))) t (acts g e) z m in
            rw (← i) (unless (allow e.0 t) (list_any (λ u. u == t) (acts g f)) at (test_from_among t (acts g f) n))
      ]

  pair_allowed :
      (allow : List Symbol → ℕ → Bool) → agree_all g allow es ≡ true → (w : List Symbol) (t : ℕ) (c d : Candidate)
      → Gives w t c → Gives w t d → (code_of g c ≡ code_of g d → ⊥) → allow w t ≡ true
  pair_allowed allow agreed w t c d a b differ =
      let pass = all_among (λ e. list_all (agree g allow e) es) (w, a.production, a.dot, a.tokens) es agreed a.among in
      allowed_by allow w t (w, a.production, a.dot, a.tokens) (w, b.production, b.dot, b.tokens) refl refl
      (all_among (agree g allow (w, a.production, a.dot, a.tokens)) (w, b.production, b.dot, b.tokens) es pass b.among)
      a.act b.act (λ e. differ (sym a.same ∙ (e ∙ b.same)))

  -- after lists that are asked for only tokens that are let through are contested
  pub contested_within :
      (allow : List Symbol → ℕ → Bool) → agree_all g allow es ≡ true → (w : List Symbol) (t : ℕ) → IsContested g w t → is_asked most w ≡ true → allow w t ≡ true
  contested_within allow agreed w t k a =
      pair_allowed allow agreed w t k.one k.other (gives k.is_one a) (gives k.is_other a) (λ e. k.differ (code_same k.is_one k.is_other e))

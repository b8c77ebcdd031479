-- names of rules among lexemes
use Rattle.std.proofs.Common.{◌≡◌, ℕ, zero, suc, ◌+◌, ◌&&◌, ◌||◌, if◌then◌else◌, subst, Bool, true, false, List, [], ◌∷◌, ◌++◌, length, slice_index_or, slice_set, refl, ap, sym, ◌∙◌, arith}
use Rattle.lryacc.specs.declared.lexemes.Lexeme.{Lexeme}
use Rattle.lryacc.specs.declared.lexemes.LexemeKind.{LexemeKind}
use Rattle.lryacc.specs.declared.places.Span.{Span}
use Rattle.lryacc.specs.declared.lexemes.LexemeKind.TheVariants as kind
use Rattle.lryacc.specs.Lexemes.{as_rule, follow_rule, go_before_colon, is_between, is_colon, is_name, with_rules}

-- what stands between is no name
apart : (k : LexemeKind) → is_name k ≡ true → is_between k ≡ false
apart kind.Name is = refl
apart _ is = absurd (cc)

no_name : (k : LexemeKind) → is_between k ≡ true → is_name k ≡ false
no_name kind.Name is = absurd (cc)
no_name _ is = refl

and_false : (b : Bool) → (b && false) ≡ false
and_false true = refl
and_false false = refl

and_true : (b : Bool) → (b && true) ≡ b
and_true true = refl
and_true false = refl

joined : {x y : Lexeme} {xs ys : List Lexeme} → x ≡ y → xs ≡ ys → x ∷ xs ≡ y ∷ ys
joined e f = cc

both : (a b : Bool) (u v : Lexeme) → a ≡ true → b ≡ true → (if a && b then u else v) ≡ u
both true true u v p q = refl
both true false u v p q = absurd (cc)
both false b u v p q = absurd (cc)

neither : (a b : Bool) (u v : Lexeme) → (a && b) ≡ false → (if a && b then u else v) ≡ v
neither true true u v p = absurd (cc)
neither true false u v p = refl
neither false b u v p = refl

-- a name right before what may stand between
last_but_one : (lexemes : List Lexeme) (at : ℕ) (d e o : Lexeme) → suc (suc at) ≡ length lexemes
    → is_name (slice_index_or lexemes at d).kind ≡ true
    → is_between (slice_index_or lexemes (suc at) e).kind ≡ true
    → with_rules go_before_colon lexemes ≡ slice_set lexemes at (as_rule (slice_index_or lexemes at o))
last_but_one [] at d e o long name between = absurd (omega arith)
last_but_one (x ∷ []) at d e o long name between = absurd (omega arith)
last_but_one (x ∷ y ∷ []) zero d e o long name between =
    joined (both (is_name x.kind) (is_between y.kind) (as_rule x) x name between)
    (joined (neither (is_name y.kind) true (as_rule y) y (and_true (is_name y.kind) ∙ no_name y.kind between)) refl)
last_but_one (x ∷ y ∷ []) (suc at) d e o long name between = absurd (omega arith)
last_but_one (x ∷ y ∷ z ∷ rest) zero d e o long name between = absurd (omega arith)
last_but_one (x ∷ y ∷ z ∷ rest) (suc at) d e o long name between =
    let more = last_but_one (y ∷ z ∷ rest) at d e o (omega arith) name between in
    let same = neither (is_name x.kind) false (as_rule x) x (and_false (is_name x.kind)) in
    joined same more

-- a name that is the last one
last_one : (lexemes : List Lexeme) (at : ℕ) (d o : Lexeme) → suc at ≡ length lexemes
    → is_name (slice_index_or lexemes at d).kind ≡ true
    → with_rules go_before_colon lexemes ≡ slice_set lexemes at (as_rule (slice_index_or lexemes at o))
last_one [] at d o long name = absurd (omega arith)
last_one (x ∷ []) zero d o long name =
    joined (both (is_name x.kind) true (as_rule x) x name refl) refl
last_one (x ∷ []) (suc at) d o long name = absurd (omega arith)
last_one (x ∷ y ∷ rest) zero d o long name = absurd (omega arith)
last_one (x ∷ y ∷ []) (suc zero) d o long name =
    joined (neither (is_name x.kind) (is_between y.kind) (as_rule x) x
    (ap (λ b. is_name x.kind && b) (apart y.kind name) ∙ and_false (is_name x.kind)))
    (joined (both (is_name y.kind) true (as_rule y) y name refl) refl)
last_one (x ∷ y ∷ []) (suc (suc at)) d o long name = absurd (omega arith)
last_one (x ∷ y ∷ z ∷ rest) (suc at) d o long name =
    let more = last_one (y ∷ z ∷ rest) at d o (omega arith) name in
    let same = neither (is_name x.kind) false (as_rule x) x (and_false (is_name x.kind)) in
    joined same more

-- no name is there that a colon would make one of a rule
no_one : (lexemes : List Lexeme) (d e f : Lexeme)
    → ((at : ℕ) → suc at ≡ length lexemes → is_name (slice_index_or lexemes at d).kind ≡ false)
    → ((at : ℕ) → suc (suc at) ≡ length lexemes
    → (is_name (slice_index_or lexemes at e).kind && is_between (slice_index_or lexemes (suc at) f).kind) ≡ false)
    → with_rules go_before_colon lexemes ≡ lexemes
no_one [] d e f last two = refl
no_one (x ∷ []) d e f last two =
    joined (neither (is_name x.kind) true (as_rule x) x (and_true (is_name x.kind) ∙ last 0 refl)) refl
no_one (x ∷ y ∷ []) d e f last two =
    joined (neither (is_name x.kind) (is_between y.kind) (as_rule x) x (two 0 refl))
    (joined (neither (is_name y.kind) true (as_rule y) y (and_true (is_name y.kind) ∙ last 1 refl)) refl)
no_one (x ∷ y ∷ z ∷ rest) d e f last two =
    let more = no_one (y ∷ z ∷ rest) d e f (λ at is. last (suc at) (omega arith)) (λ at is. two (suc at) (omega arith)) in
    let same = neither (is_name x.kind) false (as_rule x) x (and_false (is_name x.kind)) in
    joined same more

-- the same, where the last places are told
pub before_last : (lexemes : List Lexeme) (at last : ℕ) (d e o : Lexeme) → at + 1 ≡ last → last + 1 ≡ length lexemes
    → is_name (slice_index_or lexemes at d).kind ≡ true
    → is_between (slice_index_or lexemes last e).kind ≡ true
    → with_rules go_before_colon lexemes ≡ slice_set lexemes at (as_rule (slice_index_or lexemes at o))
before_last lexemes at last d e o next end name between =
    let one : suc at ≡ last = omega arith in
    last_but_one lexemes at d e o (omega arith) name
    (subst (λ k. is_between (slice_index_or lexemes k e).kind ≡ true) (sym one) between)

pub at_last : (lexemes : List Lexeme) (last : ℕ) (d o : Lexeme) → last + 1 ≡ length lexemes
    → is_name (slice_index_or lexemes last d).kind ≡ true
    → with_rules go_before_colon lexemes ≡ slice_set lexemes last (as_rule (slice_index_or lexemes last o))
at_last lexemes last d o end name = last_one lexemes last d o (omega arith) name

and_no : (a b : Bool) → b ≡ false → (a && b) ≡ false
and_no true b is = is
and_no false b is = refl

no_and : (a b : Bool) → a ≡ false → (a && b) ≡ false
no_and true b is = absurd (cc)
no_and false b is = refl

not_at_last : (lexemes : List Lexeme) (at last : ℕ) (d e f : Lexeme) → at + 1 ≡ last → last + 1 ≡ length lexemes
    → is_name (slice_index_or lexemes last d).kind ≡ false
    → (is_name (slice_index_or lexemes at e).kind && is_between (slice_index_or lexemes last f).kind) ≡ false
    → with_rules go_before_colon lexemes ≡ lexemes
not_at_last lexemes at last d e f next end last_no other_no =
    no_one lexemes d e f
    (λ k is.
    let same : last ≡ k = omega arith in
    subst (λ i. is_name (slice_index_or lexemes i d).kind ≡ false) same last_no)
    (λ k is.
    let same : at ≡ k = omega arith in
    let same_next : last ≡ suc k = omega arith in
    subst (λ i. (is_name (slice_index_or lexemes k e).kind && is_between (slice_index_or lexemes i f).kind) ≡ false)
    same_next
    (subst (λ i. (is_name (slice_index_or lexemes i e).kind && is_between (slice_index_or lexemes last f).kind) ≡ false)
    same other_no))

pub none_between : (lexemes : List Lexeme) (at last : ℕ) (d e : Lexeme) → at + 1 ≡ last → last + 1 ≡ length lexemes
    → is_name (slice_index_or lexemes last d).kind ≡ false
    → is_between (slice_index_or lexemes last e).kind ≡ false
    → with_rules go_before_colon lexemes ≡ lexemes
none_between lexemes at last d e next end last_no between_no =
    not_at_last lexemes at last d e e next end last_no (and_no _ _ between_no)

pub none_before : (lexemes : List Lexeme) (at last : ℕ) (d e : Lexeme) → at + 1 ≡ last → last + 1 ≡ length lexemes
    → is_name (slice_index_or lexemes last d).kind ≡ false
    → is_name (slice_index_or lexemes at e).kind ≡ false
    → with_rules go_before_colon lexemes ≡ lexemes
none_before lexemes at last d e next end last_no other_no =
    not_at_last lexemes at last d e e next end last_no (no_and _ _ other_no)

-- ---- a lexeme more

-- behind one that is no colon, no name becomes that of a rule
follow-other : (lexemes : List Lexeme) (lexeme : Lexeme) → is_colon lexeme.kind ≡ false
    → follow_rule (lexemes ++ lexeme ∷ []) ≡ follow_rule lexemes
follow-other [] lexeme other = rw other (and_false (is_between lexeme.kind))
follow-other (x ∷ []) lexeme other = rw other refl
follow-other (x ∷ y ∷ rest) lexeme other = refl

rules-other : (lexemes : List Lexeme) (lexeme : Lexeme) → is_colon lexeme.kind ≡ false
    → with_rules follow_rule (lexemes ++ lexeme ∷ []) ≡ with_rules follow_rule lexemes ++ lexeme ∷ []
rules-other [] lexeme other =
    joined (neither (is_name lexeme.kind) false (as_rule lexeme) lexeme (and_false (is_name lexeme.kind))) refl
rules-other (x ∷ rest) lexeme other =
    joined (ap (λ b. if is_name x.kind && b then as_rule x else x) (follow-other rest lexeme other))
    (rules-other rest lexeme other)

or_false : (b : Bool) → (b || false) ≡ b
or_false true = refl
or_false false = refl

or_one : (a b : Bool) → (a || (b && true)) ≡ ((a || (b && false)) || b)
or_one true b = refl
or_one false true = refl
or_one false false = refl

-- behind a colon, those before it do
follow-colon : (lexemes : List Lexeme) (lexeme : Lexeme) → is_colon lexeme.kind ≡ true
    → follow_rule (lexemes ++ lexeme ∷ []) ≡ (follow_rule lexemes || go_before_colon lexemes)
follow-colon [] lexeme colon = rw colon refl
follow-colon (x ∷ []) lexeme colon = rw colon (or_one (is_colon x.kind) (is_between x.kind))
follow-colon (x ∷ y ∷ rest) lexeme colon = sym (or_false _)

-- the lexemes before it stay as they are for it
go-same : (lexemes : List Lexeme) → go_before_colon (with_rules follow_rule lexemes) ≡ go_before_colon lexemes
go-same [] = refl
go-same (x ∷ []) =
    ap (λ (lexeme : Lexeme). is_between lexeme.kind) (neither (is_name x.kind) false (as_rule x) x (and_false (is_name x.kind)))
go-same (x ∷ y ∷ rest) = refl

-- one lexeme, first as those behind it are, and then as a colon makes it
abbrev twice : (k : LexemeKind) (span : Span) (first second : Bool) → Lexeme
twice k span first second =
    let lexeme : Lexeme = record { kind = k; span = span } in
    let once : Lexeme = if is_name k && first then as_rule lexeme else lexeme in
    if is_name once.kind && second then as_rule once else once

at-once : (k : LexemeKind) (span : Span) (first second : Bool)
    → (if is_name k && (first || second) then as_rule (record { kind = k; span = span }) else record { kind = k; span = span })
    ≡ twice k span first second
at-once kind.Name span true true = refl
at-once kind.Name span true false = refl
at-once kind.Name span false true = refl
at-once kind.Name span false false = refl
at-once _ span first second = refl

rules-colon : (lexemes : List Lexeme) (lexeme : Lexeme) → is_colon lexeme.kind ≡ true
    → with_rules follow_rule (lexemes ++ lexeme ∷ [])
    ≡ with_rules go_before_colon (with_rules follow_rule lexemes) ++ lexeme ∷ []
rules-colon [] lexeme colon =
    joined (neither (is_name lexeme.kind) false (as_rule lexeme) lexeme (and_false (is_name lexeme.kind))) refl
rules-colon (x ∷ rest) lexeme colon =
    joined
    (ap (λ (b : Bool). if is_name x.kind && b then as_rule x else x) (follow-colon rest lexeme colon)
    ∙ at-once x.kind x.span (follow_rule rest) (go_before_colon rest)
    ∙ ap (λ (b : Bool). twice x.kind x.span (follow_rule rest) b) (sym (go-same rest)))
    (rules-colon rest lexeme colon)

either : (lexemes : List Lexeme) (lexeme : Lexeme) (b : Bool) → is_colon lexeme.kind ≡ b
    → with_rules follow_rule (lexemes ++ lexeme ∷ [])
    ≡ (if b then with_rules go_before_colon (with_rules follow_rule lexemes)
    else with_rules follow_rule lexemes) ++ lexeme ∷ []
either lexemes lexeme true is = rules-colon lexemes lexeme is
either lexemes lexeme false is = rules-other lexemes lexeme is

-- so names are noted as each lexeme is added
pub one_more : (lexemes : List Lexeme) (lexeme : Lexeme) → with_rules follow_rule (lexemes ++ lexeme ∷ [])
    ≡ (if is_colon lexeme.kind then with_rules go_before_colon (with_rules follow_rule lexemes)
    else with_rules follow_rule lexemes) ++ lexeme ∷ []
one_more lexemes lexeme = either lexemes lexeme (is_colon lexeme.kind) refl

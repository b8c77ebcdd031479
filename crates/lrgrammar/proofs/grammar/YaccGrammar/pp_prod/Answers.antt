use Rattle.std.proofs.Common.{◌≡◌, ℕ, ◌+◌, ◌<◌, List, [], ◌∷◌, ◌++◌, append_assoc, length, map, get_or, take, Option, None, Some, ap, sym, ◌∙◌}
use Rattle.std.specs.Prelude.{codes}
use Rattle.std.specs.List.{flat_map}
use Rattle.std.specs.String.{string_bytes}
use Rattle.std.proofs.lemmas.List.{flat_map_more, map_more, take_all, append-nil}
use Rattle.std.proofs.lemmas.Result.{IfOk-from_err}
use Rattle.lrspec.specs.grammars.Grammar.{Production, rule_of, rule_or_zero, IsOfRule}
use Rattle.lrspec.specs.texts.PrintedTexts.{rule_name, quoted}
use Rattle.lrgrammar.specs.Symbols.{symbol_of}
use Rattle.lrgrammar.proofs.grammar.YaccGrammar.pp_prod.Goals as goal

-- a text behind two others, made piece by piece, with one piece more of three parts
text_more : {X Y : Type 0} (f : X → Y) (q : Y → List ℕ) (r k start end : List ℕ) (xs : List X) (i : ℕ) (x : X) (a b c d name : List ℕ) → i < length xs → x ≡ get_or xs i x → start ++ name ++ end ≡ q (f x) → b ≡ a ++ start → c ≡ b ++ name → d ≡ c ++ end → a ≡ r ++ k ++ flat_map q (map f (take i xs)) → d ≡ r ++ k ++ flat_map q (map f (take (i + 1) xs))
text_more f q r k start end xs i x a b c d name within is piece eb ec ed ea =
    let all = flat_map q (map f (take i xs)) in
    let pushed : d ≡ ((a ++ start) ++ name) ++ end = ed ∙ ap (λ z. z ++ end) (ec ∙ ap (λ z. z ++ name) eb) in
    let joined : ((a ++ start) ++ name) ++ end ≡ a ++ (start ++ name ++ end) = simp append_assoc in
    let apart : (r ++ k ++ all) ++ q (f x) ≡ r ++ k ++ (all ++ q (f x)) = simp append_assoc in
    let more : all ++ q (f x) ≡ flat_map q (map f (take i xs) ++ f x ∷ []) = flat_map_more q [] (map f (take i xs)) (f x) in
    let next : map f (take i xs) ++ f x ∷ [] ≡ map f (take (i + 1) xs) = ap (λ y. map f (take i xs) ++ f y ∷ []) is ∙ sym (map_more f xs i x within) in
    pushed ∙ joined ∙ ap (λ z. a ++ z) piece ∙ ap (λ z. z ++ q (f x)) ea ∙ apart ∙ ap (λ z. r ++ k ++ z) (more ∙ ap (flat_map q) next)

pub loop-symbol-preserved : goal.loop-symbol-preserved
loop-symbol-preserved g c =
    let number = g.T.IndexStorage.number in
    let m = c.args.self.now in
    text_more (symbol_of number) (quoted m) (rule_name m (rule_of m (number c.args.pidx.0))) (codes ":") (codes " \"") (codes "\"") c.prod-symbol-items.result.now c.loop-symbol.symbol-index c.symbol-item.result (string_bytes c.loop-symbol.text) (string_bytes c.push_str-in-loop-symbol.new.self) (string_bytes c.push_str-in-loop-symbol-2.new.self) (string_bytes c.push_str-in-loop-symbol-3.new.self) c.symbol_name_str-in-loop-symbol.result.now c.loop-symbol-test.true c.symbol-item.is (ap (λ z. codes " \"" ++ z ++ codes "\"") c.symbol_name_str-in-loop-symbol.ensures) c.in_ok-push_str-2.ensures.bytes c.in_ok-push_str-3.ensures.bytes c.in_ok-push_str-4.ensures.bytes c.loop-symbol.invariant

pub prod_to_rule-requires : goal.prod_to_rule-requires
prod_to_rule-requires g c = c.requires

pub prod-symbol-items-requires : goal.prod-symbol-items-requires
prod-symbol-items-requires g c = c.requires

-- the rule of a production that is of the rule `r`
rule_is : (o : Option Production) (r : ℕ) → IsOfRule o r → rule_or_zero o ≡ r
rule_is None r h = absurd h
rule_is (Some p) r h = h

pub loop-symbol-init : goal.loop-symbol-init
loop-symbol-init g c =
    let m = c.args.self.now in
    let rule = rule_is _ (g.T.IndexStorage.number c.prod_to_rule.result.0) c.prod_to_rule.ensures.rule in
    c.in_ok-push_str.ensures.bytes ∙ ap (λ z. z ++ codes ":") (c.in_ok-text.ensures.ok ∙ c.symbol_name_str.ensures ∙ ap (rule_name m) (sym rule)) ∙ sym (append-nil (rule_name m (rule_of m (g.T.IndexStorage.number c.args.pidx.0)) ++ codes ":"))

pub returns : goal.returns
returns g c =
    let number = g.T.IndexStorage.number in
    let m = c.args.self.now in
    let f = symbol_of number in
    let all = ap (map f) (take_all c.loop-symbol.symbol-index c.prod-symbol-items.result.now c.loop-symbol-test.false) ∙ c.prod-symbol-items.ensures.body in
    c.loop-symbol.invariant ∙ ap (λ ys. rule_name m (rule_of m (number c.args.pidx.0)) ++ codes ":" ++ flat_map (quoted m) ys) all

pub returns-in_err-text : goal.returns-in_err-text
returns-in_err-text g c = IfOk-from_err c.from_residual.result _ c.from_residual.ensures.0

pub returns-in_err-push_str : goal.returns-in_err-push_str
returns-in_err-push_str g c = IfOk-from_err c.from_residual-in_err-push_str.result _ c.from_residual-in_err-push_str.ensures.0

pub returns-in_err-push_str-2 : goal.returns-in_err-push_str-2
returns-in_err-push_str-2 g c = IfOk-from_err c.from_residual-in_err-push_str-2.result _ c.from_residual-in_err-push_str-2.ensures.0

pub returns-in_err-push_str-3 : goal.returns-in_err-push_str-3
returns-in_err-push_str-3 g c = IfOk-from_err c.from_residual-in_err-push_str-3.result _ c.from_residual-in_err-push_str-3.ensures.0

pub returns-in_err-push_str-4 : goal.returns-in_err-push_str-4
returns-in_err-push_str-4 g c = IfOk-from_err c.from_residual-in_err-push_str-4.result _ c.from_residual-in_err-push_str-4.ensures.0

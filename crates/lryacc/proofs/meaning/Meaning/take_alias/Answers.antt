use Rattle.std.proofs.Common.{◌≡◌, ◌∙◌, None, Some, ap, inl, inr, sym}
use Rattle.std.specs.BTreeMap.{get}
use Rattle.std.specs.Ordering.{nat_cmp}
use Rattle.lryacc.specs.Aliases.{HasText}
use Rattle.lryacc.specs.Aliases.IsSettled.{first_has}
use Rattle.lryacc.specs.NamedSymbols.{number_of, partner_in}
use Rattle.lryacc.proofs.AliasesTaken.{others_kept, others_same, others-paired, settled-kept, takes_known, takes_unknown}
use Rattle.lryacc.proofs.NamesOfOne.{names-kept, ok-both, ok-then, pair_taken, paired-names, takes_other}
use Rattle.lryacc.proofs.meaning.Meaning.take_alias.Goals as goal

pub returns-then-eq-clause-taken : goal.returns-then-eq-clause-taken
returns-then-eq-clause-taken c = ok-then c.tell.result (λ keeps. takes_other _ keeps.symbols) c.tell.ensures.keeps

pub returns-then-can_pair-clause-taken : goal.returns-then-can_pair-clause-taken
returns-then-can_pair-clause-taken c =
    let s = c.args.self.now.symbols in
    let first : number_of s c.args.symbol ≡ Some c.in-Some-Some.one = sym c.find.ensures ∙ c.in-Some-Some.is-0 in
    let second : number_of s c.args.text ≡ Some c.in-Some-Some.other = sym c.find-2.ensures ∙ c.in-Some-Some.is-1 in
    let free = c.can_pair.ensures.free c.if-can_pair.true in
    ok-then c.pair.result
    (λ one. pair_taken s one.now c.pair.new.self.symbols c.args.symbol c.args.text c.in-Some-Some.one c.in-Some-Some.other first second free.apart free.first free.second one.pairs one.keeps)
    c.pair.ensures.one

pub returns-clause-taken : goal.returns-clause-taken
returns-clause-taken c = ok-then c.warn.result (λ keeps. takes_other _ keeps.symbols) c.warn.ensures

pub returns-in_default-clause-aliases : goal.returns-in_default-clause-aliases
returns-in_default-clause-aliases c =
    let none : number_of c.args.self.now.symbols c.args.text ≡ None = sym c.find-2.ensures ∙ c.in_default.is-1 in
    takes_unknown c.args.symbol c.args.text c.args.self.now (inr none)

pub returns-in_default-2-clause-aliases : goal.returns-in_default-2-clause-aliases
returns-in_default-2-clause-aliases c =
    let none : number_of c.args.self.now.symbols c.args.symbol ≡ None = cc in
    takes_unknown c.args.symbol c.args.text c.args.self.now (inl none)

pub returns-then-eq-clause-aliases : goal.returns-then-eq-clause-aliases
returns-then-eq-clause-aliases c =
    let s = c.args.self.now.symbols in
    let first : number_of s c.args.symbol ≡ Some c.in-Some-Some.one = sym c.find.ensures ∙ c.in-Some-Some.is-0 in
    let second : number_of s c.args.text ≡ Some c.in-Some-Some.other = sym c.find-2.ensures ∙ c.in-Some-Some.is-1 in
    ok-both c.tell.result
    (λ keeps told. takes_known c.args.symbol c.args.text c.in-Some-Some.one c.in-Some-Some.other first second (others_kept keeps.symbols keeps.faults) (inr told))
    c.tell.ensures.keeps c.tell.ensures.told

pub returns-then-can_pair-clause-aliases : goal.returns-then-can_pair-clause-aliases
returns-then-can_pair-clause-aliases c =
    let s = c.args.self.now.symbols in
    let first : number_of s c.args.symbol ≡ Some c.in-Some-Some.one = sym c.find.ensures ∙ c.in-Some-Some.is-0 in
    let second : number_of s c.args.text ≡ Some c.in-Some-Some.other = sym c.find-2.ensures ∙ c.in-Some-Some.is-1 in
    let new = c.pair.new.self.symbols in
    let n = c.in-Some-Some.one in
    let m = c.in-Some-Some.other in
    let free = c.can_pair.ensures.free c.if-can_pair.true in
    ok-both c.pair.result
    (λ one faults.
    let partner : partner_in new n ≡ Some m = ap (λ ps. get nat_cmp ps n) one.keeps.partners ∙ one.pairs.first free.apart in
    takes_known c.args.symbol c.args.text n m first second record {
      names = names-kept (paired-names one.pairs) one.keeps.names;
      partners = others-paired s one.now new n m free.apart one.pairs one.keeps;
      faults = faults;
    } (inl (first_has (HasText.other m partner))))
    c.pair.ensures.one c.pair.ensures.faults

pub returns-then-eq-2-clause-aliases : goal.returns-then-eq-2-clause-aliases
returns-then-eq-2-clause-aliases c =
    let s = c.args.self.now.symbols in
    let first : number_of s c.args.symbol ≡ Some c.in-Some-Some.one = sym c.find.ensures ∙ c.in-Some-Some.is-0 in
    let second : number_of s c.args.text ≡ Some c.in-Some-Some.other = sym c.find-2.ensures ∙ c.in-Some-Some.is-1 in
    takes_known c.args.symbol c.args.text c.in-Some-Some.one c.in-Some-Some.other first second (others_same c.args.self.now)
    (inl (c.can_pair.ensures.settled c.if-can_pair.false))

pub returns-clause-aliases : goal.returns-clause-aliases
returns-clause-aliases c =
    let s = c.args.self.now.symbols in
    let n = c.in-Some-Some.one in
    let m = c.in-Some-Some.other in
    let first : number_of s c.args.symbol ≡ Some n = sym c.find.ensures ∙ c.in-Some-Some.is-0 in
    let second : number_of s c.args.text ≡ Some m = sym c.find-2.ensures ∙ c.in-Some-Some.is-1 in
    ok-then c.warn.result
    (λ keeps.
    let others = others_kept keeps.symbols keeps.faults in
    takes_known c.args.symbol c.args.text n m first second others (inl (settled-kept c.args.self.now c.warn.new.self others n m (c.can_pair.ensures.settled c.if-can_pair.false))))
    c.warn.ensures

-- the last tree is one for the symbol, if there is one
use Rattle.std.proofs.Common.{rules, arith, ◌≡◌, ◌-◌, ◌<◌, length, get_or, sym, ◌∙◌, vec_len}
use Rattle.std.proofs.lemmas.List.{append-nil}
use Rattle.std.proofs.lemmas.Bool.{false≢true}
use Rattle.lrshown.proofs.Rows.{takes_last, takes_none}
use Rattle.lrshown.proofs.trees.Tree.take_last.Goals as goal

pub returns-in-Some-get_mut-clause-laid : goal.returns-in-Some-get_mut-clause-laid
returns-in-Some-get_mut-clause-laid c = λ ts below h.
    let ns = c.args.self.now.nodes.items in
    let root = c.in-Some-get_mut.root.now in
    let t = takes_last ns ts below c.args.symbol c.pop.new.self.items c.in-Some.end h.nodes_are (sym c.in-Some.ensures.items ∙ h.ends_are) in
    let is : root ≡ get_or ns c.saturating_sub.result root = search rules in
    let at : root ≡ get_or ns (c.in-Some.end - 1) root = rw c.saturating_sub.ensures at is in
    record { nodes_are = rw (c.saturating_sub.ensures, c.with_symbol.ensures) (t.root_is root at); ends_are = t.rest }

pub returns-in_default-clause-laid : goal.returns-in_default-clause-laid
returns-in_default-clause-laid c = λ ts below h.
    let none : length c.pop.new.self.items ≡ 0 = search rules in
    let same : c.pop.new.self.items ≡ c.args.self.now.ends.items = sym (append-nil c.pop.new.self.items) ∙ sym c.in_default.ensures.items in
    let t = takes_none c.args.self.now.nodes.items ts below c.args.symbol c.pop.new.self.items h.nodes_are (same ∙ h.ends_are) none in
    record { nodes_are = t.0; ends_are = t.1 }

pub returns-in_default-get_mut-clause-laid : goal.returns-in_default-get_mut-clause-laid
returns-in_default-get_mut-clause-laid c = λ ts below h.
    let t = takes_last c.args.self.now.nodes.items ts below c.args.symbol c.pop.new.self.items c.in-Some.end h.nodes_are (sym c.in-Some.ensures.items ∙ h.ends_are) in
    let k : c.saturating_sub.result < vec_len c.args.self.now.nodes = omega (arith, t.within, c.saturating_sub.ensures, c.args.self.now.nodes.ok.0) in
    absurd (false≢true (c.in_default-get_mut.ensures.variant.1 k))

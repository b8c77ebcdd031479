use Rattle.std.proofs.Common.{◌++◌, ap, ◌∙◌, sym, subst, true}
use Rattle.std.specs.List.{All}
use Rattle.std.specs.String.{string_bytes}
use Rattle.std.proofs.lemmas.List.Elements.{All-head, All-rest}
use Rattle.lrspec.specs.texts.TreeTexts.{tree_text}
use Rattle.lrtree.specs.Visits.{IsVisitOf, visits_text}
use Rattle.lrtree.specs.StoredTrees.{tree_of}
use Rattle.lrtree.specs.StoredVisits.{visit_of}
use Rattle.lrtree.proofs.VisitTexts.{text_of_visits, printable_visits, text_before}
use Rattle.lrtree.proofs.trees.Tree.pp.Goals as goal

pub loop-visits-init : goal.loop-visits-init
loop-visits-init g c =
    let m = c.args.grm.now in
    let t = tree_of g.T.IndexStorage.number c.args.self.now in
    let is = c.visits-visits.ensures in record {
      text = ap (λ b. b ++ visits_text m true c.visits-visits.result) c.new-text.ensures.bytes ∙ ap (visits_text m true) is ∙ text_of_visits m t;
      visits = subst (All (IsVisitOf m)) (sym is) (printable_visits m t c.requires);
    }

pub push_visit-requires : goal.push_visit-requires
push_visit-requires g c =
    let m = c.args.grm.now in
    let v = visit_of g.T.IndexStorage.number c.in-Some.visit in
    let next = rw c.in-Some.is at c.in_ok-visit.ensures.next in
    All-head (IsVisitOf m) v c.next.new.self (subst (All (IsVisitOf m)) next c.loop-visits.invariant.visits)

pub loop-visits-preserved : goal.loop-visits-preserved
loop-visits-preserved g c =
    let m = c.args.grm.now in
    let v = visit_of g.T.IndexStorage.number c.in-Some.visit in
    let next = rw c.in-Some.is at c.in_ok-visit.ensures.next in
    let rest = c.next.new.self in
    let first = c.loop-visits.is_first in record {
      text = text_before m first c.is_enter-is_first.result v rest c.loop-visits.visits (string_bytes c.loop-visits.text) (string_bytes c.push_visit.new.text)
          (tree_text m (tree_of g.T.IndexStorage.number c.args.self.now)) next c.in_ok-push_visit.ensures c.is_enter-is_first.ensures c.loop-visits.invariant.text;
      visits = All-rest (IsVisitOf m) v rest c.loop-visits.visits next c.loop-visits.invariant.visits;
    }

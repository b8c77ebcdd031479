use Rattle.std.proofs.Common.{◌≡◌, true, false, ap, sym, subst, refl, ◌∙◌, inl, inr}
use Rattle.lrspec.specs.grammars.ItemSets.{LooksIn}
use Rattle.lritems.specs.Gotos.{items_in}
use Rattle.lritems.specs.Merging.{CanTakeIn, TookIn, Gains}
use Rattle.lrplacing.specs.Construction.{Draft}
use Rattle.lrplacing.proofs.CoreGrowth.{of_equal, looks_of_agree}
use Rattle.lrplacing.proofs.draft.Draft.merge.Goals as goal

pub weakly_merge-grew-requires : goal.weakly_merge-grew-requires
weakly_merge-grew-requires g c =
    let goto = items_in g.T.IndexStorage.number c.args.goto.now in
    subst (λ (s : Draft). CanTakeIn s.core goto) (sym c.self.view_is) c.requires

pub returns-then-grew-clause-taken : goal.returns-then-grew-clause-taken
returns-then-grew-clause-taken g c =
    let old = ap (λ (s : Draft). s.core) c.self.view_is in
    of_equal (λ a b. TookIn a (items_in g.T.IndexStorage.number c.args.goto.now) b) _ _ _ _ (sym old) c.unclose.ensures.core c.weakly_merge-grew.ensures.taken

pub returns-then-grew-clause-closed : goal.returns-then-grew-clause-closed
returns-then-grew-clause-closed g c =
    let old = ap (λ (s : Draft). s.core) c.self.view_is in
    inr (c.unclose.ensures.closed, of_equal Gains _ _ _ _ (sym old) c.unclose.ensures.core (c.weakly_merge-grew.ensures.grew c.if-grew.true))

pub returns-then-grew-clause-grew : goal.returns-then-grew-clause-grew
returns-then-grew-clause-grew g c =
    let old = ap (λ (s : Draft). s.core) c.self.view_is in
    (λ e. of_equal Gains _ _ _ _ (sym old) c.unclose.ensures.core (c.weakly_merge-grew.ensures.grew e), λ e. absurd (let n : true ≡ false = sym c.if-grew.true ∙ e in cc))

pub returns-else-grew-clause-taken : goal.returns-else-grew-clause-taken
returns-else-grew-clause-taken g c =
    let old = ap (λ (s : Draft). s.core) c.self.view_is in
    of_equal (λ a b. TookIn a (items_in g.T.IndexStorage.number c.args.goto.now) b) _ _ _ _ (sym old) refl c.weakly_merge-grew.ensures.taken

pub returns-else-grew-clause-closed : goal.returns-else-grew-clause-closed
returns-else-grew-clause-closed g c =
    let old = ap (λ (s : Draft). s.core) c.self.view_is in
    inl (
      λ p d t l. subst (λ a. LooksIn a p d t) old (looks_of_agree _ _ (c.weakly_merge-grew.ensures.same c.if-grew.false) p d t l),
      ap (λ (s : Draft). s.is_closed) c.self.view_is,
    )

pub returns-else-grew-clause-grew : goal.returns-else-grew-clause-grew
returns-else-grew-clause-grew g c =
    let old = ap (λ (s : Draft). s.core) c.self.view_is in (
      λ e. absurd (let n : true ≡ false = sym e ∙ c.if-grew.false in cc),
      λ e p d t l. subst (λ a. LooksIn a p d t) old (looks_of_agree _ _ (c.weakly_merge-grew.ensures.same e) p d t l),
    )

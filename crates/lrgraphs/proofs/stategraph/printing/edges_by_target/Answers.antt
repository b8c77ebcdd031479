use Rattle.std.proofs.Common.{◌≡◌, refl, sym, ◌∙◌, rules}
use Rattle.std.proofs.lemmas.List.{append-nil}
use Rattle.std.proofs.lemmas.List.Sorted.{answers_always}
use Rattle.lrgraphs.proofs.EdgesByTarget.{edges_from_sort}
use Rattle.lrgraphs.proofs.PrintedStates.{entries_found}
use Rattle.lrgraphs.proofs.stategraph.printing.edges_by_target.Goals as goal

pub returns : goal.returns
returns g c =
    let number = g.T.IndexStorage.number in
    let ordered = g.met.T.IndexStorage.ordered in
    let es = c.args.edges.now.entries in
    let copied : c.loop-symbol.sorted.items ≡ es = sym (append-nil c.loop-symbol.sorted.items) ∙ (rw c.in-None.ensures.steps.0 at c.loop-symbol.invariant) in
    let sort = c.in_ok-sort_by_key.ensures in
    let target = answers_always _ _ _ (λ f a r q h. search rules) in
    record {
      sorted = λ n below.
          edges_from_sort number (λ u. number u.0) _ (λ u v. ordered u.0 v.0) es _ (rw (← copied) sort.permutation) (sort.sorted (λ e. e.1) target)
          (rw (← copied) (sort.stable (λ e. e.1) target)) n below;
      found =
          entries_found number (λ u. number u.0) _ es c.into_iter-symbol-iterator.ensures.into_iter_gives.5
          (λ r s. ordered r.0 s.0) (λ r t. refl) (λ t r. refl) (λ t u. ordered t.0 u.0);
    }

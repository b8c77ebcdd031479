use Rattle.std.proofs.Common.{◌≡◌, sym}
use Rattle.std.proofs.lemmas.Map.Entries.{entries_from_clone}
use Rattle.lrclosing.proofs.ItemKeys.{same_key}
use Rattle.lritems.proofs.cores.Core.copied.Goals as goal

pub invariant_of-result : goal.invariant_of-result
invariant_of-result g c =
    let same : c.in_ok-items.items.items ≡ c.as_slice.result.now =
    entries_from_clone _ _ (λ x y k. same_key g.T.Clone.is_clone g.met.T.IndexStorage.copied x y k.0 k.1) (λ v w e. sym e) _ _ c.in_ok-items.ensures.items in
    rw (same, c.as_slice.ensures.value) c.self.invariant

pub returns : goal.returns
returns g c =
    let same : c.in_ok-items.items.items ≡ c.as_slice.result.now =
    entries_from_clone _ _ (λ x y k. same_key g.T.Clone.is_clone g.met.T.IndexStorage.copied x y k.0 k.1) (λ v w e. sym e) _ _ c.in_ok-items.ensures.items in
    rw (same, c.as_slice.ensures.value) c.self.view_is

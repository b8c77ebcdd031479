use Rattle.std.proofs.Common.{◌≡◌}
use Rattle.std.specs.String.{string_bytes}
use Rattle.lrspec.specs.texts.PrintedTexts.{token_name}
use Rattle.lritems.proofs.PrintedNames.{read_or}
use Rattle.lrrows.specs.StoredLists.{stored_reduce_reduce}
use Rattle.lrcells.proofs.HeadedTexts.{reduce_pieces}
use Rattle.lrcells.proofs.statetable.conflicts.reduce_reduce_line.Goals as goal

pub returns : goal.returns
returns g c =
    let number = g.T.IndexStorage.number in
    let m = c.args.grm.now in
    let e = c.args.conflict in
    let name : c.unwrap_or-token.result.now ≡ token_name m (number e.0.0) = read_or (λ s. s.now) m.token_names (number e.0.0) c.token_name.result _ _ c.unwrap_or-token.ensures c.token_name.ensures in
    reduce_pieces string_bytes c.format.result m (stored_reduce_reduce number e) _ _ _ _ c.from-state.ensures name c.in_ok-taken.ensures c.in_ok-other.ensures c.format.ensures.ok

use Rattle.std.proofs.Common.{◌≡◌, ◌<◌, ◌∙◌, length, refl, sym, arith, Some}
use Rattle.lrspec.specs.grammars.Grammar.{token_count}
use Rattle.lrclosing.specs.ItemsOf.{items_of}
use Rattle.lrclosing.specs.Rows.{row_at}
use Rattle.std.proofs.lemmas.Map.Entries.{entries_from_clone}
use Rattle.lrclosing.proofs.ItemKeys.{same_key}
use Rattle.lrclosing.proofs.RowsAdded.{rows_none, rows_skip, rows_next, rows_every, bits_of_fits, fits_of_put, none_unless}
use Rattle.lrclosing.proofs.VisitedItems.{row_read}
use Rattle.lrclosing.proofs.rows.with_rows.Goals.{in-Some+in_ok-put_all, in_default}
use Rattle.lrclosing.proofs.rows.with_rows.Goals as goal

pub loop-place-init : goal.loop-place-init
loop-place-init g c =
    let same : c.in_ok-closed.closed.entries ≡ c.args.given.now.entries =
    entries_from_clone _ _ (λ x y k. same_key g.T.Clone.is_clone g.met.T.IndexStorage.copied x y k.0 k.1) (λ v w e. sym e) _ _ c.in_ok-closed.ensures.cases in
    rw same record { fits = c.requires.fits; rows = rows_none c.args.grm.now _ _ }

pub put_all-requires-clause-bits : goal.put_all-requires-clause-bits
put_all-requires-clause-bits g c =
    let number = g.T.IndexStorage.number in
    let rows = c.args.rows.now in
    let n = c.loop-place.place in
    let below : n < length rows = omega (arith, c.loop-place-test.true, c.from-place-end.ensures, c.rules_len.ensures.value, c.requires.rows.rules) in
    let at : c.index-rows-place.result ≡ row_at rows n = row_read rows n n _ _ _ refl c.index-rows-place.is refl below in
    let bits : length c.in-Some.row ≡ token_count c.args.grm.now = c.requires.rows.bits n c.in-Some.row (sym at ∙ c.in-Some.is) in
    rw bits (bits_of_fits c.args.grm.now (items_of number c.loop-place.closed.entries) c.loop-place.invariant.fits)

pub loop-place-preserved : goal.loop-place-preserved
loop-place-preserved g c =
    let number = g.T.IndexStorage.number in
    let grm = c.args.grm.now in
    let rows = c.args.rows.now in
    let n = c.loop-place.place in
    let below : n < length rows = omega (arith, c.loop-place-test.true, c.from-place-end.ensures, c.rules_len.ensures.value, c.requires.rows.rules) in
    let at : c.index-rows-place.result ≡ row_at rows n = row_read rows n n _ _ _ refl c.index-rows-place.is refl below in
    elim c.match-rows-place.branch [
      | in-Some+in_ok-put_all w ↦
          let place : number w.unwrap.result ≡ n = (rw w.unwrap.ensures at w.from_usize.ensures).1 in
          let row : row_at rows n ≡ Some w.in-Some.row = sym at ∙ w.in-Some.is in
          let len : length w.in-Some.row ≡ token_count grm = c.requires.rows.bits n w.in-Some.row row in
          let put = rw place at w.in_ok-put_all.ensures.put in
          rw w.closed-is record {
            fits = fits_of_put grm n w.in-Some.row _ _ c.loop-place.invariant.fits put (rw len at w.in_ok-put_all.ensures.bits);
            rows = rows_next grm rows n w.in-Some.row _ _ _ c.loop-place.invariant.rows row put;
          }
      | in_default w ↦
          rw w.closed-is record {
            fits = c.loop-place.invariant.fits;
            rows = rows_skip grm rows n _ _ c.loop-place.invariant.rows (sym at ∙ none_unless c.index-rows-place.result w.in_default.not-Some);
          }
    ]

pub returns-clause-rows : goal.returns-clause-rows
returns-clause-rows g c =
    rows_every c.args.grm.now c.args.rows.now c.loop-place.place _ _
    (λ q r i. let l = c.rules_len.ensures.shape.rules q r i in omega (arith, l, c.loop-place-test.false, c.from-place-end.ensures, c.rules_len.ensures.value))
    c.loop-place.invariant.rows

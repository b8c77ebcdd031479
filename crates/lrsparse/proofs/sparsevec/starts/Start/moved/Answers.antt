use Rattle.std.proofs.Common.{◌≡◌, ◌+◌, ◌∙◌, Bool, true, false, not, sym, refl, inl, inr, arith}
use Rattle.std.proofs.lemmas.Bool.{cases_lt}
use Rattle.std.proofs.lemmas.Bool.Decides.{Decides-eqb}
use Rattle.std.proofs.lemmas.Slice.Eq.{slice_eq-Decides}
use Rattle.lrsparse.proofs.StartsKept.{nowhere_moved}
use Rattle.lrsparse.proofs.sparsevec.starts.Start.moved.Goals as goal

not_false : (b : Bool) → not b ≡ false → b ≡ true
not_false true e = refl
not_false false e = cc

pub returns-in-Some : goal.returns-in-Some
returns-in-Some c = λ words own least k l.
    let columns = c.args.self.now.columns in
    let moved = c.args.columns.now in
    let yes = not_false _ (sym c.ne.ensures ∙ c.if-ne.false) in
    let same : moved.words.items ≡ columns.words.items =
    sym ((slice_eq-Decides Decides-eqb columns.words.items moved.words.items _ refl).0 yes) in
    let first : moved.first ≡ columns.first + c.in-Some.behind = omega (arith, c.in-Some.ensures.0, c.in-Some.ensures.1) in
    elim (cases_lt k c.args.least) [
      | inl low ↦ least k low
      | inr high ↦
          nowhere_moved words columns moved c.args.self.now.displacement c.in-Some.behind same first own k
          (omega (arith, l, c.max.ensures, c.saturating_sub.ensures))
    ]

-- kinds of conflicts in order: those that tie are the same, and stand together
use Rattle.std.proofs.Common.{◌≡◌, true, false, List, [], ◌∷◌, None, Some, get_or, refl, ap, ◌∙◌, arith}
use Rattle.std.specs.Cmp.{IsTotalOrder}
use Rattle.std.specs.Cmp.Lexicographic.{slice_cmp}
use Rattle.std.specs.List.Sorted.{IsSortedBy}
use Rattle.std.specs.Option.{option_cmp}
use Rattle.std.specs.Ordering.{nat_cmp, ordering_reverse, ordering_then, is_eq, is_lt, is_gt}
use Rattle.std.specs.declared.cmp.Ordering.{Ordering}
use Rattle.std.specs.declared.cmp.Ordering.TheVariants.{Less, Equal, Greater}
use Rattle.std.proofs.lemmas.Cmp.{tied_itself}
use Rattle.std.proofs.lemmas.List.Sorted.{ranks_by, sorted_far}
use Rattle.std.proofs.lemmas.Map.Lookups.{CmpEqualImpliesEq, exact_unsigned, exact_pairs}
use Rattle.lrreport.specs.declared.causes.Kind.{Kind}
use Rattle.lrreport.specs.declared.causes.Meeting.{Meeting}
use Rattle.lrreport.specs.declared.conflicts.Choice.{Choice}
use Rattle.lrreport.specs.declared.conflicts.Choice.TheVariants.{Shift, Reduce, Other, Neither}
use Rattle.lrreport.specs.contracts.causes.KindOrd.TheImpl as kinds
use Rattle.lrreport.specs.contracts.conflicts.ChoiceOrd.TheImpl as choices
use Rattle.lrreport.specs.Causes.{AreAlike, StandTogether}

then_equal : (o p : Ordering) → ordering_then o p ≡ Equal → (o ≡ Equal) × (p ≡ Equal)
then_equal Less p is = absurd (cc)
then_equal Equal p is = (refl, is)
then_equal Greater p is = absurd (cc)

exact_lists : {K : Type 0} (R : K → K → Ordering) → CmpEqualImpliesEq R → CmpEqualImpliesEq (slice_cmp R)
exact_lists R exact [] [] is = refl
exact_lists R exact [] (y ∷ ys) is = absurd (cc)
exact_lists R exact (x ∷ xs) [] is = absurd (cc)
exact_lists R exact (x ∷ xs) (y ∷ ys) is =
    let (first, others) = then_equal (R x y) (slice_cmp R xs ys) is in
    λ i. exact x y first i ∷ exact_lists R exact xs ys others i

exact_options : {K : Type 0} (R : K → K → Ordering) → CmpEqualImpliesEq R → CmpEqualImpliesEq (option_cmp R)
exact_options R exact None None is = refl
exact_options R exact None (Some y) is = absurd (cc)
exact_options R exact (Some x) None is = absurd (cc)
exact_options R exact (Some x) (Some y) is = ap Some (exact x y is)

pub is_equal : (o : Ordering) → is_eq o ≡ true → o ≡ Equal
is_equal Less is = absurd (cc)
is_equal Equal is = refl
is_equal Greater is = absurd (cc)

abbrev pub kind_cmp : Kind → Kind → Ordering
kind_cmp = (kinds.ghosts).cmp

abbrev choice_cmp : Choice → Choice → Ordering
choice_cmp = (choices.ghosts).cmp

exact_choices : CmpEqualImpliesEq choice_cmp
exact_choices Shift Shift is = refl
exact_choices Reduce Reduce is = refl
exact_choices Other Other is = refl
exact_choices Neither Neither is = refl
exact_choices _ _ is = absurd (cc)

pub equal_alike : (k l : Kind) → kind_cmp k l ≡ Equal → AreAlike k l
equal_alike k l is =
    let (production, rest) = then_equal _ _ is in
    let (other, rest_2) = then_equal _ _ rest in
    let (choice, rest_3) = then_equal _ _ rest_2 in
    let (tokens, rest_4) = then_equal _ _ rest_3 in
    let (items, decided) = then_equal _ _ rest_4 in
    record {
      production = exact_unsigned _ _ production;
      other = exact_options nat_cmp exact_unsigned _ _ other;
      choice = exact_options choice_cmp exact_choices _ _ choice;
      tokens = exact_lists nat_cmp exact_unsigned _ _ tokens;
      items = exact_lists _ (exact_pairs nat_cmp nat_cmp exact_unsigned exact_unsigned) _ _ items;
      decided = exact_lists _ (exact_options _ (exact_options nat_cmp exact_unsigned)) _ _ decided;
    }

module _ (total : IsTotalOrder kind_cmp) where
  pub alike_equal : (k l : Kind) → AreAlike k l → kind_cmp k l ≡ Equal
  alike_equal k l a = rw (a.production, a.other, a.choice, a.tokens, a.items, a.decided) (tied_itself total l)

  neither : (o : Ordering) → is_lt o ≡ false → is_gt o ≡ false → o ≡ Equal
  neither Less a b = absurd (cc)
  neither Equal a b = refl
  neither Greater a b = absurd (cc)

  turned : (o p : Ordering) → o ≡ ordering_reverse p → is_lt p ≡ false → is_gt o ≡ false
  turned o Less is unlike = absurd (cc)
  turned o Equal is unlike = rw is refl
  turned o Greater is unlike = rw is refl

  pub stand_together : (ms : List Meeting) → IsSortedBy (λ m n. is_lt (kind_cmp m.kind n.kind)) ms → StandTogether ms
  stand_together ms sorted i j k d a b inside like =
      let order = ranks_by total (λ (m : Meeting). m.kind) in
      let one = (get_or ms i d).kind in
      let two = (get_or ms j d).kind in
      let three = (get_or ms k d).kind in
      let first : is_lt (kind_cmp two one) ≡ false = sorted_far _ order ms sorted i j d a (omega (arith, b, inside)) in
      let second : is_lt (kind_cmp three two) ≡ false = sorted_far _ order ms sorted j k d b inside in
      let same : kind_cmp one two ≡ kind_cmp three two = total.congr one three two (alike_equal one three like) in
      let above : is_lt (kind_cmp one two) ≡ false = ap is_lt same ∙ second in
      equal_alike one two (neither _ above (turned _ _ (total.antisymm one two) first))

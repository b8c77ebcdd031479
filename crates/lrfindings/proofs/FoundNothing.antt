-- without a graph nothing is found
use Rattle.std.proofs.Common.{◌≡◌, ◌∙◌, List, [], ◌∷◌, map, Option, None, Some, Result, Ok, Err, refl, arith}
use Rattle.std.specs.Prelude.{IfNone, IfOk}
use Rattle.std.specs.List.Sorted.{IsPermutation}
use Rattle.std.proofs.lemmas.List.Sorted.{Contains-permutation, IsPermutation-sym}
use Rattle.lrspec.specs.tables.LrTables.{ListsNothing}
use Rattle.lrspec.specs.tables.Table.{Table, lists_of}
use Rattle.lrverdicts.specs.declared.conflicts.Entry.{Entry}
use Rattle.lrfindings.specs.declared.findings.Findings.{Findings}
use Rattle.lrfindings.specs.Findings.{FindNothing}
use Rattle.lrverdicts.specs.Listed.{told, listed}

-- in another order nothing is nothing
pub no_more : {X : Type 0} (xs : List X) → IsPermutation [] xs → xs ≡ []
no_more [] moved = refl
no_more (x ∷ xs) moved =
    let (i, l, e) = Contains-permutation (x ∷ xs) [] x (IsPermutation-sym [] (x ∷ xs) moved) (0, omega arith, refl) in absurd (omega arith)

-- a table that lists nothing has no entries
none_listed : (b : Table) (es : List Entry) → ListsNothing b → IsPermutation (listed (lists_of b)) (map told es) → es ≡ []
none_listed b [] nothing moved = refl
none_listed b (e ∷ es) nothing moved =
    let none : map told (e ∷ es) ≡ [] = no_more (map told (e ∷ es)) (rw (nothing.0, nothing.1) at moved) in absurd cc

-- without a graph no token has a precedence, and no conflict is listed
pub none_both :
    {X : Type 0} (o : Option X) (b : Table) (plain : Type 0) (es : List Entry) → IfNone o plain → IfNone o (ListsNothing b)
    → IsPermutation (listed (lists_of b)) (map told es) → IfNone o (plain × (es ≡ []))
none_both None b plain es is nothing moved = (is, none_listed b es nothing moved)
none_both (Some x) b plain es is nothing moved = tt

module _ (f : Findings) where
  -- the conflicts of the table are left where no token has a precedence, as it is where there is no graph
  pub nothing_found :
      {X : Type 0} (o : Option X) (b : Table) (plain : Type 0) → IfNone o (ListsNothing b) → IfNone o plain
      → IsPermutation (listed (lists_of b)) (map told f.conflicts.items) → (plain → f.left.items ≡ f.conflicts.items)
      → (plain → f.resolved.items ≡ []) → IfNone o (FindNothing f)
  nothing_found None b plain nothing is moved left resolved =
      let none = none_listed b f.conflicts.items nothing moved in
      record {
        conflicts = none;
        left = left is ∙ none;
        resolved = resolved is;
      }
  nothing_found (Some x) b plain nothing is moved left resolved = tt

-- where it holds it holds of the answer, whether or not there is a graph
pub plain_answer : {X Y Z E : Type 0} (r : Result (Option X × Y × Z) E) (plain : Type 0) → plain → IfOk r (λ b. IfNone b.0 plain)
plain_answer (Err e) plain is = tt
plain_answer (Ok b) plain is = where_none b.0 plain is
  where
    where_none : {X : Type 0} (o : Option X) (plain : Type 0) → plain → IfNone o plain
    where_none None plain is = is
    where_none (Some x) plain is = tt

-- states with the productions by which they reduce, one after another, and those by which none does
use Rattle.std.proofs.Common.{◌≡◌, ◌≢◌, ◌+◌, ◌<◌, ◌≤◌, ℕ, zero, suc, Bool, true, false, cond, List, [], ◌∷◌, ◌++◌, length, map, filter, take, set, get_or, replicate, refl, sym, ap, ◌∙◌, arith, append_assoc, eq-eqb, length-set}
use Rattle.std.specs.Prelude.{◌==◌, ◌&&◌, ◌||◌, not}
use Rattle.std.specs.List.{list_any, range_with_len}
use Rattle.std.proofs.lemmas.Bool.{eqb-true}
use Rattle.std.proofs.lemmas.List.{take_more, take_all, map-append, map-id, length-replicate, append-nil, get_or-set_same, get_or-set_other}
use Rattle.std.proofs.lemmas.Simd.{map-map}
use Rattle.std.proofs.lemmas.List.Elements.{filter-append}
use Rattle.std.proofs.lemmas.List.Folds.{list_any_more}
use Rattle.std.proofs.lemmas.List.FromFn.{filter_of_map_range_with_len_more}
use Rattle.lrspec.specs.grammars.Grammar.{Grammar, Production}
use Rattle.lrspec.specs.merging.Graph.{Graph, closed_of}
use Rattle.lrrows.specs.StateRows.{complete_items}
use Rattle.lrgrammar.specs.Bits.{bit}
use Rattle.lrfindings.specs.declared.cells.Reduction.{Reduction}
use Rattle.lrfindings.specs.CellConflicts.{made_in, reduced_in}
use Rattle.lrfindings.specs.StoredCells.{complete}
use Rattle.lrfindings.specs.ReachedStates.{is_unreduced}

-- ---- the productions of complete items that are among others

module _ (q : ℕ → Bool) (s : ℕ) (rs : List Reduction) (i : ℕ) (d : Reduction) (l : i < length rs) (before now : List (ℕ × ℕ)) where
  pairs : List Reduction → List (ℕ × ℕ)
  pairs rs = map (λ p. (s, p)) (filter q (map (λ r. r.production) rs))

  next : pairs (take (i + 1) rs) ≡ pairs (take i rs) ++ map (λ p. (s, p)) (cond (q (get_or rs i d).production) ((get_or rs i d).production ∷ []) [])
  unfolding pairs
  next =
      ap (λ l. map (λ p. (s, p)) (filter q (map (λ (r : Reduction). r.production) l))) (take_more rs i d l)
      ∙ ap (λ l. map (λ p. (s, p)) (filter q l)) (map-append (λ (r : Reduction). r.production) (take i rs) (get_or rs i d ∷ []))
      ∙ ap (map (λ p. (s, p))) (filter-append q (map (λ (r : Reduction). r.production) (take i rs)) ((get_or rs i d).production ∷ []))
      ∙ map-append (λ p. (s, p)) (filter q (map (λ (r : Reduction). r.production) (take i rs))) _

  -- one that is not among them adds nothing
  pub pair_passed :
      q (get_or rs i d).production ≡ false → now ≡ before ++ map (λ p. (s, p)) (filter q (map (λ r. r.production) (take i rs)))
      → now ≡ before ++ map (λ p. (s, p)) (filter q (map (λ r. r.production) (take (i + 1) rs)))
  unfolding pairs
  pair_passed off are =
      are ∙ ap (λ l. before ++ l) (sym (next ∙ ap (λ b. pairs (take i rs) ++ map (λ p. (s, p)) (cond b ((get_or rs i d).production ∷ []) [])) off ∙ append-nil _))

  -- one that is adds its pair
  pub pair_added :
      (new : List (ℕ × ℕ)) → q (get_or rs i d).production ≡ true → new ≡ now ++ (s, (get_or rs i d).production) ∷ []
      → now ≡ before ++ map (λ p. (s, p)) (filter q (map (λ r. r.production) (take i rs)))
      → new ≡ before ++ map (λ p. (s, p)) (filter q (map (λ r. r.production) (take (i + 1) rs)))
  unfolding pairs
  pair_added new on pushed are =
      pushed ∙ ap (λ l. l ++ (s, (get_or rs i d).production) ∷ []) are ∙ append_assoc before (pairs (take i rs)) _
      ∙ ap (λ l. before ++ l) (sym (next ∙ ap (λ b. pairs (take i rs) ++ map (λ p. (s, p)) (cond b ((get_or rs i d).production ∷ []) [])) on))

-- the productions of complete items
productions_are : (g : Grammar) (h : Graph) (s : ℕ) (rs : List Reduction) → map complete rs ≡ complete_items g (closed_of h s) → map (λ r. r.production) rs ≡ map (λ c. c.0) (complete_items g (closed_of h s))
productions_are g h s rs items = sym (map-map (λ (c : ℕ × List Bool). c.0) complete rs) ∙ ap (map (λ (c : ℕ × List Bool). c.0)) items

module _ (g : Grammar) (h : Graph) (s : ℕ) (rs : List Reduction) (before : List (ℕ × ℕ)) (items : map complete rs ≡ complete_items g (closed_of h s)) where
  -- without complete items none is added
  pub none_reduced : rs ≡ [] → before ≡ before ++ map (λ p. (s, p)) (reduced_in g h s)
  none_reduced none =
      let no : map (λ (c : ℕ × List Bool). c.0) (complete_items g (closed_of h s)) ≡ [] = sym (productions_are g h s rs items) ∙ ap (map (λ (r : Reduction). r.production)) none in
      sym (ap (λ ps. before ++ map (λ p. (s, p)) (filter (λ p. list_any (λ q. q == p) (made_in g h s)) ps)) no ∙ append-nil before)

  -- those are added by which the state reduces
  pub reduced_there :
      (made : List ℕ) (new : List (ℕ × ℕ)) → made ≡ made_in g h s
      → new ≡ before ++ map (λ p. (s, p)) (filter (λ p. list_any (λ q. q == p) made) (map (λ r. r.production) rs))
      → new ≡ before ++ map (λ p. (s, p)) (reduced_in g h s)
  reduced_there made new all added =
      added ∙ ap (λ ms. before ++ map (λ p. (s, p)) (filter (λ p. list_any (λ q. q == p) ms) (map (λ (r : Reduction). r.production) rs))) all
      ∙ ap (λ ps. before ++ map (λ p. (s, p)) (filter (λ p. list_any (λ q. q == p) (made_in g h s)) ps)) (productions_are g h s rs items)

-- ---- a bit for each production

-- the bits of productions are set of which the pairs so far tell
pub record AreBits (reduced : List (ℕ × ℕ)) (ps : List Production) (i : ℕ) (bits : List Bool) : Type 0 where
  pub many : length bits ≡ length ps
  pub bits_are : (p : ℕ) → p < length ps → bit bits p ≡ list_any (λ m. m.1 == p) (take i reduced)

none_set : (n p : ℕ) → bit (replicate n false) p ≡ false
none_set zero p = refl
none_set (suc n) zero = refl
none_set (suc n) (suc p) = none_set n p

or_true : (b : Bool) → (b || true) ≡ true
or_true true = refl
or_true false = refl

or_false : (b : Bool) → (b || false) ≡ b
or_false true = refl
or_false false = refl

-- numbers that differ are not the same
pub differ : (m p : ℕ) → m ≢ p → (m == p) ≡ false
differ m p apart = go (m == p) refl
  where
    go : (b : Bool) → (m == p) ≡ b → b ≡ false
    go true e = absurd (apart (eqb-true m p e))
    go false e = refl

-- before the first none is set
pub no_bits : (reduced : List (ℕ × ℕ)) (ps : List Production) (n : ℕ) (bits : List Bool) → bits ≡ replicate n false → n ≡ length ps → AreBits reduced ps 0 bits
no_bits reduced ps n bits e many = record {
  many = ap length e ∙ length-replicate n false ∙ many;
  bits_are = λ p l. ap (λ v. bit v p) e ∙ none_set n p;
}

module _ (reduced : List (ℕ × ℕ)) (ps : List Production) (i : ℕ) (d : ℕ × ℕ) (l : i < length reduced) (bits : List Bool) (are : AreBits reduced ps i bits) where
  more : (p : ℕ) → list_any (λ m. m.1 == p) (take (i + 1) reduced) ≡ (list_any (λ m. m.1 == p) (take i reduced) || ((get_or reduced i d).1 == p))
  more p = list_any_more (λ m. m.1 == p) reduced i d l

  -- a pair without a production of the grammar sets none
  pub bit_passed : length bits ≤ (get_or reduced i d).1 → AreBits reduced ps (i + 1) bits
  bit_passed beyond = record {
    many = are.many;
    bits_are = λ p k.
        let apart : ((get_or reduced i d).1 == p) ≡ false = differ _ p (λ same. absurd (omega (arith, beyond, are.many, same, k))) in
        are.bits_are p k ∙ sym (more p ∙ ap (λ b. list_any (λ m. m.1 == p) (take i reduced) || b) apart ∙ or_false _);
  }

  -- a pair sets the bit of its production
  pub bit_set : (new : List Bool) → (get_or reduced i d).1 < length bits → new ≡ set bits (get_or reduced i d).1 true → AreBits reduced ps (i + 1) new
  bit_set new within is = record {
    many = ap length is ∙ length-set bits (get_or reduced i d).1 true ∙ are.many;
    bits_are = λ p k. ap (λ v. bit v p) is ∙ at p k (m == p) refl;
  }
    where
      m : ℕ
      m = (get_or reduced i d).1

      at : (p : ℕ) → p < length ps → (b : Bool) → (m == p) ≡ b → bit (set bits m true) p ≡ list_any (λ m. m.1 == p) (take (i + 1) reduced)
      at p k true e =
          ap (λ q. bit (set bits q true) p) (eqb-true m p e) ∙ get_or-set_same bits p true false (omega (arith, are.many, k))
          ∙ sym (more p ∙ ap (λ b. list_any (λ m. m.1 == p) (take i reduced) || b) e ∙ or_true _)
      at p k false e =
          get_or-set_other bits m p true false (λ same. let yes : (m == p) ≡ true = eq-eqb m p (sym same) in absurd cc)
          ∙ are.bits_are p k ∙ sym (more p ∙ ap (λ b. list_any (λ m. m.1 == p) (take i reduced) || b) e ∙ or_false _)

-- behind the last one they are those of all pairs
pub all_bits :
    (reduced : List (ℕ × ℕ)) (ps : List Production) (i : ℕ) (bits : List Bool) → length reduced ≤ i → AreBits reduced ps i bits
    → (p : ℕ) → p < length ps → bit bits p ≡ list_any (λ m. m.1 == p) reduced
all_bits reduced ps i bits l are p k = are.bits_are p k ∙ ap (list_any (λ m. m.1 == p)) (take_all i reduced l)

-- ---- the productions whose bits are not set

module _ (first : ℕ) (reduced : List (ℕ × ℕ)) where
  range_more : (k : ℕ) → filter (is_unreduced first reduced) (range_with_len 0 (k + 1)) ≡ filter (is_unreduced first reduced) (range_with_len 0 k) ++ cond (is_unreduced first reduced k) (k ∷ []) []
  range_more k =
      ap (filter (is_unreduced first reduced)) (sym (map-id (range_with_len 0 (k + 1))))
      ∙ filter_of_map_range_with_len_more (is_unreduced first reduced) (λ x. x) 0 k k (omega arith)
      ∙ ap (λ l. filter (is_unreduced first reduced) l ++ cond (is_unreduced first reduced k) (k ∷ []) []) (map-id (range_with_len 0 k))

  -- the start production is passed over
  pub first_passed : (k : ℕ) (old : List ℕ) → k ≡ first → old ≡ filter (is_unreduced first reduced) (range_with_len 0 k) → old ≡ filter (is_unreduced first reduced) (range_with_len 0 (k + 1))
  first_passed k old same are =
      let off : is_unreduced first reduced k ≡ false = ap (λ b. not b && not (list_any (λ m. m.1 == k) reduced)) (eq-eqb k first same) in
      are ∙ sym (range_more k ∙ ap (λ b. filter (is_unreduced first reduced) (range_with_len 0 k) ++ cond b (k ∷ []) []) off ∙ append-nil _)

  -- and so is one by which a state reduces
  pub reduced_passed : (k : ℕ) (old : List ℕ) → list_any (λ m. m.1 == k) reduced ≡ true → old ≡ filter (is_unreduced first reduced) (range_with_len 0 k) → old ≡ filter (is_unreduced first reduced) (range_with_len 0 (k + 1))
  reduced_passed k old is are =
      let off : is_unreduced first reduced k ≡ false = ap (λ b. not (k == first) && not b) is ∙ never (not (k == first)) in
      are ∙ sym (range_more k ∙ ap (λ b. filter (is_unreduced first reduced) (range_with_len 0 k) ++ cond b (k ∷ []) []) off ∙ append-nil _)
    where
      never : (b : Bool) → (b && false) ≡ false
      never true = refl
      never false = refl

  -- any other one is taken
  pub one_taken :
      (k : ℕ) (old new : List ℕ) → (k == first) ≡ false → list_any (λ m. m.1 == k) reduced ≡ false → new ≡ old ++ k ∷ []
      → old ≡ filter (is_unreduced first reduced) (range_with_len 0 k) → new ≡ filter (is_unreduced first reduced) (range_with_len 0 (k + 1))
  one_taken k old new apart none pushed are =
      let on : is_unreduced first reduced k ≡ true = ap (λ b. not b && not (list_any (λ m. m.1 == k) reduced)) apart ∙ ap not none in
      pushed ∙ ap (λ l. l ++ k ∷ []) are ∙ sym (range_more k ∙ ap (λ b. filter (is_unreduced first reduced) (range_with_len 0 k) ++ cond b (k ∷ []) []) on)

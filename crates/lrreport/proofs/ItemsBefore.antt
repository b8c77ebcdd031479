-- items before tokens, read off the keys of a map
use Rattle.std.proofs.Common.{◌≡◌, ℕ, Bool, true, false, ◌||◌, List, [], ◌∷◌, ◌++◌, Option, None, Some, map, cond, refl, sym, ap, subst, ◌∙◌, append-nil, append_assoc}
use Rattle.std.proofs.lemmas.List.Elements.{filter_agree}
use Rattle.std.proofs.lemmas.Simd.{map-map}
use Rattle.std.specs.BTreeSet.{BTreeSet, IsFromIterResult, contains}
use Rattle.std.specs.Cmp.{unsigned_ties}
use Rattle.std.specs.List.{filter, list_all}
use Rattle.std.specs.Map.{keys_of}
use Rattle.std.specs.Ordering.{eq_by_cmp, nat_cmp}
use Rattle.std.specs.Set.{is_member}
use Rattle.std.specs.Prelude.{is_none, is_some, slice_get}
use Rattle.std.specs.Bool.{then_some}
use Rattle.lrspec.specs.grammars.ItemSets.{Items}
use Rattle.lrspec.specs.merging.Graph.{Graph, closed_of}
use Rattle.lrspec.specs.tables.Table.{Table}
use Rattle.lrgrammar.specs.declared.grammar.PartSymbol.{PartSymbol}
use Rattle.lrgrammar.specs.declared.grammar.PartSymbol.TheVariants.{Rule, Token}
use Rattle.lrverdicts.specs.declared.conflicts.Entry.{Entry}
use Rattle.lrreport.specs.declared.conflicts.Choice.{Choice}
use Rattle.lrgrammar.specs.declared.idx.PIdx.{PIdx}
use Rattle.lrgrammar.specs.declared.idx.SIdx.{SIdx}
use Rattle.lritems.specs.declared.itemset.Itemset.{Itemset}
use Rattle.lritems.specs.ItemsOf.{set_of}
use Rattle.lryacc.specs.declared.numbering.FileGrammar.{FileGrammar}
use Rattle.lrreport.specs.Conflicts.{choice_at, common_choice, is_choice, is_met_at, is_token, items_before, shifting_items, symbol_behind}

module _ {T : Type 0} (number : T → ℕ) (file : FileGrammar) (tokens : BTreeSet ℕ) where
  -- whether one of the tokens stands behind the dot
  abbrev pub stands : ℕ × ℕ → Bool
  stands item = is_token (contains nat_cmp tokens) (symbol_behind file item)

  abbrev pub item_of : PIdx T × SIdx T → ℕ × ℕ
  item_of key = (number key.0.0, number key.1.0)

  abbrev pub before : List (PIdx T × SIdx T) → List (ℕ × ℕ)
  before keys = filter stands (map item_of keys)

  -- one item more, or it is passed over
  pub one_before : (so_far whole : List (ℕ × ℕ)) (key : PIdx T × SIdx T) (keys : List (PIdx T × SIdx T)) → stands (item_of key) ≡ true
      → so_far ++ before (key ∷ keys) ≡ whole → (so_far ++ item_of key ∷ []) ++ before keys ≡ whole
  one_before so_far whole key keys is all =
      let kept : before (key ∷ keys) ≡ item_of key ∷ before keys = rw is refl in
      append_assoc so_far (item_of key ∷ []) (before keys) ∙ ap (λ v. so_far ++ v) (sym kept) ∙ all

  pub none_before : (so_far whole : List (ℕ × ℕ)) (key : PIdx T × SIdx T) (keys : List (PIdx T × SIdx T)) → stands (item_of key) ≡ false
      → so_far ++ before (key ∷ keys) ≡ whole → so_far ++ before keys ≡ whole
  none_before so_far whole key keys is all =
      let left : before (key ∷ keys) ≡ before keys = rw is refl in
      ap (λ v. so_far ++ v) (sym left) ∙ all

  -- where none is left, they are those of the item set
  pub all_before : (closed : Itemset T) (items : List (ℕ × ℕ)) → items ++ before [] ≡ before (keys_of closed.items.entries)
      → items ≡ items_before file (contains nat_cmp tokens) (set_of number closed)
  all_before closed items all =
      let es = closed.items.entries in
      let one = map-map item_of (λ e. e.0) es in
      let other = map-map (λ e. e.0) (λ e. ((number e.0.0.0, number e.0.1.0), e.1)) es in
      sym (append-nil items) ∙ all ∙ ap (filter stands) (one ∙ sym other)

module _ (file : FileGrammar) (test other : ℕ → Bool) (same : (t : ℕ) → test t ≡ other t) where
  same_token : (o : Option PartSymbol) → is_token test o ≡ is_token other o
  same_token None = refl
  same_token (Some (Rule r)) = refl
  same_token (Some (Token t)) = same t

  -- tests that agree keep the same items
  pub same_before : (items : Items) → items_before file test items ≡ items_before file other items
  same_before items = filter_agree _ _ (λ item. same_token (symbol_behind file item)) (map (λ e. e.0) items)

is_met : (es : List Entry) (t : ℕ) → is_member (eq_by_cmp nat_cmp) (map (λ e. e.token) es) t ≡ is_met_at es t
is_met [] t = refl
is_met (e ∷ es) t = (λ i. sym (unsigned_ties t e.token) i || is_met es t i)

-- the set of the tokens of entries has those at which they meet
pub token_met : (es : List Entry) (tokens : BTreeSet ℕ) → IsFromIterResult nat_cmp (map (λ e. e.token) es) tokens → (t : ℕ) → contains nat_cmp tokens t ≡ is_met_at es t
token_met es tokens made t = made.0 t ∙ is_met es t

not_some : {X : Type 0} (o : Option X) → is_some o ≡ false → is_none o ≡ true
not_some None fails = refl
not_some (Some x) fails = absurd (cc)

module _ (file : FileGrammar) (h : Graph) where
  first_of :
      (es : List Entry) (e : Entry) → slice_get es 0 ≡ Some e
      → shifting_items file (Some h) es ≡ cond (is_none e.other) (items_before file (is_met_at es) (closed_of h e.state)) []
  first_of [] e is = absurd (cc)
  first_of (x ∷ xs) e is =
      let same : x ≡ e = cc in
      let P : Entry → Type 0 = λ y. shifting_items file (Some h) (x ∷ xs) ≡ cond (is_none y.other) (items_before file (is_met_at (x ∷ xs)) (closed_of h y.state)) [] in
      subst P same refl

  -- the items of entries, by the first of these, where a production meets a shift
  pub by_first :
      (es : List Entry) (e : Entry) → slice_get es 0 ≡ Some e → is_some e.other ≡ false
      → shifting_items file (Some h) es ≡ items_before file (is_met_at es) (closed_of h e.state)
  by_first es e is alone = first_of es e is ∙ rw (not_some e.other alone) refl

chosen : {X : Type 0} (r : Bool) (x : X) → then_some r x ≡ cond r (Some x) None
chosen true x = refl
chosen false x = refl

-- what the table does at entries, by the first of these
pub common :
    (b : Table) (e : Entry) (others : List Entry) (r : Bool) (choice : Choice) → choice ≡ choice_at b e
    → r ≡ list_all (λ f. is_choice choice (choice_at b f)) others → then_some r choice ≡ common_choice b (e ∷ others)
common b e others r choice is all = chosen r choice ∙ rw (all, is) refl

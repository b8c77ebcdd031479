-- names of tokens, one token after the other
use Rattle.std.proofs.Common.{◌≡◌, ℕ, ◌+◌, ◌<◌, List, [], ◌∷◌, ◌++◌, map, Option, None, Some, refl, ap, sym, ◌∙◌, arith, append_assoc, append-nil}
use Rattle.std.specs.Prelude.{All, option_map}
use Rattle.std.specs.List.{filter_map, cons_option, range_with_len}
use Rattle.std.specs.Option.{option_to_list}
use Rattle.std.proofs.lemmas.List.{map-id}
use Rattle.std.proofs.lemmas.List.FromFn.{map-range_with_len_more}
use Rattle.std.proofs.lemmas.List.Elements.{All-nil, All-cons, All-head, All-tail, All-push, All-append, All-same}
use Rattle.lryacc.specs.declared.numbering.FileGrammar.{FileGrammar}
use Rattle.lrparsing.specs.declared.spellings.Spelling.{Spelling}
use Rattle.lrparsing.specs.Lines.{HasMore, named_token, named_tokens, spelled}

-- ---- names in order

module _ {X Y : Type 0} (h : X → Option Y) where
  alone : (o : Option Y) → cons_option o [] ≡ option_to_list o
  alone None = refl
  alone (Some y) = refl

  behind_first : (o : Option Y) (front behind : List Y) → cons_option o (front ++ behind) ≡ cons_option o front ++ behind
  behind_first None front behind = refl
  behind_first (Some y) front behind = refl

  filter_last : (xs : List X) (x : X) → filter_map h (xs ++ x ∷ []) ≡ filter_map h xs ++ option_to_list (h x)
  filter_last [] x = alone (h x)
  filter_last (y ∷ ys) x = ap (cons_option (h y)) (filter_last ys x) ∙ behind_first (h y) (filter_map h ys) (option_to_list (h x))

counting : (k : ℕ) → range_with_len 0 (k + 1) ≡ range_with_len 0 k ++ k ∷ []
counting k =
    sym (map-id (range_with_len 0 (k + 1))) ∙ map-range_with_len_more (λ n. n) 0 k k (omega arith) ∙ ap (λ l. l ++ k ∷ []) (map-id (range_with_len 0 k))

-- the name of a further token
pub named_more : (file : FileGrammar) (k : ℕ) → named_tokens file (k + 1) ≡ named_tokens file k ++ option_to_list (named_token file k)
named_more file k = ap (filter_map (named_token file)) (counting k) ∙ filter_last (named_token file) (range_with_len 0 k) k

-- ---- further names

-- none
pub no_more : (count : ℕ) (old : List (List ℕ × ℕ)) → HasMore count old old
no_more count old = record { more = []; are = sym (append-nil old); below = All-nil (λ s. s.1 < count) }

-- one, if there is one
pub one_more :
    {X : Type 0} (count t : ℕ) (f : X → List ℕ) (o : Option X) (old here new : List (List ℕ × ℕ))
    → t < count → HasMore count old here → new ≡ here ++ option_to_list (option_map (λ x. (f x, t)) o) → HasMore count old new
one_more count t f None old here new below m e = record { more = m.more; are = e ∙ append-nil here ∙ m.are; below = m.below }
one_more count t f (Some x) old here new below m e = record {
  more = m.more ++ (f x, t) ∷ [];
  are = e ∙ ap (λ l. l ++ (f x, t) ∷ []) m.are ∙ append_assoc old m.more ((f x, t) ∷ []);
  below = All-push (λ s. s.1 < count) m.more (f x, t) m.below below;
}

-- and more behind these
pub more_behind : (count : ℕ) (old here new : List (List ℕ × ℕ)) → HasMore count old here → HasMore count here new → HasMore count old new
more_behind count old here new m k = record {
  more = m.more ++ k.more;
  are = k.are ∙ ap (λ l. l ++ k.more) m.are ∙ append_assoc old m.more k.more;
  below = All-append (λ s. s.1 < count) m.more k.more m.below k.below;
}

-- ---- their tokens

of_images : (count : ℕ) (ss : List Spelling) → All (λ s. s.1 < count) (map spelled ss) → All (λ s. s.token.0 < count) ss
of_images count [] each = All-nil (λ s. s.token.0 < count)
of_images count (s ∷ ss) each =
    let P : List ℕ × ℕ → Type 0 = λ s. s.1 < count in
    All-cons (λ s. s.token.0 < count) s ss (All-head P (spelled s) (map spelled ss) each)
    (of_images count ss (All-tail P (spelled s) (map spelled ss) each))

pub all_below : (count : ℕ) (ss : List Spelling) → HasMore count [] (map spelled ss) → All (λ s. s.token.0 < count) ss
all_below count ss m = of_images count ss (All-same (λ s. s.1 < count) (map spelled ss) m.more m.are m.below)

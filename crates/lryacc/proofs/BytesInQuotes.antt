-- bytes in quotes that are read one after another
use Rattle.std.proofs.Common.{◌≡◌, ◌≢◌, ℕ, ◌+◌, ◌-◌, ◌<◌, true, List, [], ◌∷◌, ◌++◌, length, length-append, slice_index, refl, subst, sym, ap, ◌∙◌, arith}
use Rattle.std.proofs.lemmas.Bool.Decides.{nat_tests}
use Rattle.std.proofs.Math.Seq.{get_or-append_seam}
use Rattle.lryacc.specs.Quotes.{AreBytesIn, IsByteIn, IsEscape, is_literal}
use Rattle.lryacc.specs.QuotesRead.{AreBytesUpTo}
use Rattle.lryacc.specs.Quotes.AreBytesIn.{more, none}
use Rattle.lryacc.specs.Quotes.IsByteIn.{escape, literal}

-- none at first
pub none-read : (quote : ℕ) (text : List ℕ) (start at : ℕ) → start ≡ at → AreBytesUpTo quote text start at 0 0
none-read quote text start at same =
    record { bytes = []; are = subst (λ at. AreBytesIn quote text start at []) same none; number_is = refl; last_is = refl }

-- and one more
more-read : (quote : ℕ) (text : List ℕ) (start at end number last byte : ℕ) → AreBytesUpTo quote text start at number last
    → IsByteIn quote text at end byte → AreBytesUpTo quote text start end (number + 1) byte
more-read quote text start at end number last byte read next =
    let long : length (read.bytes ++ byte ∷ []) ≡ number + 1 =
    length-append read.bytes (byte ∷ []) ∙ ap (λ n. n + 1) (sym read.number_is) in
    let place : number + 1 - 1 ≡ length read.bytes = omega (arith, read.number_is) in
    record {
      bytes = read.bytes ++ byte ∷ [];
      are = more read.are next;
      number_is = sym long;
      last_is = rw (place, get_or-append_seam read.bytes byte [] 0) refl;
    }

-- a byte that is neither quote nor line feed nor backslash
plain : (quote byte : ℕ) → byte ≢ quote → byte ≢ 10 → byte ≢ 92 → is_literal quote byte ≡ true
plain quote byte no_quote no_feed no_backslash = grind (arith, nat_tests)

-- which stands there by itself
pub literal-read : (quote : ℕ) (text : List ℕ) (start at end number last next added : ℕ) → AreBytesUpTo quote text start at number last
    → next ≡ slice_index text at → slice_index text at ≢ quote → slice_index text at ≢ 10 → slice_index text at ≢ 92
    → end ≡ at + 1 → added ≡ number + 1 → AreBytesUpTo quote text start end added next
literal-read quote text start at end number last next added read is no_quote no_feed no_backslash behind one =
    let by_itself = literal (plain quote (slice_index text at) no_quote no_feed no_backslash) in
    rw (behind, one, is) (more-read quote text start at (at + 1) number last (slice_index text at) read by_itself)

-- or is an escape
pub escape-read : (quote : ℕ) (text : List ℕ) (start at end place number last byte next added : ℕ)
    → AreBytesUpTo quote text start at number last → slice_index text at ≡ 92 → IsEscape text at place byte → 0 < byte → byte < 256
    → next ≡ byte → end ≡ place → added ≡ number + 1 → AreBytesUpTo quote text start end added next
escape-read quote text start at end place number last byte next added read backslash is some small same behind one =
    rw (behind, one, same) (more-read quote text start at place number last byte read (escape backslash is some small))

-- arguments that ask for something
use Rattle.std.proofs.Common.{◌≡◌, ℕ, ◌<◌, ◌≤◌, List, [], ◌∷◌, length, map, get_or, Some, None, sym, ap, arith}
use Rattle.lrcommand.specs.declared.requests.Listing.{Listing}
use Rattle.lrcommand.specs.declared.requests.Listing.TheVariants.{Start}
use Rattle.lrcommand.specs.declared.requests.Command.TheVariants.{Print, Answer}
use Rattle.lrcommand.specs.declared.requests.Reply.{Reply}
use Rattle.lrcommand.specs.Requests.{listing_name, reply_name, Asks, WritesSteps}

pub asks_alone : {X : Type 0} (f : X → List ℕ) (xs : List X) → length xs < 1 → Asks (map f xs) (Print Start) None
asks_alone f [] below = Asks.alone
asks_alone f (x ∷ xs) below = absurd (omega (arith, below))

-- what is printed, and a file
pub asks_print :
    {X : Type 0} (f : X → List ℕ) (xs : List X) (a b : X) (listing : Listing) (word file : List ℕ) → 2 ≤ length xs → length xs < 3 → a ≡ get_or xs 0 a
    → b ≡ get_or xs 1 b → listing_name listing ≡ word → word ≡ f a → file ≡ f b → Asks (map f xs) (Print listing) (Some file)
asks_print f [] a b listing word file least below first second named is_word is_file = absurd (omega (arith, least))
asks_print f (x ∷ []) a b listing word file least below first second named is_word is_file = absurd (omega (arith, least))
asks_print f (x ∷ y ∷ []) a b listing word file least below first second named is_word is_file =
    rw (ap f (sym first), ap f (sym second), sym is_word, sym is_file, sym named) (Asks.print listing file)
asks_print f (x ∷ y ∷ z ∷ xs) a b listing word file least below first second named is_word is_file = absurd (omega (arith, below))

-- what lines are answered by, a file and a number of steps
pub asks_answer :
    {X : Type 0} (f : X → List ℕ) (xs : List X) (a b d : X) (reply : Reply) (word file digits : List ℕ) (steps : ℕ) → 3 ≤ length xs → length xs < 4
    → a ≡ get_or xs 0 a → b ≡ get_or xs 1 b → d ≡ get_or xs 2 d → reply_name reply ≡ word → word ≡ f a → file ≡ f b → digits ≡ f d
    → WritesSteps digits steps → Asks (map f xs) (Answer reply steps) (Some file)
asks_answer f [] a b d reply word file digits steps least below first second third named is_word is_file is_digits writes = absurd (omega (arith, least))
asks_answer f (x ∷ []) a b d reply word file digits steps least below first second third named is_word is_file is_digits writes = absurd (omega (arith, least))
asks_answer f (x ∷ y ∷ []) a b d reply word file digits steps least below first second third named is_word is_file is_digits writes =
    absurd (omega (arith, least))
asks_answer f (x ∷ y ∷ z ∷ []) a b d reply word file digits steps least below first second third named is_word is_file is_digits writes =
    rw (ap f (sym first), ap f (sym second), ap f (sym third), sym is_word, sym is_file, sym is_digits, sym named) (Asks.answer reply file digits steps writes)
asks_answer f (x ∷ y ∷ z ∷ v ∷ xs) a b d reply word file digits steps least below first second third named is_word is_file is_digits writes =
    absurd (omega (arith, below))

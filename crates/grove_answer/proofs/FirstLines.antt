-- The first line of a text has no line feed.
use Rattle.std.proofs.Common.{◌≡◌, ◌≢◌, ℕ, Bool, true, false, cond, not, ◌==◌, List, [], ◌∷◌, length, sym}
use Rattle.std.proofs.Common.{subst, refl, arith}
use Rattle.std.specs.Prelude.{All}
use Rattle.std.specs.List.{before_first, position_or_len}
use Rattle.std.proofs.lemmas.List.{take_all}
use Rattle.std.proofs.lemmas.List.Elements.{All-nil, All-cons}
use Rattle.std.proofs.lemmas.List.Sums.{take_while-cons}

abbrev NoFeed : ℕ → Type 0
NoFeed byte = byte ≢ 10

one_more : (is : Bool) (byte : ℕ) (rest : List ℕ) → (is ≡ false → NoFeed byte) → All NoFeed rest
    → All NoFeed (cond (not is) (byte ∷ rest) [])
one_more true byte rest other more = All-nil NoFeed
one_more false byte rest other more = All-cons NoFeed byte rest (other refl) more

abbrev first_line : List ℕ → List ℕ
first_line text = before_first (λ byte. byte == 10) text

first_is : (text : List ℕ) → All NoFeed (first_line text)
first_is [] = All-nil NoFeed
first_is (byte ∷ text) =
    rw (take_while-cons (λ (b : ℕ). not (b == 10)) byte text)
    (one_more (byte == 10) byte (first_line text)
    (λ found is. let never : true ≡ false = subst (λ (b : ℕ). (b == 10) ≡ false) is found in absurd (cc))
    (first_is text))

pub feedless : (text line : List ℕ) → line ≡ first_line text → All NoFeed line
feedless text line is = subst (All NoFeed) (sym is) (first_is text)

-- a text without a line feed is its first line
pub whole_line : (text : List ℕ) → position_or_len (λ byte. byte == 10) text ≡ length text → first_line text ≡ text
whole_line text none = rw none (take_all (length text) text (omega arith))

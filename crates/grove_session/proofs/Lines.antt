-- Lines of bytes that are read piece by piece.
use Rattle.std.proofs.Common.{◌≡◌, ℕ, suc, ◌+◌, ◌-◌, ◌<◌, Bool, true, false, cond, eqb, List, [], ◌∷◌, ◌++◌, length, take, drop, get_or, refl, sym, ap, ◌∙◌, append_assoc, append-nil, take-append-drop, arith}
use Rattle.std.proofs.lemmas.List.{take_more, take_rest, get_or-take, length-take-le}
use Rattle.std.proofs.lemmas.Grind.{get_or_default_zero}
use Rattle.std.proofs.lemmas.Bool.{ne_eqb, eq-eqb, eqb-true, cond-false}
use Rattle.memchr.specs.Find.{Nowhere, Passes, is_byte}
use Rattle.grove_session.specs.Sessions.{lines_from, rest_from, whole_lines, rest_of}
use Rattle.grove_session.specs.Cuts.{IsFeedless}

-- ---- bytes and more bytes

lines_by_cases : (b : Bool) (l r l1 r1 : List (List ℕ)) (p q ys : List ℕ) → l ≡ l1 ++ lines_from p ys → r ≡ r1 ++ lines_from q ys
    → ◌≡◌ {A = List (List ℕ)} (cond b l r) (cond b l1 r1 ++ lines_from (cond b p q) ys)
lines_by_cases true l r l1 r1 p q ys h k = h
lines_by_cases false l r l1 r1 p q ys h k = k

-- the lines of bytes and more bytes
pub lines_from-append : (line xs ys : List ℕ) → lines_from line (xs ++ ys) ≡ lines_from line xs ++ lines_from (rest_from line xs) ys
lines_from-append line [] ys = refl
lines_from-append line (x ∷ xs) ys =
    lines_by_cases (eqb x 10) (line ∷ lines_from [] (xs ++ ys)) (lines_from (line ++ x ∷ []) (xs ++ ys))
    (line ∷ lines_from [] xs) (lines_from (line ++ x ∷ []) xs) (rest_from [] xs) (rest_from (line ++ x ∷ []) xs) ys
    (ap (λ ls. line ∷ ls) (lines_from-append [] xs ys)) (lines_from-append (line ++ x ∷ []) xs ys)

rest_by_cases : (b : Bool) (l r p q ys : List ℕ) → l ≡ rest_from p ys → r ≡ rest_from q ys → ◌≡◌ {A = List ℕ} (cond b l r) (rest_from (cond b p q) ys)
rest_by_cases true l r p q ys h k = h
rest_by_cases false l r p q ys h k = k

-- what is left after bytes and more bytes
pub rest_from-append : (line xs ys : List ℕ) → rest_from line (xs ++ ys) ≡ rest_from (rest_from line xs) ys
rest_from-append line [] ys = refl
rest_from-append line (x ∷ xs) ys =
    rest_by_cases (eqb x 10) (rest_from [] (xs ++ ys)) (rest_from (line ++ x ∷ []) (xs ++ ys)) (rest_from [] xs) (rest_from (line ++ x ∷ []) xs) ys
    (rest_from-append [] xs ys) (rest_from-append (line ++ x ∷ []) xs ys)

-- ---- bytes of one line

-- bytes without a line feed end no line, and are more of the one that is begun
feedless_from : (bytes line : List ℕ) → IsFeedless bytes → (lines_from line bytes ≡ []) × (rest_from line bytes ≡ line ++ bytes)
feedless_from [] line none = (refl, sym (append-nil line))
feedless_from (x ∷ bytes) line none =
    let other = ne_eqb x 10 (none 0 x (omega arith)) in
    let later = feedless_from bytes (line ++ x ∷ []) (λ k d lt. none (suc k) d (omega arith)) in (
      cond-false (eqb x 10) (line ∷ lines_from [] bytes) (lines_from (line ++ x ∷ []) bytes) other ∙ later.0,
      cond-false (eqb x 10) (rest_from [] bytes) (rest_from (line ++ x ∷ []) bytes) other ∙ later.1 ∙ append_assoc line (x ∷ []) bytes,
    )

-- they end no line of an input
pub whole_lines-feedless : (input bytes : List ℕ) → IsFeedless bytes → whole_lines (input ++ bytes) ≡ whole_lines input
whole_lines-feedless input bytes none =
    lines_from-append [] input bytes
    ∙ ap (λ (ls : List (List ℕ)). whole_lines input ++ ls) (feedless_from bytes (rest_of input) none).0
    ∙ append-nil (whole_lines input)

-- and are more of its line
pub rest_of-feedless : (input bytes : List ℕ) → IsFeedless bytes → rest_of (input ++ bytes) ≡ rest_of input ++ bytes
rest_of-feedless input bytes none = rest_from-append [] input bytes ∙ (feedless_from bytes (rest_of input) none).1

-- with a line feed behind them they end it
pub whole_lines-line : (input bytes : List ℕ) → IsFeedless bytes
    → whole_lines (input ++ (bytes ++ 10 ∷ [])) ≡ whole_lines input ++ (rest_of input ++ bytes) ∷ []
whole_lines-line input bytes none =
    let here = feedless_from bytes (rest_of input) none in
    lines_from-append [] input (bytes ++ 10 ∷ [])
    ∙ ap (λ (ls : List (List ℕ)). whole_lines input ++ ls) (lines_from-append (rest_of input) bytes (10 ∷ [])
    ∙ ap (λ (ls : List (List ℕ)). ls ++ rest_from (rest_of input) bytes ∷ []) here.0
    ∙ ap (λ (line : List ℕ). line ∷ []) here.1)

-- and the next begins
pub rest_of-line : (input bytes : List ℕ) → rest_of (input ++ (bytes ++ 10 ∷ [])) ≡ []
rest_of-line input bytes =
    rest_from-append [] input (bytes ++ 10 ∷ []) ∙ rest_from-append (rest_of input) bytes (10 ∷ [])

-- ---- the first line feed of bytes

-- where no byte passes as a line feed, none is one
pub none_feedless : (bytes : List ℕ) → Nowhere (Passes (is_byte 10) bytes) 0 (length bytes) → IsFeedless bytes
none_feedless bytes none k d lt is = none k (omega arith) lt (eq-eqb (get_or bytes k 0) 10 (sym (get_or_default_zero bytes k d lt) ∙ is))

-- nor among the bytes before the first that passes
pub before_feedless : (bytes : List ℕ) (n : ℕ) → n < length bytes → Nowhere (Passes (is_byte 10) bytes) 0 n → IsFeedless (take n bytes)
before_feedless bytes n within none k d lt is =
    let e = length-take-le n bytes (omega arith) in
    let less : k < n = omega arith in
    none k (omega arith) less (eq-eqb (get_or bytes k 0) 10 (sym (get_or_default_zero bytes k d (omega arith)) ∙ sym (get_or-take n bytes k d less) ∙ is))

-- the bytes before a line feed, it, and the bytes behind it
pub at_feed : (bytes : List ℕ) (n : ℕ) → n < length bytes → Passes (is_byte 10) bytes n
    → (take n bytes ++ 10 ∷ []) ++ take (length bytes - (n + 1)) (drop (n + 1) bytes) ≡ bytes
at_feed bytes n lt is =
    ap (λ (b : ℕ). (take n bytes ++ b ∷ []) ++ take (length bytes - (n + 1)) (drop (n + 1) bytes)) (sym (eqb-true (get_or bytes n 0) 10 is))
    ∙ ap (λ (xs : List ℕ). xs ++ take (length bytes - (n + 1)) (drop (n + 1) bytes)) (sym (take_more bytes n 0 lt))
    ∙ ap (λ (xs : List ℕ). take (n + 1) bytes ++ xs) (take_rest bytes (n + 1))
    ∙ take-append-drop (n + 1) bytes

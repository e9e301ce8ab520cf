-- No JSON text without white space has a line feed in it.
use Rattle.std.proofs.Common.{◌≡◌, ◌≢◌, ◌⊎◌, ℕ, zero, suc, ◌+◌, ◌/◌, ◌%◌, ◌≤◌, Bool, true, false, cond, ◌||◌, ◌==◌, ℤ, pos, negsuc, List, [], ◌∷◌, ◌++◌, refl, sym, subst, inl, inr, arith}
use Rattle.std.specs.Prelude.{All, decimal, nat_lt}
use Rattle.std.specs.Char.{digit_char}
use Rattle.std.specs.Fmt.{digits, digits_onto, digit_glyph, signed_decimal}
use Rattle.std.proofs.lemmas.Bool.{cases_eq, ltb-false}
use Rattle.std.proofs.lemmas.List.Elements.{All-nil, All-cons, All-append}
use Rattle.json.specs.Print.{escape_letter, escape_byte, escape, quoted}
use Rattle.serde_json.specs.Data.{Num, unsigned, negative, float, Data, null, boolean, number, string, array, object, Items, no_items, item, Members, no_members, member}
use Rattle.serde_json.specs.Written.{number_text, comma_if, compact_text, items_text, members_text}

abbrev pub NoFeed : ℕ → Type 0
NoFeed byte = byte ≢ 10

abbrev pub Feedless : List ℕ → Type 0
Feedless text = All NoFeed text

-- ---- of bytes and pieces of texts

either_byte : (b : Bool) (x y : ℕ) → NoFeed x → NoFeed y → NoFeed (cond b x y)
either_byte true x y of_x of_y = of_x
either_byte false x y of_x of_y = of_y

either : (b : Bool) (xs ys : List ℕ) → Feedless xs → (b ≡ false → Feedless ys) → Feedless (cond b xs ys)
either true xs ys of_xs of_ys = of_xs
either false xs ys of_xs of_ys = of_ys refl

-- whether no byte is a line feed
abbrev pub none_is : List ℕ → Bool
none_is [] = true
none_is (x ∷ xs) = cond (x == 10) false (none_is xs)

later_ones : (b more : Bool) → cond b false more ≡ true → more ≡ true
later_ones true more found = cc
later_ones false more found = found

pub none_found : (text : List ℕ) → none_is text ≡ true → Feedless text
none_found [] none = All-nil NoFeed
none_found (x ∷ xs) none =
    All-cons NoFeed x xs (λ is. let found : false ≡ true = subst (λ (y : ℕ). none_is (y ∷ xs) ≡ true) is none in cc)
    (none_found xs (later_ones (x == 10) (none_is xs) none))

-- ---- of numbers

glyph : (d : ℕ) → NoFeed (digit_glyph false d)
glyph d = either_byte (nat_lt d 10) (48 + d) (87 + d) (λ is. omega arith) (λ is. omega arith)

digits_feedless : (k n : ℕ) (after : List ℕ) → Feedless after → Feedless (digits_onto k 10 false n after)
digits_feedless zero n after so_far = so_far
digits_feedless (suc k) n after so_far =
    let more = All-cons NoFeed (digit_glyph false (n % 10)) after (glyph (n % 10)) so_far in
    either (n / 10 == 0) (digit_glyph false (n % 10) ∷ after)
    (digits_onto k 10 false (n / 10) (digit_glyph false (n % 10) ∷ after)) more
    (λ _. digits_feedless k (n / 10) (digit_glyph false (n % 10) ∷ after) more)

pub decimal_feedless : (n : ℕ) → Feedless (decimal n)
unfolding digits
decimal_feedless n = digits_feedless 64 n [] (All-nil NoFeed)

pub signed_feedless : (z : ℤ) → Feedless (signed_decimal z)
signed_feedless (pos n) = decimal_feedless n
signed_feedless (negsuc n) = All-cons NoFeed 45 (decimal (suc n)) (λ is. omega arith) (decimal_feedless (suc n))

number_feedless : (n : Num) → Feedless (number_text n)
number_feedless (unsigned n) = decimal_feedless n
number_feedless (negative z) = signed_feedless z
number_feedless (float x) = All-nil NoFeed

-- ---- of strings

letter : (x : ℕ) → NoFeed (escape_letter x)
letter x = by_byte (cases_eq x 10)
  where
    by_byte : (x ≡ 10) ⊎ (x ≡ 10 → ⊥) → NoFeed (escape_letter x)
    by_byte (inl is) = subst (λ (y : ℕ). NoFeed (escape_letter y)) (sym is) (λ is. omega arith)
    by_byte (inr other) =
        either_byte ((x == 34) || (x == 92)) x _ other
        (either_byte (x == 8) 98 _ (λ is. omega arith)
        (either_byte (x == 12) 102 _ (λ is. omega arith)
        (either_byte (x == 10) 110 _ (λ is. omega arith)
        (either_byte (x == 13) 114 _ (λ is. omega arith)
        (either_byte (x == 9) 116 0 (λ is. omega arith) (λ is. omega arith))))))

two : (x y : ℕ) → NoFeed x → NoFeed y → Feedless (x ∷ y ∷ [])
two x y of_x of_y = All-cons NoFeed x (y ∷ []) of_x (All-cons NoFeed y [] of_y (All-nil NoFeed))

hexadecimal : (d : ℕ) → NoFeed (digit_char d)
hexadecimal d = either_byte (nat_lt d 10) (48 + d) (87 + d) (λ is. omega arith) (λ is. omega arith)

byte_feedless : (x : ℕ) → Feedless (escape_byte x)
unfolding escape_byte
byte_feedless x =
    either (nat_lt 0 (escape_letter x)) (92 ∷ escape_letter x ∷ []) _
    (two 92 (escape_letter x) (λ is. omega arith) (letter x))
    (λ _. either (nat_lt x 32) (92 ∷ 117 ∷ 48 ∷ 48 ∷ digit_char (x / 16) ∷ digit_char (x % 16) ∷ []) (x ∷ [])
    (All-append NoFeed (92 ∷ 117 ∷ 48 ∷ 48 ∷ []) (digit_char (x / 16) ∷ digit_char (x % 16) ∷ [])
    (none_found (92 ∷ 117 ∷ 48 ∷ 48 ∷ []) refl)
    (two (digit_char (x / 16)) (digit_char (x % 16)) (hexadecimal (x / 16)) (hexadecimal (x % 16))))
    (λ above. let least : 32 ≤ x = ltb-false x 32 above in All-cons NoFeed x [] (λ is. omega arith) (All-nil NoFeed)))

escape_feedless : (s : List ℕ) → Feedless (escape s)
escape_feedless [] = All-nil NoFeed
escape_feedless (x ∷ s) = All-append NoFeed (escape_byte x) (escape s) (byte_feedless x) (escape_feedless s)

quoted_feedless : (s : List ℕ) → Feedless (quoted s)
quoted_feedless s =
    All-cons NoFeed 34 (escape s ++ 34 ∷ []) (λ is. omega arith)
    (All-append NoFeed (escape s) (34 ∷ []) (escape_feedless s) (none_found (34 ∷ []) refl))

-- ---- of values

comma_feedless : (later : Bool) → Feedless (comma_if later)
comma_feedless later = either later (44 ∷ []) [] (none_found (44 ∷ []) refl) (λ _. All-nil NoFeed)

mutual
  pub text_feedless : (d : Data) → Feedless (compact_text d)
  text_feedless null = none_found (110 ∷ 117 ∷ 108 ∷ 108 ∷ []) refl
  text_feedless (boolean true) = none_found (116 ∷ 114 ∷ 117 ∷ 101 ∷ []) refl
  text_feedless (boolean false) = none_found (102 ∷ 97 ∷ 108 ∷ 115 ∷ 101 ∷ []) refl
  text_feedless (number n) = number_feedless n
  text_feedless (string s) = quoted_feedless s
  text_feedless (array ds) = All-cons NoFeed 91 (items_text false ds) (λ is. omega arith) (items_feedless false ds)
  text_feedless (object ms) =
      All-cons NoFeed 123 (members_text false ms) (λ is. omega arith) (members_feedless false ms)

  items_feedless : (later : Bool) (ds : Items) → Feedless (items_text later ds)
  items_feedless later no_items = none_found (93 ∷ []) refl
  items_feedless later (item d ds) =
      All-append NoFeed (comma_if later) (compact_text d ++ items_text true ds) (comma_feedless later)
      (All-append NoFeed (compact_text d) (items_text true ds) (text_feedless d) (items_feedless true ds))

  members_feedless : (later : Bool) (ms : Members) → Feedless (members_text later ms)
  members_feedless later no_members = none_found (125 ∷ []) refl
  members_feedless later (member k d ms) =
      All-append NoFeed (comma_if later) (quoted k ++ 58 ∷ (compact_text d ++ members_text true ms))
      (comma_feedless later)
      (All-append NoFeed (quoted k) (58 ∷ (compact_text d ++ members_text true ms)) (quoted_feedless k)
      (All-cons NoFeed 58 (compact_text d ++ members_text true ms) (λ is. omega arith)
      (All-append NoFeed (compact_text d) (members_text true ms) (text_feedless d) (members_feedless true ms))))

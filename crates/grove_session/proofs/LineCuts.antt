-- The lines of bytes with their line feeds are the bytes.
use Rattle.std.proofs.Common.{◌≡◌, ◌≢◌, ℕ, ◌+◌, ◌≤◌, Bool, true, false, cond, eqb, List, [], ◌∷◌, ◌++◌, length, refl, sym, ap, ◌∙◌, append_assoc, append-nil, arith, length-append}
use Rattle.std.specs.Prelude.{All}
use Rattle.std.specs.List.{flat_map}
use Rattle.std.proofs.lemmas.Bool.{eqb-true, eqb-false}
use Rattle.std.proofs.lemmas.List.Elements.{All-nil, All-cons, All-append}
use Rattle.grove_session.specs.Sessions.{lines_from, rest_from, whole_lines, rest_of, last_line}
use Rattle.grove_session.specs.Cuts.{LinesAreCut, IsFeedless, LinesAreFeedless, LinesAreFew}

abbrev NoFeed : ℕ → Type 0
NoFeed byte = byte ≢ 10

-- lines, each with its line feed
abbrev fed : List (List ℕ) → List ℕ
fed lines = flat_map (λ (line : List ℕ). line ++ 10 ∷ []) lines

cut_by_cases : (b : Bool) (line xs : List ℕ) (x : ℕ) → eqb x 10 ≡ b → fed (lines_from [] xs) ++ rest_from [] xs ≡ xs
    → fed (lines_from (line ++ x ∷ []) xs) ++ rest_from (line ++ x ∷ []) xs ≡ (line ++ x ∷ []) ++ xs
    → ◌≡◌ {A = List ℕ} (fed (cond b (line ∷ lines_from [] xs) (lines_from (line ++ x ∷ []) xs)) ++ cond b (rest_from [] xs) (rest_from (line ++ x ∷ []) xs)) (line ++ x ∷ xs)
cut_by_cases true line xs x feed ended going =
    append_assoc (line ++ 10 ∷ []) (fed (lines_from [] xs)) (rest_from [] xs)
    ∙ ap (λ (ys : List ℕ). (line ++ 10 ∷ []) ++ ys) ended
    ∙ append_assoc line (10 ∷ []) xs
    ∙ ap (λ (y : ℕ). line ++ y ∷ xs) (sym (eqb-true x 10 feed))
cut_by_cases false line xs x other ended going = going ∙ append_assoc line (x ∷ []) xs

cut_from : (line xs : List ℕ) → fed (lines_from line xs) ++ rest_from line xs ≡ line ++ xs
cut_from line [] = sym (append-nil line)
cut_from line (x ∷ xs) = cut_by_cases (eqb x 10) line xs x refl (cut_from [] xs) (cut_from (line ++ x ∷ []) xs)

pub lines_are_cut : LinesAreCut
lines_are_cut input = cut_from [] input

few_by_cases : (b : Bool) (line xs : List ℕ) (x : ℕ) → length (lines_from [] xs) + length (last_line (rest_from [] xs)) ≤ length xs
    → length (lines_from (line ++ x ∷ []) xs) + length (last_line (rest_from (line ++ x ∷ []) xs)) ≤ length xs + 1
    → length (cond b (line ∷ lines_from [] xs) (lines_from (line ++ x ∷ []) xs)) + length (last_line (cond b (rest_from [] xs) (rest_from (line ++ x ∷ []) xs))) ≤ length xs + 1
few_by_cases true line xs x ended going = omega arith
few_by_cases false line xs x ended going = going

some_last : (line : List ℕ) (x : ℕ) → length (last_line (line ++ x ∷ [])) ≡ 1
some_last [] x = refl
some_last (byte ∷ line) x = refl

few_from : (line xs : List ℕ) → length (lines_from line xs) + length (last_line (rest_from line xs)) ≤ length xs + length (last_line line)
few_from line [] = omega arith
few_from line (x ∷ xs) =
    let ended = few_from [] xs in
    let going = few_from (line ++ x ∷ []) xs in
    let one = some_last line x in
    let here = few_by_cases (eqb x 10) line xs x (omega arith) (omega arith) in
    omega arith

pub lines_are_few : LinesAreFew
lines_are_few input =
    let e = length-append (whole_lines input) (last_line (rest_of input)) in
    let few = few_from [] input in
    omega arith

feedless_by_cases : (b : Bool) (line xs : List ℕ) (x : ℕ) → eqb x 10 ≡ b → IsFeedless line → All IsFeedless (lines_from [] xs) × IsFeedless (rest_from [] xs)
    → (x ≢ 10 → All IsFeedless (lines_from (line ++ x ∷ []) xs) × IsFeedless (rest_from (line ++ x ∷ []) xs))
    → All IsFeedless (cond b (line ∷ lines_from [] xs) (lines_from (line ++ x ∷ []) xs)) × IsFeedless (cond b (rest_from [] xs) (rest_from (line ++ x ∷ []) xs))
feedless_by_cases true line xs x feed here ended going = (All-cons IsFeedless line (lines_from [] xs) here ended.0, ended.1)
feedless_by_cases false line xs x other here ended going = going (eqb-false x 10 other)

feedless_from : (line xs : List ℕ) → IsFeedless line → All IsFeedless (lines_from line xs) × IsFeedless (rest_from line xs)
feedless_from line [] here = (All-nil IsFeedless, here)
feedless_from line (x ∷ xs) here =
    feedless_by_cases (eqb x 10) line xs x refl here (feedless_from [] xs (All-nil NoFeed))
    (λ ne. feedless_from (line ++ x ∷ []) xs (All-append NoFeed line (x ∷ []) here (All-cons NoFeed x [] ne (All-nil NoFeed))))

feedless_last : (line : List ℕ) → IsFeedless line → All IsFeedless (last_line line)
feedless_last [] here = All-nil IsFeedless
feedless_last (byte ∷ line) here = All-cons IsFeedless (byte ∷ line) [] here (All-nil IsFeedless)

pub lines_are_feedless : LinesAreFeedless
lines_are_feedless input =
    let all = feedless_from [] input (All-nil NoFeed) in
    All-append IsFeedless (whole_lines input) (last_line (rest_of input)) all.0 (feedless_last (rest_of input) all.1)

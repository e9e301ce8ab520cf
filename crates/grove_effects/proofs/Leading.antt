-- An effect that is read from left to right, change by change.
use Rattle.std.proofs.Common.{◌≡◌, ℕ, zero, suc, ◌+◌, ◌-◌, ◌<◌, ◌≤◌, ◌^◌, List, [], ◌∷◌, ◌++◌, length, drop, get_or}
use Rattle.std.proofs.Common.{refl, sym, ap, ◌∙◌, append_assoc, append-nil, add-one, arith}
use Rattle.std.specs.List.{flat_map}
use Rattle.std.proofs.Math.ListN.{set}
use Rattle.std.proofs.lemmas.List.{length-append, set_at, get_or_at, drop_at}
use Rattle.std.proofs.lemmas.List.Concat.{flat_map-append}
use Rattle.std.proofs.lemmas.List.Elements.{All-drop, All-same}
use Rattle.grove_effects.specs.Effects.{AreWords, changes_from, change_bytes, effect}
use Rattle.grove_effects.proofs.Fronts.{IsChange, same_front, same_cons, change_once, none_left, first_left}
use Rattle.grove_effects.proofs.Changes.{IsFirst, changes_fit, changes_first, changes_more, changes_behind}
use Rattle.grove_effects.proofs.Changes.{changes_none}
use Rattle.grove_effects.proofs.Once.{change_some}

-- the numbers so far are those that were made up to a place, and then those that stood there
pub record IsLed (old bytes numbers : List ℕ) (from : ℕ) (rest : List ℕ) : Type 0 where
  pub done : List ℕ
  pub made : List ℕ
  pub left : List ℕ
  pub before : old ≡ done ++ left
  pub now : numbers ≡ made ++ left
  pub long_done : length done ≡ from
  pub long_made : length made ≡ from
  pub read : bytes ≡ flat_map change_bytes (changes_from 0 done made) ++ rest
  pub leads : (next : List ℕ) → AreWords next → length next ≡ length old → bytes ≡ effect old next
      → (others : List ℕ) × (next ≡ made ++ others) × (rest ≡ flat_map change_bytes (changes_from from left others))

pub led_first : (old bytes : List ℕ) → IsLed old bytes old 0 bytes
unfolding effect
led_first old bytes = record {
  done = [];
  made = [];
  left = old;
  before = refl;
  now = refl;
  long_done = refl;
  long_made = refl;
  read = refl;
  leads = λ next words long same. (next, refl, same);
}

-- a list with a place in it
pub record IsSplit (xs : List ℕ) (k : ℕ) : Type 0 where
  pub front : List ℕ
  pub there : ℕ
  pub back : List ℕ
  pub whole : xs ≡ front ++ there ∷ back
  pub long : length front ≡ k

pub split_at : (xs : List ℕ) (k : ℕ) → k < length xs → IsSplit xs k
split_at [] k lt = absurd (omega arith)
split_at (x ∷ xs) zero lt = record { front = []; there = x; back = xs; whole = refl; long = refl }
split_at (x ∷ xs) (suc k) lt =
    let s = split_at xs k (omega arith) in
    record {
      front = x ∷ s.front;
      there = s.there;
      back = s.back;
      whole = ap (λ (l : List ℕ). x ∷ l) s.whole;
      long = ap (λ (n : ℕ). suc n) s.long;
    }

regroup : (a b c : List ℕ) (x : ℕ) → a ++ (b ++ x ∷ c) ≡ ((a ++ b) ++ x ∷ []) ++ c
regroup a b c x = sym (append_assoc (a ++ b) (x ∷ []) c ∙ append_assoc a b (x ∷ c))

-- what was read, with one more change
more_read : (done made front : List ℕ) (there number place : ℕ) → length done ≡ length made
    → place ≡ length done + length front → (there ≡ number → ⊥)
    → flat_map change_bytes (changes_from 0 done made) ++ change_bytes (place, number)
    ≡ flat_map change_bytes (changes_from 0 ((done ++ front) ++ there ∷ []) ((made ++ front) ++ number ∷ []))
more_read done made front there number place long at other =
    let bytes : List (ℕ × ℕ) → List ℕ = flat_map change_bytes in
    let cs = changes_from 0 done made in
    let place_is : 0 + length (done ++ front) ≡ place = omega (arith, length-append done front) in
    let both : length (done ++ front) ≡ length (made ++ front) =
    omega (arith, length-append done front, length-append made front) in
    let changes_are : changes_from 0 ((done ++ front) ++ there ∷ []) ((made ++ front) ++ number ∷ [])
    ≡ cs ++ (place, number) ∷ [] =
    changes_more 0 (done ++ front) (made ++ front) there number both other
    ∙ ap (λ (l : List (ℕ × ℕ)). l ++ (0 + length (done ++ front), number) ∷ []) (changes_behind 0 done made front long)
    ∙ ap (λ (q : ℕ). cs ++ (q, number) ∷ []) place_is in
    sym (ap bytes changes_are ∙ flat_map-append change_bytes cs ((place, number) ∷ [])
    ∙ ap (λ (l : List ℕ). bytes cs ++ l) (append-nil (change_bytes (place, number))))

change_long : (cs : List (ℕ × ℕ)) → 0 < length (flat_map change_bytes cs) → 12 ≤ length (flat_map change_bytes cs)
change_long [] some = absurd (omega arith)
change_long (c ∷ cs) some =
    let long : length (change_bytes c) ≡ 12 = refl in
    omega (arith, long, length-append (change_bytes c) (flat_map change_bytes cs))

words_behind : (next made others : List ℕ) → AreWords next → next ≡ made ++ others → AreWords others
words_behind next made others words is =
    All-same (λ x. x < 2 ^ 64) others (drop (length made) next)
    (sym (drop_at made others (length made) refl) ∙ ap (λ (l : List ℕ). drop (length made) l) (sym is))
    (All-drop (λ x. x < 2 ^ 64) (length made) next words)

module _ (old bytes numbers rest : List ℕ) (from : ℕ) (led : IsLed old bytes numbers from rest)
    (few : length old < 2 ^ 32) where
  long_left : from + length led.left ≡ length old
  long_left = omega (arith, ap length led.before, length-append led.done led.left, led.long_done)

  long_now : length numbers ≡ length old
  long_now = omega (arith, long_left, ap length led.now, length-append led.made led.left, led.long_made)

  numbers_are : (front back : List ℕ) (there : ℕ) → led.left ≡ front ++ there ∷ back
      → numbers ≡ (led.made ++ front) ++ there ∷ back
  numbers_are front back there whole =
      led.now ∙ ap (λ (l : List ℕ). led.made ++ l) whole ∙ sym (append_assoc led.made front (there ∷ back))

  number_there : (front back : List ℕ) (there place : ℕ) → led.left ≡ front ++ there ∷ back
      → place ≡ from + length front → get_or numbers place 0 ≡ there
  number_there front back there place whole at =
      ap (λ (l : List ℕ). get_or l place 0) (numbers_are front back there whole)
      ∙ get_or_at (led.made ++ front) there back 0 place (omega (arith, length-append led.made front, led.long_made))

  -- ---- a change at the front

  module _ (place number : ℕ) (behind : List ℕ) (is : rest ≡ change_bytes (place, number) ++ behind)
      (place_fits : place < 2 ^ 32) (number_fits : number < 2 ^ 64) where
    -- what a change at the front says of the numbers that the effect leads to
    record IsNext (next : List ℕ) : Type 0 where
      pub others : List ℕ
      pub after : next ≡ led.made ++ others
      pub more : List (ℕ × ℕ)
      pub first : IsFirst from led.left others place number more
      pub left : behind ≡ flat_map change_bytes more

    next_change : (next : List ℕ) → AreWords next → length next ≡ length old → bytes ≡ effect old next → IsNext next
    next_change next words long same =
        let was = led.leads next words long same in
        let others = was.0 in
        let chunk = first_left change_bytes IsChange change_once change_some (place, number)
        (changes_from from led.left others) behind (place_fits, number_fits)
        (changes_fit from led.left others (omega (arith, long_left)) (words_behind next led.made others words was.1))
        (sym is ∙ was.2) in
        record {
          others = others;
          after = was.1;
          more = chunk.0;
          first = changes_first from led.left others place number chunk.0 chunk.1;
          left = chunk.2;
        }

    -- such a change can be made
    pub can_follow : (next : List ℕ) → AreWords next → length next ≡ length old → bytes ≡ effect old next
        → (from ≤ place) × (place < length numbers) × (get_or numbers place 0 ≡ number → ⊥)
    can_follow next words long same =
        let f = (next_change next words long same).first in
        let at : place ≡ from + length f.front = f.at in (
          omega arith,
          omega (arith, long_now, long_left, ap length f.before, length-append f.front (f.there ∷ f.back)),
          λ e. f.other (sym (number_there f.front f.back f.there place f.before at) ∙ e),
        )

    -- and where it is made, the effect leads on
    pub led_on : from ≤ place → place < length numbers → (get_or numbers place 0 ≡ number → ⊥)
        → IsLed old bytes (set numbers place number) (place + 1) behind
    led_on le lt differs =
        let s = split_at led.left (place - from) (omega (arith, long_now, long_left)) in
        let at : place ≡ from + length s.front = omega (arith, s.long) in
        let other : s.there ≡ number → ⊥ = λ e. differs (number_there s.front s.back s.there place s.whole at ∙ e) in
        let long_made : length (led.made ++ s.front) ≡ place =
        omega (arith, length-append led.made s.front, led.long_made) in
        record {
          done = (led.done ++ s.front) ++ s.there ∷ [];
          made = (led.made ++ s.front) ++ number ∷ [];
          left = s.back;
          before = led.before ∙ ap (λ (l : List ℕ). led.done ++ l) s.whole
              ∙ regroup led.done s.front s.back s.there;
          now = ap (λ (l : List ℕ). set l place number) (numbers_are s.front s.back s.there s.whole)
              ∙ set_at (led.made ++ s.front) s.there s.back number place long_made
              ∙ sym (append_assoc (led.made ++ s.front) (number ∷ []) s.back);
          long_done = omega (
            arith,
            length-append (led.done ++ s.front) (s.there ∷ []),
            length-append led.done s.front,
            led.long_done,
          );
          long_made = omega (arith, length-append (led.made ++ s.front) (number ∷ []), long_made);
          read = led.read
              ∙ ap (λ (l : List ℕ). flat_map change_bytes (changes_from 0 led.done led.made) ++ l) is
              ∙ sym (append_assoc (flat_map change_bytes (changes_from 0 led.done led.made))
              (change_bytes (place, number)) behind)
              ∙ ap (λ (l : List ℕ). l ++ behind) (more_read led.done led.made s.front s.there number place
              (led.long_done ∙ sym led.long_made) (omega (arith, led.long_done)) other);
          leads = λ next words long same.
              let n = next_change next words long same in
              let f = n.first in
              let fronts = same_front s.front f.front (s.there ∷ s.back) (f.there ∷ f.back)
              (omega (arith, s.long, f.at)) (sym s.whole ∙ f.before) in (
                f.others,
                n.after
                    ∙ ap (λ (l : List ℕ). led.made ++ l) (f.after
                    ∙ ap (λ (l : List ℕ). l ++ number ∷ f.others) (sym fronts.0))
                    ∙ regroup led.made s.front f.others number,
                n.left
                    ∙ ap (λ (l : List (ℕ × ℕ)). flat_map change_bytes l) (f.rest
                    ∙ ap (λ (l : List ℕ). changes_from (suc place) l f.others)
                    (sym (same_cons s.there f.there s.back f.back fronts.1).1)
                    ∙ ap (λ (q : ℕ). changes_from q s.back f.others) (sym (add-one place))),
              );
        }

  -- ---- the end

  -- where nothing is left, the bytes are the effect
  pub led_effect : rest ≡ [] → bytes ≡ effect old numbers
  unfolding effect
  led_effect none =
      let read = flat_map change_bytes (changes_from 0 led.done led.made) in
      let changes_are : changes_from 0 old numbers ≡ changes_from 0 led.done led.made =
      ap (λ (l : List ℕ). changes_from 0 l numbers) led.before
      ∙ ap (λ (l : List ℕ). changes_from 0 (led.done ++ led.left) l) led.now
      ∙ changes_behind 0 led.done led.made led.left (led.long_done ∙ sym led.long_made) in
      led.read ∙ ap (λ (l : List ℕ). read ++ l) none ∙ append-nil read
      ∙ ap (λ (l : List (ℕ × ℕ)). flat_map change_bytes l) (sym changes_are)

  -- and the numbers are those that it leads to
  pub led_last : rest ≡ [] → (next : List ℕ) → AreWords next → length next ≡ length old → bytes ≡ effect old next
      → numbers ≡ next
  led_last none next words long same =
      let was = led.leads next words long same in
      let unchanged = none_left change_bytes IsChange change_once change_some (changes_from from led.left was.0)
      (sym was.2 ∙ none) in
      let left_is = changes_none from led.left was.0
      (omega (arith, long_left, ap length was.1, length-append led.made was.0, led.long_made)) unchanged in
      led.now ∙ ap (λ (l : List ℕ). led.made ++ l) left_is ∙ sym was.1

  -- what is left is a change at least
  pub led_long : 0 < length rest → (next : List ℕ) → AreWords next → length next ≡ length old
      → bytes ≡ effect old next → 12 ≤ length rest
  led_long some next words long same =
      let was = led.leads next words long same in
      let is : length rest ≡ length (flat_map change_bytes (changes_from from led.left was.0)) = ap length was.2 in
      let least = change_long (changes_from from led.left was.0) (omega arith) in
      omega arith

-- Rows that are written one after the other, and what they make up.
use Rattle.std.proofs.Common.{◌≡◌, ◌∙◌, ℕ, suc, List, ◌++◌, Some, ap, append-nil, slice_get, sym, take, arith}
use Rattle.std.specs.Prelude.{Err, IfOk, Ok, Result, codes, decimal, ◌==◌}
use Rattle.std.proofs.lemmas.Bool.{cond-false, cond-true, eq-eqb, ne_eqb}
use Rattle.std.proofs.lemmas.List.Folds.{concat-append}
use Rattle.std.proofs.lemmas.Slice.Zip.{all_zipped_more}
use Rattle.grove_base.proofs.Lists.{take_next}
use Rattle.grove_draw.specs.declared.bar.Bar.{Bar}
use Rattle.grove_draw.specs.Writings.{AreWritten, IsShape}

-- one more row
pub written_more : (IsRow : Bar → List ℕ → Type 0) (bars : List Bar) (place : ℕ) (bar : Bar) (rows row text : List ℕ)
    → AreWritten IsRow (take place bars) rows → slice_get bars place ≡ Some bar → IsRow bar row → text ≡ rows ++ row
    → AreWritten IsRow (take (suc place) bars) text
written_more IsRow bars place bar rows row text written at is e =
    grind (arith, all_zipped_more, append-nil, concat-append, take_next)

-- what follows of a result that is right
pub if_ok : {T E : Type 0} (result : Result T E) (P Q : T → Type 0) → IfOk result P
    → ((value : T) → P value → Q value) → IfOk result Q
if_ok (Ok value) P Q is goes = goes value is
if_ok (Err error) P Q is goes = tt

-- the shape of a bar
pub stroke_shape : (x width given top end : ℕ) (text : List ℕ) → given ≡ width → width ≡ 0
    → text ≡ codes "<path class=\"stroke\" d=\"M" ++ decimal x ++ codes " " ++ decimal top ++ codes "V" ++ decimal end
    ++ codes "\"/>\n" → IsShape x given text
stroke_shape x width given top end text same none is =
    (top, end, is ∙ sym (cond-true (given == 0) _ _ (eq-eqb given 0 (same ∙ none))))

pub bar_shape : (x width given top : ℕ) (text : List ℕ) → given ≡ width → (width ≡ 0 → ⊥)
    → text ≡ codes "<rect class=\"bar\" x=\"" ++ decimal x ++ codes "\" y=\"" ++ decimal top ++ codes "\" width=\""
    ++ decimal width ++ codes "\" height=\"18\"/>\n" → IsShape x given text
bar_shape x width given top text same some is = (
  top,
  0,
  is ∙ sym (ap (λ (w : ℕ). codes "<rect class=\"bar\" x=\"" ++ decimal x ++ codes "\" y=\"" ++ decimal top
      ++ codes "\" width=\"" ++ decimal w ++ codes "\" height=\"18\"/>\n") same)
      ∙ sym (cond-false (given == 0) _ _ (ne_eqb given 0 (λ none. some (sym same ∙ none)))),
)

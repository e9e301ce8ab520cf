-- What a visitor was told last says whether a body of a single line is refused.
use Rattle.std.proofs.Common.{◌≡◌, ◌∙◌, ℕ, ◌==◌, ◌&&◌, Bool, true, false, not, List, [], ◌∷◌, ◌++◌, length, Option}
use Rattle.std.proofs.Common.{Some, Result, Ok, Err, ap, arith, inl, inr, refl, subst, sym}
use Rattle.std.proofs.lemmas.Bool.{ne_eqb}
use Rattle.json.specs.Print.{escape_byte}
use Rattle.serde_json.specs.Written.{compact_text}
use Rattle.grove_session.specs.declared.session_fault.SessionFault.{SessionFault}
use Rattle.grove_session.specs.Sessions.{lines_of, IsAnswered, SessionEnds, UnlessLong}
use Rattle.grove_store.specs.StoreStates.{StoreState}
use Rattle.grove_store.specs.Refusals.{is_refusal, refusal_name}
use Rattle.grove_store.proofs.Accepted.{error_refuses}
use Rattle.grove_desk.specs.declared.told.Told.{Told}
use Rattle.grove_desk.specs.declared.told.Told.TheVariants.{Nothing, Accepted, Refused}
use Rattle.grove_desk.specs.Desks.{Tells, is_accepted}
use Rattle.grove_page.specs.declared.front.Visited.{Visited}
use Rattle.grove_desk.specs.Hints.{caller, hinted_data, CallerState, IsCallerReply, MayHint}
use Rattle.grove_page.specs.Pages.{ends_refused, is_refused, Visits, VisitsDesk}

-- a line feed after a reply doesn't change how it begins
same_start : (reply : List ℕ) → is_refusal (reply ++ 10 ∷ []) ≡ is_refusal reply
same_start [] = refl
same_start (a ∷ []) = refl
same_start (a ∷ b ∷ []) = refl
same_start (a ∷ b ∷ c ∷ []) = refl
same_start (a ∷ b ∷ c ∷ d ∷ []) = refl
same_start (a ∷ b ∷ c ∷ d ∷ e ∷ []) = refl
same_start (a ∷ b ∷ c ∷ d ∷ e ∷ f ∷ []) = refl
same_start (a ∷ b ∷ c ∷ d ∷ e ∷ f ∷ g ∷ []) = refl
same_start (a ∷ b ∷ c ∷ d ∷ e ∷ f ∷ g ∷ h ∷ []) = refl
same_start (a ∷ b ∷ c ∷ d ∷ e ∷ f ∷ g ∷ h ∷ i ∷ rest) = refl

told_is : (told : Told) (reply : List ℕ) → Tells told reply → not (is_accepted told) ≡ is_refusal reply
told_is Nothing reply none = absurd none
told_is Accepted reply accepted = sym accepted
told_is (Refused refusal) reply error = sym (ap is_refusal error ∙ error_refuses (refusal_name refusal))

-- a hint doesn't change how a refusal begins
hinted_refuses : (name hint : List ℕ) → is_refusal (compact_text (hinted_data name hint)) ≡ true
unfolding escape_byte
hinted_refuses name hint = refl

hinted_begins : (hints : Bool) (lawful reply : List ℕ) → MayHint hints lawful reply
    → is_refusal reply ≡ is_refusal lawful
hinted_begins false lawful reply same = ap is_refusal same
hinted_begins true lawful reply (inl same) = ap is_refusal same
hinted_begins true lawful reply (inr hinted) =
    ap is_refusal hinted.replied ∙ hinted_refuses hinted.name hinted.hint
    ∙ sym (ap is_refusal hinted.refused ∙ error_refuses hinted.name)

-- of one line
line_told : (hints : Bool) (opening : StoreState) (line reply : List ℕ) (new : CallerState) (long : Bool)
    → UnlessLong IsCallerReply long (caller hints opening) line reply new
    → not (is_accepted new.visit.told) ≡ is_refusal reply
line_told hints opening line reply new true (is_long, same) =
    ap (λ (state : CallerState). not (is_accepted state.visit.told)) same ∙ sym (ap is_refusal is_long)
line_told hints opening line reply new false replied =
    told_is new.visit.told replied.lawful replied.shared.told
    ∙ sym (hinted_begins hints replied.lawful reply replied.hinted)

lines_told : (hints : Bool) (opening : StoreState) (lines : List (List ℕ)) (out : List ℕ) (new : CallerState)
    → IsAnswered IsCallerReply (caller hints opening) lines out new
    → ((length lines == 1) && not (is_accepted new.visit.told)) ≡ ((length lines == 1) && is_refusal out)
lines_told hints opening [] out new answered = refl
lines_told hints opening (line ∷ []) out new (reply, others, between, replied, (none, same), is) =
    ap (λ (state : CallerState). not (is_accepted state.visit.told)) same
    ∙ line_told hints opening line reply between _ replied
    ∙ sym (same_start reply)
    ∙ sym (ap is_refusal (is ∙ ap (λ (more : List ℕ). reply ++ 10 ∷ more) none))
lines_told hints opening (line ∷ next ∷ lines) out new answered =
    let several : (length (line ∷ next ∷ lines) == 1) ≡ false =
    ne_eqb (length (line ∷ next ∷ lines)) 1 (λ one. omega arith) in rw several refl

refused_told : (hints : Bool) (opening : StoreState) (result : Result ℕ SessionFault) (left : Option (List ℕ))
    (input out : List ℕ) (new : CallerState)
    → SessionEnds true IsCallerReply (caller hints opening) result left input out new
    → ends_refused result new.visit.told ≡ is_refused result out
refused_told hints opening (Ok count) left input out new (at_end, counts, answered) =
    subst (λ (n : ℕ). ((n == 1) && not (is_accepted new.visit.told)) ≡ ((n == 1) && is_refusal out)) (sym counts)
    (lines_told hints opening (lines_of input) out new answered)
refused_told hints opening (Err fault) left input out new ends = refl

-- what is said of a visit is so of what it ended with
pub answered : (hints : Bool) (opening : StoreState) (lines : List ℕ) (result : Result ℕ SessionFault)
    (out : List ℕ) (new : CallerState) (visited : Visited) → visited.ended ≡ result
    → visited.is_refused ≡ ends_refused result new.visit.told
    → Visits true IsCallerReply (caller hints opening) lines result out new
    → VisitsDesk (caller hints opening) lines visited.ended out
    × (visited.is_refused ≡ is_refused visited.ended out)
answered hints opening lines result out new visited ended refused visits =
    let Holds : Result ℕ SessionFault → Type 0 = λ result.
    VisitsDesk (caller hints opening) lines result out × (visited.is_refused ≡ is_refused result out) in
    subst Holds (sym ended)
    ((new, visits), refused ∙ refused_told hints opening result (Some visits.left) visits.input out new visits.ends)

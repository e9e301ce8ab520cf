use Rattle.std.proofs.Common.{◌≡◌, ℕ, Bool, List, [], ◌++◌, length, Option, Some, Result, Err, ap, sym, subst, ◌∙◌}
use Rattle.std.specs.Prelude.{unwrap_or}
use Rattle.grove_session.specs.declared.session_fault.SessionFault.{SessionFault}
use Rattle.grove_session.specs.declared.session_fault.SessionFault.TheVariants.{Write}
use Rattle.grove_session.specs.Sessions.{SessionEnds, Lawful, is_write}
use Rattle.grove_page.proofs.visiting.visit.Goals as goal

-- a session that couldn't write tells how much it wrote
written_is : {S : Type 0} (shared : Bool) (lawful : Lawful S) (old : S) (result : Result ℕ SessionFault)
    (left : Option (List ℕ))
    (input out : List ℕ) (new : S) (written : ℕ) → SessionEnds shared lawful old result left input out new
    → result ≡ Err (Write written) → written ≡ length out
written_is {S} shared lawful old result left input out new written ends is =
    (subst (λ (r : Result ℕ SessionFault). SessionEnds shared lawful old r left input out new) is ends).0

pub returns : goal.returns
returns g c =
    let (input, out, consumed, appended, ends) = c.session.ensures.text in
    let bytes_of : Option (List ℕ) → List ℕ = (λ bytes. unwrap_or bytes []) in
    let holds = ap Some (appended ∙ ap (λ (bytes : List ℕ). bytes ++ out) (ap bytes_of c.requires.empty)) in (
      out,
      holds,
      record {
        input = input;
        left = c.session.new.source.rest.now;
        read = sym (ap bytes_of c.new-source.ensures.remaining) ∙ consumed;
        ends = ends;
        cut = λ (written : ℕ) is. written_is _ _ _ _ _ _ _ _ written ends is
            ∙ sym (ap length (ap bytes_of holds))
            ∙ c.session.new.sink.full (c.session.ensures.sink ∙ ap is_write is);
      },
    )

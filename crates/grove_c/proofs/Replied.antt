-- What is told of a line that is answered, or isn't when memory runs out.
use Rattle.std.proofs.Common.{◌≡◌, ℕ, ◌≤◌, List, [], ◌∷◌, length, Bool, sym, subst, refl, arith, inl, inr}
use Rattle.std.specs.Prelude.{Result, Ok, Err, IfOk}
use Rattle.std.proofs.lemmas.Bool.{cases_lt, le-ltb}
use Rattle.grove_session.specs.Sessions.{IsReplied, UnlessLong}
use Rattle.grove_store.specs.StoreStates.{StoreState}
use Rattle.grove_store.specs.Rounds.{IsLawfulAnswer, RunsBatches, IsAnswerAlone}
use Rattle.grove_c.specs.declared.kept_store.KeptStore.{KeptStore}
use Rattle.grove_c.specs.declared.telling.Told.{Told}
use Rattle.grove_c.specs.Endings.{IsPut}
use Rattle.grove_c.specs.Handles.{Replies}
use Rattle.grove_c.proofs.Tellings.{tells_text, tells_memory}

-- a line that isn't too long has the reply of a store whose caller does all by itself
pub short_replied : {A E : Type 0} (text : A → List ℕ) (answered : Result A E) (old new : StoreState) (line : List ℕ)
    → length line ≤ 1048576
    → IfOk answered (λ reply. IsLawfulAnswer old line (text reply) new)
    → IfOk answered (λ reply. RunsBatches old (line ∷ []) (text reply ∷ []) new)
    → IfOk answered (λ reply. IsReplied IsAnswerAlone old line (text reply) new)
short_replied text (Ok reply) old new line short lawful whole =
    subst (λ (long : Bool). UnlessLong IsAnswerAlone long old line (text reply) new)
    (sym (le-ltb 1048576 (length line) short)) (lawful, whole)
short_replied text (Err e) old new line short lawful whole = tt

module _ (line before after : List ℕ) (told : Told) (old new : KeptStore) where
  -- the reply is put into the buffer, and kept
  pub replied : IsPut 0 new.reply.items before after told
      → IsReplied IsAnswerAlone old.store line new.reply.items new.store → Replies line old new before after told
  replied put is = record {
    tells = tells_text (λ said. (said ≡ Ok new.reply.items)
        × IsReplied IsAnswerAlone old.store line new.reply.items new.store) before after told new.reply.items put
        (refl, is);
    stays = λ three. elim (cases_lt (length before) (length new.reply.items)) [
      | inl small ↦ absurd (omega (arith, three, (put.room small).0))
      | inr fits ↦ absurd (omega (arith, three, (put.fits fits).0))
    ];
  }

  -- memory ran out, and all is as it was
  pub unreplied : (told.status ≡ 3) × (told.length ≡ 0) × (after ≡ before) → new ≡ old
      → Replies line old new before after told
  unreplied is same = record {
    tells = tells_memory (λ said. (said ≡ Ok new.reply.items)
        × IsReplied IsAnswerAlone old.store line new.reply.items new.store) before after told is;
    stays = λ _. same;
  }

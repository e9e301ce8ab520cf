-- What a crash may leave from call to call, while a payload is put behind a log and while a log begins anew.
use Rattle.std.proofs.Common.{◌≡◌, ◌⊎◌, ℕ, ◌^◌, ◌<◌, List, ◌++◌, length, Option, Some, sym, ◌∙◌, subst, arith}
use Rattle.std.proofs.Common.{inl, inr, ⊎_elim}
use Rattle.grove_log.specs.Devices.{Only, Follows, Torn, Elapses, LeavesOnly}
use Rattle.grove_log.specs.Files.{head, reading_of, recovered, IsWhole}
use Rattle.grove_log.specs.Frames.{frame}
use Rattle.grove_log.specs.Logs.{IsBeforeOrAfter, IsOldOrNew}
use Rattle.grove_log.proofs.Crash.{append_crash, alone}
use Rattle.grove_log.proofs.Moments.{started, goes_on}
use Rattle.std.proofs.lemmas.Option.{same_Some}

module _ {D : Type 0} (seen : D → List ℕ) (may_leave : D → List ℕ → Type 0) (moment : D → ℕ)
    (left_since : D → ℕ → List ℕ → Type 0)
    (only_now : (file : D) (c : List ℕ) → left_since file (moment file) c → may_leave file c) where
  -- ---- a payload behind a log

  module _ (old : D) (payload : List ℕ) (whole : IsWhole (seen old)) (durable : Only (seen old) (may_leave old)) where
    abbrev IsLeft : List ℕ → Type 0
    IsLeft = IsBeforeOrAfter (recovered (seen old)) payload

    pub before_append : LeavesOnly moment left_since old old IsLeft
    before_append = grind (arith, started)

    module _ (bytes : List ℕ) (put : D) (short : length payload < 2 ^ 32)
        (is_frame : bytes ≡ frame (reading_of (seen old)).seal payload)
        (torn : Follows (Torn bytes) (may_leave old) (may_leave put))
        (time : Elapses (moment old) (moment put) (left_since old) (left_since put) (may_leave put)) where
      left_by_put : (c : List ℕ) → may_leave put c → IsLeft c
      left_by_put = append_crash (seen old) payload (may_leave old) (may_leave put) whole short durable
          (subst (λ (b : List ℕ). Follows (Torn b) (may_leave old) (may_leave put)) is_frame torn)

      pub in_append : LeavesOnly moment left_since old put IsLeft
      in_append = goes_on moment left_since old old put IsLeft (may_leave put) before_append time left_by_put

      pub in_sync : (new : D) → ((c : List ℕ) → may_leave new c → may_leave put c)
          → Elapses (moment put) (moment new) (left_since put) (left_since new) (may_leave new)
          → LeavesOnly moment left_since old new IsLeft
      in_sync new kept later = grind (arith, goes_on, in_append, left_by_put)

  -- ---- a log begins anew

  module _ (old : D) (payload : List ℕ) (durable : Only (seen old) (may_leave old)) where
    abbrev IsLeftAnew : List ℕ → Type 0
    IsLeftAnew = IsOldOrNew (seen old) payload

    pub before_restart : LeavesOnly moment left_since old old IsLeftAnew
    before_restart = started moment left_since old IsLeftAnew (λ f left. inl (durable f (only_now old f left)))

    module _ (put : D) (kept : (c : List ℕ) → may_leave put c → may_leave old c)
        (time : Elapses (moment old) (moment put) (left_since old) (left_since put) (may_leave put)) where
      pub in_write : LeavesOnly moment left_since old put IsLeftAnew
      in_write = goes_on moment left_since old old put IsLeftAnew (may_leave put) before_restart time
          (λ f now. inl (durable f (kept f now)))

      pub in_rename : (number bytes : List ℕ) (next : Option (List ℕ)) (new : D) → length number ≡ 32
          → length payload < 2 ^ 32 → bytes ≡ head number ++ frame number payload → next ≡ Some bytes
          → ((c : List ℕ) → may_leave new c → may_leave put c ⊎ (next ≡ Some c))
          → Elapses (moment put) (moment new) (left_since put) (left_since new) (may_leave new)
          → LeavesOnly moment left_since old new IsLeftAnew
      in_rename number bytes next new long short is_file written renamed later =
          goes_on moment left_since old put new IsLeftAnew (may_leave new) in_write later
          (λ f now. ⊎_elim (λ was. inl (durable f (kept f was)))
          (λ is. inr (alone number payload f long short (same_Some _ _ (sym is ∙ written) ∙ is_file)).stands)
          (renamed f now))

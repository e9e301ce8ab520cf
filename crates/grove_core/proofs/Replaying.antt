-- A history that is replayed event by event.
use Rattle.std.proofs.Common.{◌≡◌, ℕ, suc, ◌+◌, List, [], ◌∷◌, ◌++◌, reverse, take, Some, ap, sym, ◌∙◌, subst, add-one}
use Rattle.std.specs.List.{slice_get}
use Rattle.std.proofs.lemmas.List.{reverse-append}
use Rattle.grove_base.proofs.Lists.{take_next}
use Rattle.grove_core.specs.declared.event.Event.{Event}
use Rattle.grove_core.specs.Runs.{IsRun, MayHappen}
use Rattle.grove_core.specs.Kept.{CoreState, past_of}
use Rattle.grove_core.specs.Replays.{past_after}

-- an event is the latest of the past after it
pub past_next : (events : List Event) (at : ℕ) (event : Event) → slice_get events at ≡ Some event → past_after events (suc at) ≡ event ∷ past_after events at
past_next events at event there = ap reverse (take_next events at event there) ∙ reverse-append (take at events) (event ∷ [])

-- a core that has done the first events, and then the next one, has done one more, and these are a run
pub followed : (opened before after : CoreState) (events : List Event) (at : ℕ) (event : Event) → slice_get events at ≡ Some event
    → before ≡ record opened { history = take at events } → after ≡ record before { history = before.history ++ event ∷ [] }
    → MayHappen before.jobs (past_of before) event → IsRun opened.jobs (past_after events at)
    → (after ≡ record opened { history = take (at + 1) events }) × IsRun opened.jobs (past_after events (at + 1))
followed opened before after events at event there was added may run =
    let one : at + 1 ≡ suc at = add-one at in (
      added ∙ ap (λ (core : CoreState). record core { history = core.history ++ event ∷ [] }) was
          ∙ ap (λ (history : List Event). record opened { history = history }) (sym (take_next events at event there))
          ∙ ap (λ (n : ℕ). record opened { history = take n events }) (sym one),
      subst (λ (n : ℕ). IsRun opened.jobs (past_after events n)) (sym one)
          (subst (IsRun opened.jobs) (sym (past_next events at event there)) (subst (λ (core : CoreState). MayHappen core.jobs (past_of core) event) was may, run)),
    )

-- No jobs wait for each other in a circle, since each of them would wait for one of them.
use Rattle.std.proofs.Common.{◌≡◌, ℕ, Bool, true, false, eqb, ◌||◌, ◌⊎◌, List, [], ◌∷◌, refl, subst, inl, inr, arith}
use Rattle.std.proofs.lemmas.Bool.{eqb-true, eq-eqb}
use Rattle.grove_core.specs.declared.job.Job.{Job}
use Rattle.grove_core.specs.declared.event.Event.{Event}
use Rattle.grove_core.specs.Runs.{IsBlocked}
use Rattle.grove_core.specs.Laws.{WaitsAlong, NoCircles}
use Rattle.grove_core.proofs.ConflictEquivalence.{Among}
use Rattle.grove_core.proofs.WaitingJobs.{none_wait_among_themselves}

-- is a job one of these?
abbrev is_among : List ℕ → ℕ → Bool
is_among [] t = false
is_among (u ∷ us) t = eqb u t || is_among us t

either_way : (b : Bool) (u t : ℕ) (us : List ℕ) → eqb u t ≡ b → (b || is_among us t) ≡ true → (is_among us t ≡ true → Among t us) → Among t (u ∷ us)
either_way true u t us is h more = inl (eqb-true u t is)
either_way false u t us is h more = inr (more h)

among_if : (us : List ℕ) (t : ℕ) → is_among us t ≡ true → Among t us
among_if [] t h = absurd (cc)
among_if (u ∷ us) t h = either_way (eqb u t) u t us refl h (among_if us t)

among_or : (b : Bool) (us : List ℕ) (t : ℕ) → (b ≡ true) ⊎ (is_among us t ≡ true) → (b || is_among us t) ≡ true
among_or true us t h = refl
among_or false us t (inl is) = absurd (cc)
among_or false us t (inr h) = h

if_among : (us : List ℕ) (t : ℕ) → Among t us → is_among us t ≡ true
if_among [] t h = absurd h
if_among (u ∷ us) t (inl e) = among_or (eqb u t) us t (inl (eq-eqb u t e))
if_among (u ∷ us) t (inr h) = among_or (eqb u t) us t (inr (if_among us t h))

-- each job of a chain of waiting jobs waits for one behind it
waits_behind : (jobs : List Job) (past : List Event) (t : ℕ) (others : List ℕ) (last v : ℕ) → WaitsAlong jobs past t others last → Among v (t ∷ others)
    → (u : ℕ) × (Among u others ⊎ (last ≡ u)) × IsBlocked jobs past v u
waits_behind jobs past t [] last v along (inl e) = (last, inr refl, subst (λ (n : ℕ). IsBlocked jobs past n last) e along)
waits_behind jobs past t [] last v along (inr none) = absurd none
waits_behind jobs past t (u ∷ others) last v (blocked, along) (inl e) = (u, inl (inl refl), subst (λ (n : ℕ). IsBlocked jobs past n u) e blocked)
waits_behind jobs past t (u ∷ others) last v (blocked, along) (inr more) =
    grind (arith, waits_behind jobs past u others last v along more)

-- no jobs of a run wait for each other in a circle
pub no_circles : NoCircles
no_circles rows tree jobs legal past run t others along =
    none_wait_among_themselves rows tree jobs legal past run (is_among (t ∷ others))
    (λ v h.
    let (u, behind, waits) = waits_behind jobs past t others t v along (among_if (t ∷ others) v h) in
    (u, if_among (t ∷ others) u (elim behind [ inl among ↦ inr among | inr is ↦ inl is ]), waits))
    t (if_among (t ∷ others) t (inl refl))

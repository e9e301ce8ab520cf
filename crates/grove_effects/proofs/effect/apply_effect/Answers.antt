use Rattle.std.proofs.Common.{◌<◌, length, refl, arith}
use Rattle.grove_effects.proofs.Fronts.{is_nil, some_left}
use Rattle.grove_effects.proofs.Leading.{led_first, can_follow, led_on, led_effect, led_last, led_long}
use Rattle.grove_effects.proofs.effect.apply_effect.Goals as goal
use Rattle.grove_effects.proofs.effect.apply_effect.Goals.{then-place-from-via-then-place-from}
use Rattle.grove_effects.proofs.effect.apply_effect.Goals.{then-place-from-via-else-place-from+then-place-numbers}
use Rattle.grove_effects.proofs.effect.apply_effect.Goals.{
  then-place-from-via-else-place-from+else-place-numbers+then-numbers-place,
}

pub loop-rest-init : goal.loop-rest-init
loop-rest-init c = led_first c.args.numbers.now c.args.bytes.now

pub returns-in_err-place-clause-led : goal.returns-in_err-place-clause-led
returns-in_err-place-clause-led c = λ next words long same.
    let least = led_long c.args.numbers.now c.args.bytes.now c.loop-rest.numbers c.loop-rest.rest.now c.loop-rest.from
    c.loop-rest.invariant c.requires (some_left c.loop-rest.rest.now c.loop-rest-test.ensures) next words long same in
    let short : length c.loop-rest.rest.now < 12 = c.in_err-place.ensures.change in
    absurd (omega arith)

pub returns-then-place-from-clause-led : goal.returns-then-place-from-clause-led
returns-then-place-from-clause-led c = λ next words long same.
    let can = can_follow c.args.numbers.now c.args.bytes.now c.loop-rest.numbers c.loop-rest.rest.now c.loop-rest.from
    c.loop-rest.invariant c.requires c.in_ok-place.place c.in_ok-place.number c.in_ok-place.behind.now
    c.in_ok-place.ensures.change c.in_ok-place.ensures.fits.0 c.in_ok-place.ensures.fits.1 next words long same in
    let no : ⊥ = elim c.then-place-from.branch [
      | then-place-from-via-then-place-from w ↦ omega (arith, can.0, w.if-place-from.true)
      | then-place-from-via-else-place-from+then-place-numbers w ↦ omega (arith, can.1, w.if-place-numbers.true)
      | then-place-from-via-else-place-from+else-place-numbers+then-numbers-place w ↦ can.2 w.if-numbers-place.true
    ] in
    absurd no

pub loop-rest-preserved : goal.loop-rest-preserved
loop-rest-preserved c =
    led_on c.args.numbers.now c.args.bytes.now c.loop-rest.numbers c.loop-rest.rest.now c.loop-rest.from
    c.loop-rest.invariant c.requires c.in_ok-place.place c.in_ok-place.number c.in_ok-place.behind.now
    c.in_ok-place.ensures.change c.in_ok-place.ensures.fits.0 c.in_ok-place.ensures.fits.1
    c.if-place-from.false c.if-place-numbers.false c.if-numbers-place.false

pub returns-clause-leads : goal.returns-clause-leads
returns-clause-leads c =
    led_effect c.args.numbers.now c.args.bytes.now c.loop-rest.numbers c.loop-rest.rest.now c.loop-rest.from
    c.loop-rest.invariant c.requires (is_nil c.loop-rest.rest.now c.loop-rest-test.ensures)

pub returns-clause-led : goal.returns-clause-led
returns-clause-led c = λ next words long same. (
  refl,
  led_last c.args.numbers.now c.args.bytes.now c.loop-rest.numbers c.loop-rest.rest.now c.loop-rest.from
      c.loop-rest.invariant c.requires (is_nil c.loop-rest.rest.now c.loop-rest-test.ensures) next words long same,
)

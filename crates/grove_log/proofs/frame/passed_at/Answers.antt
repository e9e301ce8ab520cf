use Rattle.std.proofs.Common.{List, ℕ, refl, sym, ap, ◌∙◌, arith, take, drop}
use Rattle.std.proofs.lemmas.List.{length-append, take_at, drop_at}
use Rattle.grove_log.specs.Frames.{digest}
use Rattle.grove_log.proofs.Passing.{sealed_is}
use Rattle.grove_log.proofs.Fronts.{length_digest}
use Rattle.grove_log.proofs.frame.passed_at.Goals as goal

pub returns-then-tail-lt32 : goal.returns-then-tail-lt32
returns-then-tail-lt32 c = grind (arith, length-append, length_digest, sealed_is)

pub returns : goal.returns
returns c = λ before payload behind found.
    let cut = c.in_ok-payload.field-0 in
    let seal = digest before cut.payload.now in
    let long = length_digest before cut.payload.now in
    let is = sealed_is before cut.payload.now cut.tail.now payload behind (sym (c.in_ok-payload.ensures before)
    ∙ found) in (
      refl,
      (
        is.0,
        c.copied.ensures ∙ c.split_at.ensures.front ∙ ap (λ (l : List ℕ). take 32 l) is.1
            ∙ take_at seal behind 32 long ∙ ap (λ (l : List ℕ). digest before l) is.0,
        c.split_at.ensures.back ∙ ap (λ (l : List ℕ). drop 32 l) is.1 ∙ drop_at seal behind 32 long,
      ),
    )

use Rattle.std.proofs.Common.{◌∷◌}
use Rattle.json.specs.Reads.{token_of}
use Rattle.grove_line.proofs.TokenValues.{not_scalar, starts_weaker}
use Rattle.grove_line.proofs.scalars.scalar_on.Goals as goal

pub returns-in-Scalar-clause-read : goal.returns-in-Scalar-clause-read
returns-in-Scalar-clause-read c =
    let opens = rw c.in-Scalar.is at (c.in_ok-opened.ensures.opened c.args.reader.now) in
    starts_weaker (λ d is. is.2) opens

pub returns : goal.returns
returns c = record {
  read = starts_weaker (λ d is. not_scalar c.in_ok-opened.opened c.in_default.not-Scalar d is)
      (c.in_ok-pass_opened.ensures.passed c.args.depth (token_of c.args.token ∷ c.args.reader.now)
      (c.in_ok-opened.ensures.opened c.args.reader.now));
  unread = λ never. absurd (cc);
}

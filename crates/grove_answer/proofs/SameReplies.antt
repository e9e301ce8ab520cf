-- Replies that are found equal are the same.
use Rattle.std.proofs.Common.{◌≡◌, ℤ, refl, ap}
use Rattle.std.specs.Prelude.{Decides}
use Rattle.std.proofs.lemmas.Bool.{false≢true}
use Rattle.std.proofs.lemmas.Bool.Decides.{Decides-int_eq}
use Rattle.grove_access.specs.declared.reply.Reply.{Reply}
use Rattle.grove_access.specs.declared.reply.Reply.TheVariants.{Value, Done, Range, Short}
use Rattle.grove_access.specs.contracts.reply.ReplyPartialEq.TheImpl.{eq-value}

value_is : (a b : ℤ) → Value a ≡ Value b → a ≡ b
value_is a b e = cc

-- a reply is found equal to just itself
pub reply_decides : (a b : Reply) → Decides (eq-value.it a b) (a ≡ b)
reply_decides (Value a) (Value b) = (λ e. ap Value ((Decides-int_eq a b).0 e), λ e. (Decides-int_eq a b).1 (value_is a b e))
reply_decides Done Done = (λ e. refl, λ e. refl)
reply_decides Range Range = (λ e. refl, λ e. refl)
reply_decides Short Short = (λ e. refl, λ e. refl)
reply_decides (Value a) Done = (λ e. absurd (false≢true e), λ e. absurd (cc))
reply_decides (Value a) Range = (λ e. absurd (false≢true e), λ e. absurd (cc))
reply_decides (Value a) Short = (λ e. absurd (false≢true e), λ e. absurd (cc))
reply_decides Done (Value b) = (λ e. absurd (false≢true e), λ e. absurd (cc))
reply_decides Done Range = (λ e. absurd (false≢true e), λ e. absurd (cc))
reply_decides Done Short = (λ e. absurd (false≢true e), λ e. absurd (cc))
reply_decides Range (Value b) = (λ e. absurd (false≢true e), λ e. absurd (cc))
reply_decides Range Done = (λ e. absurd (false≢true e), λ e. absurd (cc))
reply_decides Range Short = (λ e. absurd (false≢true e), λ e. absurd (cc))
reply_decides Short (Value b) = (λ e. absurd (false≢true e), λ e. absurd (cc))
reply_decides Short Done = (λ e. absurd (false≢true e), λ e. absurd (cc))
reply_decides Short Range = (λ e. absurd (false≢true e), λ e. absurd (cc))

-- A body of which no line is read, since there is no memory for replies.
use Rattle.std.proofs.Common.{ℕ, List, [], codes, refl, ap, Err, arith, rules}
use Rattle.http_server.specs.declared.response.Response.{Response}
use Rattle.http_server.specs.Response.{IsResponse}
use Rattle.grove_session.specs.declared.session_fault.SessionFault.TheVariants.{Memory}
use Rattle.grove_session.specs.Sessions.{is_write}
use Rattle.grove_desk.specs.Hints.{CallerState}
use Rattle.grove_page.specs.Pages.{json, error_line, AnswersBody}

pub no_line_is_read : (before : CallerState) (body : List ℕ) (r : Response)
    → IsResponse 503 json (error_line (codes "memory")) r → AnswersBody before body r
no_line_is_read before body r said = (
  Err Memory,
  [],
  (
    before,
    record {
      input = [];
      left = body;
      read = refl;
      ends = (0, omega arith, (refl, refl));
      cut = λ (written : ℕ) is. search (rules, ap is_write is);
    },
  ),
  said,
)

-- A reply after which the connection ends.
use Rattle.std.proofs.Common.{◌≡◌, ◌<◌, List, ℕ, [], ◌∷◌, ◌++◌, length, nat_lt, codes, Bool, sym, subst, Result, OnOk}
use Rattle.std.proofs.lemmas.Bool.{lt-ltb}
use Rattle.std.proofs.lemmas.Result.{on_ok_weaker}
use Rattle.http_server.specs.declared.response.Response.{Response}
use Rattle.http_server.specs.Response.{fields_of}
use Rattle.grove_desk.specs.Hints.{CallerState}
use Rattle.grove_page.specs.Pages.{has_many_lines, TakesLines, TakesBody}

-- the reply to a long body, and one field more
pub ends_after : {A B : Type 0} (added : Result A B) (before : CallerState) (body : List ℕ) (reply r : Response)
    → 65536 < length body → TakesLines (has_many_lines body) before body reply → r.status ≡ reply.status
    → OnOk added (fields_of r ≡ fields_of reply ++ (codes "connection", codes "close") ∷ []) → r.body ≡ reply.body
    → OnOk added (TakesBody (nat_lt 65536 (length body)) before body r)
ends_after added before body reply r long takes status fields content =
    on_ok_weaker added (λ more. subst (λ (is_long : Bool). TakesBody is_long before body r)
    (sym (lt-ltb 65536 (length body) long)) (reply, takes, record { status = status; fields = more; body = content }))
    fields

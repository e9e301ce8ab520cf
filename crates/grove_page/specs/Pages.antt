-- What is replied to a request: a page, the replies to lines, or what a store holds.
use Rattle.std.specs.Prelude.{◌≡◌, ℕ, ◌==◌, ◌&&◌, ◌||◌, ◌⊎◌, nat_lt, Bool, true, false, not, count_by, List, [], ◌∷◌}
use Rattle.std.specs.Prelude.{◌++◌, length, Option, Some, None, is_some, unwrap_or, Result, Ok, Err, codes}
use Rattle.std.specs.Prelude.{if◌then◌else◌, All}
use Rattle.http.specs.declared.request.Request.{Request}
use Rattle.http.specs.Request.{head_of, body_of}
use Rattle.http_uri.specs.Uri.{uri_path, uri_query}
use Rattle.http1.specs.Fields.{Header}
use Rattle.http_server.specs.declared.response.Response.{Response}
use Rattle.http_server.specs.declared.state.Config.{Config}
use Rattle.http_server.specs.Response.{IsResponse, fields_of}
use Rattle.http_server.specs.History.{History, IsServed}
use Rattle.grove_session.specs.declared.session_fault.SessionFault.{SessionFault}
use Rattle.grove_session.specs.declared.session_fault.SessionFault.TheVariants.{Read, Write, Memory, Turns, Foreign, Unkept}
use Rattle.grove_session.specs.Sessions.{Lawful, SessionEnds}
use Rattle.grove_wire.specs.Documents.{document_text}
use Rattle.grove_wire.specs.Replies.{error_text}
use Rattle.grove_store.specs.StoreStates.{StoreState}
use Rattle.grove_store.specs.Refusals.{is_refusal}
use Rattle.grove_desk.specs.declared.told.Told.{Told}
use Rattle.grove_desk.specs.Histories.{Led}
use Rattle.grove_desk.specs.Desks.{is_accepted}
use Rattle.grove_page.specs.declared.route.Route.{Route}
use Rattle.grove_page.specs.declared.route.Route.TheVariants.{Page, Lines, Document, Nodes, Health, Metrics}
use Rattle.grove_page.specs.declared.route.Route.TheVariants.{OnlyLook, LookOrSend, ForeignPage, Nowhere}
use Rattle.grove_desk.specs.Hints.{caller, CallerState, IsCallerReply, MayHint}
use Rattle.grove_page.specs.declared.nodes.Part.{Part}
use Rattle.grove_page.specs.Hosts.{IsForHere}
use Rattle.grove_page.specs.Queries.{NodesQuery, IsRead}
use Rattle.grove_page.specs.NodeLines.{line_of_nodes, part_of}
use Rattle.grove_page.specs.Routes.{asks_for_hints, route_of}

-- a page's text, the names that its host may have in requests, its desk's opening store, whether refusals have hints
pub record PageState : Type 0 where
  pub page : List ℕ
  pub hosts : List (List ℕ)
  pub opening : StoreState
  pub hints : Bool

-- ---- the parts of a reply

-- nobody shows it within a page, or takes it for what it isn't
abbrev pub guards : List Header
guards = (codes "x-content-type-options", codes "nosniff") ∷ (codes "x-frame-options", codes "DENY") ∷ []

-- its content is a page, or lines of JSON
abbrev pub html : List Header
html =
    (codes "content-type", codes "text/html; charset=utf-8")
    ∷ (codes "content-security-policy", codes "frame-ancestors 'none'") ∷ guards

abbrev pub json : List Header
json = (codes "content-type", codes "application/json; charset=utf-8") ∷ guards

-- the line that says why nothing else is said
abbrev pub error_line : List ℕ → List ℕ
error_line name = codes "{\"error\":\"" ++ (name ++ codes "\"}\n")

-- ---- lines

-- the replies are a single one, and it is a refusal
abbrev pub is_refused : Result ℕ SessionFault → List ℕ → Bool
is_refused (Ok count) out = (count == 1) && is_refusal out
is_refused (Err fault) out = false

-- the session was over a single line, after which its visitor was told that it is refused, or nothing of it
abbrev pub ends_refused : Result ℕ SessionFault → Told → Bool
ends_refused (Ok count) told = (count == 1) && not (is_accepted told)
ends_refused (Err fault) told = false

-- the replies to all lines; those before one that found no memory or a foreign answer or isn't kept; or none if they
-- are too long
abbrev pub TellsSession : Result ℕ SessionFault → List ℕ → Response → Type 0
TellsSession (Ok count) out r = IsResponse (if is_refused (Ok count) out then 400 else 200) json out r
TellsSession (Err Memory) out r = IsResponse 503 json (out ++ error_line (codes "memory")) r
TellsSession (Err Unkept) out r = IsResponse 503 json (out ++ error_line (codes "unkept")) r
TellsSession (Err Foreign) out r = IsResponse 500 json (out ++ error_line (codes "foreign")) r
TellsSession (Err (Write n)) out r = IsResponse 500 json (error_line (codes "replies")) r
TellsSession (Err Read) out r = IsResponse 500 json (out ++ error_line (codes "device")) r
TellsSession (Err Turns) out r = IsResponse 500 json (out ++ error_line (codes "device")) r

-- a session over the body, as far as it was read
pub record Visits {S : Type 0} (shared : Bool) (lawful : Lawful S) (old : S) (body : List ℕ)
    (result : Result ℕ SessionFault) (out : List ℕ) (new : S) : Type 0 where
  pub input : List ℕ
  pub left : List ℕ
  pub read : body ≡ input ++ left
  pub ends : SessionEnds shared lawful old result (Some left) input out new
  -- a reply that doesn't go out whole is one that these bytes end in
  pub cut : (written : ℕ) → result ≡ Err (Write written) → written ≡ 16777216

-- by a caller of a desk
abbrev pub VisitsDesk : CallerState → List ℕ → Result ℕ SessionFault → List ℕ → Type 0
VisitsDesk before body result out = (new : CallerState) × Visits true IsCallerReply before body result out new

-- the reply tells of a session over the body
abbrev pub AnswersBody : CallerState → List ℕ → Response → Type 0
AnswersBody before body r =
    (result : Result ℕ SessionFault) × (out : List ℕ) × VisitsDesk before body result out × TellsSession result out r

-- more line feeds than a body may have
abbrev pub has_many_lines : List ℕ → Bool
has_many_lines body = nat_lt 16384 (count_by (λ byte. byte == 10) body)

-- of a body with more of them no line is answered
abbrev pub TakesLines : Bool → CallerState → List ℕ → Response → Type 0
TakesLines true before body r = IsResponse 413 json (error_line (codes "lines")) r
TakesLines false before body r = AnswersBody before body r

-- a reply, and that the connection ends after it
pub record EndsWith (reply r : Response) : Type 0 where
  pub status : r.status ≡ reply.status
  pub fields : fields_of r ≡ fields_of reply ++ (codes "connection", codes "close") ∷ []
  pub body : r.body ≡ reply.body

-- after a long body the connection ends
abbrev pub TakesBody : Bool → CallerState → List ℕ → Response → Type 0
TakesBody false before body r = TakesLines (has_many_lines body) before body r
TakesBody true before body r =
    (reply : Response) × TakesLines (has_many_lines body) before body reply × EndsWith reply r

-- ---- stores

abbrev pub LacksMemory : Response → Type 0
LacksMemory r = IsResponse 503 json (error_line (codes "memory")) r

-- no store is told, since there is no memory for it, or since what the last round left couldn't be kept
abbrev pub TellsNone : Response → Type 0
TellsNone r = LacksMemory r ⊎ IsResponse 503 json (error_line (codes "unkept")) r

-- the document of a store to which lawful rounds lead from the opening one; or none
abbrev pub TellsDocument : StoreState → Response → Type 0
TellsDocument opening r = ((store : StoreState) × Led opening store
    × IsResponse 200 json (document_text store.rows store.records ++ 10 ∷ []) r) ⊎ TellsNone r

-- what is counted of a server, of which no clause says more, or that there is no memory for it
abbrev pub TellsMetrics : Response → Type 0
TellsMetrics r = ((text : List ℕ)
    × IsResponse 200 ((codes "content-type", codes "text/plain; version=0.0.4; charset=utf-8") ∷ guards) text r)
    ⊎ LacksMemory r

-- ---- nodes

-- there is no such node, which is told with a hint only if hints are asked for
abbrev pub TellsNoPath : Bool → Response → Type 0
TellsNoPath hints r =
    (line : List ℕ) × MayHint hints (error_text (codes "no-path")) line × IsResponse 400 json (line ++ 10 ∷ []) r

-- the reply tells of the part of a store, or that there is no such node
abbrev pub TellsPart : Bool → StoreState → Option Part → Response → Type 0
TellsPart hints store None r = TellsNoPath hints r
TellsPart hints store (Some part) r =
    IsResponse 200 json (line_of_nodes store.rows store.records store.waits store.rounds part) r

-- of such a store what the query asks; or that it asks nothing; or none
abbrev pub AnswersQuery : Bool → List ℕ → StoreState → Response → Type 0
AnswersQuery hints query opening r = ((asked : NodesQuery) × IsRead query asked
    × ((store : StoreState) × Led opening store
    × TellsPart (hints || is_some asked.hints) store (part_of store.rows asked.below) r))
    ⊎ ((((asked : NodesQuery) → IsRead query asked → ⊥) × IsResponse 400 json (error_line (codes "query")) r)
    ⊎ TellsNone r)

-- ---- requests

-- lines are answered, or they aren't any more
abbrev pub TellsHealth : Response → Type 0
TellsHealth r = IsResponse 200 json (codes "{\"status\":\"ok\"}\n") r
    ⊎ IsResponse 503 json (error_line (codes "unkept")) r

abbrev pub IsReplyTo : PageState → Option (List ℕ) → List ℕ → Route → Response → Type 0
IsReplyTo state query body Page r = IsResponse 200 html state.page r
IsReplyTo state query body Lines r =
    TakesBody (nat_lt 65536 (length body)) (caller (state.hints || asks_for_hints query) state.opening) body r
IsReplyTo state query body Document r = TellsDocument state.opening r
IsReplyTo state query body Nodes r = AnswersQuery state.hints (unwrap_or query []) state.opening r
IsReplyTo state query body Health r = TellsHealth r
IsReplyTo state query body Metrics r = TellsMetrics r
IsReplyTo state query body OnlyLook r =
    IsResponse 405 ((codes "allow", codes "GET, HEAD") ∷ json) (error_line (codes "method")) r
IsReplyTo state query body LookOrSend r =
    IsResponse 405 ((codes "allow", codes "GET, HEAD, POST") ∷ json) (error_line (codes "method")) r
IsReplyTo state query body ForeignPage r = IsResponse 403 json (error_line (codes "origin")) r
IsReplyTo state query body Nowhere r = IsResponse 404 json (error_line (codes "not-found")) r

-- what is replied to a request: nothing but a refusal, where it names another host
pub record IsPageReply (state : PageState) (request : Request (List ℕ)) (r : Response) : Type 0 where
  pub here : IsForHere state.hosts (head_of request) → let head = head_of request in
      IsReplyTo state (uri_query head.uri) (body_of request) (route_of head.method (uri_path head.uri) head.headers) r
  pub elsewhere : (IsForHere state.hosts (head_of request) → ⊥) → IsResponse 421 json (error_line (codes "host")) r

-- a connection that was served as HTTP asks, with such a reply to each request
pub record IsPageHistory (state : PageState) (config : Config) (h : History) : Type 0 where
  pub served : ∥ IsServed config h ∥₁
  pub replied : All (λ call. IsPageReply state call.0 call.1) h.calls

-- What a request asks for, by its method, its path and the fields that tell which page sends it.
use Rattle.std.specs.Prelude.{ℕ, List, [], ◌∷◌, ◌++◌, map, Bool, true, false, codes, bytes_eq, ◌||◌, if◌then◌else◌}
use Rattle.std.specs.Prelude.{Option, Some, None}
use Rattle.http_header.specs.FieldValue.{FieldValue}
use Rattle.http_header.specs.HeaderMap.{Entries, get_all}
use Rattle.grove_page.specs.declared.route.Route.{Route}
use Rattle.grove_page.specs.declared.route.Route.TheVariants.{Page, Lines, Document, Nodes, Health, Metrics}
use Rattle.grove_page.specs.declared.route.Route.TheVariants.{OnlyLook, LookOrSend, ForeignPage, Nowhere}

-- the values of the fields of this name
abbrev pub values_of : Entries FieldValue → List ℕ → List (List ℕ)
values_of fields name = map (λ value. value.bytes) (get_all fields name)

-- the query asks for hints
abbrev pub asks_for_hints : Option (List ℕ) → Bool
asks_for_hints (Some query) = bytes_eq query (codes "hints")
asks_for_hints None = false

-- no page is told of, or a single one, whose origin is the one host, by http
abbrev pub is_of_host : List (List ℕ) → List (List ℕ) → Bool
is_of_host [] hosts = true
is_of_host (origin ∷ []) (host ∷ []) = bytes_eq origin (codes "http://" ++ host)
is_of_host _ _ = false

-- `HEAD` asks for what `GET` does
abbrev pub look_of : List ℕ → Route → Route
look_of method seen = if bytes_eq method (codes "GET") || bytes_eq method (codes "HEAD") then seen else OnlyLook

-- lines can be sent there, too, but by no page of another host
abbrev pub look_or_send_of : List ℕ → Entries FieldValue → Route
look_or_send_of method fields =
    if bytes_eq method (codes "POST") then (if is_of_host (values_of fields (codes "origin"))
    (values_of fields (codes "host")) then Lines else ForeignPage)
    else if bytes_eq method (codes "GET") || bytes_eq method (codes "HEAD") then Page
    else LookOrSend

abbrev pub route_of : List ℕ → List ℕ → Entries FieldValue → Route
route_of method path fields =
    if bytes_eq path (codes "/") then look_or_send_of method fields
    else if bytes_eq path (codes "/document") then look_of method Document
    else if bytes_eq path (codes "/nodes") then look_of method Nodes
    else if bytes_eq path (codes "/health") then look_of method Health
    else if bytes_eq path (codes "/metrics") then look_of method Metrics
    else Nowhere

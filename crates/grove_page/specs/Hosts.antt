-- Which hosts a request may name: addresses, and names that nobody else can have resolved to this server.
use Rattle.std.specs.Prelude.{◌==◌, ◌⊎◌, ℕ, List, [], ◌∷◌, Bool, not, codes, take, option_map, option_to_list}
use Rattle.std.specs.Prelude.{IsTrue}
use Rattle.std.specs.List.{list_any, prefix_len}
use Rattle.std.specs.Net.Grammar.{IsIpv4Text}
use Rattle.std.specs.declared.net.ipv4_addr.Ipv4Addr.{Ipv4Addr}
use Rattle.http.specs.declared.request.Parts.{Parts}
use Rattle.http_uri.specs.Uri.{uri_authority}
use Rattle.http_uri.specs.Grammar.{authority_host}
use Rattle.http1.specs.Text.{eq_ignore_case}
use Rattle.http_server.specs.Host.{is_bracketed}
use Rattle.grove_page.specs.Routes.{values_of}

-- what stands before a port
abbrev pub name_in : List ℕ → List ℕ
name_in host = take (prefix_len (λ byte. not (byte == 58)) host) host

-- `localhost` or one of the names, in any case
abbrev pub is_known_name : List (List ℕ) → List ℕ → Bool
is_known_name names name = list_any (λ known. eq_ignore_case known name) (codes "localhost" ∷ names)

abbrev pub IsAddress : List ℕ → Type 0
IsAddress name = (address : Ipv4Addr) × IsIpv4Text name address

-- an address or a known name, with or without a port; HTTP has nothing but addresses of IPv6 in brackets
abbrev pub IsKnownHost : List (List ℕ) → List ℕ → Type 0
IsKnownHost names host = IsTrue (is_bracketed host)
    ⊎ (IsTrue (is_known_name names (name_in host)) ⊎ IsAddress (name_in host))

-- no host is named, or a single one that is known
abbrev pub AreKnownHosts : List (List ℕ) → List (List ℕ) → Type 0
AreKnownHosts names [] = Unit {0}
AreKnownHosts names (host ∷ []) = IsKnownHost names host
AreKnownHosts names _ = ⊥

-- the fields name no other host, nor does the target
pub record IsForHere (names : List (List ℕ)) (head : Parts) : Type 0 where
  pub fields : AreKnownHosts names (values_of head.headers (codes "host"))
  pub target : AreKnownHosts names (option_to_list (option_map authority_host (uri_authority head.uri)))

-- The lines of refusals and of ports.
use Rattle.std.specs.Prelude.{◌≡◌, ◌≤◌, ℕ, codes, decimal, List, [], ◌∷◌, ◌++◌, Option, None, Some}
use Rattle.std.specs.Net.Addr.{ipv4_octets, ipv6_segments}
use Rattle.std.specs.Net.Text.{ipv4_text, ipv6_text}
use Rattle.std.specs.declared.net.ip_addr.IpAddr.{IpAddr}
use Rattle.std.specs.declared.net.ip_addr.IpAddr.TheVariants.{V4, V6}
use Rattle.grove_words.specs.declared.order.Place.{Place}
use Rattle.grove_words.specs.declared.order.Port.{Port}
use Rattle.grove_words.specs.declared.order.Port.TheVariants.{Any, Named}

-- the line of a refusal, whose text is that of a fault
abbrev pub refusal_line : List ℕ → List ℕ
refusal_line fault = codes "refused " ++ fault ++ 10 ∷ []

-- the text of a fault of a file of rounds
abbrev pub IsDataFault : List ℕ → Type 0
IsDataFault fault = (why : List ℕ) × (fault ≡ codes "data " ++ why)

-- an address before a port; one of IPv6 is in brackets
abbrev pub address_text : IpAddr → List ℕ
address_text (V4 address) = ipv4_text (ipv4_octets address)
address_text (V6 address) = codes "[" ++ ipv6_text (ipv6_segments address) ++ codes "]"

-- the line for a port that is listened on at an address, with this end
abbrev pub listening_line : IpAddr → ℕ → List ℕ → List ℕ
listening_line address port end = codes "listening " ++ (address_text address ++ (codes ":" ++ (decimal port ++ end)))

-- the lines for a place: a second one if a port for HTTP is listened on too
abbrev pub place_lines : IpAddr → ℕ → Option ℕ → List ℕ
place_lines address port None = listening_line address port (codes "\n")
place_lines address port (Some http) =
    listening_line address port (codes "\n") ++ listening_line address http (codes " over http\n")

-- the port that is listened on is the one that was named, or any
abbrev pub IsPortFor : Port → ℕ → Type 0
IsPortFor Any port = (1 ≤ port) × (port ≤ 65535)
IsPortFor (Named asked) port = port ≡ asked

-- the text is the lines for a place that was asked for
abbrev pub NamesPlace : Place → List ℕ → Type 0
NamesPlace place text = (port : ℕ) × IsPortFor place.port port × (text ≡ place_lines place.address port place.http)

-- What is told of a store: its line, or that there is no memory for it.
use Rattle.std.proofs.Common.{◌≡◌, ℕ, Bool, true, false, List, [], ◌∷◌, ◌++◌, codes, refl, subst, Result, Ok, Err}
use Rattle.std.proofs.Common.{IfOk, OnOk, OnErr, ◌⊎◌, Option, inl, inr}
use Rattle.json.specs.Print.{escape_byte}
use Rattle.http_server.specs.declared.response.Response.{Response}
use Rattle.http_server.specs.Response.{IsResponse}
use Rattle.grove_store.specs.StoreStates.{StoreState}
use Rattle.grove_desk.specs.Histories.{Led}
use Rattle.grove_page.specs.NodeLines.{part_of}
use Rattle.grove_wire.specs.Replies.{error_text}
use Rattle.grove_desk.specs.Hints.{IsHinted}
use Rattle.grove_page.specs.Pages.{json, error_line, TellsPart, TellsNoPath, TellsNone}

pub tells_store : {A B L E : Type 0} (bytes_of : L → List ℕ) (line_of : StoreState
    → List ℕ) (opening store : StoreState) (filled : Result A B) (line : Result L E) (r : Response)
    → Led opening store → IfOk line (λ (l : L). bytes_of l ≡ line_of store)
    → OnOk filled (IfOk line (λ (l : L). IsResponse 200 json (bytes_of l) r))
    → OnOk filled (OnErr line (IsResponse 503 json (error_line (codes "memory")) r))
    → OnOk filled (((told : StoreState) × Led opening told × IsResponse 200 json (line_of told) r) ⊎ TellsNone r)
tells_store bytes_of line_of opening store (Ok done) (Ok l) r led says told refused = inl (
  store,
  led,
  subst (λ
      (bytes : List ℕ). IsResponse 200 json bytes r) says told,
)
tells_store bytes_of line_of opening store (Ok done) (Err e) r led says told refused = inr (inl refused)
tells_store bytes_of line_of opening store (Err fault) line r led says told refused = tt

-- the part of such a store
pub told_below : {A B : Type 0} (filled : Result A B) (hints : Bool) (path : Option (List ℕ)) (opening store : StoreState)
    (r : Response) → Led opening store
    → OnOk filled (TellsPart hints store (part_of store.rows path) r ⊎ TellsNone r)
    → OnOk filled (((told : StoreState) × Led opening told × TellsPart hints told (part_of told.rows path) r) ⊎ TellsNone r)
told_below (Ok done) hints path opening store r led (inl part) = inl (store, led, part)
told_below (Ok done) hints path opening store r led (inr none) = inr none
told_below (Err fault) hints path opening store r led told = tt

-- the line of a path that no node has
no_path_line : error_line (codes "no-path") ≡ error_text (codes "no-path") ++ 10 ∷ []
unfolding escape_byte
no_path_line = refl

-- it may stand without a hint
pub plain_no_path : (hints : Bool) (r : Response) → IsResponse 400 json (error_line (codes "no-path")) r
    → TellsNoPath hints r
plain_no_path false r said =
    (error_text (codes "no-path"), refl, subst (λ (bytes : List ℕ). IsResponse 400 json bytes r) no_path_line said)
plain_no_path true r said =
    (error_text (codes "no-path"), inl refl, subst (λ (bytes : List ℕ). IsResponse 400 json bytes r) no_path_line said)

-- and with one, where hints are asked for
pub hinted_no_path : (hints : Bool) (line : List ℕ) (r : Response) → hints ≡ true
    → IsHinted (error_text (codes "no-path")) line → IsResponse 400 json (line ++ 10 ∷ []) r → TellsNoPath hints r
hinted_no_path true line r asked hinted said = (line, inr hinted, said)
hinted_no_path false line r asked hinted said = (let wrong = asked in cc)

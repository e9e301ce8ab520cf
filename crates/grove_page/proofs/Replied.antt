-- Calls that leave the state of a service as it was.
use Rattle.std.proofs.Common.{◌≡◌, ℕ, List, [], ◌∷◌, ◌++◌, sym, ap, subst, ◌∙◌}
use Rattle.std.specs.Prelude.{All}
use Rattle.std.proofs.lemmas.List.Elements.{All-nil, All-cons}
use Rattle.http.specs.declared.request.Request.{Request}
use Rattle.http_server.specs.declared.response.Response.{Response}
use Rattle.http_server.specs.Exchange.{Call, Chain, Calls}

-- each of them was answered from that state
pub all_replied : {S : Type 0} (P : S → Request (List ℕ) → Response → Type 0) (old new : S) (calls : List Call)
    → Chain (λ (before : S) (request : Request (List ℕ)) (response : Response) (after : S). P before request response × (after ≡ before)) old calls new
    → All (λ (call : Call). P old call.0 call.1) calls
all_replied P old new [] chain = All-nil _
all_replied {S} P old new (call ∷ calls) chain =
    let later = all_replied P chain.0 new calls chain.2 in
    All-cons (λ (c : Call). P old c.0 c.1) call calls chain.1.0 (subst (λ (s : S). All (λ (c : Call). P s c.0 c.1) calls) chain.1.1 later)

-- the calls of a connection that had none before
pub all_called : {S : Type 0} (P : S → Request (List ℕ) → Response → Type 0) (old new : S) (before after : List Call) → before ≡ []
    → Calls (λ (before : S) (request : Request (List ℕ)) (response : Response) (after : S). P before request response × (after ≡ before)) old new before after
    → All (λ (call : Call). P old call.0 call.1) after
all_called P old new before after none calls =
    subst (λ (cs : List Call). All (λ (call : Call). P old call.0 call.1) cs) (sym (calls.1 ∙ ap (λ (cs : List Call). cs ++ calls.0) none))
    (all_replied P old new calls.0 calls.2)

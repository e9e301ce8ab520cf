use Rattle.std.proofs.Common.{ℕ, List, ◌++◌, Result, Ok, Err, OnOk, sym, ap, subst, ◌∙◌}
use Rattle.std.specs.Prelude.{IsOk}
use Rattle.std.specs.Io.KnownBytes.{Appends, Consumes}
use Rattle.http_server.specs.Connection.{config_of, history}
use Rattle.http_server.specs.declared.state.Config.{Config}
use Rattle.http_server.specs.History.{History}
use Rattle.http_server.proofs.Theorems.{always_served}
use Rattle.grove_page.specs.Pages.{IsPageReply}
use Rattle.grove_page.proofs.Replied.{all_called}
use Rattle.grove_page.proofs.serving.serve_page.Goals as goal

-- what goes on as well has ended well
still_ok : {A B C D : Type 0} (P : Type 0) (result : Result A B) (ended : Result C D) → OnOk result (IsOk ended)
    → OnOk ended P → OnOk result P
still_ok P (Ok done) (Ok ended) is holds = holds
still_ok P (Ok done) (Err fault) is holds = (let wrong = is in cc)
still_ok P (Err fault) ended is holds = tt

pub returns : goal.returns
returns g c =
    let end = c.serve-ended.new.connection in
    let read = c.serve-ended.ensures.read in
    let written = c.serve-ended.ensures.written in
    let fresh = c.new-connection.ensures.history in (
      config_of end,
      history end,
      ap (λ (config : Config). config.max_body_len) (c.serve-ended.ensures.config ∙ c.new-connection.ensures.config),
      record {
        served = always_served end;
        replied = all_called IsPageReply _ _ _ _ (ap (λ (h : History). h.calls) fresh) c.serve-ended.ensures.calls;
      },
      subst (λ (bytes : List ℕ). Consumes (g.I.Read.remaining c.args.reader.now) (g.I.Read.remaining c.serve-ended.new.reader) bytes) (sym (read.2 ∙ ap (λ (h : History). h.received ++ read.0) fresh)) read.1,
      subst (λ (bytes : List ℕ). Appends (g.O.Write.contents c.args.writer.now) (g.O.Write.contents c.serve-ended.new.writer) bytes) (sym (written.2 ∙ ap (λ (h : History). h.sent ++ written.0) fresh)) written.1,
      still_ok _ c.end_in.result c.serve-ended.result c.end_in.ensures c.serve-ended.ensures.done,
    )

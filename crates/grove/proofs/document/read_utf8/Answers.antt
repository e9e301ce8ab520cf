use Rattle.std.proofs.Common.{◌∙◌, ℕ, List, Ok, ap, sym}
use Rattle.serde_json.specs.Data.{Data, string}
use Rattle.grove.proofs.Texts.{text_read, view-String}
use Rattle.grove.proofs.document.read_utf8.Goals as goal

pub returns-in-Ok-from_str : goal.returns-in-Ok-from_str
returns-in-Ok-from_str c =
    text_read _ c.in-Ok.ensures.cases.1
    ∙ ap (λ (text : List ℕ). Ok (string text)) (sym (c.in-Ok-from_str.ensures.ok ∙ c.in-Ok.ensures.cases.0))
    ∙ ap (λ (d : Data). Ok d) (sym (view-String c.in-Ok-from_str.text))

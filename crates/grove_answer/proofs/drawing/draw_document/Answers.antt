use Rattle.std.proofs.Common.{string_bytes}
use Rattle.serde_json.specs.View.{view}
use Rattle.grove_answer.specs.Outcomes.{sketch_in}
use Rattle.grove_answer.proofs.Drawings.{says_drawn}
use Rattle.grove_answer.proofs.drawing.draw_document.Goals as goal

pub returns : goal.returns
returns c =
    says_drawn (sketch_in (view c.args.document.now)) c.in_ok-drawing.drawing (string_bytes c.in_ok-written.field-0) c.in_ok-drawing.ensures.drawn

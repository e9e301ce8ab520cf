use Rattle.std.specs.Prelude.{◌||◌, is_some}
use Rattle.grove_page.proofs.Told.{told_below}
use Rattle.grove_page.proofs.service.PageService.tell_asked.Goals as goal

pub returns-in-Ok : goal.returns-in-Ok
returns-in-Ok g c =
    told_below c.tell_part.result (c.args.self.now.hints || is_some c.args.asked.now.hints) c.args.asked.now.below
    c.args.self.now.opening c.in-Ok.store c.tell_part.new.response c.in-Ok.ensures c.tell_part.ensures

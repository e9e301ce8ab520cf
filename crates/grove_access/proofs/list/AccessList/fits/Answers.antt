use Rattle.std.proofs.Common.{◌∙◌}
use Rattle.grove_access.proofs.Lists.{found_tells}
use Rattle.grove_access.proofs.list.AccessList.fits.Goals as goal

pub returns : goal.returns
returns c = found_tells _ _ _ _ _ _ c.first_beyond.ensures c.len.ensures.number (c.deref.ensures.value ∙ c.self.view_is) c.is_none.ensures

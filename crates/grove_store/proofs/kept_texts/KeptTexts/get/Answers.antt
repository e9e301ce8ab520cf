use Rattle.grove_build.proofs.TargetLists.{same_targets}
use Rattle.grove_store.proofs.TextEntries.{found_kept}
use Rattle.grove_store.proofs.kept_texts.KeptTexts.get.Goals as goal

pub returns-clause-kept : goal.returns-clause-kept
returns-clause-kept c =
    rw (← c.self.view_is)
    (found_kept (λ key. key.items) (λ text. text.items) _ c.args.targets.now.items (λ key same. same_targets c.args.targets.now.items key.items same)
    c.self.inside.texts.entries c.get.result c.get.ensures.value)

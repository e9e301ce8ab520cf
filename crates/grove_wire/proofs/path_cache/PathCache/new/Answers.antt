use Rattle.std.proofs.Common.{◌≡◌, ◌∙◌, ◌++◌, ◌∷◌, ℕ, [], length, replicate, None, Some, ap, arith, subst, sym, rules}
use Rattle.std.proofs.lemmas.List.{length-replicate, replicate-append-replicate}
use Rattle.grove_base.proofs.Lists.{replicate_got}
use Rattle.grove_tree.specs.Trees.{Rows}
use Rattle.grove_wire.specs.CachedPaths.{AreMade}
use Rattle.grove_wire.proofs.path_cache.PathCache.new.Goals as goal

none_made : (rows : Rows) (n : ℕ) → n ≡ length rows → AreMade rows (replicate n None)
none_made rows n all =
    (length-replicate n None ∙ all, λ node path got. let none = replicate_got n None node (Some path) got in search rules)

pub loop-preserved : goal.loop-preserved
loop-preserved c = c.in_ok-push.ensures.items ∙ ap (λ made. made ++ None ∷ []) c.loop.invariant
    ∙ replicate-append-replicate c.loop.counter 1 None

pub invariant_of-result : goal.invariant_of-result
invariant_of-result c = subst (AreMade c.args.tree.now) (sym c.loop.invariant)
    (none_made c.args.tree.now c.loop.counter (omega (arith, c.loop-test.false, c.loop.auto, c.len-end.ensures.number)))

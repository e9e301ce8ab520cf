use Rattle.std.proofs.Common.{append_assoc, ◌≡◌, ◌++◌, List, ℕ}
use Rattle.std.proofs.lemmas.Result.{on_ok_weaker}
use Rattle.grove_gauge.proofs.counts.write_counts.Goals as goal

-- four parts behind one another
joined : (before a b c d lines rounds kept ports : List ℕ) → a ≡ before ++ lines → b ≡ a ++ rounds → c ≡ b ++ kept
    → d ≡ c ++ ports → d ≡ before ++ (lines ++ rounds ++ kept ++ ports)
joined before a b c d lines rounds kept ports is_a is_b is_c is_d = rw (is_d, is_c, is_b, is_a) (simp append_assoc)

pub returns : goal.returns
returns c =
    on_ok_weaker c.write_ports.result (λ last. joined _ _ _ _ _ _ _ _ _ c.in_ok-write_lines.ensures
    c.in_ok-write_rounds.ensures c.in_ok-write_kept.ensures last) c.write_ports.ensures

use Rattle.grove_page.proofs.hosts.is_address.Goals as goal

pub returns-in-Err : goal.returns-in-Err
returns-in-Err c = (λ wrong. cc, λ known. absurd (c.in-Err.ensures known.0 known.1))

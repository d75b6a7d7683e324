use Rattle.std.proofs.Common.{inr}
use Rattle.dj_stack_map.proofs.tags.tag_at.Goals as goal

pub returns-in-None : goal.returns-in-None
returns-in-None c =
    let none = rw c.in-None.is at c.in_ok-meant.ensures.found in
    record { reads = inr (record { tag = c.in_ok-tag.tag; number = c.in_ok-tag.number }, c.in_ok-tag.rest.now, c.in_ok-tag.ensures.reads, (λ lawful. none lawful.meant lawful.is), c.fault_at.ensures.fault) }

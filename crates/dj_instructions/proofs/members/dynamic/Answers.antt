use Rattle.dj_instructions.proofs.members.dynamic.Goals as goal

pub returns-in-Some-call_site_parts : goal.returns-in-Some-call_site_parts
returns-in-Some-call_site_parts c = record { meant = rw (← c.in-Some.ensures.entry, c.in-Some-call_site_parts.ensures.some) c.dynamic_with.ensures.meant }

use Rattle.dj_rebuild.proofs.stores.store_entry.Goals as goal

pub returns-in-Kept : goal.returns-in-Kept
returns-in-Kept c = record { stored = λ slot names. rw c.in-Kept.is (c.store_atom.ensures.stored slot names) }

pub returns-in-Whole : goal.returns-in-Whole
returns-in-Whole c = record { stored = λ slot names. rw c.in-Whole.is (c.store_tree.ensures.stored slot names) }

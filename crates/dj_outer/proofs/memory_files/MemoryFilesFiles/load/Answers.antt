use Rattle.std.proofs.Common.{rules, inl, inr, refl}
use Rattle.dj_outer.proofs.memory_files.MemoryFilesFiles.load.Goals as goal
use Rattle.dj_outer.proofs.memory_files.MemoryFilesFiles.load.Goals.{then-listed, else-listed+in_ok-loaded}

pub returns-in_default-clause-failed : goal.returns-in_default-clause-failed
returns-in_default-clause-failed c =
    (λ _. elim c.if-listed.branch [ then-listed w ↦ inl (search rules) | else-listed+in_ok-loaded w ↦ inr (search rules) ], λ _. refl)

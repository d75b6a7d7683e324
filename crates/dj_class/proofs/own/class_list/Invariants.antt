use Rattle.std.specs.List.{AllZip}
use Rattle.dj_layout.specs.Layout.{SpellsSome}
use Rattle.dj_layout.specs.Parts.{times}
use Rattle.dj_layout.specs.Passes.{asked}
use Rattle.dj_pool.specs.declared.fault.BrokenKind.TheVariants.{Index}
use Rattle.dj_pool.specs.SharedParts.{u2}
use Rattle.dj_pool.specs.PoolFormat.{IsClassIndex}
use Rattle.dj_class.specs.FileFormat.{LeadsTo}
use Rattle.dj_class.proofs.own.class_list.Given as goal

abbrev pub invariant-loop : goal.invariant-loop
invariant-loop l = SpellsSome (times l.counter (asked u2 (IsClassIndex l.pool) Index)) (AllZip (LeadsTo l.pool)) l.bytes l.found l.rest

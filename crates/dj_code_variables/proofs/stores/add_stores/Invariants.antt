use Rattle.std.proofs.Common.{◌≡◌, length}
use Rattle.dj_code.specs.MethodCode.{view_typed}
use Rattle.dj_numbers.specs.Numbers.{IsChained, view_variables}
use Rattle.dj_code_variables.specs.Stores.{AreStoredTo}
use Rattle.dj_code_variables.proofs.stores.add_stores.Given as goal

abbrev pub invariant-loop-place : goal.invariant-loop-place
invariant-loop-place l = record {
  chained : IsChained l.numbers.variables l.numbers.lasts;
  room : length l.after ≡ length l.marks;
  stored : AreStoredTo (view_typed l.typed) l.place (view_variables l.initial.numbers.variables) (view_variables l.numbers.variables) l.after;
}

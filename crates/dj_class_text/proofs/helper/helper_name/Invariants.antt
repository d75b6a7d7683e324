use Rattle.std.proofs.Common.{◌≡◌, take}
use Rattle.dj_class_text.proofs.helper.helper_name.Given as goal

abbrev pub invariant-loop-byte : goal.invariant-loop-byte
invariant-loop-byte l = l.units.items ≡ take l.byte-index l.byte-items

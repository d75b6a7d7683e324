use Rattle.std.proofs.Common.{◌≡◌, ◌<◌, ℕ, Some, true, slice_get}
use Rattle.dj_names.specs.Headers.{Name}
use Rattle.dj_members.specs.Tables.{method_names, IsListed, Grows}
use Rattle.dj_members.proofs.sites.Sites.add_methods.Given as goal

abbrev pub invariant-loop-number : goal.invariant-loop-number
invariant-loop-number l = record {
  grows : Grows l.initial.self.names l.initial.self.members l.self.names l.self.members;
  listed : (number : ℕ) (name : Name) → number < l.number → slice_get (method_names l.methods) number ≡ Some name → IsListed l.self.names l.self.members (record { class = l.class; method = true; number = number }) name;
}

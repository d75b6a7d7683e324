use Rattle.std.proofs.Common.{◌≡◌, ◌-◌}
use Rattle.dj_grammar.specs.Members.{no_members, read_members}
use Rattle.dj_parse.specs.Views.{view_members, view_place}
use Rattle.dj_parse.proofs.members.read_members.Given as goal

abbrev pub invariant-loop : goal.invariant-loop
invariant-loop l =
    read_members (view_place l.place) (l.most - l.counter) (view_members l.members) l.reader ≡ read_members (view_place l.place) l.most no_members l.initial.reader

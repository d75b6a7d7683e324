-- How the code's place of a member, and the members that it has read, are seen plainly.
use Rattle.std.specs.Prelude.{map}
use Rattle.dj_syntax.specs.Trees.{view_field, view_method}
use Rattle.dj_parse.specs.declared.members.Place as code_place
use Rattle.dj_parse.specs.declared.members.Members as code_members
use Rattle.dj_grammar.specs.Members.{Place, Members}

-- where a member stands
abbrev pub view_place : code_place.Place → Place
view_place place = record { interface = place.interface; class = place.class }

-- the members that are read so far
abbrev pub view_members : code_members.Members → Members
view_members members = record {
  fields = map view_field members.fields;
  helper = members.helper;
  methods = map view_method members.methods;
}

-- Where expressions stand, as the program has it.
use Rattle.std.specs.Prelude.{map}
use Rattle.std.specs.BTreeSet.{contains}
use Rattle.std.specs.Cmp.Lexicographic.{slice_cmp}
use Rattle.std.specs.Ordering.{nat_cmp}
use Rattle.dj_meaning.specs.Members.{view_members}
use Rattle.dj_typing.specs.Sites.{Site}
use Rattle.dj_checked.specs.declared.site.Site as code_site
use Rattle.dj_typing.specs.Words.{is_identifier}

-- the names of classes that can be said are given, and each identifier of Java in ASCII can be written
abbrev pub site_of : code_site.Site → Site
site_of site = record {
  headers = site.classes.headers.now;
  members = map view_members site.classes.members.now;
  class = site.classes.from.now;
  has_this = site.has_this;
  can_say = λ name. contains (slice_cmp nat_cmp) site.said.now name;
  can_name = is_identifier;
}

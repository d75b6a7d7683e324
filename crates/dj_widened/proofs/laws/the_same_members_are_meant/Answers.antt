use Rattle.dj_widened.proofs.Paths.{whole_from_test}
use Rattle.dj_widened.proofs.Members.{selected_same, named_field_same}
use Rattle.dj_widened.proofs.Choice.{chosen_kept}
use Rattle.dj_widened.proofs.laws.the_same_members_are_meant.Goals as goal

pub returns : goal.returns
returns c = record {
  selects = λ world headers wide members paired from name type whole. selected_same world headers wide members paired from name type (whole_from_test world from whole);
  field = λ world headers wide members paired from class name whole searched. named_field_same world headers wide members paired from class name (whole_from_test world from whole) (whole_from_test world class searched);
  method = λ world headers wide members paired call whole. chosen_kept world headers wide members paired call (whole_from_test world call.from whole.from) (whole_from_test world call.class whole.class) whole.through whole.arguments;
}

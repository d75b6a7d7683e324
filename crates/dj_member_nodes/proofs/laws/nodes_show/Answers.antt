use Rattle.dj_member_nodes.proofs.Fields.{field-noded, static-noded}
use Rattle.dj_member_nodes.proofs.CallsShown.{object-node}
use Rattle.dj_member_nodes.proofs.Statics.{static-call-node}
use Rattle.dj_member_nodes.proofs.Writes.{field-done, static-done}
use Rattle.dj_member_nodes.proofs.Classes.{cast-noded, instance-noded}
use Rattle.dj_member_nodes.proofs.Lengths.{length-noded, class-noded}
use Rattle.dj_member_nodes.proofs.Alone.{object-alone, static-alone}
use Rattle.dj_member_nodes.proofs.laws.nodes_show.Goals as goal

pub returns : goal.returns
returns c = record {
  fields = λ world context runs may n scope field is class_whole are found e typed. field-noded world context runs may n scope field is class_whole are found e typed;
  statics = λ world context runs may n scope field is no_value class_whole are found e. static-noded world context runs may n scope field is no_value class_whole are found e;
  calls = λ known context runs members may n scope kind not_static method is owner_whole wanted type kept are exp e typed.
      object-node known context runs members may n scope kind not_static method is owner_whole wanted type kept are exp e typed;
  static_calls = λ known context runs members may n scope method is class_whole wanted type kept are exp e typed.
      static-call-node known context runs members may n scope method is class_whole wanted type kept are exp e typed;
  writes = λ world context runs may bound n scope field is class_whole are found e typed. field-done world context runs may bound n scope field is class_whole are found e typed;
  static_writes = λ world context runs may bound n scope field is class_whole are found e typed. static-done world context runs may bound n scope field is class_whole are found e typed;
  casts = λ world context may n scope type are found typed. ((λ e. cast-noded world context may n scope type are found e typed), (λ e. instance-noded world context may n scope type are found e typed));
  lengths = λ world context may n scope are found e typed. length-noded world context may n scope are found e typed;
  class_constants = λ world context may n scope type kept are found e typed. class-noded world context may n scope type kept are found e typed;
  lone_calls = λ known context runs members may bound n scope kind not_static method is owner_whole wanted gives are exp found e d typed.
      object-alone known context runs members may bound n scope kind not_static method is owner_whole wanted gives are exp found e d typed;
  lone_static_calls = λ known context runs members may bound n scope method is class_whole wanted gives are exp found e d typed.
      static-alone known context runs members may bound n scope method is class_whole wanted gives are exp found e d typed;
}

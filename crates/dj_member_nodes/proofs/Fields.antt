-- What stands for instructions on fields does what they do.
use Rattle.std.proofs.Common.{◌≡◌, ℕ, true, false, List, [], ◌∷◌, Option, Some, None, option_and_then, sym, ap, subst, ◌∙◌}
use Rattle.dj_names.specs.declared.header.Header.{Header}
use Rattle.dj_names.specs.Types.{Class, Of}
use Rattle.dj_syntax.specs.Trees.{NoExps, AndExp, Field, Static}
use Rattle.dj_instructions.specs.Instructions.{FieldRef}
use Rattle.dj_values.specs.Values.{Value}
use Rattle.dj_values.specs.Fits.{class_of}
use Rattle.dj_values.specs.Outcomes.{Reply, bind, outside, then_on, there}
use Rattle.dj_bytecode.specs.Objects.{field_read, static_read}
use Rattle.dj_meaning.specs.Fields.{selected}
use Rattle.dj_meaning.specs.Expressions.{value}
use Rattle.dj_meaning.specs.StaticTypes.{Context, Scope, plain, type_of}
use Rattle.dj_typing.specs.Sites.{is_whole}
use Rattle.dj_loaded.specs.Loaded.{MayRun}
use Rattle.dj_rebuilding.specs.Pending.{Typed}
use Rattle.dj_rebuilding.specs.Agreeing.{IsBelow}
use Rattle.dj_rebuilt.specs.Standing.{AreOperands, IsNoded}
use Rattle.dj_members_shown.specs.Sorts as raw
use Rattle.dj_members_shown.specs.Sorts.{OnIs}
use Rattle.dj_members_shown.specs.Casts.{dressed}
use Rattle.dj_members_shown.specs.Meant.{IsField}
use Rattle.dj_members_shown.specs.Operands.{AreOneKind, IsOperand}
use Rattle.dj_members_shown.specs.Laws.{Runs}
use Rattle.dj_members_shown.proofs.Binding.{on-weaker}
use Rattle.dj_members_shown.proofs.Dressing.{pinned, dressed-has-type}
use Rattle.dj_members_shown.proofs.Kept.{field-meant, static-meant}
use Rattle.dj_members_shown.proofs.Reading.{static-value}
use Rattle.dj_members_shown.proofs.Stores.{field-read-built, same-field}
use Rattle.dj_members_shown.proofs.Suiting.{field-type, static-type}
use Rattle.dj_blocks_formed.proofs.Blocks.{made-if, both-are}
use Rattle.dj_member_nodes.specs.Going.{fits_in}
use Rattle.dj_member_nodes.specs.Nodes.{field_node, static_node}
use Rattle.dj_member_nodes.proofs.Dressed.{dressed-small}
use Rattle.dj_strict_entries.specs.Replies.{GivesKept}
use Rattle.dj_strict_entries.proofs.Operating.{field-read-kept, static-read-kept}
use Rattle.dj_member_nodes.proofs.Standing.{AreKept, node-by}
use Rattle.dj_member_nodes.proofs.Operands.{goes-where}

module _ (world : List Header) (context : Context) (runs : Runs world context) (may : MayRun world context.headers) (n : ℕ) (scope : Scope) where
  abbrev Noded : (List Value → Reply (Option Value)) → List Typed → Typed → Type 0
  Noded operation are found = IsNoded context n scope operation are found

  -- ---- `getfield`

  field-exp : (field : FieldRef) (is : IsField world context.members context.class false field) → is_whole world is.class ≡ true → (object : Typed) → AreOperands context n scope (object ∷ []) → fits_in world object.0 field.owner ≡ true
      → Noded (field_read field) (object ∷ []) (Of field.kind, Field (dressed world false object.0 field.owner object.1) field.name)
  field-exp field is class_whole object typed fit =
      let meant = field-meant world context.headers runs.wide context.members runs.paired context.class runs.whole field is class_whole in
      let exp = dressed world false object.0 field.owner object.1 in
      let object_type : type_of context scope exp ≡ Some (Of field.owner) = dressed-has-type world false context scope object.0 field.owner object.1 typed.0.typed ∙ ap Some (pinned world object.0 field.owner) in
      record {
        node = node-by context scope world may (object ∷ []) (field.owner ∷ []) (goes-where world object.0 field.owner fit, tt) (field_read field) (Of field.kind) (Field exp field.name)
            (λ state ops.
            let on : OnIs (λ one after. IsOperand context.headers object.0 field.owner one) (value context scope object.1 state) =
            on-weaker (λ one after. IsOperand context.headers object.0 field.owner one × Unit {0}) (λ one after. IsOperand context.headers object.0 field.owner one) (value context scope object.1 state) ops.1 (λ one after holds. holds.0) in
            ap (λ owner. value context scope (Field (dressed world false object.0 owner object.1) field.name) state) is.owner
            ∙ field-read-built world context scope is.class field.name field.kind is.known object.1 object.0 state meant is.static_alike is.type typed.0.typed (subst (AreOneKind object.0) is.owner ops.0)
            (subst (λ owner. OnIs (λ one after. IsOperand context.headers object.0 owner one) (value context scope object.1 state)) is.owner on)
            ∙ ap (λ one. bind (raw.operands context scope (AndExp object.1 NoExps) state) (λ all. outside context.headers (then_on (field_read one all) there))) (sym (same-field field is.class is.owner)))
            kept;
        is = record {
          small = dressed-small (IsBelow n) world false object.0 field.owner object.1 typed.0.small;
          typed = field-type context scope field.name (Class is.class) is.known exp (ap (λ found. option_and_then (selected context.headers context.members context.class field.name) (plain found)) object_type ∙ ap (selected context.headers context.members context.class field.name) is.owner ∙ meant) ∙ ap (λ type. Some (Of type)) is.type;
        };
      }
    where
      kept : (all : List Value) → AreKept context scope (object ∷ []) all → GivesKept context.headers (Of field.kind) (field_read field all)
      kept [] k = absurd k
      kept (one ∷ []) k = field-read-kept context.headers field one
      kept (one ∷ two ∷ more) k = absurd k.1

  pub field-noded : (field : FieldRef) (is : IsField world context.members context.class false field) → is_whole world is.class ≡ true → (are : List Typed) (found : Typed) → field_node world field are ≡ Some found → AreOperands context n scope are → Noded (field_read field) are found
  field-noded field is class_whole [] found e typed = absurd (cc)
  field-noded field is class_whole (object ∷ []) found e typed =
      let m = made-if (fits_in world object.0 field.owner) (Some (Of field.kind, Field (dressed world false object.0 field.owner object.1) field.name)) found e in
      let same : (Of field.kind, Field (dressed world false object.0 field.owner object.1) field.name) ≡ found = (let some = m.1 in cc) in
      subst (Noded (field_read field) (object ∷ [])) same (field-exp field is class_whole object typed m.0)
  field-noded field is class_whole (object ∷ second ∷ rest) found e typed = absurd (cc)

  -- ---- `getstatic`

  static-exp : (field : FieldRef) (is : IsField world context.members context.class true field) → is.known.constant ≡ None → is_whole world is.class ≡ true → Noded (static_read field) [] (Of field.kind, Static is.class field.name)
  static-exp field is no_value class_whole =
      let meant = static-meant world context.headers runs.wide context.members runs.paired context.class runs.whole field is class_whole in
      record {
        node = node-by context scope world may [] [] tt (static_read field) (Of field.kind) (Static is.class field.name)
            (λ state ops. static-value context scope is.class field.name field.kind is.known state meant no_value is.type
            ∙ ap (λ one. bind (raw.operands context scope NoExps state) (λ all. outside context.headers (then_on (static_read one all) there))) (sym (same-field field is.class is.owner)))
            (λ all k. static-read-kept context.headers field all);
        is = record { small = tt; typed = static-type context scope is.class field.name is.known meant ∙ ap (λ type. Some (Of type)) is.type };
      }

  pub static-noded : (field : FieldRef) (is : IsField world context.members context.class true field) → is.known.constant ≡ None → is_whole world is.class ≡ true → (are : List Typed) (found : Typed) → static_node field are ≡ Some found → Noded (static_read field) are found
  static-noded field is no_value class_whole [] found e =
      let b = both-are (class_of field.owner) (λ class. Some (Of field.kind, Static class field.name)) found e in
      let same : (Of field.kind, Static b.one field.name) ≡ found = (let some = b.then_is in cc) in
      let class_is : is.class ≡ b.one = (let some : Some is.class ≡ Some b.one = sym (ap class_of is.owner) ∙ b.is in cc) in
      subst (Noded (static_read field) []) same (subst (λ class. Noded (static_read field) [] (Of field.kind, Static class field.name)) class_is (static-exp field is no_value class_whole))
  static-noded field is no_value class_whole (first ∷ rest) found e = absurd (cc)

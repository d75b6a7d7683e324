-- The statements that stand for writes to fields do what they do.
use Rattle.std.proofs.Common.{◌≡◌, ℕ, true, false, ◌&&◌, List, [], ◌∷◌, Option, Some, refl, sym, ap, subst, ◌∙◌, codes}
use Rattle.std.proofs.lemmas.Bool.{and_parts, false≢true}
use Rattle.dj_names.specs.declared.header.Header.{Header}
use Rattle.dj_names.specs.Headers.{Name}
use Rattle.dj_syntax.specs.Trees.{NoExps, AndExp, SetField, SetStatic}
use Rattle.dj_instructions.specs.Instructions.{FieldRef}
use Rattle.dj_values.specs.Values.{Value, Int, Long, Null, Ref, Action, PutField, PutStatic, Answer, Given, Done, Thrown}
use Rattle.dj_values.specs.Fits.{class_of}
use Rattle.dj_values.specs.Deciding.{is_answer}
use Rattle.dj_values.specs.Outcomes.{Reply, Gives, Halts, Asks, Is, bind, outside, then_on, ask, told, trap}
use Rattle.dj_bytecode.specs.Operands.{fitted}
use Rattle.dj_bytecode.specs.Objects.{field_written, static_written}
use Rattle.dj_meaning.specs.Completions.{Normal}
use Rattle.dj_meaning.specs.Expressions.{value}
use Rattle.dj_meaning.specs.Meaning.{run}
use Rattle.dj_meaning.specs.Statements.{Elsewhere}
use Rattle.dj_meaning.specs.StaticTypes.{Context, Scope}
use Rattle.dj_meaning.specs.Variables.{EachInStm}
use Rattle.dj_typing.specs.Sites.{is_whole}
use Rattle.dj_loaded.specs.Loaded.{MayRun}
use Rattle.dj_rebuilding.specs.Pending.{Typed, and_then, set_field, set_static}
use Rattle.dj_rebuilding.specs.Agreeing.{IsBelow}
use Rattle.dj_rebuilt.specs.Standing.{AreOperands, IsEffect}
use Rattle.dj_rebuilt.specs.Rebuilding.{Plain}
use Rattle.dj_members_shown.specs.Sorts as raw
use Rattle.dj_members_shown.specs.Sorts.{OnIs}
use Rattle.dj_members_shown.specs.Casts.{dressed}
use Rattle.dj_members_shown.specs.Meant.{IsField}
use Rattle.dj_members_shown.specs.Operands.{AreOneKind, IsOperand}
use Rattle.dj_members_shown.specs.Pushing.{GivesNothing}
use Rattle.dj_members_shown.specs.Laws.{Runs}
use Rattle.dj_members_shown.proofs.Binding.{on-weaker}
use Rattle.dj_members_shown.proofs.Kept.{field-meant, static-meant}
use Rattle.dj_members_shown.proofs.Stores.{field-written-built, static-written-built, same-field}
use Rattle.dj_blocks_formed.proofs.Blocks.{made-if, both-are}
use Rattle.dj_member_nodes.specs.Going.{fits_in}
use Rattle.dj_member_nodes.specs.Nodes.{field_effect, static_effect}
use Rattle.dj_member_nodes.proofs.Dressed.{dressed-small}
use Rattle.dj_member_nodes.proofs.Standing.{effect-by, nothing-again}
use Rattle.dj_member_nodes.proofs.Operands.{goes-where}

-- ---- what gives nothing, whatever the operands

module _ (headers : List Header) where
  pub then-nothing : {A : Type 0} (reply : Reply A) (next : A → Reply (Option Value)) → ((one : A) → GivesNothing headers (next one)) → GivesNothing headers (then_on reply next)
  then-nothing (Gives one) next h = h one
  then-nothing (Halts stop) next h = tt
  then-nothing (Asks action after) next h = λ answer fits. then-nothing (after answer) next h

  pub told-nothing : (action : Action) → ((one : Value) → is_answer headers action (Given one) ≡ false) → (answer : Answer) → is_answer headers action answer ≡ true → GivesNothing headers (told answer)
  told-nothing action never (Given one) fits = false≢true (sym (never one) ∙ fits)
  told-nothing action never Done fits = tt
  told-nothing action never (Thrown reference) fits = tt

  pub trap-nothing : (class : Name) → GivesNothing headers (trap class)
  trap-nothing class (Given one) fits = tt
  trap-nothing class Done fits = tt
  trap-nothing class (Thrown reference) fits = tt

  pub field-nothing : (field : FieldRef) (all : List Value) → GivesNothing headers (field_written field all)
  field-nothing field [] = tt
  field-nothing field (object ∷ []) = tt
  field-nothing field (Int number ∷ new ∷ []) = tt
  field-nothing field (Long number ∷ new ∷ []) = tt
  field-nothing field (Null ∷ new ∷ []) = trap-nothing (codes "java/lang/NullPointerException")
  field-nothing field (Ref reference ∷ new ∷ []) =
      then-nothing (fitted field.kind new) (λ kept. ask (PutField reference field.owner field.name field.kind kept)) (λ kept. told-nothing (PutField reference field.owner field.name field.kind kept) (λ one. refl))
  field-nothing field (object ∷ new ∷ third ∷ rest) = tt

  pub static-nothing : (field : FieldRef) (all : List Value) → GivesNothing headers (static_written field all)
  static-nothing field [] = tt
  static-nothing field (new ∷ []) =
      then-nothing (fitted field.kind new) (λ kept. ask (PutStatic field.owner field.name field.kind kept)) (λ kept. told-nothing (PutStatic field.owner field.name field.kind kept) (λ one. refl))
  static-nothing field (new ∷ second ∷ rest) = tt

module _ (world : List Header) (context : Context) (runs : Runs world context) (may : MayRun world context.headers) (bound n : ℕ) (scope : Scope) where
  abbrev Stands : (List Value → Reply (Option Value)) → List Typed → Plain → Type 0
  Stands operation are found = IsEffect context bound scope operation are found.0 × EachInStm (IsBelow n) found.0

  -- ---- `putfield`

  field-stands : (field : FieldRef) (is : IsField world context.members context.class false field) → is_whole world is.class ≡ true → (object new : Typed) → AreOperands context n scope (object ∷ new ∷ [])
      → fits_in world object.0 field.owner ≡ true → fits_in world new.0 field.kind ≡ true
      → Stands (field_written field) (object ∷ new ∷ []) (SetField (dressed world false object.0 field.owner object.1) field.name (dressed world true new.0 field.kind new.1), set_field)
  field-stands field is class_whole object new typed fit fit_new =
      let meant = field-meant world context.headers runs.wide context.members runs.paired context.class runs.whole field is class_whole in
      let statement = SetField (dressed world false object.0 field.owner object.1) field.name (dressed world true new.0 field.kind new.1) in (
        effect-by context scope world may bound (object ∷ new ∷ []) (field.owner ∷ field.kind ∷ []) (goes-where world object.0 field.owner fit, (goes-where world new.0 field.kind fit_new, tt)) (field_written field) statement
            (λ all state. nothing-again context scope (field_written field all) (field-nothing context.headers field all) state)
            (λ state ops.
            ap (λ owner. run context scope bound Elsewhere (SetField (dressed world false object.0 owner object.1) field.name (dressed world true new.0 field.kind new.1)) state) is.owner
            ∙ field-written-built world context scope bound Elsewhere is.class field.name field.kind is.known object.1 new.1 object.0 new.0 state meant is.static_alike is.type typed.0.typed typed.1.0.typed
            (subst (AreOneKind object.0) is.owner ops.0) (goes-where world new.0 field.kind fit_new).kind
            (subst (λ owner. OnIs (λ found after. IsOperand context.headers object.0 owner found × OnIs (λ kept behind. IsOperand context.headers new.0 field.kind kept) (value context scope new.1 after)) (value context scope object.1 state)) is.owner
            (on-weaker (λ found after. IsOperand context.headers object.0 field.owner found × (AreOneKind new.0 field.kind × OnIs (λ kept behind. IsOperand context.headers new.0 field.kind kept × Unit {0}) (value context scope new.1 after)))
            (λ found after. IsOperand context.headers object.0 field.owner found × OnIs (λ kept behind. IsOperand context.headers new.0 field.kind kept) (value context scope new.1 after)) (value context scope object.1 state) ops.1
            (λ found after holds. (holds.0, on-weaker (λ kept behind. IsOperand context.headers new.0 field.kind kept × Unit {0}) (λ kept behind. IsOperand context.headers new.0 field.kind kept) (value context scope new.1 after) holds.1.1 (λ kept behind so. so.0)))))
            ∙ ap (λ one. bind (raw.operands context scope (AndExp object.1 (AndExp new.1 NoExps)) state) (λ all after. bind (outside context.headers (field_written one all) after) (λ dropped. Is Normal))) (sym (same-field field is.class is.owner))),
        (dressed-small (IsBelow n) world false object.0 field.owner object.1 typed.0.small, dressed-small (IsBelow n) world true new.0 field.kind new.1 typed.1.0.small),
      )

  pub field-done : (field : FieldRef) (is : IsField world context.members context.class false field) → is_whole world is.class ≡ true → (are : List Typed) (found : Plain) → field_effect world field are ≡ Some found → AreOperands context n scope are → Stands (field_written field) are found
  field-done field is class_whole [] found e typed = absurd (cc)
  field-done field is class_whole (object ∷ []) found e typed = absurd (cc)
  field-done field is class_whole (object ∷ new ∷ []) found e typed =
      let statement = SetField (dressed world false object.0 field.owner object.1) field.name (dressed world true new.0 field.kind new.1) in
      let m = made-if (fits_in world object.0 field.owner && fits_in world new.0 field.kind) (Some (statement, set_field)) found e in
      let parts = and_parts (fits_in world object.0 field.owner) (fits_in world new.0 field.kind) m.0 in
      let same : (statement, set_field) ≡ found = (let some = m.1 in cc) in
      subst (Stands (field_written field) (object ∷ new ∷ [])) same (field-stands field is class_whole object new typed parts.0 parts.1)
  field-done field is class_whole (object ∷ new ∷ third ∷ rest) found e typed = absurd (cc)

  -- ---- `putstatic`

  static-stands : (field : FieldRef) (is : IsField world context.members context.class true field) → is_whole world is.class ≡ true → (new : Typed) → AreOperands context n scope (new ∷ []) → fits_in world new.0 field.kind ≡ true
      → Stands (static_written field) (new ∷ []) (SetStatic is.class field.name (dressed world true new.0 field.kind new.1), set_static)
  static-stands field is class_whole new typed fit =
      let meant = static-meant world context.headers runs.wide context.members runs.paired context.class runs.whole field is class_whole in (
        effect-by context scope world may bound (new ∷ []) (field.kind ∷ []) (goes-where world new.0 field.kind fit, tt) (static_written field) (SetStatic is.class field.name (dressed world true new.0 field.kind new.1))
            (λ all state. nothing-again context scope (static_written field all) (static-nothing context.headers field all) state)
            (λ state ops.
            static-written-built world context scope bound Elsewhere is.class field.name field.kind is.known new.1 new.0 state meant is.type typed.0.typed ops.0
            (on-weaker (λ kept behind. IsOperand context.headers new.0 field.kind kept × Unit {0}) (λ kept behind. IsOperand context.headers new.0 field.kind kept) (value context scope new.1 state) ops.1 (λ kept behind so. so.0))
            ∙ ap (λ one. bind (raw.operands context scope (AndExp new.1 NoExps) state) (λ all after. bind (outside context.headers (static_written one all) after) (λ dropped. Is Normal))) (sym (same-field field is.class is.owner))),
        dressed-small (IsBelow n) world true new.0 field.kind new.1 typed.0.small,
      )

  pub static-done : (field : FieldRef) (is : IsField world context.members context.class true field) → is_whole world is.class ≡ true → (are : List Typed) (found : Plain) → static_effect world field are ≡ Some found → AreOperands context n scope are → Stands (static_written field) are found
  static-done field is class_whole [] found e typed = absurd (cc)
  static-done field is class_whole (new ∷ []) found e typed =
      let value = dressed world true new.0 field.kind new.1 in
      let m = made-if (fits_in world new.0 field.kind) (and_then (class_of field.owner) (λ class. Some (SetStatic class field.name value, set_static))) found e in
      let b = both-are (class_of field.owner) (λ class. Some (SetStatic class field.name value, set_static)) found m.1 in
      let same : (SetStatic b.one field.name value, set_static) ≡ found = (let some = b.then_is in cc) in
      let class_is : is.class ≡ b.one = (let some : Some is.class ≡ Some b.one = sym (ap class_of is.owner) ∙ b.is in cc) in
      subst (Stands (static_written field) (new ∷ [])) same (subst (λ class. Stands (static_written field) (new ∷ []) (SetStatic class field.name value, set_static)) class_is (static-stands field is class_whole new typed m.0))
  static-done field is class_whole (new ∷ second ∷ rest) found e typed = absurd (cc)

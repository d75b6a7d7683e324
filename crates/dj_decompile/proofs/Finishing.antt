-- What is found on the way.
use Rattle.std.proofs.Common.{◌≡◌, ℕ, List, [], ◌∷◌, Option, Some, None, sym, ap, inl, inr, ◌∙◌}
use Rattle.std.specs.Option.{option_map}
use Rattle.dj_names.specs.Types.{JType, parameters_of}
use Rattle.dj_syntax.specs.Trees as trees
use Rattle.dj_syntax.specs.Trees.{Stms, view_stms}
use Rattle.dj_syntax.specs.declared.statement.Stm.{Stm}
use Rattle.dj_syntax.specs.declared.unit.Body.{Body}
use Rattle.dj_world.specs.Worlds.{WorldOf}
use Rattle.dj_static.specs.declared.classes.Classes.{Classes}
use Rattle.dj_places.specs.Constants.{Surroundings}
use Rattle.dj_places.specs.Surroundings.{surroundings_of}
use Rattle.dj_code.specs.MethodCode.{Typed}
use Rattle.dj_vars.specs.Naming.{Vars, AreVars}
use Rattle.dj_rebuilding.specs.Pending.{and_then}
use Rattle.dj_declaring.specs.declared.entry.Entry.{Entry}
use Rattle.dj_declaring.specs.Declaring.{declared_body}
use Rattle.dj_numbered.specs.Numbering.{numbered}
use Rattle.dj_one_block.specs.OneBlock.{head_of, known_in, lone_tree}
use Rattle.dj_one_block_shown.specs.Shown.{printed_lone}
use Rattle.dj_method.specs.Parts.{entry_of}
use Rattle.dj_parameters.specs.Parameters.{printed_body, with_parameters}
use Rattle.dj_decompiled.specs.Decompiled.{lone_parts, IsCandidate, IsOneBlock, treeless, throws, unwritable, IsOpen}
use Rattle.dj_decompile.specs.Answers.{IsDone, IsFound, lone_body}

-- the body of a tree, made step by step
pub made_of : (known : Surroundings) (method head : trees.Body) (kinds given : List JType) (entry begun : Entry) (parameters : List JType) (tree changed : Stms) (declared made : trees.Body)
    → head ≡ method → given ≡ kinds → begun ≡ entry → parameters ≡ parameters_of method.descriptor
    → changed ≡ with_parameters parameters given begun tree → declared ≡ declared_body known head given begun 0 changed → made ≡ numbered declared → made ≡ printed_body known method kinds entry 0 tree
made_of known method head kinds given entry begun parameters tree changed declared made is_head is_kinds is_entry is_parameters is_changed is_declared is_made =
    is_made ∙ ap numbered (is_declared
    ∙ ap (λ (h : trees.Body). declared_body known h given begun 0 changed) is_head
    ∙ ap (λ (t : Stms). declared_body known method given begun 0 t) (is_changed ∙ ap (λ (p : List JType). with_parameters p given begun tree) is_parameters)
    ∙ ap (λ (k : List JType). declared_body known method k begun 0 (with_parameters (parameters_of method.descriptor) k begun tree)) is_kinds
    ∙ ap (λ (e : Entry). declared_body known method kinds e 0 (with_parameters (parameters_of method.descriptor) kinds e tree)) is_entry)

module _ (world : WorldOf) (typed : Typed) (candidate : IsCandidate world typed) (one : IsOneBlock typed) (vars : Vars) (are : AreVars typed (0 ∷ []) vars) where
  -- the classes, as the code sees them
  abbrev known : Surroundings
  known = known_in world.headers world.members typed.code

  abbrev body_of : Stms → trees.Body
  body_of tree = printed_body known (head_of typed.code) vars.kinds (entry_of (lone_parts typed vars)) 0 tree

  -- the tree, as it is found
  pub tree_as : (classes : Classes) (starts : List ℕ) (found : Option (List Stm)) → surroundings_of classes ≡ known → starts ≡ 0 ∷ [] → option_map view_stms found ≡ lone_tree (surroundings_of classes) (record { typed = typed; starts = starts; vars = vars })
      → lone_tree known (lone_parts typed vars) ≡ option_map view_stms found
  tree_as classes starts found is_known is_one is =
      sym (is
      ∙ ap (λ (s : Surroundings). lone_tree s (record { typed = typed; starts = starts; vars = vars })) is_known
      ∙ ap (λ (list : List ℕ). lone_tree known (record { typed = typed; starts = list; vars = vars })) is_one)

  -- where there is no tree there is no body
  pub no_tree : lone_tree known (lone_parts typed vars) ≡ None → IsOpen world typed
  no_tree none = treeless vars are (ap (λ found. and_then found (λ tree. Some (body_of tree))) none)

  -- a tree's body is printed, or one of the two tests fails
  pub with_tree : (classes : Classes) (tree : Stms) (made : trees.Body) (found : Option Body) → surroundings_of classes ≡ known → lone_tree known (lone_parts typed vars) ≡ Some tree → made ≡ lone_body classes typed vars tree → IsDone world typed made found → IsFound world typed found
  with_tree classes tree made found is_known is made_is done = go found done
    where
      printed : printed_lone world.headers world.members (lone_parts typed vars) ≡ Some made
      printed = ap (λ found. and_then found (λ tree. Some (body_of tree))) is ∙ ap Some (sym (made_is ∙ ap (λ (s : Surroundings). printed_body s (head_of typed.code) vars.kinds (entry_of (lone_parts typed vars)) 0 tree) is_known))

      go : (found : Option Body) → IsDone world typed made found → IsFound world typed found
      go (Some body) done = record {
        candidate = candidate;
        one = one;
        vars = vars;
        are = are;
        made = made;
        printed = printed;
        thrown = done.thrown;
        is = done.is;
        writable = done.writable;
      }
      go None (inl fails) = throws vars made are printed fails
      go None (inr fails) = unwritable vars made are printed fails

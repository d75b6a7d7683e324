-- The body that is printed with the tree of a method's one block shows what the method's code shows, and is typed.
use Rattle.std.proofs.Common.{◌≡◌, ℕ, true, false, List, Option, Some, None, refl, sym, ◌∙◌, subst}
use Rattle.dj_names.specs.declared.header.Header.{Header}
use Rattle.dj_names.specs.declared.members.ClassMembers.{ClassMembers}
use Rattle.dj_names.specs.MethodNames.{is_constructor}
use Rattle.dj_syntax.specs.Trees.{Body, Stms}
use Rattle.dj_values.specs.Values.{Value, Answer, IsBelow}
use Rattle.dj_values.specs.Fits.{is_static}
use Rattle.dj_class.specs.Described.{MethodOf, ClassOf}
use Rattle.dj_code.specs.MethodCode.{Code}
use Rattle.dj_loaded.specs.Loaded.{MayRun}
use Rattle.dj_bytecode.specs.Machine.{bytecode_show}
use Rattle.dj_bytecode.specs.SameShows.{AreArgumentsOf, SameShows}
use Rattle.dj_meaning.specs.Meaning.{source_show}
use Rattle.dj_rebuilding.specs.Pending.{and_then}
use Rattle.dj_blocks_shown.specs.Leaving.{Parts}
use Rattle.dj_blocks_shown.specs.Composing.{IsBodyOfCode}
use Rattle.dj_declaring.specs.Bodies.{Writing}
use Rattle.dj_declaring.specs.Declaring.{IsReady}
use Rattle.dj_declaring.proofs.DeclaredBodies.{declare_shows}
use Rattle.dj_method.specs.Parts.{IsCut, IsDeclared, method_body, entry_of}
use Rattle.dj_method.specs.Shown.{IsOnlyTree}
use Rattle.dj_method.proofs.Ordering.{runs-in-order}
use Rattle.dj_method.proofs.Entering.{entry-given}
use Rattle.dj_method.proofs.Shown.{one_block_is_shown}
use Rattle.dj_parameters.specs.Parameters.{printed_body}
use Rattle.dj_parameters.proofs.Printed.{printed_is_typed, printed_shows}
use Rattle.dj_one_block.specs.OneBlock.{head_of, known_in}
use Rattle.dj_one_block_shown.specs.Shown.{IsKnown, IsShown}

module _ (world : List Header) (members : List ClassMembers) (parts : Parts) where
  abbrev code : Code
  code = parts.typed.code

  -- the body that is printed with a tree
  abbrev printed : Stms → Body
  printed tree = printed_body (known_in world members code) (head_of code) parts.vars.kinds (entry_of parts) 0 tree

  -- the tree may be declared
  abbrev IsReadyTree : Writing → Stms → Type 0
  IsReadyTree writing tree = IsReady world members writing (head_of code) parts.vars.kinds (entry_of parts) 0 tree

  of_code : IsBodyOfCode code (head_of code)
  of_code = record { class = refl; name = refl; flags = refl; descriptor = refl; thrown = refl }

  module _ (known : IsKnown world members) (writing : Writing) (class : ClassOf) (found : MethodOf) (cut : IsCut world class found parts)
      (constructs : is_constructor code.name ≡ true → is_static code.flags ≡ false) (tree : Stms) (ready : IsReadyTree writing tree) (only : IsOnlyTree world members (head_of code) parts tree) where
    declared : IsDeclared world members writing (head_of code) parts 0 tree
    declared = record { of_code = of_code; constructor = constructs; ready = ready; core = known.core; lawful = known.lawful }

    same-show : (headers : List Header) → MayRun world headers → (arguments : List Value) → AreArgumentsOf headers code arguments → (answers : List Answer) (turns : ℕ)
        → source_show headers members (method_body world members (head_of code) parts 0 tree) arguments answers turns ≡ source_show headers members (printed tree) arguments answers turns
    same-show headers may arguments fit answers turns =
        let order = runs-in-order world headers members writing (head_of code) code of_code known.core may ready.named known.lawful constructs arguments fit in
        let entered = entry-given parts cut.vars headers arguments fit in
        declare_shows world headers members writing (head_of code) parts.vars.kinds (entry_of parts) 0 tree arguments answers turns ready order entered
        ∙ sym (printed_shows world headers members writing (head_of code) parts.vars.kinds (entry_of parts) 0 tree arguments answers turns ready order entered)

    printed-same : SameShows world members code (printed tree)
    printed-same =
        let done = one_block_is_shown world members class found writing (head_of code) parts 0 tree cut only declared in
        record {
          forth = λ headers may arguments fit answers steps.
              let shows = done.same.forth headers may arguments fit answers steps in
              (shows.0, subst (λ show. IsBelow (bytecode_show headers code arguments answers steps) show) (same-show headers may arguments fit answers shows.0) shows.1);
          back = λ headers may arguments fit answers turns.
              let shows = done.same.back headers may arguments fit answers turns in
              (shows.0, subst (λ show. IsBelow show (bytecode_show headers code arguments answers shows.0)) (same-show headers may arguments fit answers turns) shows.1);
        }

    pub printed-shown : IsShown world members code (printed tree)
    printed-shown = record {
      of_code = record { class = refl; name = refl; flags = refl; descriptor = refl; thrown = refl };
      same = printed-same;
      typed = printed_is_typed world members writing (head_of code) parts.vars.kinds (entry_of parts) 0 tree ready;
    }

  -- so does each body that is printed with a tree, where that of each tree does
  pub any-shown : (tree : Option Stms) → ((one : Stms) → tree ≡ Some one → IsShown world members code (printed one)) → (body : Body) → and_then tree (λ one. Some (printed one)) ≡ Some body → IsShown world members code body
  any-shown None each body e = absurd (cc)
  any-shown (Some one) each body e = subst (IsShown world members code) (let same : printed one ≡ body = cc in same) (each one refl)

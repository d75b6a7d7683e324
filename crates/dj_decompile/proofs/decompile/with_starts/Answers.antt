use Rattle.std.proofs.Common.{Some, sym, subst, ap, ◌∙◌, ℕ, List, [], ◌∷◌}
use Rattle.std.specs.Option.{option_map}
use Rattle.dj_syntax.specs.Trees.{view_stms}
use Rattle.dj_syntax.specs.declared.statement.Stm.{Stm}
use Rattle.dj_world.specs.Worlds.{WorldOf}
use Rattle.dj_code.specs.MethodCode.{view_typed}
use Rattle.dj_vars.specs.Naming.{AreVars}
use Rattle.dj_code_variables.specs.Views.{view_vars}
use Rattle.dj_decompile.proofs.Finishing.{tree_as, no_tree}
use Rattle.dj_decompile.proofs.decompile.with_starts.Goals as goal

pub with_tree-requires-clause-tree : goal.with_tree-requires-clause-tree
with_tree-requires-clause-tree c =
    let world : WorldOf = record { headers = c.args.headers.now; members = c.args.members.now } in
    let typed = view_typed c.args.typed.now in
    let vars = view_vars c.in_ok-vars.vars in
    let are : AreVars typed (0 ∷ []) vars = subst (λ (list : List ℕ). AreVars typed list vars) c.requires.starts c.in_ok-vars.ensures.vars in
    tree_as world typed c.requires.candidate c.requires.one vars are c.classes_of-classes.result c.args.starts.now c.in_ok-tree.field-0 c.classes_of-classes.ensures.classes c.requires.starts c.in_ok-tree.ensures.tree
    ∙ ap (option_map view_stms) c.in-Some.is ∙ ap (λ (list : List Stm). Some (view_stms list)) (sym c.as_slice.ensures)

pub returns : goal.returns
returns c =
    let world : WorldOf = record { headers = c.args.headers.now; members = c.args.members.now } in
    let typed = view_typed c.args.typed.now in
    let vars = view_vars c.in_ok-vars.vars in
    let are : AreVars typed (0 ∷ []) vars = subst (λ (list : List ℕ). AreVars typed list vars) c.requires.starts c.in_ok-vars.ensures.vars in
    record {
      found = no_tree world typed c.requires.candidate c.requires.one vars are
          (tree_as world typed c.requires.candidate c.requires.one vars are c.classes_of-classes.result c.args.starts.now c.in_ok-tree.field-0 c.classes_of-classes.ensures.classes c.requires.starts c.in_ok-tree.ensures.tree ∙ ap (option_map view_stms) c.in-None.is);
    }

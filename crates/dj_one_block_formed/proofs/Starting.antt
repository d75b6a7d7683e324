-- As the tree of a method's one block begins, the slots are named by variables that keep the rules; and so are those that stores write.
use Rattle.std.proofs.Common.{arith, ℕ, suc, ◌==◌, ◌≡◌, Bool, true, false, not, List, [], ◌∷◌, length, Option, Some, None, Contains, refl, ap, ◌∙◌, subst}
use Rattle.std.specs.Prelude.{◌&&◌, nat_lt, if◌then◌else◌, slice_get}
use Rattle.std.proofs.lemmas.Bool.{and_parts}
use Rattle.std.proofs.lemmas.Option.{slice_get_within, slice_get_past}
use Rattle.dj_names.specs.Types.{JType, Class, Of}
use Rattle.dj_syntax.specs.declared.variable.Var.{Var}
use Rattle.dj_syntax.specs.Trees.{This}
use Rattle.dj_values.specs.Fits.{is_static}
use Rattle.dj_instructions.specs.Instructions.{Instruction, Instructions}
use Rattle.dj_meaning.specs.StaticTypes.{Scope}
use Rattle.dj_typing.specs.Sites.{Site, may_name, may_name_type}
use Rattle.dj_rebuilding.specs.Pending.{Atom, Own, Named, exp_of, and_then}
use Rattle.dj_rebuilt.specs.Rebuilding.{atom_type}
use Rattle.dj_blocks_formed.specs.Ruled.{IsRuled}
use Rattle.dj_blocks_formed.specs.Ways.{AreRuledNames, IsRuledAt, IsRuledTarget, AllStand}
use Rattle.dj_blocks_formed.proofs.Spilled.{named-whole, variable-ruled}
use Rattle.dj_vars.specs.Agreeing.{local_variable}
use Rattle.dj_blocks_shown.specs.Leaving.{Parts}
use Rattle.dj_edges.specs.Edges.{keeps_this, writes_slot}
use Rattle.dj_declaring.specs.Formed.{local_type}
use Rattle.dj_declaring.specs.Starting.{tree_scope}
use Rattle.dj_one_block.specs.OneBlock.{variable_of, first_name}

-- each instruction of code is one of it
pub all-stand : (code part : Instructions) → ((one : ℕ × Instruction) → Contains part one → Contains code one) → AllStand (λ pc instruction. Contains code (pc, instruction)) part
all-stand code [] within = tt
all-stand code (first ∷ rest) within = (within first (0, omega arith, refl), all-stand code rest (λ one h. within one (suc h.0, omega (arith, h.1), h.2)))

-- a class that is named has `this`
pub this-ruled : (site : Site) (n : ℕ) (scope : Scope) → site.has_this ≡ true → may_name site site.class ≡ true → IsRuled site n scope (Of (Class site.class)) This
this-ruled site n scope has named = record {
  entry = record { small = tt; typed = refl };
  keeps = λ place. (has, named-whole site (Class site.class) named);
  named = named;
}

-- the name that a variable is
abbrev named_by : Option (Var × JType) → Option (JType × Atom)
named_by found = and_then found (λ found. Some (found.1, Named found.0))

-- `this`, or another name
abbrev own_or : Parts → Bool → Option (JType × Atom) → Option (JType × Atom)
own_or parts test other = if test then Some (Class parts.typed.code.class, Own) else other

module _ (site : Site) (parameters kinds : List JType) (written : (number : ℕ) (type : JType) → slice_get kinds number ≡ Some type → may_name_type site type ≡ true) where
  abbrev scope : Scope
  scope = tree_scope parameters kinds

  -- fresh variables aren't in scope
  pub begins : IsRuledAt site (length kinds) scope (length kinds) scope []
  begins = record {
    low = omega arith;
    clear = λ k less. ap (λ (found : Option JType). local_type found false) (slice_get_past kinds k less);
    same = λ variable below. refl;
    entries = tt;
  }

  -- a variable that has a kind is one of its type
  pub target-ruled : (number : Option ℕ) (found : Var × JType) → variable_of kinds number ≡ Some found → IsRuledTarget site (length kinds) scope found.0 found.1
  target-ruled None found e = absurd (cc)
  target-ruled (Some number) found e = by (slice_get kinds number) refl e
    where
      by : (kind : Option JType) → slice_get kinds number ≡ kind → and_then kind (λ type. Some (local_variable number, type)) ≡ Some found → IsRuledTarget site (length kinds) scope found.0 found.1
      by None is e = absurd (cc)
      by (Some type) is e =
          let same : (local_variable number, type) ≡ found = cc in
          subst (λ (one : Var × JType). IsRuledTarget site (length kinds) scope one.0 one.1) same (record { old = slice_get_within kinds number type is; known = ap (λ (kind : Option JType). local_type kind false) is; named = written number type is })

  -- so is one that names a slot
  pub variable-named : (number : Option ℕ) (type : JType) (atom : Atom) → named_by (variable_of kinds number) ≡ Some (type, atom) → IsRuled site (length kinds) scope (atom_type type atom) (exp_of atom)
  variable-named number type atom e = by (variable_of kinds number) refl e
    where
      by : (found : Option (Var × JType)) → variable_of kinds number ≡ found → named_by found ≡ Some (type, atom) → IsRuled site (length kinds) scope (atom_type type atom) (exp_of atom)
      by None is e = absurd (cc)
      by (Some found) is e =
          let ruled = target-ruled number found is in
          let own : JType × Atom = (found.1, Named found.0) in
          let there : JType × Atom = (type, atom) in
          let same : own ≡ there = cc in
          subst (λ (one : JType × Atom). IsRuled site (length kinds) scope (atom_type one.0 one.1) (exp_of one.1)) same (variable-ruled site (length kinds) scope found.0 found.1 (omega (arith, ruled.old)) ruled.known ruled.named)

-- the names with which the code begins keep the rules
pub names-ruled : (site : Site) (parts : Parts) (parameters : List JType) → site.class ≡ parts.typed.code.class → site.has_this ≡ not (is_static parts.typed.code.flags) → may_name site parts.typed.code.class ≡ true
    → ((number : ℕ) (type : JType) → slice_get parts.vars.kinds number ≡ Some type → may_name_type site type ≡ true)
    → AreRuledNames site (length parts.vars.kinds) (tree_scope parameters parts.vars.kinds) (first_name parts)
names-ruled site parts parameters own has named written slot type atom e = outer (nat_lt slot parts.typed.code.max_locals) e
  where
    middle : (test : Bool) → (keeps_this parts.typed.code && slot == 0) ≡ test → own_or parts test (named_by (variable_of parts.vars.kinds (parts.vars.of 0 slot))) ≡ Some (type, atom)
        → IsRuled site (length parts.vars.kinds) (tree_scope parameters parts.vars.kinds) (atom_type type atom) (exp_of atom)
    middle true is e =
        let keeps = (and_parts (keeps_this parts.typed.code) (slot == 0) is).0 in
        let instance = (and_parts (not (is_static parts.typed.code.flags)) (not (writes_slot 0 parts.typed.code.instructions)) keeps).0 in
        let same : (Class parts.typed.code.class, Own) ≡ (type, atom) = cc in
        subst (λ (one : JType × Atom). IsRuled site (length parts.vars.kinds) (tree_scope parameters parts.vars.kinds) (atom_type one.0 one.1) (exp_of one.1)) same
        (subst (λ class. IsRuled site (length parts.vars.kinds) (tree_scope parameters parts.vars.kinds) (Of (Class class)) This) own
        (this-ruled site (length parts.vars.kinds) (tree_scope parameters parts.vars.kinds) (has ∙ instance) (ap (may_name site) own ∙ named)))
    middle false is e = variable-named site parameters parts.vars.kinds written (parts.vars.of 0 slot) type atom e

    outer : (test : Bool) → (if test then own_or parts (keeps_this parts.typed.code && slot == 0) (named_by (variable_of parts.vars.kinds (parts.vars.of 0 slot))) else None) ≡ Some (type, atom)
        → IsRuled site (length parts.vars.kinds) (tree_scope parameters parts.vars.kinds) (atom_type type atom) (exp_of atom)
    outer true e = middle (keeps_this parts.typed.code && slot == 0) refl e
    outer false e = absurd (cc)

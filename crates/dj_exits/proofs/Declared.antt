-- What statements declare, in wider bounds and one behind another.
use Rattle.std.proofs.Common.{ℕ}
use Rattle.dj_syntax.specs.Trees.{Exp, Stm, Block, Labelled, Declare, Set, SetField, SetStatic, SetElement, Run, If, While, Switch, Throw, Rethrow, Try, Synchronized, Construct, Do, For, Finally, Stms, Empty, And, Groups, NoGroups, AndGroup, Catches, NoCatches, AndCatch}
use Rattle.dj_syntax.specs.Trees as trees
use Rattle.dj_meaning.specs.Declarations.{joined}
use Rattle.dj_rebuilding.specs.Pending.{IsPlain, set_field, set_static, set_element, call, static_call, super_call, birth, throw, return_value, return_nothing, leave}
use Rattle.dj_exits.specs.Numbers.{EachDeclared, EachDeclaredIn, EachDeclaredAmong, EachDeclaredBy}

module _ {P Q : ℕ → Type 0} (has : (number : ℕ) → P number → Q number) where
  mutual
    pub wider : (statement : Stm) → EachDeclared P statement → EachDeclared Q statement
    wider (Block list) h = wider-in list h
    wider (Labelled label statement) h = wider statement h
    wider (Declare variable kind initial) h = has variable.number h
    wider (Set variable new) h = tt
    wider (SetField object name new) h = tt
    wider (SetStatic class name new) h = tt
    wider (SetElement array index new) h = tt
    wider (Run given) h = tt
    wider (If test first second) h = (wider-in first h.0, wider-in second h.1)
    wider (While test body) h = wider-in body h
    wider (Switch on cases) h = wider-among cases h
    wider (trees.Break label) h = tt
    wider (trees.Continue label) h = tt
    wider (trees.Return result) h = tt
    wider (Throw exception) h = tt
    wider (Rethrow variable) h = tt
    wider (Try body clauses) h = (wider-in body h.0, wider-by clauses h.1)
    wider (Synchronized monitor body) h = wider-in body h
    wider (Construct own arguments) h = tt
    wider (Do body test) h = wider-in body h
    wider (For test variable step body) h = wider-in body h
    wider (Finally body last) h = (wider-in body h.0, wider-in last h.1)

    pub wider-in : (list : Stms) → EachDeclaredIn P list → EachDeclaredIn Q list
    wider-in Empty h = tt
    wider-in (And first rest) h = (wider first h.0, wider-in rest h.1)

    pub wider-among : (groups : Groups) → EachDeclaredAmong P groups → EachDeclaredAmong Q groups
    wider-among NoGroups h = tt
    wider-among (AndGroup labels body rest) h = (wider-in body h.0, wider-among rest h.1)

    pub wider-by : (clauses : Catches) → EachDeclaredBy P clauses → EachDeclaredBy Q clauses
    wider-by NoCatches h = tt
    wider-by (AndCatch class variable body rest) h = (wider-in body h.0, wider-by rest h.1)

pub declared-joined : (P : ℕ → Type 0) (first second : Stms) → EachDeclaredIn P first → EachDeclaredIn P second → EachDeclaredIn P (joined first second)
declared-joined P Empty second h k = k
declared-joined P (And statement rest) second h k = (h.0, declared-joined P rest second h.1 k)

-- a plain statement declares nothing
pub plain-declares : (P : ℕ → Type 0) {statement : Stm} → IsPlain statement → EachDeclared P statement
plain-declares P set_field = tt
plain-declares P set_static = tt
plain-declares P set_element = tt
plain-declares P call = tt
plain-declares P static_call = tt
plain-declares P super_call = tt
plain-declares P birth = tt
plain-declares P throw = tt
plain-declares P return_value = tt
plain-declares P return_nothing = tt
plain-declares P leave = tt

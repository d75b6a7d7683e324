-- How control leaves a method that is one block: by a return or a throw; a jump has no answer.
use Rattle.std.proofs.Common.{◌≡◌, ℕ, zero, suc, rules, Bool, true, false, List, [], ◌∷◌, ◌++◌, Option, Some, None, refl, sym, ap, ◌∙◌}
use mathlib.Core.Path.{fun_ext}
use Rattle.std.specs.Prelude.{if◌then◌else◌}
use Rattle.std.proofs.lemmas.Option.{same_Some}
use Rattle.dj_names.specs.declared.header.Header.{Header}
use Rattle.dj_names.specs.Types.{JType}
use Rattle.dj_syntax.specs.declared.variable.Var.{Var}
use Rattle.dj_syntax.specs.Trees.{Exp, Stm, Stms, Switch, Return, Throw, Groups, view_exp, view_stm}
use Rattle.dj_syntax.specs.declared.expression.Exp.{Exp as code_exp}
use Rattle.dj_syntax.specs.declared.statement.Stm.{the_lemmas as stm_lemmas}
use Rattle.dj_syntax.specs.declared.statement.Stm.TheVariants as stm
use Rattle.dj_instructions.specs.Instructions.{Instruction, Instructions}
use Rattle.dj_instructions.specs.Instructions as op
use Rattle.dj_bytecode.specs.Machine.{pc_of}
use Rattle.dj_members_shown.specs.Casts.{dressed}
use Rattle.dj_member_nodes.specs.Going.{fits_in}
use Rattle.dj_rebuilding.specs.Pending.{Pending, Kept, Whole, Born, Again, Built, Typed, exp_of, assigns, and_then, spill, emit, with_operands}
use Rattle.dj_rebuilt.specs.Rebuilding.{Names}
use Rattle.dj_exits.specs.Exits.{emitted_by, on_one, on_two, returned, returned_as, throwable, thrown, goes_to, branches, branches_by, puts_any, Case, groups_of, switches, table_cases, listed_cases, left_by, leave, fall, targets_in}
use Rattle.dj_exits.specs.Exits as exits
use Rattle.dj_rebuilt.specs.Nodes.{is_whole, as_int}
use Rattle.dj_lone_exits.specs.Lone.{lone_edges}
use Rattle.dj_pending.specs.Heights.{is_quiet}
use Rattle.dj_pending.specs.Assigned.{is_among}
use Rattle.dj_pending.specs.Building.{as_built}
use Rattle.dj_pending.specs.Spilling.{behind}
use Rattle.dj_member_trees.specs.Fitting.{above}
use Rattle.dj_pending.proofs.Quiet.{quiet}
use Rattle.dj_rebuild.specs.Walking.{behind_stms, first_of}
use Rattle.dj_rebuild.specs.Leaving.{returned_built, thrown_built, left_built}

-- ---- nothing is built

nothing-built : (found : Option Built) → and_then found (λ (so_far : Built). emitted_by None) ≡ None
nothing-built None = refl
nothing-built (Some built) = refl

nothing-closed : (found : Option Built) → and_then found (λ (so_far : Built). as_built false so_far) ≡ None
nothing-closed None = refl
nothing-closed (Some built) = refl

operands-none : (count : ℕ) (taken : List Typed) (stack : List Pending) (next : List Typed → List Pending → Option Built) → ((are : List Typed) (below : List Pending) → next are below ≡ None) → with_operands count taken stack next ≡ None
operands-none zero taken stack next none_next = none_next taken stack
operands-none (suc count) taken [] next none_next = refl
operands-none (suc count) taken (Kept type atom ∷ below) next none_next = operands-none count _ below next none_next
operands-none (suc count) taken (Whole type exp ∷ below) next none_next = operands-none count _ below next none_next
operands-none (suc count) taken (Born class ∷ below) next none_next = refl
operands-none (suc count) taken (Again ∷ below) next none_next = refl

one-none : (next : Typed → List Pending → Option Built) → ((first : Typed) (below : List Pending) → next first below ≡ None) → (are : List Typed) (below : List Pending) → on_one next are below ≡ None
one-none next none_next [] below = refl
one-none next none_next (first ∷ []) below = none_next first below
one-none next none_next (first ∷ second ∷ rest) below = refl

two-none : (next : Typed → Typed → List Pending → Option Built) → ((first second : Typed) (below : List Pending) → next first second below ≡ None) → (are : List Typed) (below : List Pending) → on_two next are below ≡ None
two-none next none_next [] below = refl
two-none next none_next (first ∷ []) below = refl
two-none next none_next (first ∷ second ∷ []) below = none_next first second below
two-none next none_next (first ∷ second ∷ third ∷ rest) below = refl

module _ (world : List Header) where
  branch-none : (names : Names) (n : ℕ) (below : List Pending) (target other : ℕ) (test : Option Exp) → branches_by (lone_edges world) names n below target other test ≡ None
  branch-none names n below target other None = refl
  branch-none names n below target other (Some test) = nothing-closed (spill (puts_any (lone_edges world) names below (target ∷ other ∷ []) test) n below)

  groups-none : (names : Names) (stack : List Pending) (list : List Case) (last : Case) → groups_of (lone_edges world) names stack (list ++ last ∷ []) ≡ None
  groups-none names stack [] last = refl
  groups-none names stack (first ∷ rest) last = refl

  switch-none : (names : Names) (n : ℕ) (list : List Case) (last : Case) (one : Typed) (below : List Pending) → switches (lone_edges world) names n (list ++ last ∷ []) one below ≡ None
  switch-none names n list last one below = by-test (is_whole one.0)
    where
      by-test : (test : Bool) → (if test then
          and_then (spill (puts_any (lone_edges world) names below (targets_in (list ++ last ∷ [])) (as_int one.0 one.1)) n below) (λ so_far.
          and_then (groups_of (lone_edges world) names so_far.stack (list ++ last ∷ [])) (λ groups. Some (exits.closing so_far (Switch (as_int one.0 one.1) groups))))
          else None) ≡ None
      by-test true =
          ap (and_then (spill (puts_any (lone_edges world) names below (targets_in (list ++ last ∷ [])) (as_int one.0 one.1)) n below))
          (fun_ext (λ so_far. ap (λ (found : Option Groups). and_then found (λ groups. Some (exits.closing so_far (Switch (as_int one.0 one.1) groups)))) (groups-none names so_far.stack list last)))
          ∙ nothing-closed (spill (puts_any (lone_edges world) names below (targets_in (list ++ last ∷ [])) (as_int one.0 one.1)) n below)
      by-test false = refl

  pub jump-none : (names : Names) (n : ℕ) (stack : List Pending) (target : ℕ) → goes_to (lone_edges world) names n stack target ≡ None
  jump-none names n stack target = nothing-built (spill (λ variable. false) n stack)

  -- ---- returns and throws

  returned-is : (type : JType) (n : ℕ) (one : Typed) (below : List Pending) (fits : Bool)
      → (if fits then emit (assigns (dressed world true one.0 type one.1)) n below (Return (Some (dressed world true one.0 type one.1))) else None)
      ≡ and_then (above below (if fits then Some (dressed world true one.0 type one.1) else None)) (λ found. emit (assigns found.0) n found.1 (Return (Some found.0)))
  returned-is type n one below true = refl
  returned-is type n one below false = refl

  returns-is : (result : Option JType) (n : ℕ) (stack : List Pending) → returned_as world (lone_edges world) result n stack ≡ returned_built world n stack result
  returns-is None n stack = refl
  returns-is (Some type) n [] = refl
  returns-is (Some type) n (Kept static atom ∷ below) = returned-is type n (static, exp_of atom) below (fits_in world static type)
  returns-is (Some type) n (Whole static exp ∷ below) = returned-is type n (static, exp) below (fits_in world static type)
  returns-is (Some type) n (Born class ∷ below) = refl
  returns-is (Some type) n (Again ∷ below) = refl

  thrown-is : (n : ℕ) (one : Typed) (below : List Pending) (fits : Bool)
      → (if fits then emit (assigns (dressed world true one.0 throwable one.1)) n below (Throw (dressed world true one.0 throwable one.1)) else None)
      ≡ and_then (above below (if fits then Some (dressed world true one.0 throwable one.1) else None)) (λ found. emit (assigns found.0) n found.1 (Throw found.0))
  thrown-is n one below true = refl
  thrown-is n one below false = refl

  throws-is : (n : ℕ) (stack : List Pending) → with_operands 1 [] stack (on_one (thrown world (lone_edges world) n)) ≡ thrown_built world n stack
  throws-is n [] = refl
  throws-is n (Kept static atom ∷ below) = thrown-is n (static, exp_of atom) below (fits_in world static throwable)
  throws-is n (Whole static exp ∷ below) = thrown-is n (static, exp) below (fits_in world static throwable)
  throws-is n (Born class ∷ below) = refl
  throws-is n (Again ∷ below) = refl

  -- ---- by instructions

  pub left-is : (result : Option JType) (names : Names) (n : ℕ) (stack : List Pending) (behind : ℕ) (instruction : Instruction)
      → left_by world result (lone_edges world) names n stack behind instruction ≡ emitted_by (left_built world result n stack instruction)
  left-is result names n stack behind op.Nop = refl
  left-is result names n stack behind op.PushNull = refl
  left-is result names n stack behind (op.Push constant) = refl
  left-is result names n stack behind (op.PushClass type) = refl
  left-is result names n stack behind (op.PushHandle kind interface owner name descriptor) = refl
  left-is result names n stack behind (op.PushMethodType descriptor) = refl
  left-is result names n stack behind (op.Load kind slot) = refl
  left-is result names n stack behind (op.Store kind slot) = refl
  left-is result names n stack behind (op.ArrayLoad element) = refl
  left-is result names n stack behind (op.ArrayStore element) = refl
  left-is result names n stack behind op.Pop = refl
  left-is result names n stack behind op.Pop2 = refl
  left-is result names n stack behind op.Dup = refl
  left-is result names n stack behind op.DupX1 = refl
  left-is result names n stack behind op.DupX2 = refl
  left-is result names n stack behind op.Dup2 = refl
  left-is result names n stack behind op.Dup2X1 = refl
  left-is result names n stack behind op.Dup2X2 = refl
  left-is result names n stack behind op.Swap = refl
  left-is result names n stack behind (op.Calc operation kind) = refl
  left-is result names n stack behind (op.Iinc slot by) = refl
  left-is result names n stack behind (op.Convert from to) = refl
  left-is result names n stack behind (op.Compare kind greater) = refl
  left-is result names n stack behind (op.IfZero test target) =
      ap emitted_by (operands-none 1 [] stack _ (one-none _ (λ one below. branch-none names n below target behind (exits.zero_test test one))))
  left-is result names n stack behind (op.IfInts test target) =
      ap emitted_by (operands-none 2 [] stack _ (two-none _ (λ first second below. branch-none names n below target behind (exits.ints_test test first second))))
  left-is result names n stack behind (op.IfRefs equal target) =
      ap emitted_by (operands-none 2 [] stack _ (two-none _ (λ first second below. branch-none names n below target behind (exits.refs_test (lone_edges world) equal first second))))
  left-is result names n stack behind (op.IfNull null target) =
      ap emitted_by (operands-none 1 [] stack _ (one-none _ (λ one below. branch-none names n below target behind (exits.null_test null one))))
  left-is result names n stack behind (op.Goto target) = jump-none names n stack target
  left-is result names n stack behind (op.TableSwitch low targets other) =
      ap emitted_by (operands-none 1 [] stack _ (one-none _ (switch-none names n (table_cases low targets) (None, other))))
  left-is result names n stack behind (op.LookupSwitch cases other) =
      ap emitted_by (operands-none 1 [] stack _ (one-none _ (switch-none names n (listed_cases cases) (None, other))))
  left-is result names n stack behind (op.Return None) = refl
  left-is result names n stack behind (op.Return (Some kind)) = ap emitted_by (returns-is result n stack)
  left-is result names n stack behind (op.GetStatic field) = refl
  left-is result names n stack behind (op.PutStatic field) = refl
  left-is result names n stack behind (op.GetField field) = refl
  left-is result names n stack behind (op.PutField field) = refl
  left-is result names n stack behind (op.InvokeVirtual method) = refl
  left-is result names n stack behind (op.InvokeSpecial method) = refl
  left-is result names n stack behind (op.InvokeStatic method) = refl
  left-is result names n stack behind (op.InvokeInterface method) = refl
  left-is result names n stack behind (op.InvokeDynamic bootstrap name descriptor) = refl
  left-is result names n stack behind (op.New name) = refl
  left-is result names n stack behind (op.NewArray element) = refl
  left-is result names n stack behind (op.MultiNewArray type sizes) = refl
  left-is result names n stack behind op.ArrayLength = refl
  left-is result names n stack behind op.Throw = ap emitted_by (throws-is n stack)
  left-is result names n stack behind (op.CheckCast type) = refl
  left-is result names n stack behind (op.InstanceOf type) = refl
  left-is result names n stack behind op.MonitorEnter = refl
  left-is result names n stack behind op.MonitorExit = refl

  -- ---- by the first of some instructions

  emitted-behind : (first : Stms) (found : Option Built) → emitted_by (behind first found) ≡ behind_stms first (emitted_by found)
  emitted-behind first None = refl
  emitted-behind first (Some built) = refl

  pub left-at : (result : Option JType) (names : Names) (n : ℕ) (stack : List Pending) (list : Instructions) (instruction : Instruction) (first : Stms) (done : Bool) (built : Built)
      → Some instruction ≡ first_of list → as_built done built ≡ behind first (left_built world result n stack instruction)
      → emitted_by (as_built done built) ≡ behind_stms first (leave world result (lone_edges world) names n stack list)
  left-at result names n stack [] instruction first done built is e = absurd (cc)
  left-at result names n stack (own ∷ rest) instruction first done built is e =
      ap emitted_by e ∙ emitted-behind first (left_built world result n stack instruction)
      ∙ ap (behind_stms first) (sym (left-is result names n stack (pc_of rest) instruction))
      ∙ ap (λ (one : Instruction). behind_stms first (left_by world result (lone_edges world) names n stack (pc_of rest) one)) (same_Some instruction own.1 is)

  pub left-nowhere : (result : Option JType) (names : Names) (n : ℕ) (stack : List Pending) (list : Instructions) (first : Stms) → None ≡ first_of list
      → None ≡ behind_stms first (leave world result (lone_edges world) names n stack list)
  left-nowhere result names n stack [] first e = refl
  left-nowhere result names n stack (own ∷ rest) first e = absurd (cc)

-- ---- statements that assign nothing

-- an expression assigns nothing
assigns-none : (exp : Exp) → is_quiet exp ≡ true → is_among [] ≡ assigns exp
assigns-none exp h = fun_ext (λ variable. sym (quiet variable exp h))

-- what was taken is in a statement
pub given-behind : (first : Stms) (n : ℕ) (stack below : List Pending) (taken : Option (Exp × List Pending)) (exp : Exp) (statement : Exp → Stm) (seen : Stm) → seen ≡ statement exp → is_quiet exp ≡ true → Some (exp, below) ≡ taken
    → behind first (emit (is_among []) n below seen) ≡ behind first (and_then taken (λ found. emit (assigns found.0) n found.1 (statement found.0)))
given-behind first n stack below taken exp statement seen is h e =
    ap (λ (one : Stm). behind first (emit (is_among []) n below one)) is ∙ ap (λ (assigned : Var → Bool). behind first (emit assigned n below (statement exp))) (assigns-none exp h)
    ∙ ap (λ (found : Option (Exp × List Pending)). behind first (and_then found (λ found. emit (assigns found.0) n found.1 (statement found.0)))) e

pub not-given : (first : Stms) (n : ℕ) (below : List Pending) (taken : Option (Exp × List Pending)) (statement : Exp → Stm) → None ≡ taken
    → None ≡ behind first (and_then taken (λ found. emit (assigns found.0) n found.1 (statement found.0)))
not-given first n below taken statement e = ap (λ (found : Option (Exp × List Pending)). behind first (and_then found (λ found. emit (assigns found.0) n found.1 (statement found.0)))) e

-- returns and throws of the program
pub view_return : (exp : code_exp) → view_stm (stm.Return (Some exp)) ≡ Return (Some (view_exp exp))
view_return exp = search (rules, stm_lemmas)

pub view_throw : (exp : code_exp) → view_stm (stm.Throw exp) ≡ Throw (view_exp exp)
view_throw exp = search (rules, stm_lemmas)

-- How the program's families are those of the definition.
use Rattle.std.specs.Prelude.{◌≡◌, ◌+◌, List, []}
use Rattle.dj_bytecode.specs.Operands.{of_kind}
use Rattle.dj_bytecode.specs.Shuffles.{Form}
use Rattle.dj_bytecode.specs.Meanings.{Family, Strict, Moves, Loads, Stores, Counts, Leads, Returns, NotRun, return_of}
use Rattle.dj_operands.specs.Replies.{operation_of, choice_of}
use Rattle.dj_operands.specs.declared.family.Family as code_family
use Rattle.dj_operands.specs.declared.family.Family.TheVariants as families

-- the forms of a shuffle; another instruction has none
abbrev pub forms_of : Family → List Form
forms_of (Strict count operation) = []
forms_of (Moves forms) = forms
forms_of (Loads of_kind slot) = []
forms_of (Stores of_kind slot) = []
forms_of (Counts slot by) = []
forms_of (Leads count choice) = []
forms_of (Returns gives) = []
forms_of NotRun = []

-- the family of the program says what that of the definition is, but for its operation, choice or forms
abbrev pub IsFamily : code_family.Family → Family → Type 0
IsFamily (families.Strict count) meaning = meaning ≡ Strict count (operation_of meaning)
IsFamily (families.Calls count) meaning = meaning ≡ Strict (count + 1) (operation_of meaning)
IsFamily families.Moves meaning = meaning ≡ Moves (forms_of meaning)
IsFamily (families.Loads kind slot) meaning = meaning ≡ Loads (of_kind kind) slot
IsFamily (families.Stores kind slot) meaning = meaning ≡ Stores (of_kind kind) slot
IsFamily (families.Counts slot by) meaning = meaning ≡ Counts slot by
IsFamily (families.Leads count) meaning = meaning ≡ Leads count (choice_of meaning)
IsFamily (families.Returns kind) meaning = meaning ≡ return_of kind
IsFamily families.NotRun meaning = meaning ≡ NotRun

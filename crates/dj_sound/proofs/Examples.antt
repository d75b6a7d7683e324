-- Worked runs of untyped code: that they are stuck is what the law rules out (JVMS 4.10.1.6, 6.5).
use Rattle.std.proofs.Common.{◌≡◌, ℕ, false, List, [], ◌∷◌, Option, Some, None, codes, refl}
use Rattle.std.specs.Prelude.{pos}
use Rattle.dj_names.specs.declared.header.Header.{Header}
use Rattle.dj_names.specs.Types as types
use Rattle.dj_names.specs.Types.{JType, Method}
use Rattle.dj_names.specs.declared.members.Constant.TheVariants as constant
use Rattle.dj_values.specs.Values.{Value, Answer, Long}
use Rattle.dj_values.specs.Outcomes.{shown}
use Rattle.dj_instructions.specs.declared.kinds.Kind.TheVariants.{Int as AnInt}
use Rattle.dj_instructions.specs.Instructions.{Instructions, Push, Load, Pop, Goto, Return}
use Rattle.dj_code.specs.MethodCode.{Code}
use Rattle.dj_bytecode.specs.Machine.{bytecode_show}
use Rattle.dj_sound.specs.Runs.{run, IsStuck}

-- what a run comes to is what the machine shows
the_run_is_shown : (headers : List Header) (code : Code) (arguments : List Value) (answers : List Answer) (bound : ℕ) → shown (run headers code arguments answers bound) ≡ bytecode_show headers code arguments answers bound
the_run_is_shown headers code arguments answers bound = refl

-- code of a static method of class C, with these parameters and this result, two locals and a stack of two words
abbrev code : List JType → Option JType → Instructions → Code
code parameters result instructions = record { class = codes "C"; name = codes "f"; flags = 8; interface = false; descriptor = Method parameters result; thrown = []; max_stack = 2; max_locals = 2; instructions = instructions; handlers = []; frames = [] }

-- `pop` of an empty stack: rule Operands
an_empty_stack : IsStuck (run [] (code [] None ((0, Pop) ∷ (1, Return None) ∷ [])) [] [] 1)
an_empty_stack = tt

-- `iload` of a long: rule Operands
a_long_for_an_int : IsStuck (run [] (code (types.Long ∷ []) None ((0, Load AnInt 0) ∷ (1, Return None) ∷ [])) (Long (pos 7) ∷ []) [] 1)
a_long_for_an_int = tt

-- a result where the method has none: rule Operands
a_result_too_many : IsStuck (run [] (code [] None ((0, Push (constant.Int (pos 1))) ∷ (1, Return (Some AnInt)) ∷ [])) [] [] 2)
a_result_too_many = tt

-- a step past the last instruction: rule Past
nothing_behind : IsStuck (run [] (code [] None ((0, Push (constant.Int (pos 1))) ∷ [])) [] [] 2)
nothing_behind = tt

-- a jump to where no instruction begins: rule Target
nowhere : IsStuck (run [] (code [] None ((0, Goto 2) ∷ (3, Return None) ∷ [])) [] [] 2)
nowhere = tt

-- A body shows what its method's code shows: trace equivalence, in both directions, at every bound.
use Rattle.std.specs.Prelude.{ℕ, List}
use Rattle.dj_names.specs.declared.header.Header.{Header}
use Rattle.dj_names.specs.declared.members.ClassMembers.{ClassMembers}
use Rattle.dj_names.specs.Types.{parameters_of}
use Rattle.dj_syntax.specs.Trees.{Body}
use Rattle.dj_values.specs.Values.{Value, Answer, IsBelow}
use Rattle.dj_values.specs.Fits.{AreArguments, is_static}
pub use Rattle.dj_loaded.specs.Loaded.{MayRun}
use Rattle.dj_meaning.specs.Meaning.{source_show}
use Rattle.dj_code.specs.MethodCode.{Code}
use Rattle.dj_bytecode.specs.Machine.{bytecode_show}

-- arguments that fit a method: `this` first where it isn't static
abbrev pub AreArgumentsOf : List Header → Code → List Value → Type 0
AreArgumentsOf headers code = AreArguments headers code.class (is_static code.flags) (parameters_of code.descriptor)

-- on each machine whose classes begin with those of the world, as it has them, whatever others it loads beside them, and whatever the arguments that fit and the answers: each bounded run of one side is below one of the other
pub record SameShows (world : List Header) (members : List ClassMembers) (code : Code) (body : Body) : Type 0 where
  pub forth : (headers : List Header) → MayRun world headers → (arguments : List Value) → AreArgumentsOf headers code arguments → (answers : List Answer) (steps : ℕ)
      → (turns : ℕ) × IsBelow (bytecode_show headers code arguments answers steps) (source_show headers members body arguments answers turns)
  pub back : (headers : List Header) → MayRun world headers → (arguments : List Value) → AreArgumentsOf headers code arguments → (answers : List Answer) (turns : ℕ)
      → (steps : ℕ) × IsBelow (source_show headers members body arguments answers turns) (bytecode_show headers code arguments answers steps)

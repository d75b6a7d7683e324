-- What instructions on elements of arrays build, step by step.
use Rattle.std.proofs.Common.{◌≡◌, ℕ, true, false, List, ◌∷◌, Option, Some, None, refl, ap, ◌∙◌}
use Rattle.std.specs.Prelude.{codes}
use Rattle.dj_names.specs.declared.header.Header.{Header}
use Rattle.dj_names.specs.Types as types
use Rattle.dj_names.specs.Types.{JType, Array, Of}
use Rattle.dj_instructions.specs.declared.kinds.Element as elements
use Rattle.dj_instructions.specs.declared.kinds.Element.TheVariants as element
use Rattle.dj_syntax.specs.Trees.{Exp, Element, Field, Stms}
use Rattle.dj_rebuilding.specs.Pending.{Pending, Whole, Built, Typed, and_then, grown}
use Rattle.dj_members_shown.specs.Casts.{dressed}
use Rattle.dj_member_nodes.specs.Nodes.{element_in}
use Rattle.dj_pending.specs.Spilling.{behind}
use Rattle.dj_pending.proofs.NumberLemmas.{goes-on, stops, pushed-as}
use Rattle.dj_member_trees.specs.Fitting.{taken_by, itself, whole, fitted, array_for, written_as}
use Rattle.dj_member_trees.specs.Writing.{Written, Put, written_taken, put_as, put_for}
use Rattle.dj_member_trees.specs.Stepping.{element_read, length_built, element_put, element_into, element_as, element_given, element_at, element_of, element_written}

-- a step that is taken in two
in-steps : {A B : Type 0} (found : Option A) (first : A → Option B) (second : B → Option Built) (both : A → Option Built) → ((one : A) → and_then (first one) second ≡ both one) → and_then (and_then found first) second ≡ and_then found both
in-steps None first second both is = refl
in-steps (Some one) first second both is = is one

module _ (world : List Header) (kind : elements.Element) (emitted : Stms) (n : ℕ) (stack : List Pending) where
  -- ---- reads

  abbrev read_of : Exp × List Pending → (Typed × List Pending) → Option Built
  read_of index array = grown n (Whole array.0.0 (Element array.0.1 index.0) ∷ array.1)

  abbrev read_with : Exp × List Pending → Option Built
  read_with index = and_then (taken_by (array_for world kind) index.1) (read_of index)

  pub read-pushed : (index : Exp) (middle : List Pending) (array : Typed) (below : List Pending) (exp : Exp) (built : Built) → Some (index, middle) ≡ taken_by whole stack → Some (array, below) ≡ taken_by (array_for world kind) middle
      → exp ≡ Element array.1 index → built ≡ record { emitted = emitted; stack = Whole array.0 exp ∷ below; next = n } → Some built ≡ behind emitted (element_read world kind n stack)
  read-pushed index middle array below exp built first second same is =
      goes-on emitted (taken_by whole stack) read_with (index, middle) (Some built) first
      (goes-on emitted (taken_by (array_for world kind) middle) (read_of (index, middle)) (array, below) (Some built) second
      (pushed-as emitted n below array.0 array.0 exp (Element array.1 index) built refl same is))

  -- ---- lengths

  abbrev length_as : Typed × List Pending → JType → Option Built
  length_as array type = grown n (Whole (Of types.Int) (Field (dressed world false array.0.0 (Array type) array.0.1) (codes "length")) ∷ array.1)

  abbrev length_of : Typed × List Pending → Option Built
  length_of array = and_then (element_in element.Int array.0.0) (length_as array)

  abbrev measured_as : Typed → JType → Option Exp
  measured_as array type = Some (dressed world false array.0 (Array type) array.1)

  abbrev measured : Typed → Option Exp
  measured array = and_then (element_in element.Int array.0) (measured_as array)

  abbrev length_with : List Pending → Exp → Option Built
  length_with below object = grown n (Whole (Of types.Int) (Field object (codes "length")) ∷ below)

  -- the length of what is written for the array
  length-is : (array : Typed) (below : List Pending) → and_then (measured array) (length_with below) ≡ length_of (array, below)
  length-is array below = in-steps (element_in element.Int array.0) (measured_as array) (length_with below) (length_as (array, below)) (λ type. refl)

  pub length-pushed : (array : Typed) (below : List Pending) (object exp : Exp) (int : JType) (built : Built) → Some (array, below) ≡ taken_by itself stack → Some object ≡ measured array
      → exp ≡ Field object (codes "length") → int ≡ types.Int → built ≡ record { emitted = emitted; stack = Whole (Of int) exp ∷ below; next = n } → Some built ≡ behind emitted (length_built world n stack)
  length-pushed array below object exp int built first second same of is =
      goes-on emitted (taken_by itself stack) length_of (array, below) (Some built) first
      (goes-on emitted (measured array) (length_with below) object (Some built) second
      (pushed-as emitted n below (Of int) (Of types.Int) exp (Field object (codes "length")) built (ap (λ (one : JType). Of one) of) same is)
      ∙ ap (behind emitted) (length-is array below))

  -- ---- writes

  abbrev put_of : List Pending → Put → Option Built
  put_of below put = element_put n below put.0 put.1.0 put.1.1

  abbrev put_with : Written × List Pending → Option Built
  put_with taken = and_then (put_for world kind taken.0) (put_of taken.1)

  -- operands that are tested together are those that are tested one by one
  put-is : (array : Typed) (index : Exp) (new : Typed) (below : List Pending) → put_with ((array, (index, new)), below) ≡ element_given world kind n below array index new
  put-is array index new below =
      in-steps (written_as world kind array.0 new.0) (λ stored. put_as world stored (array, (index, new))) (put_of below) (λ stored. element_as world stored n below array index new)
      (λ stored. in-steps (fitted world true stored new) (λ put. and_then (fitted world false (Array stored) array) (λ into. Some (into, (index, put)))) (put_of below) (λ put. element_into world stored n below array index put)
      (λ put. in-steps (fitted world false (Array stored) array) (λ into. Some (into, (index, put))) (put_of below) (λ into. element_put n below into index put) (λ into. refl)))

  written-is : and_then (written_taken stack) put_with ≡ element_written world kind n stack
  written-is =
      in-steps (taken_by itself stack) (λ new. and_then (taken_by whole new.1) (λ index. and_then (taken_by itself index.1) (λ array. Some ((array.0, (index.0, new.0)), array.1)))) put_with (λ new. element_of world kind n new.1 new.0)
      (λ new. in-steps (taken_by whole new.1) (λ index. and_then (taken_by itself index.1) (λ array. Some ((array.0, (index.0, new.0)), array.1))) put_with (λ index. element_at world kind n index.1 index.0 new.0)
      (λ index. in-steps (taken_by itself index.1) (λ array. Some ((array.0, (index.0, new.0)), array.1)) put_with (λ array. element_given world kind n array.1 array.0 index.0 new.0)
      (λ array. put-is array.0 index.0 new.0 array.1)))

  pub write-no-put : (written : Written) (below : List Pending) → Some (written, below) ≡ written_taken stack → None ≡ put_for world kind written → None ≡ behind emitted (element_written world kind n stack)
  write-no-put written below first none =
      goes-on emitted (written_taken stack) put_with (written, below) None first (stops emitted (put_for world kind written) (put_of below) none) ∙ ap (behind emitted) written-is

  pub write-put : (written : Written) (below : List Pending) (put : Put) (built : Option Built) → Some (written, below) ≡ written_taken stack → Some put ≡ put_for world kind written
      → built ≡ behind emitted (element_put n below put.0 put.1.0 put.1.1) → built ≡ behind emitted (element_written world kind n stack)
  write-put written below put built first second is =
      goes-on emitted (written_taken stack) put_with (written, below) built first (goes-on emitted (put_for world kind written) (put_of below) put built second is) ∙ ap (behind emitted) written-is

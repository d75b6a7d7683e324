-- What the words of expressions are, and what literals and variables they spell.
use Rattle.std.proofs.Common.{◌≡◌, ℕ, zero, suc, ◌+◌, ◌-◌, ◌*◌, ◌/◌, ◌%◌, ◌<◌, ◌≤◌, ◌^◌, Bool, true, false, List, [], ◌∷◌, ◌++◌, refl, sym, ap, ◌∙◌, arith, append_assoc, append-nil, eqb-true}
use Rattle.std.specs.Prelude.{codes, ℤ, pos, negsuc, Some, None, nat_eq, nat_le, nat_lt, if◌then◌else◌}
use Rattle.std.specs.List.{AllByRecursion}
use Rattle.std.specs.Fmt.{decimal}
use Rattle.std.proofs.Math.Nat.{mod-eq_of_lt}
use Rattle.std.proofs.lemmas.Bool.{false≢true}
use Rattle.std.proofs.lemmas.Bool.Decides.{nat_tests}
use Rattle.std.proofs.lemmas.Fmt.{decimal_by_steps}
use Rattle.dj_syntax.specs.declared.operator.Op.{Op}
use Rattle.dj_syntax.specs.declared.operator.Op.TheVariants as op
use Rattle.dj_syntax.specs.declared.variable.VarKind.{VarKind}
use Rattle.dj_syntax.specs.declared.variable.VarKind.TheVariants as kind
use Rattle.dj_syntax.specs.declared.variable.Var.{Var}
use Rattle.dj_syntax.specs.UnitText.{letter, variable_name, label_name, operator_text}
use Rattle.dj_syntax.specs.Trees.{Exp, Int, Long}
use Rattle.dj_tokens.specs.declared.tokens.Token.TheVariants as token
use Rattle.dj_tokens.specs.Words.{is_word, is_digit, is_letter, begins}
use Rattle.dj_tokens.specs.Tokens.{operator_of, token_of, statement_of, name_of}
use Rattle.dj_tokens.specs.Literals.{digit_more, number_behind, number_of, int_of, long_of, negated, is_long, literal_of, kind_of, number_behind_letter, variable_of, are_digits, is_variable_word}
use Rattle.dj_tokens.proofs.WordsLemmas.{IsRun, AllPassed}
use Rattle.dj_tokens.proofs.Runs.{decimal_digits}
use Rattle.dj_grammar.proofs.IdentifiersAreWords.{letter_is_name}

-- ---- numbers

number_push : (before : ℕ) (digits : List ℕ) (digit : ℕ) → number_behind before (digits ++ digit ∷ []) ≡ digit_more (number_behind before digits) digit
number_push before [] digit = refl
number_push before (first ∷ rest) digit = number_push (digit_more before first) rest digit

-- a digit more is added where the number has room for it
digit_more-is : (before digit : ℕ) → digit < 10 → before ≤ 922337203685477580 → digit_more before (48 + digit) ≡ before * 10 + digit
digit_more-is before digit small room =
    let is : is_digit (48 + digit) ≡ true = grind (arith, nat_tests) in
    let fits : nat_le before 922337203685477580 ≡ true = grind (arith, nat_tests) in
    let same : before * 10 + (48 + digit - 48) ≡ before * 10 + digit = omega arith in
    rw (is, fits) same

-- digits that spell this number, where it isn't larger than any literal
abbrev Spells : ℕ → List ℕ → Type 0
Spells n digits = n ≤ 9223372036854775808 → number_of digits ≡ n

one_digit : (n : ℕ) → n < 10 → Spells n ((48 + n) ∷ [])
one_digit n small fits = let same : 0 * 10 + n ≡ n = omega arith in digit_more-is 0 n small (omega arith) ∙ same

digits_more : (n : ℕ) (digits : List ℕ) → 10 ≤ n → Spells (n / 10) digits → Spells n (digits ++ ((48 + n % 10) ∷ []))
digits_more n digits large so_far fits =
    let front : number_of digits ≡ n / 10 = so_far (omega arith) in
    let same : n / 10 * 10 + n % 10 ≡ n = omega arith in
    number_push 0 digits (48 + n % 10) ∙ ap (λ m. digit_more m (48 + n % 10)) front ∙ digit_more-is (n / 10) (n % 10) (omega arith) (omega arith) ∙ same

-- a number is read from its digits
pub number_of-decimal : (n : ℕ) → n ≤ 9223372036854775808 → number_of (decimal n) ≡ n
number_of-decimal n fits = decimal_by_steps Spells one_digit digits_more n (omega arith) fits

-- the mark of a long literal is passed over
number_of-long : (n : ℕ) → n ≤ 9223372036854775808 → number_of (decimal n ++ codes "L") ≡ n
number_of-long n fits = number_push 0 (decimal n) 76 ∙ number_of-decimal n fits

no_mark : (word : List ℕ) → AllPassed is_digit word → is_long word ≡ false
no_mark [] all = refl
no_mark (first ∷ rest) (is, others) =
    let differs : nat_eq first 76 ≡ false = grind (arith, nat_tests) in
    rw differs (no_mark rest others)

mark_at_end : (word : List ℕ) → is_long (word ++ codes "L") ≡ true
mark_at_end [] = refl
mark_at_end (first ∷ rest) = go (nat_eq first 76) (mark_at_end rest)
  where
    go : (is : Bool) → is_long (rest ++ codes "L") ≡ true → (if is then true else is_long (rest ++ codes "L")) ≡ true
    go true later = refl
    go false later = later

all_of_run : (word : List ℕ) → IsRun is_digit word → AllPassed is_digit word
all_of_run [] run = absurd run
all_of_run (first ∷ rest) run = run

literal_of-int : (n : ℕ) → n ≤ 9223372036854775808 → literal_of (decimal n) ≡ Int (int_of n)
literal_of-int n fits = rw (no_mark (decimal n) (all_of_run (decimal n) (decimal_digits n)), number_of-decimal n fits)

literal_of-long : (n : ℕ) → n ≤ 9223372036854775808 → literal_of (decimal n ++ codes "L") ≡ Long (long_of n)
literal_of-long n fits = rw (mark_at_end (decimal n), number_of-long n fits)

int_of-small : (n : ℕ) → n < 2147483648 → int_of n ≡ pos n
int_of-small n small = let is : nat_lt n 2147483648 ≡ true = grind (arith, nat_tests) in rw is

long_of-small : (n : ℕ) → n < 9223372036854775808 → long_of n ≡ pos n
long_of-small n small = let is : nat_lt n 9223372036854775808 ≡ true = grind (arith, nat_tests) in rw is

-- an int literal without a sign is read from its digits
pub int_is_read : (n : ℕ) → n < 2147483648 → literal_of (decimal n) ≡ Int (pos n)
int_is_read n fits = literal_of-int n (omega arith) ∙ ap Int (int_of-small n fits)

-- a long literal without a sign is read from its digits
pub long_is_read : (n : ℕ) → n < 9223372036854775808 → literal_of (decimal n ++ codes "L") ≡ Long (pos n)
long_is_read n fits = literal_of-long n (omega arith) ∙ ap Long (long_of-small n fits)

-- the digits of a negative int literal give it behind the minus sign
pub negative_int_is_read : (n : ℕ) → n < 2147483648 → (value : ℤ) × (literal_of (decimal (suc n)) ≡ Int value) × (negated value ≡ negsuc n)
negative_int_is_read n fits = (int_of (suc n), literal_of-int (suc n) (omega arith), go (nat_lt (suc n) 2147483648) refl)
  where
    go : (is : Bool) → nat_lt (suc n) 2147483648 ≡ is → negated (int_of (suc n)) ≡ negsuc n
    go true e = rw e
    go false e = rw e (ap negsuc (grind (arith, nat_tests)))

-- the same of a long one
pub negative_long_is_read : (n : ℕ) → n < 9223372036854775808 → (value : ℤ) × (literal_of (decimal (suc n) ++ codes "L") ≡ Long value) × (negated value ≡ negsuc n)
negative_long_is_read n fits = (long_of (suc n), literal_of-long (suc n) (omega arith), go (nat_lt (suc n) 9223372036854775808) refl)
  where
    go : (is : Bool) → nat_lt (suc n) 9223372036854775808 ≡ is → negated (long_of (suc n)) ≡ negsuc n
    go true e = rw e
    go false e = rw e (ap negsuc (grind (arith, nat_tests)))

-- ---- variables

all_digits : (word : List ℕ) → AllPassed is_digit word → are_digits word ≡ true
all_digits [] all = refl
all_digits (first ∷ rest) (is, others) = rw is (all_digits rest others)

variable_word : (letter : ℕ) (digits : List ℕ) → IsRun is_digit digits → are_digits digits ≡ true
variable_word letter digits run = all_digits digits (all_of_run digits run)

named_variable : (kind : VarKind) (digits : List ℕ) → IsRun is_digit digits → is_variable_word (letter kind ∷ digits) ≡ true
named_variable kind [] run = absurd run
named_variable kind.Param (digit ∷ rest) run = variable_word 112 (digit ∷ rest) run
named_variable kind.Local (digit ∷ rest) run = variable_word 118 (digit ∷ rest) run
named_variable kind.Caught (digit ∷ rest) run = variable_word 101 (digit ∷ rest) run
named_variable kind.State (digit ∷ rest) run = variable_word 115 (digit ∷ rest) run

-- a variable is spelled like one
pub variable_is_like : (variable : Var) → is_variable_word (variable_name variable) ≡ true
variable_is_like variable = named_variable variable.kind (decimal variable.number) (decimal_digits variable.number)

-- the number behind a letter is read
pub number_is_read : (letter n : ℕ) → n < 2 ^ 32 → number_behind_letter (letter ∷ decimal n) ≡ n
number_is_read letter n fits = ap (λ m. m % 4294967296) (number_of-decimal n (omega arith)) ∙ mod-eq_of_lt (omega arith)

kind_is_read : (kind : VarKind) → kind_of (letter kind) ≡ kind
kind_is_read kind.Param = refl
kind_is_read kind.Local = refl
kind_is_read kind.Caught = refl
kind_is_read kind.State = refl

-- a variable is read from its name
pub variable_is_read : (variable : Var) → variable.number < 2 ^ 32 → variable_of (variable_name variable) ≡ variable
variable_is_read variable fits =
    ap (λ kind. let made : Var = record { kind = kind; number = number_behind_letter (variable_name variable) } in made) (kind_is_read variable.kind)
    ∙ ap (λ number. let made : Var = record { kind = variable.kind; number = number } in made) (number_is_read (letter variable.kind) variable.number fits)

-- ---- tokens

digits_token : (word rest : List ℕ) → IsRun is_digit word → token_of (word ++ rest) ≡ token.Number
digits_token [] rest run = absurd run
digits_token (first ∷ others) rest (is, all) = rw is

-- a number is a number
pub number_token : (n : ℕ) → token_of (decimal n) ≡ token.Number
number_token n = ap token_of (sym (append-nil (decimal n))) ∙ digits_token (decimal n) [] (decimal_digits n)

-- and so is a long one
pub long_token : (n : ℕ) → token_of (decimal n ++ codes "L") ≡ token.Number
long_token n = digits_token (decimal n) (codes "L") (decimal_digits n)

-- a letter and digits are no keyword, which has another letter in its second place
second_differs : (letter first second : ℕ) (digits rest : List ℕ) → IsRun is_digit digits → is_digit second ≡ false → is_word (letter ∷ digits) (first ∷ second ∷ rest) ≡ false
second_differs letter first second [] rest run other = absurd run
second_differs letter first second (digit ∷ digits) rest (is, all) other = go (nat_eq letter first) refl
  where
    differs : nat_eq digit second ≡ false
    differs = grind (arith, nat_tests)

    go : (same : Bool) → nat_eq letter first ≡ same → is_word (letter ∷ digit ∷ digits) (first ∷ second ∷ rest) ≡ false
    go true e = rw (e, differs)
    go false e = rw e

numbered_statement : (letter : ℕ) (digits : List ℕ) → IsRun is_digit digits → statement_of (letter ∷ digits) ≡ None
numbered_statement letter digits run =
    let differs = λ (first second : ℕ). λ (rest : List ℕ). λ (other : is_digit second ≡ false). second_differs letter first second digits rest run other in
    rw (differs 114 101 (codes "turn") refl, differs 105 102 [] refl, differs 101 108 (codes "se") refl, differs 119 104 (codes "ile") refl, differs 100 111 [] refl, differs 102 111 (codes "r") refl, differs 115 119 (codes "itch") refl, differs 99 97 (codes "se") refl, differs 100 101 (codes "fault") refl, differs 98 114 (codes "eak") refl, differs 99 111 (codes "ntinue") refl, differs 116 104 (codes "row") refl, differs 116 114 (codes "y") refl, differs 99 97 (codes "tch") refl, differs 102 105 (codes "nally") refl, differs 115 121 (codes "nchronized") refl)

numbered_name : (letter : ℕ) (digits : List ℕ) → IsRun is_digit digits → name_of (letter ∷ digits) ≡ token.Name
numbered_name letter digits run =
    let differs = λ (first second : ℕ). λ (rest : List ℕ). λ (other : is_digit second ≡ false). second_differs letter first second digits rest run other in
    rw (differs 116 114 (codes "ue") refl, differs 102 97 (codes "lse") refl, differs 110 117 (codes "ll") refl, differs 116 104 (codes "is") refl, differs 110 101 (codes "w") refl, differs 105 110 (codes "stanceof") refl, differs 99 108 (codes "ass") refl)

-- a letter and a number are a name
pub numbered_token : (letter n : ℕ) → is_digit letter ≡ false → is_letter letter ≡ true → token_of (letter ∷ decimal n) ≡ token.Name
numbered_token letter n digit is =
    letter_is_name letter (decimal n) digit is (numbered_statement letter (decimal n) (decimal_digits n)) (numbered_name letter (decimal n) (decimal_digits n))

variable_kind_token : (kind : VarKind) (n : ℕ) → token_of (letter kind ∷ decimal n) ≡ token.Name
variable_kind_token kind.Param n = numbered_token 112 n refl refl
variable_kind_token kind.Local n = numbered_token 118 n refl refl
variable_kind_token kind.Caught n = numbered_token 101 n refl refl
variable_kind_token kind.State n = numbered_token 115 n refl refl

-- a variable is a name
pub variable_token : (variable : Var) → token_of (variable_name variable) ≡ token.Name
variable_token variable = variable_kind_token variable.kind variable.number

-- a label is a name
pub label_token : (label : ℕ) → token_of (label_name label) ≡ token.Name
label_token label = numbered_token 108 label refl refl

-- an operator is read from its spelling
pub operator_token : (operator : Op) → token_of (operator_text operator) ≡ token.Operator operator
operator_token op.Mul = refl
operator_token op.Div = refl
operator_token op.Rem = refl
operator_token op.Add = refl
operator_token op.Sub = refl
operator_token op.Shl = refl
operator_token op.Shr = refl
operator_token op.Ushr = refl
operator_token op.Lt = refl
operator_token op.Le = refl
operator_token op.Gt = refl
operator_token op.Ge = refl
operator_token op.Eq = refl
operator_token op.Ne = refl
operator_token op.And = refl
operator_token op.Xor = refl
operator_token op.Or = refl
operator_token op.AndAlso = refl
operator_token op.OrElse = refl

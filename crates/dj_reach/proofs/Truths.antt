-- Equations of booleans that the law of reachability rests on.
use Rattle.std.proofs.Common.{Bool, true, false, not, ◌&&◌, ◌||◌, ◌≡◌, refl}

pub and_or : (r c f : Bool) → ((r && c) || (r && f)) ≡ (r && (c || f))
and_or true c f = refl
and_or false c f = refl

pub and_false : (r : Bool) → false ≡ (r && false)
and_false true = refl
and_false false = refl

pub and_true : (r : Bool) → r ≡ (r && true)
and_true true = refl
and_true false = refl

pub or_false : (r b : Bool) → r ≡ (r || (b && false))
or_false true b = refl
or_false false true = refl
or_false false false = refl

pub or_last : (b : Bool) → (b || false) ≡ b
or_last true = refl
or_last false = refl

pub or_all : (r b c d : Bool) → (r && ((b || c) || d)) ≡ (r && (b || (c || d)))
or_all r true c d = refl
or_all r false c d = refl

pub or_join : (t r f h : Bool) → ((t || (r && f)) || (r && h)) ≡ (t || (r && (f || h)))
or_join true r f h = refl
or_join false r f h = and_or r f h

pub or_then : (t r c f h : Bool) → ((t || (r && f)) || ((r && c) && h)) ≡ (t || (r && (f || (c && h))))
or_then true r c f h = refl
or_then false true c f h = refl
or_then false false c f h = refl

pub and_all : (r c d : Bool) → ((r && c) && d) ≡ (r && (c && d))
and_all true c d = refl
and_all false c d = refl

pub and_both : (r c d : Bool) → ((r && c) && (r && d)) ≡ (r && (c && d))
and_both true c d = refl
and_both false c d = refl

pub and_or_also : (r c f k : Bool) → (((r && c) || (r && f)) && k) ≡ (r && ((c || f) && k))
and_or_also true c f k = refl
and_or_also false c f k = refl

-- under a label, which takes a jump or not
pub label_jumps : (t r b f : Bool) → (t || (not b && (false || (r && f)))) ≡ (t || (r && (not b && f)))
label_jumps true r b f = refl
label_jumps false true b f = refl
label_jumps false false true f = refl
label_jumps false false false f = refl

-- through a `finally`
pub stopped_jumps : (t f b c : Bool) → ((t || f) || b) ≡ (t || ((b && true) || f))
stopped_jumps true f b c = refl
stopped_jumps false true true c = refl
stopped_jumps false true false c = refl
stopped_jumps false false true c = refl
stopped_jumps false false false c = refl

pub no_jumps : (t f b : Bool) → (t || f) ≡ (t || ((b && false) || f))
no_jumps t f true = refl
no_jumps t f false = refl

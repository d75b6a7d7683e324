-- Parts one after another, as one text.
use Rattle.std.proofs.Common.{◌≡◌, ℕ, List, [], ◌++◌, append_assoc}
use Rattle.std.proofs.lemmas.List.{append-nil}

-- one part
pub one_part : (a bytes rest : List ℕ) → bytes ≡ a ++ rest → bytes ≡ (a ++ []) ++ rest
one_part a bytes rest p = rw p (simp (append_assoc, append-nil))

-- two parts, one after the other
pub two_parts : (a b bytes mid rest : List ℕ) → bytes ≡ a ++ mid → mid ≡ b ++ rest → bytes ≡ (a ++ (b ++ [])) ++ rest
two_parts a b bytes mid rest p q = rw (p, q) (simp (append_assoc, append-nil))

-- five parts, one after the other
pub five_parts : (a b c d e bytes behind_a behind_b behind_c behind_d rest : List ℕ) → bytes ≡ a ++ behind_a → behind_a ≡ b ++ behind_b → behind_b ≡ c ++ behind_c → behind_c ≡ d ++ behind_d → behind_d ≡ e ++ rest
    → bytes ≡ (a ++ (b ++ (c ++ (d ++ (e ++ []))))) ++ rest
five_parts a b c d e bytes behind_a behind_b behind_c behind_d rest p q r s t = rw (p, q, r, s, t) (simp (append_assoc, append-nil))

-- How members are read on, one at a time.
use Rattle.std.proofs.Common.{◌≡◌, suc, ℕ, ◌+◌, ◌-◌, ◌<◌, false, if◌then◌else◌, sym, ap, ◌∙◌, arith}
use Rattle.dj_tokens.specs.Words.{Words}
use Rattle.dj_grammar.specs.Members.{Place, Members, ends_members, read_member, read_members}

-- a member more, of so many at most
pub members_go_on : (place : Place) (most counter : ℕ) (members more : Members) (list rest : Words) → counter < most → false ≡ ends_members list → (let read : Members × Words = (more, rest) in read ≡ read_member place members list)
    → read_members place (most - (counter + 1)) more rest ≡ read_members place (most - counter) members list
members_go_on place most counter members more list rest below not_end r =
    let left : most - counter ≡ suc (most - (counter + 1)) = omega arith in
    ap (λ read. read_members place (most - (counter + 1)) read.0 read.1) r
    ∙ ap (λ b. if b then members else (let read = read_member place members list in read_members place (most - (counter + 1)) read.0 read.1)) not_end
    ∙ ap (λ left. read_members place left members list) (sym left)

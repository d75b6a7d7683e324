-- The content of a Code attribute (JVMS 4.7.3). Which fault it has is told nowhere: each is CutOff at 0.
use Rattle.std.specs.Prelude.{ℕ, List, length, ◌&&◌, nat_le}
use Rattle.dj_layout.specs.Layout.{Layout}
use Rattle.dj_layout.specs.Parts.{number, run, exactly, headed, tested}
use Rattle.dj_pool.specs.declared.fault.BrokenKind.{BrokenKind}
use Rattle.dj_pool.specs.declared.fault.BrokenKind.TheVariants as kind
use Rattle.dj_code.specs.declared.content.RawHandler.{RawHandler}
use Rattle.dj_code.specs.declared.content.CodeContent.{CodeContent}
use Rattle.dj_pool.specs.SharedParts.{u2, counted, attribute}

-- code has 1 to 65,535 bytes
abbrev pub code_length : Layout BrokenKind ℕ
code_length = tested (number 4 kind.Short) (λ n. nat_le 1 n && nat_le n 65535) kind.Index

-- the bytes of the instructions, behind their number
abbrev pub code : Layout BrokenKind (List ℕ)
code = headed length code_length (λ n. run n kind.Short)

-- an entry of the exception table: pcs, and a class's index or 0
abbrev pub handler : Layout BrokenKind RawHandler
handler =
    headed (λ h. h.start) u2 (λ start.
    headed (λ h. h.end) u2 (λ end.
    headed (λ h. h.target) u2 (λ target.
    headed (λ h. h.class) u2 (λ class.
    exactly (record { start = start; end = end; target = target; class = class })))))

-- limits, code, exception table and attributes
abbrev pub content : Layout BrokenKind CodeContent
content =
    headed (λ c. c.max_stack) u2 (λ max_stack.
    headed (λ c. c.max_locals) u2 (λ max_locals.
    headed (λ c. c.code) code (λ code.
    headed (λ c. c.handlers) (counted handler) (λ handlers.
    headed (λ c. c.attributes) (counted attribute) (λ attributes.
    exactly (record { max_stack = max_stack; max_locals = max_locals; code = code; handlers = handlers; attributes = attributes }))))))

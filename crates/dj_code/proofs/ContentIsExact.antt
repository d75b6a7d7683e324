-- The content of a Code attribute reads in one way.
use Rattle.std.proofs.Common.{length}
use Rattle.dj_layout.specs.Exact.{IsExact}
use Rattle.dj_layout.proofs.PartsAreExact.{exact-number, exact-run, exact-exactly, exact-headed, exact-tested}
use Rattle.dj_pool.specs.declared.fault.BrokenKind.TheVariants as kind
use Rattle.dj_pool.proofs.SharedAreExact.{exact-u2, exact-counted, exact-attributes}
use Rattle.dj_code.specs.CodeContent.{handler, code, content}

exact-handler : IsExact handler
exact-handler =
    exact-headed (λ h. h.start) _ _ exact-u2 (λ start. exact-headed (λ h. h.end) _ _ exact-u2 (λ end. exact-headed (λ h. h.target) _ _ exact-u2 (λ target.
    exact-headed (λ h. h.class) _ _ exact-u2 (λ class. exact-exactly (record { start = start; end = end; target = target; class = class })))))

exact-code : IsExact code
exact-code = exact-headed length _ _ (exact-tested _ _ _ (exact-number 4 kind.Short)) (λ n. exact-run n kind.Short)

pub exact-content : IsExact content
exact-content =
    exact-headed (λ c. c.max_stack) _ _ exact-u2 (λ max_stack. exact-headed (λ c. c.max_locals) _ _ exact-u2 (λ max_locals. exact-headed (λ c. c.code) _ _ exact-code (λ code.
    exact-headed (λ c. c.handlers) _ _ (exact-counted handler exact-handler) (λ handlers. exact-headed (λ c. c.attributes) _ _ exact-attributes (λ attributes.
    exact-exactly (record { max_stack = max_stack; max_locals = max_locals; code = code; handlers = handlers; attributes = attributes }))))))

-- The file of the worked example reads in one way.
use Rattle.std.proofs.Common.{ℕ, ◌==◌}
use Rattle.dj_layout.specs.declared.example.Kind.TheVariants.{Short}
use Rattle.dj_layout.specs.Parts.{number}
use Rattle.dj_layout.specs.Exact.{IsExact}
use Rattle.dj_layout.specs.Example.{Text, Number, magic, major, header, text, text_of, number_of, content, entry, counted, file}
use Rattle.dj_layout.proofs.PartsAreExact.{exact-number, exact-run, exact-exactly, exact-headed, exact-times, exact-tested, exact-choice}

exact-magic : IsExact magic
exact-magic = exact-tested _ _ _ (exact-number 4 Short)

exact-major : IsExact major
exact-major = exact-tested _ _ _ (exact-number 2 Short)

exact-header : IsExact header
exact-header =
    exact-headed _ _ _ (exact-number 2 Short) (λ minor. exact-headed (λ h. h.major) _ _ exact-major (λ major.
    exact-headed (λ h. h.flags) _ _ (exact-number 2 Short) (λ flags. exact-headed (λ h. h.name) _ _ (exact-number 4 Short) (λ name.
    exact-exactly (record { minor = minor; major = major; flags = flags; name = name })))))

exact-text : IsExact text
exact-text = exact-headed _ _ _ (exact-number 2 Short) (λ n. exact-run n Short)

exact-content : (tag : ℕ) → IsExact (content tag)
exact-content tag =
    exact-choice (tag == 1) _ _ (exact-headed text_of text _ exact-text (λ x. exact-exactly (Text x))) (exact-headed number_of (number 2 Short) _ (exact-number 2 Short) (λ x. exact-exactly (Number x)))

exact-entry : IsExact entry
exact-entry = exact-headed _ _ _ (exact-tested _ _ _ (exact-number 1 Short)) exact-content

exact-counted : IsExact counted
exact-counted = exact-headed _ _ _ (exact-number 2 Short) (λ count. exact-times count entry exact-entry)

pub exact-file : IsExact file
exact-file =
    exact-headed _ _ _ exact-magic (λ _. exact-headed (λ x. x.header) _ _ exact-header (λ header. exact-headed (λ x. x.entries) _ _ exact-counted (λ entries.
    exact-exactly (record { header = header; entries = entries }))))

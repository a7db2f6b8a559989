use Rattle.std.proofs.Common.{◌≡◌, ◌∙◌, ap, sym, Some, None, arith}
use Rattle.std.proofs.lemmas.Result.{err_from_is_err_and}
use Rattle.listing.specs.Inside.Method.{read_form}
use Rattle.listing.specs.declared.ReadError.TheVariants.{BadLine}
use Rattle.listing.proofs.ByMethod.{by_method, by_row, method_long}
use Rattle.listing.proofs.read_line.Goals as goal

pub returns-then-text-gt100 : goal.returns-then-text-gt100
returns-then-text-gt100 c = sym (method_long c.args.text.now (omega arith)) ∙ by_method c.args.text.now

pub returns-in_err-read : goal.returns-in_err-read
returns-in_err-read c =
    let none : c.first_row.result ≡ None = grind arith in
    let p = err_from_is_err_and c.from_residual.result c.from_residual.ensures.1 in
    let bad : c.in_err-read.field-0.0 ≡ BadLine = grind arith in
    rw (p.1, p.2, bad) (sym (by_row c.args.text.now None (sym c.first_row.ensures ∙ none)) ∙ by_method c.args.text.now)

pub returns : goal.returns
returns c =
    let some : c.first_row.result ≡ Some c.in_ok-read.read = grind arith in
    c.read_form.ensures ∙ ap (read_form c.args.text.now) c.form_at.ensures
    ∙ sym (by_row c.args.text.now _ (sym c.first_row.ensures ∙ some)) ∙ by_method c.args.text.now

use Rattle.std.proofs.Common.{◌/◌, ◌∷◌, ◌++◌, [], ℕ, arith, sym, ap, ◌∙◌}
use Rattle.templates.specs.FieldText.{decimal}
use Rattle.templates.proofs.Decimals.{decimal_last}
use Rattle.templates.proofs.Writing.{byte_behind}
use Rattle.templates.proofs.+put_decimal.Goals as goal

pub returns : goal.returns
returns t c =
    let a = c.args in
    let p = c.put_decimal-last in
    byte_behind a.out.now a.at c.digit-2.result (decimal (a.v / 10)) (decimal a.v) p.result _
    (decimal_last a.v c.if-v-lt10.false (omega arith) ∙ ap (λ (m : ℕ). decimal (a.v / 10) ++ (m ∷ [])) (sym c.digit-2.ensures))
    p.ensures

-- `instructions::accesses::place` meets its contract. Assumes nothing.
use Rattle.std.proofs.Common.{true, sym, ◌∙◌, Err, ap}
use Rattle.std.proofs.lemmas.Result.{err_from_is_err_and}
use Rattle.instructions.proofs.Places.{place_misaligned, place_found, place_outside, sp_aligned}
use Rattle.instructions.proofs.accesses.place.Goals as goal

pub returns-then-rn-ne0 : goal.returns-then-rn-ne0
returns-then-rn-ne0 c =
    let a = c.args in
    rw c.misaligned.ensures
    (place_misaligned a.settings.base a.granules a.n a.rn a.address a.count c.if-rn-ne0.true c.requires.address_value)

pub returns-in_err-locate : goal.returns-in_err-locate
returns-in_err-locate c =
    let a = c.args in
    let even = c.if-rn-ne0.false in
    let (code, is, told) = err_from_is_err_and c.from_residual.result c.from_residual.ensures.1 in
    is ∙ ap Err told
    ∙ place_outside a.settings.base a.granules a.n a.rn a.address 16 a.count true (sp_aligned a.n a.rn even)
    (c.requires.address_value ∙ even) (sym c.in_err-locate.ensures)

pub returns : goal.returns
returns c =
    let a = c.args in
    let even = c.if-rn-ne0.false in
    place_found a.settings.base a.granules a.n a.rn a.address 16 a.count true (sp_aligned a.n a.rn even)
    (c.requires.address_value ∙ even) _ (sym c.in_ok-locate.ensures)

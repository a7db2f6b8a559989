-- `instructions::accesses::place_load` meets its contract. Assumes nothing.
use Rattle.std.proofs.Common.{false, sym, ◌∙◌, arith, Err, ap}
use Rattle.std.proofs.lemmas.Result.{err_from_is_err_and}
use Rattle.memory.specs.Locations.{onward}
use Rattle.machine.specs.Codes.{lowest}
use Rattle.instructions.specs.Accesses.{rounded_down}
use Rattle.instructions.proofs.Places.{place_found, place_outside}
use Rattle.instructions.proofs.accesses.place_load.Goals as goal

pub returns-then-is_sp_misaligned : goal.returns-then-is_sp_misaligned
unfolding lowest
returns-then-is_sp_misaligned c = rw (sym c.is_sp_misaligned.ensures ∙ c.if-is_sp_misaligned.true)

pub returns-in_err-locate : goal.returns-in_err-locate
returns-in_err-locate c =
    let a = c.args in
    let (code, is, told) = err_from_is_err_and c.from_residual.result c.from_residual.ensures.1 in
    is ∙ ap Err told
    ∙ place_outside a.settings.base a.granules a.n a.rn (rounded_down (onward a.rn a.amount)) 1 1 false
    (sym c.is_sp_misaligned.ensures ∙ c.if-is_sp_misaligned.false) (omega arith) (sym c.in_err-locate.ensures)

pub returns : goal.returns
returns c =
    let a = c.args in
    place_found a.settings.base a.granules a.n a.rn (rounded_down (onward a.rn a.amount)) 1 1 false
    (sym c.is_sp_misaligned.ensures ∙ c.if-is_sp_misaligned.false) (omega arith) _ (sym c.in_ok-locate.ensures)

-- Assumes nothing.
use Rattle.std.proofs.Common.{◌≡◌, length, Err, sym, ap, ◌∙◌, arith, rules}
use Rattle.execution.specs.Simulation.{Simulation, standing}
use Rattle.execution.specs.Inside.Taking.{store_taken}
use Rattle.execution.proofs.MemoryForms.{store_done, store_fits, store_parts, store_refused}
use Rattle.execution.proofs.Taking.{sizes, took_done, took_refused}
use Rattle.execution.proofs.memory_words.carry_out.Goals as goal

pub place-requires-clause-granules_value : goal.place-requires-clause-granules_value
place-requires-clause-granules_value c = sizes (standing c.args.setup.now c.args.history.now) c.requires.formed

pub record-requires-clause-granules_in_bounds : goal.record-requires-clause-granules_in_bounds
record-requires-clause-granules_in_bounds c =
    let place = rw (c.address_of-address.ensures, c.x_or_sp-rn.ensures) at (sym c.place.ensures ∙ c.in_ok-first.was) in
    (store_fits (standing c.args.setup.now c.args.history.now) c.args.e c.in_ok-first.first c.requires.formed c.requires.le_granules place).0

pub change_data-requires-clause-granules_in_bounds : goal.change_data-requires-clause-granules_in_bounds
change_data-requires-clause-granules_in_bounds c =
    let place = rw (c.address_of-address.ensures, c.x_or_sp-rn.ensures) at (sym c.place.ensures ∙ c.in_ok-first.was) in
    let fits = store_fits (standing c.args.setup.now c.args.history.now) c.args.e c.in_ok-first.first c.requires.formed c.requires.le_granules place in
    omega (arith, fits, ap (λ (s : Simulation). length s.state.bytes) c.record.ensures.taken)

pub tag_if-requires-clause-granules_in_bounds : goal.tag_if-requires-clause-granules_in_bounds
tag_if-requires-clause-granules_in_bounds c =
    let place = rw (c.address_of-address.ensures, c.x_or_sp-rn.ensures) at (sym c.place.ensures ∙ c.in_ok-first.was) in
    let fits = store_fits (standing c.args.setup.now c.args.history.now) c.args.e c.in_ok-first.first c.requires.formed c.requires.le_granules place in
    omega (arith, fits, ap (λ (s : Simulation). length s.state.tags) c.record.ensures.taken)

pub returns-in_err-first-clause-taken : goal.returns-in_err-first-clause-taken
returns-in_err-first-clause-taken c =
    let s = standing c.args.setup.now c.args.history.now in
    let place = rw (c.address_of-address.ensures, c.x_or_sp-rn.ensures) at (sym c.place.ensures ∙ c.in_err-first.was) in
    let told : c.from_residual.result ≡ Err c.in_err-first.field-0.0 = search rules in
    rw told (took_refused (store_taken c.args.e) (store_refused s c.args.e c.in_err-first.field-0.0 place))

pub returns-clause-taken : goal.returns-clause-taken
returns-clause-taken c =
    let s = standing c.args.setup.now c.args.history.now in
    let e = c.args.e in
    let first = c.in_ok-first.first in
    let place = rw (c.address_of-address.ensures, c.x_or_sp-rn.ensures) at (sym c.place.ensures ∙ c.in_ok-first.was) in
    let recorded = rw (c.writeback_to-register.ensures, c.writes.ensures) at c.record.ensures.taken in
    let written = rw (c.writeback_to-register.ensures, c.x_or_sp-rn.ensures) at c.write.ensures.x in
    took_done (store_taken e) (store_done s e first place)
    (store_parts s e first (standing c.record.new.setup c.record.new.history) recorded written c.write.ensures.status c.change_data.ensures c.tag_if.ensures)

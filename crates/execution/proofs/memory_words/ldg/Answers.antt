-- Assumes nothing.
use Rattle.std.proofs.Common.{◌≡◌, Some, Err, sym, ◌∙◌, rules}
use Rattle.isa.specs.Decoding.{ldg_at}
use Rattle.execution.specs.Simulation.{standing}
use Rattle.execution.specs.Inside.Taking.{decoded_taken}
use Rattle.execution.proofs.MemoryForms.{ldg_done, ldg_refused}
use Rattle.execution.proofs.Taking.{sizes, took_done, took_refused}
use Rattle.execution.proofs.memory_words.ldg.Goals as goal

pub loaded-requires : goal.loaded-requires
loaded-requires c = sizes (standing c.args.setup.now c.args.history.now) c.requires

pub returns-in_err-v-clause-taken : goal.returns-in_err-v-clause-taken
returns-in_err-v-clause-taken c =
    let s = standing c.args.setup.now c.args.history.now in
    let told : c.from_residual.result ≡ Err c.in_err-v.field-0.0 = search rules in
    rw told
    (took_refused (decoded_taken (Some (ldg_at c.args.w))) (ldg_refused s c.args.w c.in_err-v.field-0.0 (sym c.loaded.ensures ∙ c.in_err-v.was)))

pub returns-clause-taken : goal.returns-clause-taken
returns-clause-taken c =
    let s = standing c.args.setup.now c.args.history.now in
    took_done (decoded_taken (Some (ldg_at c.args.w))) (ldg_done s c.args.w c.in_ok-v.v (sym c.loaded.ensures ∙ c.in_ok-v.was))
    (rw (c.or_none.ensures, c.field.ensures) at c.set.ensures.taken)

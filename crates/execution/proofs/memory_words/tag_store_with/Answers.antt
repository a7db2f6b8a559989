-- Assumes nothing.
use Rattle.std.proofs.Common.{◌≡◌, ℕ, ◌+◌, eqb, Some, arith}
use Rattle.bits.specs.Fields.{bits_at}
use Rattle.isa.specs.Decoding.{signed_amount, tag_store_at}
use Rattle.tag.specs.PointerTags.{tag_of}
use Rattle.machine.specs.Registers.{x_or_sp}
use Rattle.execution.specs.declared.memory_words.Store.{Store}
use Rattle.execution.specs.Simulation.{Simulation, standing}
use Rattle.execution.specs.Inside.Taking.{change_in, decoded_taken, form_taken, op_in, store_taken, zeroed_if}
use Rattle.execution.proofs.MemoryForms.{op_granules, op_zeroing}
use Rattle.execution.proofs.Taking.{took_as}
use Rattle.execution.proofs.memory_words.tag_store_with.Goals as goal

-- a store is the word's form, where its parts are those of the word
parts : (w : ℕ) (e : Store) (s : Simulation) → e.n ≡ bits_at w 5 5 → e.amount ≡ signed_amount 256 (bits_at w 12 9) → e.granules ≡ 1 + bits_at w 23 1
    → e.tag.value ≡ tag_of (x_or_sp s.state.registers.x (bits_at w 0 5)) → change_in e.change ≡ zeroed_if (eqb (bits_at w 22 1) 1)
    → store_taken e s ≡ decoded_taken (Some (tag_store_at (op_in w) e.mode w)) s
unfolding decoded_taken form_taken
parts w e s n a g t d = rw (op_granules w, op_zeroing w, n, a, g, t, d)

pub returns-then-field-eq1-clause-taken : goal.returns-then-field-eq1-clause-taken
returns-then-field-eq1-clause-taken c =
    let w = c.args.w in
    let e : Store = record {
      mode = c.args.mode;
      n = c.field.result;
      amount = c.signed.result;
      granules = 2;
      tag = c.of.result;
      change = c.args.change;
    } in
    took_as (decoded_taken (Some (tag_store_at (op_in w) e.mode w))) c.carry_out.result
    (parts w e (standing c.args.setup.now c.args.history.now) c.field.ensures (rw c.field-2.ensures at c.signed.ensures) (omega arith)
    (rw (c.x_or_sp.ensures, c.field-t.ensures) at c.of.ensures) c.requires.change) c.carry_out.ensures.taken

pub returns-else-field-eq1-clause-taken : goal.returns-else-field-eq1-clause-taken
returns-else-field-eq1-clause-taken c =
    let w = c.args.w in
    let e : Store = record {
      mode = c.args.mode;
      n = c.field.result;
      amount = c.signed.result;
      granules = 1;
      tag = c.of.result;
      change = c.args.change;
    } in
    took_as (decoded_taken (Some (tag_store_at (op_in w) e.mode w))) c.carry_out-else-field-eq1.result
    (parts w e (standing c.args.setup.now c.args.history.now) c.field.ensures (rw c.field-2.ensures at c.signed.ensures) (omega arith)
    (rw (c.x_or_sp.ensures, c.field-t.ensures) at c.of.ensures) c.requires.change)
    c.carry_out-else-field-eq1.ensures.taken

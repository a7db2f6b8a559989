-- Assumes nothing.
use Rattle.std.proofs.Common.{◌≡◌, Some, None, sym, ◌∙◌, eq-eqb, ne_eqb, arith}
use Rattle.bits.specs.Fields.{bits_at}
use Rattle.isa.specs.Decoding.{decode_of, ldg_at, tag_store_at}
use Rattle.execution.specs.Inside.Taking.{op_in}
use Rattle.execution.proofs.MemoryForms.{decode_d9}
use Rattle.execution.proofs.Taking.{took_undefined}
use Rattle.execution.proofs.memory_words.memory_tags.Goals as goal

pub returns-then-field-eq0-clause-taken : goal.returns-then-field-eq0-clause-taken
returns-then-field-eq0-clause-taken c =
    let w = c.args.w in
    let decoded : decode_of w ≡ None = decode_d9 w c.requires.w_bound c.requires.w_value
    ∙ rw (ne_eqb (bits_at w 21 1) 1 (λ e. omega (arith, c.field.ensures, c.if-field-eq0.true))) in
    took_undefined (decode_of w) decoded

pub returns-then-mode-ne0-clause-taken : goal.returns-then-mode-ne0-clause-taken
returns-then-mode-ne0-clause-taken c =
    let w = c.args.w in
    let one : bits_at w 21 1 ≡ 1 = omega (arith, c.field.ensures, c.if-field-eq0.false) in
    let decoded : decode_of w ≡ Some (tag_store_at (op_in w) c.mode_of.result w) = decode_d9 w c.requires.w_bound c.requires.w_value
    ∙ rw (
      eq-eqb (bits_at w 21 1) 1 one,
      ne_eqb (bits_at w 10 2) 0 (λ e. c.if-mode-ne0.true (c.field-mode.ensures ∙ e)),
      c.mode_of.ensures,
      c.field-mode.ensures,
    ) in
    rw decoded c.tag_store.ensures.taken

pub returns-then-field-eq1-clause-taken : goal.returns-then-field-eq1-clause-taken
returns-then-field-eq1-clause-taken c =
    let w = c.args.w in
    let one : bits_at w 21 1 ≡ 1 = omega (arith, c.field.ensures, c.if-field-eq0.false) in
    let decoded : decode_of w ≡ Some (ldg_at w) = decode_d9 w c.requires.w_bound c.requires.w_value
    ∙ rw (
      eq-eqb (bits_at w 21 1) 1 one,
      eq-eqb (bits_at w 10 2) 0 (sym c.field-mode.ensures ∙ c.if-mode-ne0.false),
      eq-eqb (bits_at w 22 2) 1 (sym c.field-else-mode-ne0.ensures ∙ c.if-field-eq1.true),
    ) in
    rw decoded c.ldg.ensures.taken

pub returns-else-field-eq1-clause-taken : goal.returns-else-field-eq1-clause-taken
returns-else-field-eq1-clause-taken c =
    let w = c.args.w in
    let one : bits_at w 21 1 ≡ 1 = omega (arith, c.field.ensures, c.if-field-eq0.false) in
    let decoded : decode_of w ≡ None = decode_d9 w c.requires.w_bound c.requires.w_value
    ∙ rw (
      eq-eqb (bits_at w 21 1) 1 one,
      eq-eqb (bits_at w 10 2) 0 (sym c.field-mode.ensures ∙ c.if-mode-ne0.false),
      ne_eqb (bits_at w 22 2) 1 (λ e. c.if-field-eq1.false (c.field-else-mode-ne0.ensures ∙ e)),
    ) in
    took_undefined (decode_of w) decoded

-- `isa::decode` meets its contract: bits 31:22 leave few forms, and the rest is tested below. Assumes nothing.
use mathlib.Core.Path.{sym, ap, ◌∙◌}
use native.Mathlib.Omega.{arith}
use Rattle.std.proofs.Common.{Some}
use Rattle.isa.specs.declared.AddSubOp.TheVariants.{Addg, Subg}
use Rattle.isa.specs.declared.TagStoreOp.TheVariants.{Stg, Stzg, St2g, Stz2g}
use Rattle.isa.specs.declared.Mode.TheVariants.{Post, Pre, Offset}
use Rattle.isa.specs.Decoding.{decode_of}
use Rattle.isa.proofs.Decoding.{decode_add_sub, decode_two_source, decode_subps, decode_memory_tags, decode_stgp, decode_none}
use Rattle.isa.proofs.decode.Goals as goal

pub returns-in-582 : goal.returns-in-582
returns-in-582 c = c.add_sub.ensures ∙ sym (decode_add_sub c.from-word.result (omega arith) Addg (sym c.field.ensures ∙ c.in-582.is)) ∙ ap decode_of c.from-word.ensures

pub returns-in-838 : goal.returns-in-838
returns-in-838 c = c.add_sub-in-838.ensures ∙ sym (decode_add_sub c.from-word.result (omega arith) Subg (sym c.field.ensures ∙ c.in-838.is)) ∙ ap decode_of c.from-word.ensures

pub returns-in-619 : goal.returns-in-619
returns-in-619 c = c.two_source.ensures ∙ sym (decode_two_source c.from-word.result (omega arith) (sym c.field.ensures ∙ c.in-619.is)) ∙ ap decode_of c.from-word.ensures

pub returns-in-747 : goal.returns-in-747
returns-in-747 c = c.subps.ensures ∙ sym (decode_subps c.from-word.result (omega arith) (sym c.field.ensures ∙ c.in-747.is)) ∙ ap decode_of c.from-word.ensures

pub returns-in-868 : goal.returns-in-868
returns-in-868 c = c.memory_tags.ensures ∙ sym (decode_memory_tags c.from-word.result (omega arith) Stg (sym c.field.ensures ∙ c.in-868.is)) ∙ ap decode_of c.from-word.ensures

pub returns-in-869 : goal.returns-in-869
returns-in-869 c = c.memory_tags-in-869.ensures ∙ sym (decode_memory_tags c.from-word.result (omega arith) Stzg (sym c.field.ensures ∙ c.in-869.is)) ∙ ap decode_of c.from-word.ensures

pub returns-in-870 : goal.returns-in-870
returns-in-870 c = c.memory_tags-in-870.ensures ∙ sym (decode_memory_tags c.from-word.result (omega arith) St2g (sym c.field.ensures ∙ c.in-870.is)) ∙ ap decode_of c.from-word.ensures

pub returns-in-871 : goal.returns-in-871
returns-in-871 c = c.memory_tags-in-871.ensures ∙ sym (decode_memory_tags c.from-word.result (omega arith) Stz2g (sym c.field.ensures ∙ c.in-871.is)) ∙ ap decode_of c.from-word.ensures

pub returns-in-418 : goal.returns-in-418
returns-in-418 c = ap Some c.stgp.ensures ∙ sym (decode_stgp c.from-word.result (omega arith) Post (sym c.field.ensures ∙ c.in-418.is)) ∙ ap decode_of c.from-word.ensures

pub returns-in-422 : goal.returns-in-422
returns-in-422 c = ap Some c.stgp-in-422.ensures ∙ sym (decode_stgp c.from-word.result (omega arith) Pre (sym c.field.ensures ∙ c.in-422.is)) ∙ ap decode_of c.from-word.ensures

pub returns-in-420 : goal.returns-in-420
returns-in-420 c = ap Some c.stgp-in-420.ensures ∙ sym (decode_stgp c.from-word.result (omega arith) Offset (sym c.field.ensures ∙ c.in-420.is)) ∙ ap decode_of c.from-word.ensures

pub returns-in_default : goal.returns-in_default
returns-in_default c =
    sym (decode_none c.from-word.result (omega arith)
    (λ e. omega arith) (λ e. omega arith) (λ e. omega arith) (λ e. omega arith) (λ e. omega arith) (λ e. omega arith) (λ e. omega arith) (λ e. omega arith) (λ e. omega arith) (λ e. omega arith) (λ e. omega arith))
    ∙ ap decode_of c.from-word.ensures

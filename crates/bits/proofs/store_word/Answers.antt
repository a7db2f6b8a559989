-- `bits::store_word` meets its contract. Assumes nothing.
use Rattle.std.proofs.Common.{◌∙◌, sym, ap, arith, ◌++◌, drop, ℕ, List}
use lib.Seq.{sets-eq}
use Rattle.bits.specs.LittleEndian.{low_bytes, bytes_of}
use Rattle.bits.proofs.LittleEndian.{bytes_apart}
use Rattle.bits.proofs.store_word.Goals as goal

pub returns : goal.returns
unfolding low_bytes
returns c =
    let a = c.args in
    ap (λ (bytes : List ℕ). bytes ++ drop 8 a.part.now) (c.copy_from_slice.ensures.after ∙ c.to_le_bytes-bytes.ensures ∙ bytes_apart a.v)
    ∙ sym (sets-eq (bytes_of a.v) a.part.now 0 (omega arith))

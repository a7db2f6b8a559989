-- The rows P1 to P14 hold, by computation.
use Rattle.std.proofs.Common.{refl}
use Rattle.bits.specs.LittleEndian.{low_bytes}
use Rattle.isa.specs.Decoding.{decode_of, form_of, forms_at}
use Rattle.tag.specs.TagChoice.{chosen, skip, walk}
use Rattle.tag.specs.RandomBits.{random_bit, next_seed, bits_drawn, seed_drawn}
use Rattle.memory.specs.Locations.{all_inside}
use Rattle.memory.specs.Sizes.{sizes_ok}
use Rattle.machine.specs.Setup.{state_ok}
use Rattle.machine.specs.Codes.{lowest}
use Rattle.instructions.specs.WordOutcomes.{word_outcome}
use Rattle.instructions.specs.Edges.{Edges, none, more}

pub edges : Edges
unfolding low_bytes decode_of form_of forms_at chosen skip walk random_bit next_seed bits_drawn seed_drawn all_inside sizes_ok state_ok lowest word_outcome
edges x0 x1 x2 =
    more refl (more refl (more refl (more refl (more refl (more refl (more refl (more refl
    (more refl (more refl (more refl (more refl (more refl (more refl (more refl none))))))))))))))

-- The numbers that the decoder, the encoder and the search for a granule give their refusals are those of the codes (document 01, "Codes
-- and their order"), and the refusals of a word stand in the order of their numbers. Proved in proofs/AnswerCodes.
use Rattle.std.specs.Prelude.{◌≡◌, Bool, Option, None, Err}
use Rattle.isa.specs.declared.Form.{Form}
use Rattle.isa.specs.Decoding.{decoded_code}
use Rattle.isa.specs.Encoding.{encoded_code}
use Rattle.memory.specs.declared.LocateError.TheVariants.{Outside as NoGranule}
use Rattle.memory.specs.Locations.{granule_code}
use Rattle.machine.specs.declared.Code.TheVariants.{Undefined, Outside, Field}
use Rattle.machine.specs.State.{State}
use Rattle.machine.specs.Codes.{code_number, Rising}
use Rattle.instructions.specs.WordOutcomes.{word_checks}

pub record AnswerCodes : Type 0 where
  pub undefined : decoded_code None ≡ code_number Undefined
  pub field : encoded_code None ≡ code_number Field
  pub outside : granule_code (Err NoGranule) ≡ code_number Outside
  pub rising : (setup : Bool) (decoded : Option Form) (s : State) → Rising 0 (word_checks setup decoded s)

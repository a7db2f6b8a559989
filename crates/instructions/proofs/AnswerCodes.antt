-- The numbers of refusals are those of the codes, and rise in the checks of a word. Assumes nothing.
use Rattle.std.proofs.Common.{refl, arith}
use Rattle.instructions.specs.AnswerCodes.{AnswerCodes}

pub answer_codes : AnswerCodes
answer_codes =
    record {
      undefined = refl;
      field = refl;
      outside = refl;
      rising = λ setup decoded s. (omega arith, (omega arith, (omega arith, (omega arith, (omega arith, tt)))));
    }

-- `session_lines::keep` meets its contract: the numbers of the nine lines and the words, one behind the other, are one list. Assumes nothing.
use Rattle.std.proofs.Common.{◌^◌, ◌<◌, sym, arith}
use Rattle.std.proofs.lemmas.List.{set-append_left, set-append_right}
use Rattle.session_lines.proofs.LineFormats.{word_most}
use Rattle.session_lines.proofs.keep.Goals as goal

pub overflow_cast-words : goal.overflow_cast-words
overflow_cast-words c = let a = c.args in
    let small : a.value < 2 ^ 32 = word_most a.i a.value (omega arith) c.requires.value_bound in
    omega arith

pub returns-then-i-lt9 : goal.returns-then-i-lt9
returns-then-i-lt9 c = let a = c.args in
    sym (set-append_left a.front.now a.words.now a.i a.value (omega arith))

pub returns-else-i-lt9 : goal.returns-else-i-lt9
returns-else-i-lt9 c = let a = c.args in
    sym (set-append_right a.front.now a.words.now 9 a.i a.value (omega arith) (omega arith))

-- `simulator::playing::words_left` meets its contract. The loop's invariant: the words taken so far are those of the calls passed. Assumes
-- nothing.
use Rattle.std.proofs.Common.{◌+◌, ◌≡◌, drop}
use Rattle.simulator.specs.Playing.{all_taken}
use Rattle.simulator.proofs.playing.words_left.Given as goal

abbrev pub invariant-loop-asked : goal.invariant-loop-asked
invariant-loop-asked l = l.left + all_taken l.calls ≡ l.words + all_taken (drop l.asked-index l.calls)

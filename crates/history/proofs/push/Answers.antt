use Rattle.std.proofs.Common.{◌≡◌, ◌-◌, ◌*◌, length, take, drop, ◌++◌}
use Rattle.memory.proofs.Lists.{back_part}
use Rattle.history.specs.Inside.Slots.{history_of}
use Rattle.history.specs.Ring.{pushed}
use Rattle.history.proofs.Slots.{pushed_either}
use Rattle.history.proofs.push.Goals as goal

pub returns-then-slots-eq0 : goal.returns-then-slots-eq0
unfolding pushed
returns-then-slots-eq0 c = rw c.if-slots-eq0.true

pub returns : goal.returns
returns c =
    let a = c.args in
    let l = a.history.now in
    let at = 8 * a.cursor.now.next in
    let ys = c.write.new.part in
    let r = a.part in
    pushed_either (λ h. history_of (take at l ++ (ys ++ drop (length l - at) (drop at l))) c.advance.result ≡ h) r
    (history_of l a.cursor.now) (λ none. absurd (c.if-slots-eq0.false none))
    (λ some. λ i. history_of (back_part at l ys r c.write.ensures i) (c.advance.ensures i))

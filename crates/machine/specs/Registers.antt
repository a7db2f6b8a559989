-- Registers by number (document 01, "Words", its last paragraph).
-- X0 to X30 and SP are one list of 32, with SP at 31; document 01's register 32, none, is past its end.
use Rattle.std.specs.Prelude.{ℕ, cond, List, eqb, ltb, get_or, set}
use Rattle.machine.specs.State.{State, with_x}

-- register n, where 31 is SP
abbrev pub x_or_sp : List ℕ → ℕ → ℕ
x_or_sp x n = cond (ltb n 32) (get_or x n 0) 0

-- register n, where 31 reads as zero
abbrev pub x_or_zero : List ℕ → ℕ → ℕ
x_or_zero x n = cond (eqb n 31) 0 (x_or_sp x n)

-- the register n given a value; 32 is none
abbrev pub written : List ℕ → ℕ → ℕ → List ℕ
written x n v = cond (ltb n 32) (set x n v) x

-- where 31 drops writes, a destination of 31 is none
abbrev pub or_none : ℕ → ℕ
or_none n = cond (eqb n 31) 32 n

-- a write of register n, where 31 is SP
abbrev pub to_x_or_sp : ℕ → ℕ → State → State
to_x_or_sp n v s = with_x (written s.registers.x n v) s

-- a write of register n, where 31 drops it
abbrev pub to_x_or_zero : ℕ → ℕ → State → State
to_x_or_zero n v s = to_x_or_sp (or_none n) v s

-- The rows P1 to P14 of document 01, "Numbers at the edges", and one statement about them all.
use Rattle.std.specs.Prelude.{◌≡◌, ℕ, List, [], ◌∷◌, ◌++◌, replicate, slice_set}
use Rattle.bits.specs.LittleEndian.{bytes_of}
use Rattle.tag.specs.PointerTags.{tag_of}
use Rattle.machine.specs.declared.Code.{Code}
use Rattle.machine.specs.declared.Code.TheVariants.{Done, SpAlign, Align, Outside}
use Rattle.machine.specs.State.{State, state_of, with_x, with_status, with_bytes, with_tags, with_exclude, with_nzcv, with_rgsr, with_seed, fresh_settings, fresh_status}
use Rattle.machine.specs.Setup.{sound}
use Rattle.instructions.specs.WordOutcomes.{word_outcome}

-- a word on a given state, its code and the state after it
pub record Row : Type 0 where
  pub word : ℕ
  pub given : State
  pub code : Code
  pub result : State

abbrev pub row : ℕ → State → Code → State → Row
row word given code result = record { word = word; given = given; code = code; result = result }

-- base, exclude mask and registers; four granules, tags and data 0, all else as in a fresh machine
abbrev pub four_granules : ℕ → ℕ → List ℕ → State
four_granules base exclude x = state_of (with_exclude exclude (fresh_settings base)) x fresh_status (replicate 64 0) (replicate 4 0)

-- registers that are 0 but for one, or two, or three

abbrev pub one : ℕ → ℕ → List ℕ
one n v = slice_set (replicate 32 0) n v

abbrev pub two : ℕ → ℕ → ℕ → ℕ → List ℕ
two n v m w = slice_set (one n v) m w

abbrev pub three : ℕ → ℕ → ℕ → ℕ → ℕ → ℕ → List ℕ
three n v m w k u = slice_set (two n v m w) k u

-- the given state, with the result in register n
abbrev pub result_in : ℕ → ℕ → State → State
result_in n v s = with_x (slice_set s.registers.x n v) s

abbrev pub p1 : ℕ → State
p1 exclude = four_granules 0x1000 exclude (one 1 0x0200000000001000)

abbrev pub p6 : State
p6 = four_granules 0x1000 0 (one 1 0x0FFFFFFFFFFFFFF0)

abbrev pub p7 : ℕ → ℕ → State
p7 x1 x2 = four_granules 0 0 (three 0 0x0AFFFFFFFFFFFFF0 1 x1 2 x2)

-- X1 may hold anything in P8 to P10
abbrev pub x0_is : ℕ → ℕ → State
x0_is v x1 = four_granules 0x1000 0 (two 0 v 1 x1)

abbrev pub p11 : State
p11 = with_tags (7 ∷ 0 ∷ 0 ∷ 0 ∷ []) (four_granules 0x1000 0 (two 0 0x1008 1 0x0F00000000000042))

-- and X0 in P12
abbrev pub p12 : ℕ → State
p12 x0 = four_granules 0x1000 0 (two 0 x0 31 0x1008)

abbrev pub p13 : State
p13 = four_granules 0x1000 0 (two 1 0x0300000000001000 2 0x0900000000001000)

abbrev pub p14 : State
p14 = with_status (with_seed 1 fresh_status) (four_granules 0x1000 0 (one 1 0x1000))

-- the table, for any X0, X1 and X2 where the word stores them
abbrev pub rows : ℕ → ℕ → ℕ → List Row
rows x0 x1 x2 =
    row 0x91810420 (p1 0) Done (result_in 0 0x0300000000001010 (p1 0))  -- P1
    ∷ row 0x91810420 (p1 0x0008) Done (result_in 0 0x0400000000001010 (p1 0x0008))  -- P2
    ∷ row 0x91810420 (p1 0xFFFF) Done (result_in 0 0x0000000000001010 (p1 0xFFFF))  -- P3
    ∷ row 0x91800020 (p1 0x0004) Done (result_in 0 0x0300000000001000 (p1 0x0004))  -- P4
    ∷ row 0x91800420 (p1 0x0004) Done (result_in 0 0x0300000000001000 (p1 0x0004))  -- P5
    ∷ row 0x91810020 p6 Done (result_in 0 0x1F00000000000000 p6)  -- P6
    ∷ row 0x69008801 (p7 x1 x2) Done  -- P7
    (with_tags (0xB ∷ 0 ∷ 0 ∷ 0 ∷ []) (with_bytes (bytes_of x1 ++ bytes_of x2 ++ replicate 48 0) (p7 x1 x2)))
    ∷ row 0xD93FFC01 (x0_is 0x1000 x1) Outside (x0_is 0x1000 x1)  -- P8
    ∷ row 0xD9A00801 (x0_is 0x1030 x1) Outside (x0_is 0x1030 x1)  -- P9
    ∷ row 0xD9A00801 (x0_is 0x1020 x1) Done (with_tags (0 ∷ 0 ∷ tag_of x1 ∷ tag_of x1 ∷ []) (x0_is 0x1020 x1))  -- P9
    ∷ row 0xD9600801 (x0_is 0x1008 x1) Align (x0_is 0x1008 x1)  -- P10
    ∷ row 0xD9600001 p11 Done (result_in 1 0x0700000000000042 p11)  -- P11
    ∷ row 0xD9200BE0 (p12 x0) SpAlign (p12 x0)  -- P12
    ∷ row 0xBAC2003F p13 Done (with_status (with_nzcv 6 fresh_status) p13)  -- P13
    ∷ row 0x9ADF1020 p14 Done  -- P14
    (result_in 0 0x0100000000001000 (with_status (with_rgsr 1 (with_seed 0x1000 fresh_status)) p14))
    ∷ []

-- the word of a row, on its given state, has its code and its result
abbrev pub RowHolds : Row → Type 0
RowHolds r = word_outcome (sound r.given) r.word r.given ≡ record { code = r.code; state = r.result }

pub data RowsHold : List Row → Type 0 where
  none : RowsHold []
  more : {r : Row} {rs : List Row} → RowHolds r → RowsHold rs → RowsHold (r ∷ rs)

-- the statement
abbrev pub Edges : Type 0
Edges = (x0 x1 x2 : ℕ) → RowsHold (rows x0 x1 x2)

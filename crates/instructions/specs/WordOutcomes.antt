-- One word on a state: its code, and the state after it (document 01, "What each word does", "Codes and their order").
use Rattle.std.specs.Prelude.{ℕ, Bool, true, false, cond, not, List, ◌∷◌, length, Option, Some, None}
use Rattle.isa.specs.declared.TwoSourceOp.{TwoSourceOp}
use Rattle.isa.specs.declared.TwoSourceOp.TheVariants.{Subp, Subps, Irg, Gmi}
use Rattle.isa.specs.declared.Form.{Form}
use Rattle.isa.specs.declared.Form.TheVariants.{AddSub, TwoSource, Ldg, TagStore, Stgp}
use Rattle.isa.specs.Decoding.{decode_of}
use Rattle.machine.specs.declared.Code.{Code}
use Rattle.machine.specs.declared.Code.TheVariants.{Setup, Undefined}
use Rattle.machine.specs.State.{State}
use Rattle.machine.specs.Codes.{Check, check, lowest, is_done}
use Rattle.instructions.specs.Accesses.{Access, no_access, access_of, access_checks}
use Rattle.instructions.specs.RegisterWords.{add_sub, subp, subps, gmi, irg}
use Rattle.instructions.specs.MemoryWords.{ldg, tag_store, stgp}

-- what each form does

abbrev pub two_source : TwoSourceOp → ℕ → ℕ → ℕ → State → State
two_source Subp d n m s = subp d n m s
two_source Subps d n m s = subps d n m s
two_source Irg d n m s = irg d n m s
two_source Gmi d n m s = gmi d n m s

abbrev pub operation : Form → State → State
operation (AddSub op d n amount offset) s = add_sub op d n amount offset s
operation (TwoSource op d n m) s = two_source op d n m s
operation (Ldg t n amount) s = ldg t n amount s
operation (TagStore op mode t n amount) s = tag_store op mode t n amount s
operation (Stgp mode t t2 n amount) s = stgp mode t t2 n amount s

abbrev pub carried_out : Option Form → State → State
carried_out None s = s
carried_out (Some f) s = operation f s

-- when a word is refused

abbrev pub is_undefined : Option Form → Bool
is_undefined None = true
is_undefined (Some f) = false

abbrev pub access_in : Option Form → State → Access
access_in None s = no_access
access_in (Some f) s = access_of f s

-- the refusals of a word in the order of their numbers, on a setup that keeps its rules or does not
abbrev pub word_checks : Bool → Option Form → State → List Check
word_checks setup decoded s =
    check Setup (not setup)
    ∷ check Undefined (is_undefined decoded)
    ∷ access_checks s.settings.base (length s.tags) (access_in decoded s)

abbrev pub code_of : Bool → Option Form → State → Code
code_of setup decoded s = lowest (word_checks setup decoded s)

-- a code and a state
pub record Outcome : Type 0 where
  pub code : Code
  pub state : State

-- a refused word changes nothing
abbrev pub if_done : Code → State → State → Outcome
if_done code after s = record { code = code; state = cond (is_done code) after s }

-- the outcome of a word
unfoldable pub word_outcome : Bool → ℕ → State → Outcome
word_outcome setup w s = if_done (code_of setup (decode_of w) s) (carried_out (decode_of w) s) s

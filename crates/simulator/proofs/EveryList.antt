-- Every list of calls can be given with its words beside it. Assumes nothing.
use Prim.Native.Nat.{ℕ}
use mathlib.Core.Bool.{false}
use mathlib.Core.List.{List, [], ◌∷◌, ◌++◌, map}
use mathlib.Core.Path.{◌≡◌, refl, ap}
use native.Mathlib.Nat.{le_refl}
use borrow.Author.Tests.{le-ltb}
use lib.Dec.{ltb}
use lib.ListN.{length, drop, length-append, length-map}
use lib.Seq.{take-append_seam, drop-append_seam}
use Rattle.execution.specs.Calls.{Call, step_call, run_call, back_call}
use Rattle.simulator.specs.Playing.{EveryListIsPlayed, all_taken, all_words, call_of, listed, asked_as, play_result, call_words, words_taken}

-- a call as it is asked for, on its words with others behind them
record Listed (c : Call) (rest : List ℕ) : Type 0 where
  itself : call_of (asked_as c) (call_words c ++ rest) ≡ c
  behind : drop (words_taken (asked_as c)) (call_words c ++ rest) ≡ rest
  all : words_taken (asked_as c) ≡ length (call_words c)

one_listed : (c : Call) (rest : List ℕ) → Listed c rest
unfolding call_of
one_listed (step_call word) rest = record { itself = refl; behind = refl; all = refl }
one_listed (run_call words) rest =
    record { itself = ap run_call (take-append_seam words rest); behind = drop-append_seam words rest; all = refl }
one_listed back_call rest = record { itself = refl; behind = refl; all = refl }

all_listed : (list : List Call) → listed (map asked_as list) (all_words list) ≡ list
unfolding listed
all_listed [] = refl
all_listed (c ∷ cs) =
    let one = one_listed c (all_words cs) in
    rw (one.itself, one.behind, all_listed cs)

all_taken_lem : (list : List Call) → all_taken (map asked_as list) ≡ length (all_words list)
unfolding all_taken
all_taken_lem [] = refl
all_taken_lem (c ∷ cs) = rw (length-append, (one_listed c (all_words cs)).all, all_taken_lem cs)

enough : (n : ℕ) → ltb n n ≡ false
enough n = le-ltb n n (le_refl n)

pub every_list_is_played : EveryListIsPlayed
unfolding EveryListIsPlayed play_result
every_list_is_played list =
    (all_listed list, rw (length-map, all_taken_lem list, enough (length list), enough (length (all_words list))))

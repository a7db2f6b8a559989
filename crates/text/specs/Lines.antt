-- Lines of a text: a key with its '=', digits, a line feed (10) (document 01, "The session program"; docs/MANUAL.md).
use Rattle.std.specs.Prelude.{ℕ, ◌+◌, Bool, true, false, cond, ◌&&◌, List, [], ◌∷◌, ◌++◌, length, get_or, drop, leb, eqb}
use Rattle.std.specs.Prelude.{Option, None, Some}
use Rattle.text.specs.Hex.{read_hex, hex_digits, digits_text, digits_in}
use Rattle.text.specs.declared.Line.{Line}

-- whether a list begins with the key
unfoldable pub starts : List ℕ → List ℕ → Bool
starts [] l = true
starts (k ∷ ks) [] = false
starts (k ∷ ks) (b ∷ l) = cond (eqb k b) (starts ks l) false

-- whether a text is no longer than the room that a buffer has from place at on; beyond its end there is none
unfoldable pub room_for : List ℕ → ℕ → List ℕ → Bool
room_for out at t = leb (at + length t) (length out)

-- whether a key, n bytes and a line feed stand at place at
unfoldable pub framed : List ℕ → ℕ → List ℕ → ℕ → Bool
framed key n s at =
    leb (at + (length key + n + 1)) (length s) && starts key (drop at s) && eqb (get_or s (at + length key + n) 0) 10

-- a line of the number v, with the place after it
abbrev pub is_line : ℕ → ℕ → Option Line
is_line v next = Some (record { value = v; next = next })

-- a number of at most most makes a line, and a larger one, or none, makes none
unfoldable pub capped : ℕ → ℕ → Option ℕ → Option Line
capped most next (Some v) = cond (leb v most) (is_line v next) None
capped most next None = None

-- the line at place at, if one stands there: the key, n hex digits of a number of at most most, a line feed
unfoldable pub line_at : List ℕ → ℕ → ℕ → List ℕ → ℕ → Option Line
line_at key n most s at =
    cond (framed key n s at) (capped most (at + (length key + n + 1)) (read_hex n 0 (drop (at + length key) s))) None

-- the line of a number, as text
unfoldable pub line_text : List ℕ → ℕ → ℕ → List ℕ
line_text key n v = key ++ (hex_digits n v ++ (10 ∷ []))

-- the line of one digit for each byte, as text
unfoldable pub digits_line : List ℕ → List ℕ → List ℕ
digits_line key t = key ++ (digits_text t ++ (10 ∷ []))

-- the numbers of the n digits of the line at place at; none where it is no such line
unfoldable pub digits_line_at : List ℕ → ℕ → List ℕ → ℕ → Option (List ℕ)
digits_line_at key n s at =
    let digits : List ℕ = digits_in (drop (at + length key) s) in
    cond (framed key n s at && eqb (length digits) n) (Some digits) None

-- The shapes of listing lines in Arm's spelling (document 02, E1): a line is a template with its fields put in.
use Rattle.std.specs.Prelude.{ℕ, true, false, cond, List, [], ◌∷◌, ◌++◌, ltb, eqb, get_or}
use Rattle.text.specs.Ascii.{ascii}
use Rattle.templates.specs.FieldText.{decimal, amount_text, register_text}
use Rattle.templates.specs.declared.Fields.{Fields}
use Rattle.templates.specs.declared.Piece.{Piece}
use Rattle.templates.specs.declared.Piece.TheVariants.{Literal, SpRegister, ZeroRegister, Amount, TagOffset}

-- one row for each shape; a zero amount is left out in the offset form and in LDG
unfoldable pub templates : List (List ℕ)
templates =
    ascii "addg A, B, #I, #J\n" ∷ ascii "subg A, B, #I, #J\n"
    ∷ ascii "subp X, B, C\n" ∷ ascii "subps X, B, C\n" ∷ ascii "irg A, B, Z\n" ∷ ascii "gmi X, B, Z\n"
    ∷ ascii "ldg X, [B]\n" ∷ ascii "ldg X, [B, #I]\n"
    ∷ ascii "stg A, [B], #I\n" ∷ ascii "stg A, [B, #I]!\n" ∷ ascii "stg A, [B]\n" ∷ ascii "stg A, [B, #I]\n"
    ∷ ascii "stzg A, [B], #I\n" ∷ ascii "stzg A, [B, #I]!\n" ∷ ascii "stzg A, [B]\n" ∷ ascii "stzg A, [B, #I]\n"
    ∷ ascii "st2g A, [B], #I\n" ∷ ascii "st2g A, [B, #I]!\n" ∷ ascii "st2g A, [B]\n" ∷ ascii "st2g A, [B, #I]\n"
    ∷ ascii "stz2g A, [B], #I\n" ∷ ascii "stz2g A, [B, #I]!\n" ∷ ascii "stz2g A, [B]\n" ∷ ascii "stz2g A, [B, #I]\n"
    ∷ ascii "stgp X, Y, [C], #I\n" ∷ ascii "stgp X, Y, [C, #I]!\n" ∷ ascii "stgp X, Y, [C]\n" ∷ ascii "stgp X, Y, [C, #I]\n"
    ∷ []

-- the template of a row, from 0
unfoldable pub template_at : ℕ → List ℕ
template_at row = get_or templates row []

-- what a byte of a template stands for: A, B and C (65 to 67) a register whose number 31 is sp, X, Y and Z (88 to 90) one whose
-- number 31 is xzr, I (73) the amount, J (74) the tag offset, and any other byte itself
unfoldable pub piece_of : ℕ → Piece
piece_of l =
    cond (ltb l 65) Literal (cond (ltb l 68) SpRegister
    (cond (ltb l 73) Literal (cond (ltb l 74) Amount (cond (ltb l 75) TagOffset
    (cond (ltb l 88) Literal (cond (ltb l 91) ZeroRegister Literal))))))

-- A and X name the first register, B and Y the second, C and Z the third
unfoldable pub register_of : ℕ → Fields → ℕ
register_of l f =
    cond (eqb l 65) f.first (cond (eqb l 88) f.first (cond (eqb l 66) f.second (cond (eqb l 89) f.second f.third)))

unfoldable pub text_as : Piece → ℕ → Fields → List ℕ
text_as Literal l f = l ∷ []
text_as SpRegister l f = register_text false (register_of l f)
text_as ZeroRegister l f = register_text true (register_of l f)
text_as Amount l f = amount_text f.amount
text_as TagOffset l f = decimal f.offset

-- a template with its fields put in
unfoldable pub filled : List ℕ → Fields → List ℕ
filled [] f = []
filled (l ∷ t) f = text_as (piece_of l) l f ++ filled t f

-- What the session program prints (document 01, "The session program").
use Rattle.std.specs.Prelude.{ℕ, List, ◌++◌, get_or}
use Rattle.text.specs.Ascii.{ascii}
use Rattle.text.specs.Lines.{line_text, digits_line}
use Rattle.machine.specs.declared.Code.{Code}
use Rattle.machine.specs.declared.Registers.{Registers}
use Rattle.machine.specs.Codes.{code_number}
use Rattle.session_lines.specs.LineFormats.{line_for, sp_format, x0_format, x1_format, x2_format}

-- bad=, the number of the first wrong, missing, unended or extra line
unfoldable pub bad_text : ℕ → List ℕ
bad_text number = line_text (ascii "bad=") 4 number

-- done=, how many words were done, and code=
unfoldable pub answer_lines : ℕ → Code → List ℕ
answer_lines count code = line_text (ascii "done=") 4 count ++ line_text (ascii "code=") 1 (code_number code)

-- x0=, x1=, x2= and sp=, as they are read
unfoldable pub register_lines : List ℕ → List ℕ
register_lines x =
    line_for x0_format (get_or x 0 0)
    ++ (line_for x1_format (get_or x 1 0) ++ (line_for x2_format (get_or x 2 0) ++ line_for sp_format (get_or x 31 0)))

-- those lines, nzcv=, and tags= with a digit for each granule
unfoldable pub report_text : ℕ → Code → Registers → List ℕ → List ℕ
report_text count code registers tags =
    answer_lines count code
    ++ (register_lines registers.x
    ++ (line_text (ascii "nzcv=") 1 registers.status.nzcv
    ++ digits_line (ascii "tags=") tags))

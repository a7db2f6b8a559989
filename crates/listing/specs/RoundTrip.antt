-- "A line so made, line feed and all, reads back to its own word; any other spelling is refused." (document 02, E1) Proved in
-- proofs/RoundTrip.
use Rattle.std.specs.Prelude.{ℕ, ◌^◌, ◌<◌, List, ◌≡◌, Some, Ok}
use Rattle.isa.specs.Decoding.{decode_of}
use Rattle.isa.specs.declared.Form.{Form}
use Rattle.listing.specs.Lines.{line_of}
use Rattle.listing.specs.Reading.{read_of}

pub record RoundTrip : Type 0 where
  -- the line of a word is read to that word
  pub reads_back : (w : ℕ) (f : Form) → w < 2 ^ 32 → decode_of w ≡ Some f → read_of (line_of f) ≡ Ok w
  -- a text that is read is the line of the word that it is read to
  pub only_lines : (s : List ℕ) (w : ℕ) → read_of s ≡ Ok w → (f : Form) × (decode_of w ≡ Some f) × (s ≡ line_of f) × (w < 2 ^ 32)

-- Demand 2 of document 00: "Every instruction form, its fields in range, encodes to one word, and each accepted word
-- reads back to that form." Proved in proofs/RoundTrip.
use Rattle.std.specs.Prelude.{ℕ, ◌^◌, ◌<◌, ◌≡◌, true, false, Some, None}
use Rattle.isa.specs.declared.Form.{Form}
use Rattle.isa.specs.Words.{word_of}
use Rattle.isa.specs.Decoding.{decode_of}
use Rattle.isa.specs.Encoding.{fields_fit, encode_of}

pub record RoundTrip : Type 0 where
  -- a form with its fields in range encodes to its word, which has 32 bits, and which decodes to the form
  pub encodes : (f : Form) → fields_fit f ≡ true → encode_of f ≡ Some (word_of f)
  pub narrow : (f : Form) → fields_fit f ≡ true → word_of f < 2 ^ 32
  pub decodes : (f : Form) → fields_fit f ≡ true → decode_of (word_of f) ≡ Some f
  -- any other form is refused
  pub refuses : (f : Form) → fields_fit f ≡ false → encode_of f ≡ None
  -- a word that decodes to a form is the word that the form encodes to
  pub reads_back : (w : ℕ) (f : Form) → decode_of w ≡ Some f → encode_of f ≡ Some w

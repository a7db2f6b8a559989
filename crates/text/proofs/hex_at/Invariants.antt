-- `text::hex_at`: the whole reads as what is left reads behind the digits so far, which spell a number below 16 ^ b-index.
use Rattle.std.proofs.Common.{◌≡◌, ◌+◌, ◌-◌, ◌^◌, ◌<◌, drop}
use Rattle.text.specs.Hex.{read_hex}
use Rattle.text.proofs.hex_at.Given as goal

abbrev pub invariant-loop-b : goal.invariant-loop-b
invariant-loop-b l = record {
  below : l.v < 16 ^ l.b-index;
  rest : read_hex l.n 0 (drop l.at l.s) ≡ read_hex (l.n - l.b-index) l.v (drop (l.at + l.b-index) l.s);
}

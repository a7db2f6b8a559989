-- What the functions inside ask of their numbers and leave in their buffers. No notion of document 01.
use Rattle.std.specs.Prelude.{ℕ, ◌^◌, ◌≤◌, ◌<◌, List, ◌≡◌, get_or, length}
use Rattle.std.proofs.lemmas.List.Edits.{sets}

-- the numbers of the nine lines fit the places that they go to
pub record Fits (front : List ℕ) : Type 0 where
  pub granules : get_or front 1 0 ≤ 1024
  pub exclude : get_or front 3 0 < 2 ^ 16
  pub seed : get_or front 4 0 < 2 ^ 16

-- a text of r bytes, of which there are at most 1,134, was put at the start of out
pub record Printed (r : ℕ) (out after text : List ℕ) : Type 0 where
  pub count : r ≡ length text
  pub most : r ≤ 1134
  pub put : after ≡ sets out 0 text

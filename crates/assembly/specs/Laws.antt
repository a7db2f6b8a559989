-- Laws of the definitions (document 02, E1; docs/MANUAL.md, "Listings"): each is stated here, and proved in proofs/ under its name
-- (assembled_is_good, defined_is_listed, listing_is_assembled, assembled_is_listed).
use Rattle.std.specs.Prelude.{ℕ, cond, List, [], ◌∷◌, ◌++◌, ◌≡◌, length, take, drop, Ok}
use Rattle.session_lines.specs.LineFormats.{GoodNumbers, lines_from}
use Rattle.session_lines.specs.Parsing.{parsed, good as good_session}
use Rattle.assembly.specs.Assembling.{assembled, session_of}
use Rattle.assembly.specs.Listing.{defined_front, listed, listing_of}
use Rattle.assembly.specs.SourceLines.{lines_of, passed_over}

-- What is assembled are the numbers of a good session.
unfoldable pub AssembledIsGood : Type 0
AssembledIsGood = (t v : List ℕ) → assembled t ≡ Ok v → GoodNumbers v

-- A good session whose words are all defined is listed.
unfoldable pub DefinedIsListed : Type 0
DefinedIsListed =
    (s v : List ℕ) → parsed s ≡ good_session v → defined_front (drop 9 v) ≡ length (drop 9 v)
    → listed s ≡ Ok (lines_from 0 (take 9 v) ++ listing_of (drop 9 v))

-- Its listing is assembled to the session, byte for byte.
unfoldable pub ListingIsAssembled : Type 0
ListingIsAssembled = (s t : List ℕ) → listed s ≡ Ok t → session_of (assembled t) ≡ Ok s

-- the lines that count, one behind the other
unfoldable pub counted : List (List ℕ) → List ℕ
counted [] = []
counted (line ∷ lines) = cond (passed_over line) (counted lines) (line ++ counted lines)

-- What is assembled is listed as it was typed, without the lines that are passed over.
unfoldable pub AssembledIsListed : Type 0
AssembledIsListed = (t s : List ℕ) → session_of (assembled t) ≡ Ok s → listed s ≡ Ok (counted (lines_of t))

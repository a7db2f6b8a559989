-- Both round trips of a line and its word (specs/RoundTrip). Assumes nothing.
use Rattle.listing.specs.RoundTrip.{RoundTrip}
use Rattle.listing.proofs.ByMethod.{reads_own, reads_only}

pub round_trip : RoundTrip
round_trip = record { reads_back = reads_own; only_lines = reads_only }

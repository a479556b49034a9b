use Rattle.std.proofs.Common.{◌≡◌, ◌≤◌, ◌+◌, drop}
use Rattle.ae_text.specs.Tokens.{spot_after}
use Rattle.ae_text.proofs.scan.advance.Given as goal

abbrev pub invariant-loop-b : goal.invariant-loop-b
invariant-loop-b l = (spot_after l.spot (drop l.b-index l.bytes) ≡ spot_after l.fn.spot l.bytes)
    × (l.spot.line ≤ l.fn.spot.line + l.b-index) × (l.spot.col ≤ l.fn.spot.col + l.b-index)

-- What a caller does with the result of a call.
use Rattle.std.specs.Prelude.{Option, None, Some}
use Rattle.ae_semantics.specs.Values.{Val}
use Rattle.ae_semantics.specs.Places.{Outcome, Fine, ◌>>=◌, there, State, bind}
use Rattle.ae_semantics.specs.Calls.{leave}
use Rattle.ae_semantics.specs.Stacks.{ResultPlace}
use Rattle.ae_tree.specs.Plain.{Code, Invocation}
use Rattle.ae_frames.specs.Entries.{frame_of}
use Rattle.ae_levels.specs.Levels.{OpenCall}

-- the result goes where it is wanted
abbrev pub received : Option ResultPlace → Option Val → State → Outcome State
received None r s = Fine s
received (Some place) r s = there r >>= λ v. bind place.name place.form v s

-- what a call that comes back leaves to its caller
abbrev pub back_received : Code → Invocation → OpenCall → State → Outcome State
back_received p i o s = leave (frame_of p o.here o.entry) i o.before s >>= received o.place s.result

use Rattle.std.proofs.Common.{ap}
use Rattle.ae_semantics.specs.Places.{◌>>=◌, open_place, Outcome, PlaceFound, reach}
use Rattle.ae_judge.specs.Tabled.{code_of}
use Rattle.ae_reads.specs.Answers.{state_seen}
use Rattle.ae_reads.specs.Views.{place_at}
use Rattle.ae_reads.proofs.WalkLemmas.{faults_equal}
use Rattle.ae_reads.proofs.walks.reach.Goals as goal

pub returns : goal.returns
returns c =
    let p = code_of c.args.tabled.now in
    let s = state_seen c.args.env.now in
    let w = c.in_ok-place.ensures in
    faults_equal (reach p s c.args.path.now) (open_place p s (place_at w.0 c.in_ok-place.place)) c.in-Err.stop
    (ap (λ (o : Outcome PlaceFound). o >>= open_place p s) w.1) (c.in-Err.ensures w.0)

use Rattle.ae_scope.specs.Scope.{context_of}
use Rattle.ae_judge.specs.Tabled.{code_of}
use Rattle.ae_judge.specs.Views.{place_of}
use Rattle.ae_uses.proofs.PathLemmas.{write_adds_three}
use Rattle.ae_uses.proofs.paths.write_used.Goals as goal

pub returns-in_ok-root_written-in-Some : goal.returns-in_ok-root_written-in-Some
returns-in_ok-root_written-in-Some c =
    write_adds_three (code_of c.args.tabled.now) (context_of c.args.scope.now) _ (place_of c.in-Some.place)
    c.args.used.now c.walk_used.new.used c.reaches.new.self c.root_written.new.used
    (rw c.in-Some.is at c.in_ok-place.ensures.place) c.in_ok-place.ensures.uses c.in_ok-reaches-in-Some.ensures
    c.in_ok-root_written-in-Some.ensures

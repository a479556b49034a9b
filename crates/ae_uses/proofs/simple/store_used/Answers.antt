use Rattle.ae_scope.specs.Scope.{context_of}
use Rattle.ae_judge.specs.Tabled.{code_of}
use Rattle.ae_judge.specs.Views.{place_of}
use Rattle.ae_rules.specs.Walks.{walk}
use Rattle.ae_uses.proofs.PathLemmas.{adds_no_more_of_broken, nothing_given_where_refused}
use Rattle.ae_uses.proofs.simple.store_used.Goals as goal

pub returns-in-None : goal.returns-in-None
returns-in-None c =
    let v = walk (code_of c.args.tabled.now) (context_of c.args.scope.now) c.args.path.now in
    adds_no_more_of_broken v _ c.args.used.now c.owner_written.new.used _
    (nothing_given_where_refused v place_of c.walk.result c.walk.ensures
    (rw c.in-None.is at c.in_ok-place.ensures.held))
    c.in_ok-owner_written.ensures

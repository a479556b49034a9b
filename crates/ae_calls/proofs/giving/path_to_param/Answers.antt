use Rattle.std.proofs.Common.{sym}
use Rattle.ae_scope.specs.Scope.{context_of}
use Rattle.ae_judge.specs.Tabled.{code_of}
use Rattle.ae_judge.specs.Views.{place_of}
use Rattle.ae_calls.specs.Roots.{roots_of}
use Rattle.ae_calls.proofs.GivenLemmas.{root_is_used_twice}
use Rattle.ae_calls.proofs.giving.path_to_param.Goals as goal

pub returns-in-Err : goal.returns-in-Err
returns-in-Err c = root_is_used_twice (code_of c.args.tabled.now) (context_of c.args.scope.now) c.args.slot.perm
    c.args.slot.kind.now c.args.slot.away c.args.path.now c.args.at (roots_of c.args.roots.now)
    (roots_of c.root_apart.new.self) (place_of c.in_ok-place.place) c.is_same_perm.result c.in-Err.fail
    c.in_ok-place.ensures (sym c.if-not-is_object_of.ensures) c.is_same_perm.ensures c.in-Err.ensures

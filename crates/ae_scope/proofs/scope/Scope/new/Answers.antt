use Rattle.ae_scope.proofs.TrailLemmas.{none_are_listed, nothing_has_risen}
use Rattle.ae_scope.proofs.scope.Scope.new.Goals as goal

pub invariant_of-result-clause-listed : goal.invariant_of-result-clause-listed
invariant_of-result-clause-listed c =
    none_are_listed c.in_ok-groups.groups c.new-3.result.items c.in_ok-groups.ensures.groups

pub invariant_of-result-clause-rising : goal.invariant_of-result-clause-rising
invariant_of-result-clause-rising c = nothing_has_risen c.new-5.result.items c.in_ok-groups.groups.perms.items
    c.new-5.ensures.items

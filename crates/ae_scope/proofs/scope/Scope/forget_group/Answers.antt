use Rattle.std.proofs.Common.{arith, ◌<◌, length, None, ap, ◌∙◌}
use Rattle.std.proofs.lemmas.List.{length-set}
use Rattle.ae_scope.proofs.TrailLemmas.{listed_without_last, nothing_has_risen}
use Rattle.ae_scope.proofs.scope.Scope.forget_group.Goals as goal

pub invariant_of-self : goal.invariant_of-self
invariant_of-self c =
    let s = c.args.self.now in
    let w : c.in-Some.name < length s.groups.perms.items = omega (arith, s.groups.perms.ok.0) in
    record {
      tied = s.tied;
      listed = listed_without_last s.groups.perms.items c.set.new.self.perms.items c.pop.new.self.items s.known.items
          c.in-Some.name c.in-Some.ensures.items c.set.ensures.items w s.listed;
      rising = nothing_has_risen s.group_trail.items c.set.new.self.perms.items c.requires;
      sized = ap length c.set.ensures.items ∙ length-set s.groups.perms.items c.in-Some.name None ∙ s.sized;
    }

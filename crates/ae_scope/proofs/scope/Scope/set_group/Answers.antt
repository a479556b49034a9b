use Rattle.std.proofs.Common.{Some, length, refl, ap, ◌∙◌}
use Rattle.std.proofs.lemmas.List.{length-set}
use Rattle.ae_groups.specs.Contexts.{known_groups}
use Rattle.ae_scope.proofs.TrailLemmas.{listed_as_set, rising_after_noted, noted_as_before}
use Rattle.ae_scope.proofs.RegroupLemmas.{regrouped_as_set}
use Rattle.ae_scope.proofs.GrowLemmas.{grows_regrouped}
use Rattle.ae_scope.proofs.scope.Scope.set_group.Goals as goal

pub invariant_of-self-2 : goal.invariant_of-self-2
invariant_of-self-2 c =
    let s = c.args.self.now in
    record {
      tied = s.tied;
      listed = listed_as_set s.groups.perms.items c.set.new.self.perms.items s.known.items c.args.name
          (Some c.args.perm) c.set.ensures.items c.requires.listed s.listed;
      rising = rising_after_noted s.group_trail.items c.push.new.self.items s.groups.perms.items c.set.new.self.perms.items
          c.args.name c.args.perm
          (noted_as_before s.group_trail.items c.push.new.self.items s.groups.perms.items c.args.name c.perm-before.result
          c.in_ok-push.ensures.items c.perm-before.ensures) c.set.ensures.items c.requires.within s.rising;
      sized = ap length c.set.ensures.items
          ∙ length-set s.groups.perms.items c.args.name (Some c.args.perm) ∙ s.sized;
    }

pub returns-clause-context : goal.returns-clause-context
returns-clause-context c = regrouped_as_set c.args.self.now (known_groups c.set.new.self) c.args.name c.args.perm
    c.set.ensures.groups

pub returns-clause-grows : goal.returns-clause-grows
returns-clause-grows c =
    let s = c.args.self.now in
    grows_regrouped s _ c.args.name (Some c.args.perm) refl refl
    (noted_as_before s.group_trail.items c.push.new.self.items s.groups.perms.items c.args.name c.perm-before.result
    c.in_ok-push.ensures.items c.perm-before.ensures) c.set.ensures.items refl

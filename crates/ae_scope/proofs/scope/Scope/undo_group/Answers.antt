use Rattle.std.proofs.Common.{arith, ◌<◌, ◌≤◌, length, sym, ap, refl, ◌∙◌}
use Rattle.std.proofs.lemmas.List.{length-set, set_past}
use Rattle.ae_scope.proofs.TrailLemmas.{groups_undone, listed_undone, rising_after_undone}
use Rattle.ae_scope.proofs.scope.Scope.undo_group.Goals as goal

pub invariant_of-self : goal.invariant_of-self
invariant_of-self c =
    let s = c.args.self.now in
    let x = c.in-Some.change in
    let w : x.name < length s.groups.perms.items = omega (arith, s.groups.perms.ok.0) in
    record {
      tied = s.tied;
      listed = listed_undone s.group_trail.items c.pop.new.self.items x s.groups.perms.items
          c.set.new.self.perms.items s.known.items c.unlist.new.known.items c.in-Some.ensures.items c.set.ensures.items
          w s.rising c.unlist.ensures.others c.unlist.ensures.same s.listed;
      rising = rising_after_undone s.group_trail.items c.pop.new.self.items x s.groups.perms.items
          c.set.new.self.perms.items c.in-Some.ensures.items c.set.ensures.items s.rising;
      sized = ap length c.set.ensures.items ∙ length-set s.groups.perms.items _ _ ∙ s.sized;
    }

pub invariant_of-self-else-change-len : goal.invariant_of-self-else-change-len
invariant_of-self-else-change-len c =
    let s = c.args.self.now in
    let x = c.in-Some.change in
    let l : length s.groups.perms.items ≤ x.name = omega (arith, s.groups.perms.ok.0) in
    record {
      tied = s.tied;
      listed = s.listed;
      rising = rising_after_undone s.group_trail.items c.pop.new.self.items x s.groups.perms.items s.groups.perms.items
          c.in-Some.ensures.items (sym (set_past s.groups.perms.items x.name x.before l)) s.rising;
      sized = s.sized;
    }

pub returns-then-change-len-clause-groups : goal.returns-then-change-len-clause-groups
returns-then-change-len-clause-groups c =
    let s = c.args.self.now in
    groups_undone s.group_trail.items c.pop.new.self.items c.pop.new.self.items c.in-Some.change
    s.groups.perms.items c.set.new.self.perms.items c.in-Some.ensures.items refl c.set.ensures.items

pub returns-else-change-len-clause-groups : goal.returns-else-change-len-clause-groups
returns-else-change-len-clause-groups c =
    let s = c.args.self.now in
    let x = c.in-Some.change in
    let l : length s.groups.perms.items ≤ x.name = omega (arith, s.groups.perms.ok.0) in
    groups_undone s.group_trail.items c.pop.new.self.items c.pop.new.self.items x s.groups.perms.items
    s.groups.perms.items c.in-Some.ensures.items refl (sym (set_past s.groups.perms.items x.name x.before l))

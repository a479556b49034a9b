use Rattle.std.proofs.Common.{◌≡◌, drop, length}
use Rattle.ae_tree.specs.Form.{bare_names}
use Rattle.ae_rules.specs.Lookups.{has_name}
use Rattle.ae_rules.specs.Groups.{with_all}
use Rattle.ae_groups.specs.Contexts.{known_groups}
use Rattle.ae_groups.proofs.context.GroupContext.set_all.Given as goal

-- the rest of the groups change from here as all do from the beginning
abbrev pub invariant-loop-g : goal.invariant-loop-g
invariant-loop-g l = record {
  rest : with_all (has_name (bare_names l.gs)) l.perm (known_groups l.initial.self)
      ≡ with_all (has_name (bare_names (drop l.g-index l.gs))) l.perm (known_groups l.self);
  table : length l.self.perms.items ≡ length l.initial.self.perms.items;
}

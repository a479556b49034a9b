use Rattle.std.proofs.Common.{◌≡◌, drop, length}
use Rattle.ae_tree.specs.Form.{bare_names}
use Rattle.ae_groups.specs.Contexts.{known_groups, with_needed}
use Rattle.ae_groups.proofs.context.GroupContext.know_all.Given as goal

-- the rest of the groups become known from here as all do from the beginning
abbrev pub invariant-loop-group : goal.invariant-loop-group
invariant-loop-group l = record {
  rest : with_needed l.needs (bare_names l.groups) (known_groups l.initial.self)
      ≡ with_needed l.needs (bare_names (drop l.group-index l.groups)) (known_groups l.self);
  table : length l.self.perms.items ≡ length l.initial.self.perms.items;
}

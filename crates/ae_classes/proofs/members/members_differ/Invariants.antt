use Rattle.std.proofs.Common.{◌≡◌, ◌<◌, ℕ, nat_eq, length, drop, Some, slice_get}
use Rattle.std.specs.Prelude.{option_map}
use Rattle.indexmap.specs.IndexMap.{get}
use Rattle.ae_tree.specs.declared.tree.Class.{Class}
use Rattle.ae_tree.specs.Shown.{code}
use Rattle.ae_rules.specs.Verdict.{each}
use Rattle.ae_rules.specs.Lookups.{member_called}
use Rattle.ae_rules.specs.Table.{members_differ}
use Rattle.ae_classes.proofs.members.members_differ.Given as goal

abbrev pub invariant-loop-class : goal.invariant-loop-class
invariant-loop-class l = record {
  rest : each (members_differ (code l.program)) l.program.classes
      ≡ each (members_differ (code l.program)) (drop l.class-index l.program.classes);
  count : length l.members ≡ l.class-index;
  found : (n x : ℕ) (c : Class) → n < l.class-index → slice_get l.program.classes n ≡ Some c
      → option_map (λ m. get nat_eq m x) (slice_get l.members n) ≡ Some (member_called (code l.program) c x);
}

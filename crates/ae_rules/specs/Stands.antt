-- When a class table stands for a program: it has the declared classes, top-level methods and members.
use Rattle.std.specs.Prelude.{◌≡◌, ℕ, nat_eq, Some, length, slice_get, option_map}
use Rattle.indexmap.specs.IndexMap.{get}
use Rattle.ae_tree.specs.declared.tree.Class.{Class}
use Rattle.ae_rules.specs.declared.table.ClassTable.{ClassTable}
use Rattle.ae_tree.specs.Plain.{Code}
use Rattle.ae_rules.specs.Lookups.{class_at, class_number, top_number, member_called}

pub record StandsFor (t : ClassTable) (p : Code) : Type 0 where
  pub classes : (x : ℕ) → get nat_eq t.classes x ≡ class_number p x
  pub tops : (x : ℕ) → get nat_eq t.tops x ≡ top_number p x
  pub count : length t.members ≡ length p.classes
  pub members : (n x : ℕ) (c : Class) → class_at p n ≡ Some c
      → option_map (λ m. get nat_eq m x) (slice_get t.members n) ≡ Some (member_called p c x)

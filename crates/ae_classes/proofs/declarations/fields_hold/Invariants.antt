use Rattle.std.proofs.Common.{◌≡◌, drop}
use Rattle.ae_tree.specs.Shown.{code}
use Rattle.ae_rules.specs.Verdict.{each}
use Rattle.ae_rules.specs.Lookups.{has_name}
use Rattle.ae_rules.specs.Table.{field_holds}
use Rattle.ae_classes.proofs.declarations.fields_hold.Given as goal

abbrev pub invariant-loop-field : goal.invariant-loop-field
invariant-loop-field l = each (field_holds (code l.program) (has_name l.known)) l.fields
    ≡ each (field_holds (code l.program) (has_name l.known)) (drop l.field-index l.fields)

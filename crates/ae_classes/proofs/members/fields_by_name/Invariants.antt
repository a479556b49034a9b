use Rattle.std.proofs.Common.{◌≡◌, ℕ, nat_eq, length, drop, take}
use Rattle.indexmap.specs.IndexMap.{get, keys, IsUnique}
use Rattle.ae_text.specs.declared.refusal.Rule.TheVariants as rule
use Rattle.ae_rules.specs.Verdict.{in_turn}
use Rattle.ae_rules.specs.Table.{is_new, no_names}
use Rattle.ae_classes.specs.Named.{named_in, AreSmall}
use Rattle.ae_classes.specs.Classes.{field_names, field_among}
use Rattle.ae_classes.proofs.members.fields_by_name.Given as goal

abbrev pub invariant-loop-place : goal.invariant-loop-place
invariant-loop-place l = record {
  rest : in_turn (is_new rule.DuplicateMember) (field_names l.fields) no_names
      ≡ in_turn (is_new rule.DuplicateMember) (field_names (drop l.place l.fields)) (named_in l.members);
  found : (x : ℕ) → get nat_eq l.members x ≡ field_among (take l.place l.fields) x;
  count : length (keys l.members) ≡ l.place;
  small : AreSmall l.members;
  unique : IsUnique nat_eq l.members;
}

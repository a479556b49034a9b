use Rattle.std.proofs.Common.{◌≡◌, ℕ, nat_eq, drop, take}
use Rattle.std.specs.Option.{option_or}
use Rattle.indexmap.specs.IndexMap.{get}
use Rattle.ae_text.specs.declared.refusal.Rule.TheVariants as rule
use Rattle.ae_tree.specs.Shown.{code}
use Rattle.ae_rules.specs.Verdict.{in_turn}
use Rattle.ae_rules.specs.Table.{is_new}
use Rattle.ae_classes.specs.Named.{named_in}
use Rattle.ae_classes.specs.Classes.{method_names, method_among}
use Rattle.ae_classes.proofs.members.put_methods.Given as goal

abbrev pub invariant-loop-number : goal.invariant-loop-number
invariant-loop-number l = record {
  rest : in_turn (is_new rule.DuplicateMember) (method_names (code l.program) l.numbers) (named_in l.initial.members)
      ≡ in_turn (is_new rule.DuplicateMember) (method_names (code l.program) (drop l.number-index l.numbers))
      (named_in l.members);
  found : (x : ℕ) → get nat_eq l.members x ≡ option_or (get nat_eq l.initial.members x)
      (method_among (code l.program) (take l.number-index l.numbers) x);
}

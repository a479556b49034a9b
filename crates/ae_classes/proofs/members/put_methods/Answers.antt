use Rattle.std.proofs.Common.{refl, get_or}
use Rattle.ae_text.specs.declared.refusal.Rule.TheVariants as rule
use Rattle.ae_tree.specs.Shown.{code}
use Rattle.ae_rules.specs.Verdict.{in_turn}
use Rattle.ae_rules.specs.Table.{is_new}
use Rattle.ae_classes.specs.Named.{named_in}
use Rattle.ae_classes.specs.Classes.{method_names}
use Rattle.ae_classes.proofs.ClauseLemmas.{one_method_more, number_of_one_more}
use Rattle.ae_classes.proofs.members.put_methods.Goals as goal

pub loop-number-preserved : goal.loop-number-preserved
loop-number-preserved c =
    let p = code c.args.program.now in
    let numbers = c.args.numbers.now in
    let i = c.loop-number.number-index in
    let k = get_or numbers i 0 in
    record {
      rest = one_method_more p numbers i k
          (in_turn (is_new rule.DuplicateMember) (method_names p numbers) (named_in c.args.members.now))
          (named_in c.loop-number.members) (named_in c.put_method.new.members) c.loop-number-test.true refl
          c.loop-number.invariant.rest c.in_ok-put_method.ensures.answer;
      found = number_of_one_more p numbers i k c.args.members.now c.loop-number.members c.put_method.new.members
          c.loop-number-test.true refl c.in_ok-put_method.ensures.gives c.loop-number.invariant.found;
    }

use Rattle.std.proofs.Common.{ap, sym, subst, ◌∙◌, ◌+◌, ℕ, drop}
use Rattle.ae_text.specs.declared.refusal.Rule.TheVariants as rule
use Rattle.ae_rules.specs.declared.table.Member.{Member}
use Rattle.ae_rules.specs.declared.table.Member.TheVariants as member
use Rattle.ae_rules.specs.Verdict.{in_turn}
use Rattle.ae_rules.specs.Table.{is_new, no_names}
use Rattle.ae_classes.specs.Named.{named_in, HasOneMore}
use Rattle.ae_classes.specs.Classes.{field_names}
use Rattle.ae_classes.proofs.TurnLemmas.{one_turn_more, element_and_rest}
use Rattle.ae_classes.proofs.MapLemmas.{one_more_name_is_there, one_more_name_counts}
use Rattle.ae_classes.proofs.ClauseLemmas.{new_name_joins, place_of_one_more}
use Rattle.ae_classes.proofs.members.fields_by_name.Goals as goal

pub loop-place-preserved : goal.loop-place-preserved
loop-place-preserved c =
    let fields = c.args.fields.now in
    let i = c.loop-place.place in
    let d = c.index-fields-place.result in
    let m = c.loop-place.members in
    let n = c.put.new.names in
    let P : ℕ → Type 0 = λ k. HasOneMore {V = Member} d.name.name (member.Field k) m n in
    let more : HasOneMore {V = Member} d.name.name (member.Field i) m n =
    subst P c.field_number-number.ensures c.in_ok-put.ensures.put in
    record {
      rest = one_turn_more (is_new rule.DuplicateMember) d.name (field_names (drop (i + 1) fields))
          (field_names (drop i fields)) (in_turn (is_new rule.DuplicateMember) (field_names fields) no_names)
          (named_in m)
          (named_in n) (ap field_names
          (sym (element_and_rest fields i d c.loop-place-test.true c.index-fields-place.is)))
          c.loop-place.invariant.rest
          (new_name_joins rule.DuplicateMember d.name (named_in m) (named_in n) c.in_ok-unless_named.ensures
          (one_more_name_is_there m n d.name.name (member.Field i) more));
      found = place_of_one_more fields i d m n c.loop-place-test.true c.index-fields-place.is more
          c.loop-place.invariant.found;
      count = one_more_name_counts m n d.name.name (member.Field i) more
          ∙ ap (λ k. k + 1) c.loop-place.invariant.count;
      small = c.in_ok-put.ensures.small c.loop-place.invariant.small;
      unique = more.unique;
    }

use Rattle.ae_tree.specs.declared.form.Perm.TheVariants as perm
use Rattle.ae_semantics.specs.Values.{Member}
use Rattle.ae_values.specs.Shown.{shown, shown_tree}
use Rattle.ae_reads.specs.Answers.{state_seen}
use Rattle.ae_reads.specs.Views.{opened_at}
use Rattle.ae_reads.proofs.OpenLemmas.{answers_equal, opened_as, own_opened}
use Rattle.ae_reads.proofs.places.open_value.Goals as goal

pub returns-in-Ref : goal.returns-in-Ref
returns-in-Ref c = λ p known at. answers_equal _ _ (opened_at at c.args.kind.now) c.open_member.result
    (opened_as p (state_seen c.args.env.now) c.args.kind.now at c.args.perm
    (perm.Shared c.in-Shared.group) (shown c.args.value.now) (Member c.in-Ref.number) c.in-Shared.is c.in-Ref.ensures)
    (c.open_member.ensures p known at)

pub returns-in-Object : goal.returns-in-Object
returns-in-Object c = λ p known at. answers_equal _ _ (opened_at at c.args.kind.now) c.of_kind.result
    (own_opened p (state_seen c.args.env.now) c.args.kind.now at c.args.perm
    (shown c.args.value.now) (shown_tree c.in-Object.tree.object.now) c.in-Unique.is c.in-Object.ensures)
    (c.of_kind.ensures p known at)

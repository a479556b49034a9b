use Rattle.std.proofs.Common.{None}
use Rattle.ae_semantics.specs.Places.{members, group_of}
use Rattle.ae_values.specs.Shown.{shown_tree}
use Rattle.ae_reads.specs.Answers.{one_name, state_seen}
use Rattle.ae_reads.specs.Views.{opened_at}
use Rattle.ae_reads.proofs.OpenLemmas.{answers_equal, member_found, no_member, no_group}
use Rattle.ae_reads.proofs.places.open_member.Goals as goal

pub returns-in-Some-get : goal.returns-in-Some-get
returns-in-Some-get c = λ p known at. answers_equal _ _ (opened_at at c.args.kind.now) c.of_kind.result
    (member_found p c.args.kind.now c.args.member.group c.args.member.number
    (members (group_of (state_seen c.args.env.now) c.args.member.group)) c.in-Some.members.now
    (shown_tree c.in-Some-get.object.now) (c.in-Some.ensures one_name None) c.in-Some-get.ensures.tree)
    (c.of_kind.ensures p known at)

pub returns-in-None-get : goal.returns-in-None-get
returns-in-None-get c = λ p known at. no_member p c.args.kind.now c.args.member.group c.args.member.number
    (members (group_of (state_seen c.args.env.now) c.args.member.group)) c.in-Some.members.now
    (c.in-Some.ensures one_name None) c.in-None-get.ensures.tree

pub returns-in-None : goal.returns-in-None
returns-in-None c = λ p known at. no_group p c.args.kind.now c.args.member.group c.args.member.number
    (members (group_of (state_seen c.args.env.now) c.args.member.group)) (c.in-None.ensures one_name None)

use Rattle.std.proofs.Common.{ap}
use Rattle.std.specs.Prelude.{None}
use Rattle.ae_semantics.specs.Places.{State}
use Rattle.ae_reads.specs.Answers.{one_name}
use Rattle.ae_frames.proofs.from_stores.EmptyLemmas.{emptied_is_seen}
use Rattle.ae_frames.proofs.taking.take_value.Goals as goal

pub returns-clause-locals : goal.returns-clause-locals
returns-clause-locals c = ap (λ (s : State). s.locals)
    (emptied_is_seen one_name None c.args.env.now c.take-value.new.self c.args.back.name c.take-value.ensures.left)

pub returns-clause-groups : goal.returns-clause-groups
returns-clause-groups c = ap (λ (s : State). s.groups)
    (emptied_is_seen one_name None c.args.env.now c.take-value.new.self c.args.back.name c.take-value.ensures.left)

use Rattle.std.proofs.Common.{sym, subst}
use Rattle.ae_reads.specs.Answers.{ReadsAs}
use Rattle.ae_running.specs.Seen.{seen}
use Rattle.ae_semantics.specs.Places.{Outcome, State}
use Rattle.ae_machine.specs.Tasks.{names_in}
use Rattle.ae_machine.proofs.ReceiveLemmas.{new_received}
use Rattle.ae_machine.proofs.receiving.receive.Goals as goal

pub returns-in-Ok-clause-done : goal.returns-in-Ok-clause-done
returns-in-Ok-clause-done c = subst (λ (o : Outcome State). ReadsAs o (λ done. seen c.declare.new.run) c.declare.result)
    (sym (new_received (names_in c.args.run.now) c.args.target c.in-New.ty c.in-New.name c.args.returned c.in-Some.value
    c.in-Ok.form (seen c.args.run.now) c.in-New.is c.in-Some.is c.in-Ok.ensures))
    c.declare.ensures.done

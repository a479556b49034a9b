use Rattle.std.proofs.Common.{ap, ◌∙◌}
use Rattle.ae_frames.specs.Shown.{got_of}
use Rattle.ae_frames.proofs.LentLemmas.{got_one_more}
use Rattle.ae_frames.proofs.lending.Lending.add.Goals.{in-Ok-push, in-Err-push}
use Rattle.ae_frames.proofs.lending.Lending.add.Goals as goal

pub returns-clause-got : goal.returns-clause-got
returns-clause-got c = elim c.match-push.branch [
  | in-Ok-push w ↦ rw w.result-is (ap got_of w.in-Ok-push.ensures.items ∙ got_one_more c.args.self.now.granted.items _)
  | in-Err-push w ↦ rw w.result-is tt
]

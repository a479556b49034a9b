use Rattle.std.proofs.Common.{sym}
use Rattle.ae_judge.proofs.FormLemmas.{lengths_tell_apart}
use Rattle.ae_judge.proofs.forms.is_same_names.Goals as goal

pub returns-then-a-b : goal.returns-then-a-b
returns-then-a-b c = sym (lengths_tell_apart c.args.a.now c.args.b.now c.if-a-b.true)

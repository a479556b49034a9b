use Rattle.std.proofs.Common.{option_map, ap, sym, ◌∙◌}
use Rattle.ae_values.specs.Shown.{shown}
use Rattle.ae_semantics.specs.Places.{write_in}
use Rattle.ae_reads.specs.Answers.{one_name}
use Rattle.ae_reads.specs.Views.{base_of}
use Rattle.ae_running.specs.Seen.{seen}
use Rattle.ae_stores.proofs.places.write.Goals as goal

pub returns-in-Member-clause-meant : goal.returns-in-Member-clause-meant
returns-in-Member-clause-meant c = λ s e.
    c.write_member.ensures.meant one_name (option_map shown c.args.run.now.result) s
    (ap (λ b. write_in (seen c.args.run.now) (base_of b) c.args.fields.now (shown c.args.new)) (sym c.in-Member.is) ∙ e)

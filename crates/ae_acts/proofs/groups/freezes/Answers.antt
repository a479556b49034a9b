use Rattle.std.proofs.Common.{◌∙◌, ap, sym}
use Rattle.std.specs.Prelude.{option_map}
use Rattle.ae_tree.specs.declared.form.Perm.TheVariants as perm
use Rattle.ae_semantics.specs.Places.{Fine}
use Rattle.ae_values.specs.Shown.{shown}
use Rattle.ae_running.specs.Seen.{seen}
use Rattle.ae_acts.proofs.ChangeLemmas.{local_permitted}
use Rattle.ae_acts.proofs.ShareLemmas.{frozen_there}
use Rattle.ae_acts.proofs.groups.freezes.Goals as goal

pub returns-in-Some-clause-done : goal.returns-in-Some-clause-done
returns-in-Some-clause-done c =
    frozen_there (seen c.args.run.now) c.args.name c.in-Some.field-0 c.in-Some.ensures
    ∙ ap Fine (sym (local_permitted (option_map shown c.args.run.now.result) c.args.run.now.env c.set_perm.new.self
    c.args.name perm.Immutable c.set_perm.ensures.bound))

use Rattle.std.proofs.Common.{◌∙◌, ap, sym}
use Rattle.std.specs.Prelude.{option_map}
use Rattle.ae_tree.specs.declared.form.Perm.TheVariants as perm
use Rattle.ae_semantics.specs.Places.{Fine}
use Rattle.ae_values.specs.Shown.{shown}
use Rattle.ae_running.specs.Seen.{seen}
use Rattle.ae_acts.proofs.ChangeLemmas.{local_permitted}
use Rattle.ae_acts.proofs.ShareLemmas.{null_shared_here, shared_away}
use Rattle.ae_acts.proofs.groups.share_null.Goals as goal

pub returns-then-is_here-clause-done : goal.returns-then-is_here-clause-done
returns-then-is_here-clause-done c =
    null_shared_here (seen c.args.run.now) c.args.name c.args.group (sym c.requires)
    (sym c.is_here.ensures ∙ c.if-is_here.true)
    ∙ ap Fine (sym (local_permitted (option_map shown c.args.run.now.result) c.args.run.now.env c.set_perm.new.self
    c.args.name (perm.Shared c.args.group) c.set_perm.ensures.bound))

pub returns-else-is_here-clause-done : goal.returns-else-is_here-clause-done
returns-else-is_here-clause-done c = shared_away (seen c.args.run.now) c.args.name c.args.group
    (sym c.is_here.ensures ∙ c.if-is_here.false)

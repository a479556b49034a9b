use Rattle.std.proofs.Common.{◌∙◌, ap, sym, option_map, None, Some}
use Rattle.std.specs.Option.{option_copied}
use Rattle.ae_values.specs.Shown.{shown}
use Rattle.ae_reads.specs.Answers.{one_name}
use Rattle.ae_running.specs.Seen.{seen}
use Rattle.ae_frames.proofs.PlaceLemmas.{member_by_store}
use Rattle.ae_frames.proofs.restoring.member_there.Goals as goal

pub returns-in-Some : goal.returns-in-Some
returns-in-Some c = c.has_member.ensures
    ∙ sym (member_by_store (seen c.args.run.now) c.args.member.group c.args.member.number (Some c.in-Some.store.now)
    (ap option_copied (sym c.in-Some.is) ∙ c.store.ensures one_name (option_map shown c.args.run.now.result)))

pub returns-in-None : goal.returns-in-None
returns-in-None c = sym (member_by_store (seen c.args.run.now) c.args.member.group c.args.member.number None
    (ap option_copied (sym c.in-None.is) ∙ c.store.ensures one_name (option_map shown c.args.run.now.result)))

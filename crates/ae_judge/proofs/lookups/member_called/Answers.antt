use Rattle.ae_judge.proofs.from_text.Basics.{option_holds_one}
use Rattle.ae_judge.proofs.lookups.member_called.Goals as goal

pub returns : goal.returns
returns c = option_holds_one _ _ _ c.member.ensures
    (c.args.tabled.now.stands.members c.args.class.number c.args.name c.args.class.class.now c.requires)

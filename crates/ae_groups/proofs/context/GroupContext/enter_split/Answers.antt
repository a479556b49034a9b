use Rattle.ae_groups.proofs.PermLemmas.{known_are_named}
use Rattle.ae_groups.proofs.TurnLemmas.{split_are_known}
use Rattle.ae_groups.specs.Contexts.{known_groups}
use Rattle.ae_groups.proofs.context.GroupContext.enter_split.Goals as goal

pub set_all-requires : goal.set_all-requires
set_all-requires c = known_are_named c.args.self.now c.args.gs.now
    (split_are_known (known_groups c.args.self.now) c.args.gs.now _ c.in_ok-may_split.ensures)

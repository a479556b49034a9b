use Rattle.ae_groups.specs.Contexts.{known_groups, set_of_names}
use Rattle.ae_groups.proofs.TurnLemmas.{split_next_holds}
use Rattle.ae_groups.proofs.context.GroupContext.may_split_next.Goals as goal

pub returns : goal.returns
returns c = split_next_holds (known_groups c.args.self.now) c.args.g (set_of_names c.args.earlier.now)
    (set_of_names c.note.new.names) (cc) (cc) (cc) c.in_ok-note.ensures

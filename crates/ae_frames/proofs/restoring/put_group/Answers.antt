use Rattle.std.proofs.Common.{refl, option_map}
use Rattle.ae_values.specs.Environments.{running_binds}
use Rattle.ae_values.specs.Shown.{shown}
use Rattle.ae_frames.proofs.GroupLemmas.{group_is_put, group_stands, groups_are_shaped_alike}
use Rattle.ae_frames.proofs.restoring.put_group.Goals as goal

pub returns-clause-meant : goal.returns-clause-meant
returns-clause-meant c = group_is_put (option_map shown c.args.run.now.result) c.args.run.now.env c.replace.new.self
    c.args.returned.holder c.args.returned.bound c.requires c.args.returned.grouped c.replace.ensures.bound

pub returns-clause-keeps : goal.returns-clause-keeps
returns-clause-keeps c =
    let e = c.args.run.now.env in
    let h = c.args.returned.holder in
    let b = c.args.returned.bound in
    let s = group_stands (running_binds e) h c.requires in
    record {
      shapes_stay = c.replace.ensures.shapes s.0 s.1
          (λ q. groups_are_shaped_alike e h b s.0 q c.requires c.args.returned.grouped s.1);
      waiting_stays = c.replace.ensures.stays.waiting_stays;
      result_stays = refl;
      out_stays = refl;
    }

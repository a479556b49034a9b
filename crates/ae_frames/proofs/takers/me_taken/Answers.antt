use Rattle.std.proofs.Common.{ap, refl}
use Rattle.ae_tree.specs.Shown.{definition}
use Rattle.ae_rules.specs.Forms.{in_place}
use Rattle.ae_judge.specs.Tabled.{code_of}
use Rattle.ae_calls.specs.Param.{new_in, object_slot_of}
use Rattle.ae_frames.proofs.TakerLemmas.{me_is_taken}
use Rattle.ae_frames.proofs.takers.me_taken.Goals as goal

pub returns-in-Ok-push : goal.returns-in-Ok-push
returns-in-Ok-push c = me_is_taken (code_of c.args.tabled.now) (definition c.args.method.now) c.in-Some.me
    (new_in c.args.own.now) (object_slot_of c.in-Ok.slot) c.push.new.self.items c.new-takers.result.items _
    c.in-Some.is (ap (λ ns. in_place ns c.args.own.now.groups) c.requires.0) c.in-Ok.ensures
    c.in-Ok-push.ensures.items c.new-takers.ensures.items refl

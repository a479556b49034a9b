use Rattle.ae_bodies.proofs.PassedLemmas.{hands_on_so}
use Rattle.ae_bodies.proofs.blocks.hand_on.Goals as goal

pub returns : goal.returns
returns c = hands_on_so c.args.used c.compact.new.self c.args.inside.now c.adds_all.new.self c.in_ok-footprint.field-0
    c.args.uses.now.items c.push.new.self.items c.compact.ensures.same c.in_ok-footprint.ensures c.in_ok-push.ensures.items
    c.in_ok-adds_all.ensures

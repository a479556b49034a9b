use Rattle.std.proofs.Common.{arith, ap, ◌∙◌}
use Rattle.std.proofs.lemmas.Int.{ints}
use Rattle.ae_meaning.specs.Values.{today_with}
use Rattle.ae_meaning.proofs.Names.{put}
use Rattle.ae_meaning.proofs.locals.Locals.put.Goals as goal

pub returns : goal.returns
returns c =
    put c.make_room.new.self.values.items c.args.name _ c.args.value c.in_ok-make_room.ensures.within
    (omega (arith, ints))
    ∙ ap (today_with c.args.name c.args.value) c.in_ok-make_room.ensures.same

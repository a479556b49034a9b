use Rattle.std.proofs.Common.{◌<◌, ◌^◌, length, arith}
use Rattle.indexmap.specs.IndexMap.{keys}
use Rattle.ae_classes.proofs.MapLemmas.{names_leave_room}
use Rattle.ae_classes.proofs.members.field_number.Goals as goal

pub overflow_cast-result : goal.overflow_cast-result
overflow_cast-result c =
    let few : length (keys c.args.members.now) < 2 ^ 32 = names_leave_room c.args.members.now c.args.name
    c.requires.unique
    c.requires.small c.ranges.name.fits c.requires.new in
    omega (arith, few, c.requires.count)

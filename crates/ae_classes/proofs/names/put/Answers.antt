use Rattle.ae_classes.proofs.MapLemmas.{put_name_is_one_more, one_more_is_small}
use Rattle.ae_classes.specs.Named.{HasOneMore}
use Rattle.ae_classes.proofs.names.put.Goals as goal

pub returns : goal.returns
returns g c =
    let more : HasOneMore c.args.name c.args.value c.args.names.now c.insert.new.self =
    put_name_is_one_more c.args.names.now c.insert.new.self c.args.name c.args.value
    c.in_ok-insert.ensures.updates c.requires c.in_ok-insert.ensures.entries c.in_ok-insert.ensures.unique in
    record {
      put = more;
      small = λ before. one_more_is_small c.args.names.now c.insert.new.self c.args.name c.args.value more before
          c.ranges.name.fits;
    }

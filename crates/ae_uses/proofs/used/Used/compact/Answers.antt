use Rattle.ae_uses.proofs.FootprintLemmas.{same_names_same_uses}
use Rattle.ae_uses.proofs.used.Used.compact.Goals as goal

pub returns : goal.returns
returns c = record {
  same = same_names_same_uses c.args.self.now (record {
    read = c.each_once.new.names;
    written = c.each_once-2.new.names;
    together = c.each_once-3.new.names;
    whole = c.each_once-4.new.names;
  }) c.each_once.ensures.same c.each_once-2.ensures.same c.each_once-3.ensures.same c.each_once-4.ensures.same;
  once = record {
    read = c.each_once.ensures.in_order;
    written = c.each_once-2.ensures.in_order;
    together = c.each_once-3.ensures.in_order;
    whole = c.each_once-4.ensures.in_order;
  };
}

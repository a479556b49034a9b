use Rattle.std.proofs.Common.{◌≡◌, ap, sym, ◌∙◌, true, rules}
use Rattle.ae_semantics.specs.Values.{is_low, put_at}
use Rattle.ae_semantics.specs.Places.{Fine}
use Rattle.ae_values.specs.Shown.{shown}
use Rattle.ae_reads.specs.Views.{base_of}
use Rattle.ae_running.specs.Seen.{seen}
use Rattle.ae_stores.specs.Stand.{whole_at}
use Rattle.ae_stores.proofs.ChangeLemmas.{some_is}
use Rattle.ae_stores.proofs.WriteLemmas.{write_goes_through}
use Rattle.ae_stores.proofs.places.put.Goals as goal

pub returns-clause-changes : goal.returns-clause-changes
returns-clause-changes c =
    let s = seen c.args.run.now in
    let b = base_of c.args.base in
    let fields = c.args.fields.now in
    let new = shown c.args.new in
    let w = some_is (whole_at s b) c.requires.there in
    let passed : c.stays_low.result ≡ true = search rules in
    let low : is_low (put_at fields new w.0) ≡ true =
    sym (c.stays_low.ensures w.0 w.1 new (sym c.height.ensures)) ∙ passed in
    let t = write_goes_through s b fields new w.0 c.requires.object w.1 low in
    t.1 ∙ ap Fine (sym (c.write.ensures.meant t.0 t.1))

use Rattle.std.proofs.Common.{◌≡◌, ap, sym, ◌∙◌, true, rules, refl, w64, to_z, of_z}
use Rattle.std.specs.Prelude.{slice_set}
use Rattle.ae_semantics.specs.Values.{is_low, put_at, Owned, Array}
use Rattle.ae_semantics.specs.Places.{Fine, there, ◌>>=◌, write_in}
use Rattle.ae_values.specs.Inside.{array_inside}
use Rattle.ae_reads.specs.Views.{base_of}
use Rattle.ae_running.specs.Seen.{seen}
use Rattle.ae_stores.specs.Stand.{whole_at, array_at, item_written}
use Rattle.ae_stores.proofs.ChangeLemmas.{some_is}
use Rattle.ae_stores.proofs.OutcomeLemmas.{given_first}
use Rattle.ae_stores.proofs.WriteLemmas.{write_goes_through, tree_keeps_object}
use Rattle.ae_stores.proofs.places.put_item.Goals as goal

pub returns-clause-changes : goal.returns-clause-changes
returns-clause-changes c =
    let s = seen c.args.run.now in
    let b = base_of c.args.base in
    let fields = c.args.fields.now in
    let ns = some_is (array_at s b fields) c.requires.there in
    let w = given_first (whole_at s b) (array_inside fields) ns.0 ns.1 in
    let new = Owned (Array (slice_set ns.0 c.args.at c.args.n)) in
    let passed : c.stays_low.result ≡ true = search rules in
    let low : is_low (put_at fields new w.0) ≡ true = sym (c.stays_low.ensures w.0 w.1 new refl) ∙ passed in
    let t = write_goes_through s b fields new w.0 (tree_keeps_object fields (Array (slice_set ns.0 c.args.at c.args.n)))
    w.1 low in
    let same : to_z w64 (of_z w64 c.args.n) ≡ c.args.n = search rules in
    let is : item_written s b fields c.args.at c.args.n ≡ Fine t.0 =
    ap (λ o. there o >>= λ ms. write_in s b fields (Owned (Array (slice_set ms c.args.at c.args.n)))) ns.1 ∙ t.1 in
    is ∙ ap Fine (sym (c.set_item.ensures.meant t.0
    (ap (item_written s b fields c.args.at) same ∙ is)))

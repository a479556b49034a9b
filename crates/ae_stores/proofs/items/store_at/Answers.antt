use Rattle.std.proofs.Common.{◌≡◌, ap, sym, ◌∙◌, rules, w64, to_z, of_z}
use Rattle.std.specs.Prelude.{is_some}
use Rattle.ae_tree.specs.Shown.{expression}
use Rattle.ae_semantics.specs.Meaning.{stored_at}
use Rattle.ae_semantics.specs.Places.{Outcome, ◌>>=◌}
use Rattle.ae_judge.specs.Tabled.{code_of}
use Rattle.ae_reads.specs.Views.{base_of}
use Rattle.ae_running.specs.Seen.{seen}
use Rattle.ae_stores.specs.Parts.{item_found}
use Rattle.ae_stores.specs.Stand.{array_at, item_written}
use Rattle.ae_stores.specs.Targets.{ItemAt, item_aimed}
use Rattle.ae_stores.proofs.ChangeLemmas.{changes_equal}
use Rattle.ae_stores.proofs.ItemLemmas.{stored_at_item, array_is_there}
use Rattle.ae_stores.proofs.items.store_at.Goals as goal

pub put_item-requires : goal.put_item-requires
put_item-requires c =
    let p = code_of c.args.tabled.now in
    let s = seen c.args.run.now in
    let x = item_found c.find_item.new.fields.items c.in-Ok-find_item.found in
    record {
      there = ap (λ is. is_some (array_at s (base_of c.in-Ok-find_item.found.base) is)) c.as_slice.ensures.value
          ∙ array_is_there p s c.args.path.now _ x c.in-Ok-find_item.ensures;
    }

pub returns-clause-changes : goal.returns-clause-changes
returns-clause-changes c =
    let p = code_of c.args.tabled.now in
    let s = seen c.args.run.now in
    let found = c.in-Ok-find_item.found in
    let b = base_of found.base in
    let v = c.in-Ok-int_of.value in
    let index : to_z w64 (of_z w64 c.in-Ok.n) ≡ c.in-Ok.n = search rules in
    let value : to_z w64 (of_z w64 v) ≡ v = search rules in
    changes_equal (stored_at p c.args.path.now (expression c.args.index.now) (expression c.args.expr.now) s)
    (item_written s b c.as_slice.result.now found.number (to_z w64 (of_z w64 v))) c.args.run.now c.put_item.new.run
    c.put_item.result
    (stored_at_item p s c.args.path.now (expression c.args.index.now) (expression c.args.expr.now) c.in-Ok.n v
    c.in-Ok.ensures c.in-Ok-int_of.ensures
    ∙ ap (λ m. item_aimed p s c.args.path.now m >>= λ x. item_written s x.at.base x.at.fields x.number v) (sym index)
    ∙ ap (λ (o : Outcome ItemAt). o >>= λ x. item_written s x.at.base x.at.fields x.number v)
    c.in-Ok-find_item.ensures
    ∙ ap (λ is. item_written s b is found.number v) (sym c.as_slice.ensures.value)
    ∙ ap (λ m. item_written s b c.as_slice.result.now found.number m) (sym value))
    c.put_item.ensures.changes

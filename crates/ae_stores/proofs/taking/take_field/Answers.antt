use Rattle.std.proofs.Common.{◌≡◌, refl, ap, sym, ◌∙◌, false}
use Rattle.std.specs.Prelude.{is_some}
use Rattle.ae_rules.specs.Lookups.{is_empty}
use Rattle.ae_semantics.specs.Places.{Address, InLocal, ◌>>=◌}
use Rattle.ae_semantics.specs.Meaning as spec
use Rattle.ae_judge.specs.Tabled.{code_of}
use Rattle.ae_reads.specs.Views.{base_of}
use Rattle.ae_running.specs.Seen.{seen}
use Rattle.ae_stores.specs.Parts.{address_from}
use Rattle.ae_stores.specs.Stand.{value_standing, taken_at}
use Rattle.ae_stores.specs.Targets.{place_aimed}
use Rattle.ae_stores.proofs.from_reads.WalkLemmas.{faults_go_on, faults_equal}
use Rattle.ae_stores.proofs.ChangeLemmas.{takes_equal}
use Rattle.ae_stores.proofs.TakeLemmas.{taken_in_place, last_is_there, standing_is_there}
use Rattle.ae_stores.proofs.taking.take_field.Goals as goal

pub returns-in-Err-clause-takes : goal.returns-in-Err-clause-takes
returns-in-Err-clause-takes c =
    let p = code_of c.args.tabled.now in
    let s = seen c.args.run.now in
    let path = c.args.path.now in
    let has : is_empty path.steps ≡ false = sym c.is_name.ensures ∙ c.if-is_name.false in
    let l = last_is_there path.steps has in (
      faults_equal (spec.take_field p s path) (place_aimed p s path >>= λ (a : Address). taken_at s a.base a.fields)
          c.in-Err.stop (taken_in_place p s path l.0 l.1)
          (faults_go_on (place_aimed p s path) (λ (a : Address). taken_at s a.base a.fields) c.in-Err.stop
          c.in-Err.ensures),
      refl,
    )

pub take_local-requires : goal.take_local-requires
take_local-requires c =
    let s = seen c.args.run.now in
    let items = c.find_place.new.fields.items in
    ap (λ is. is_some (value_standing s (InLocal c.in-Local.name) is)) c.as_slice.ensures.value
    ∙ ap (λ b. is_some (value_standing s (base_of b) items)) (sym c.in-Local.is)
    ∙ standing_is_there (code_of c.args.tabled.now) s c.args.path.now (address_from items c.in-Ok.base) c.in-Ok.ensures

pub returns-in-Local-clause-takes : goal.returns-in-Local-clause-takes
returns-in-Local-clause-takes c =
    let p = code_of c.args.tabled.now in
    let s = seen c.args.run.now in
    let path = c.args.path.now in
    let items = c.find_place.new.fields.items in
    let has : is_empty path.steps ≡ false = sym c.is_name.ensures ∙ c.if-is_name.false in
    let l = last_is_there path.steps has in
    takes_equal (spec.take_field p s path) (taken_at s (InLocal c.in-Local.name) c.as_slice.result.now) c.args.run.now
    c.take_local.new.run c.take_local.result
    (taken_in_place p s path l.0 l.1
    ∙ ap (λ o. o >>= λ (a : Address). taken_at s a.base a.fields) c.in-Ok.ensures
    ∙ ap (λ b. taken_at s (base_of b) items) c.in-Local.is
    ∙ ap (taken_at s (InLocal c.in-Local.name)) (sym c.as_slice.ensures.value))
    c.take_local.ensures.takes

use Rattle.std.proofs.Common.{◌≡◌, sym, ◌∙◌, [], ◌∷◌, ◌++◌}
use Rattle.ae_semantics.specs.Places.{reach, ◌>>=◌}
use Rattle.ae_judge.specs.Tabled.{code_of}
use Rattle.ae_running.specs.Seen.{seen}
use Rattle.ae_stores.specs.Parts.{slot_at, object_at}
use Rattle.ae_stores.specs.Targets.{field_aimed, aimed_in, path_along}
use Rattle.ae_stores.proofs.from_reads.OpenLemmas.{answers_equal}
use Rattle.ae_stores.proofs.from_reads.WalkLemmas.{faults_go_on, faults_equal}
use Rattle.ae_stores.proofs.SlotLemmas.{field_by_owner}
use Rattle.std.proofs.Common.{ap}
use Rattle.ae_stores.proofs.slots.find_field.Goals as goal

pub returns-in-Err : goal.returns-in-Err
returns-in-Err c =
    let p = code_of c.args.tabled.now in
    let s = seen c.args.run.now in
    let path = c.args.path.now in
    let l = c.in-Some.last.now in
    let xs = c.in-Some.steps.now in
    let is : path.steps ≡ xs ++ l ∷ [] = sym c.as_slice.ensures ∙ c.in-Some.ensures.cases.0 in
    let o = reach p s (path_along path.root xs) in
    faults_equal (field_aimed p s path) (o >>= λ x. aimed_in p x l) c.in-Err.stop (field_by_owner p s path l xs is)
    (faults_go_on o (λ x. aimed_in p x l) c.in-Err.stop c.in-Err.ensures)

pub returns-in-Ok : goal.returns-in-Ok
returns-in-Ok c =
    let p = code_of c.args.tabled.now in
    let s = seen c.args.run.now in
    let path = c.args.path.now in
    let l = c.in-Some.last.now in
    let xs = c.in-Some.steps.now in
    let is : path.steps ≡ xs ++ l ∷ [] = sym c.as_slice.ensures ∙ c.in-Some.ensures.cases.0 in
    answers_equal (field_aimed p s path) (aimed_in p (object_at c.reach_along.new.fields.items c.in-Ok.found) l)
    (slot_at c.field_of.new.fields.items) c.field_of.result
    (field_by_owner p s path l xs is ∙ ap (λ o. o >>= λ x. aimed_in p x l) c.in-Ok.ensures) c.field_of.ensures
